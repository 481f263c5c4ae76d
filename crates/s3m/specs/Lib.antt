pub mod Layout
pub mod Instruments
pub mod Patterns
pub mod Opening
pub mod Refusals
pub mod Answers
