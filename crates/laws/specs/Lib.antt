pub mod Choice
pub mod Refusals
pub mod Entries
pub mod Masks
