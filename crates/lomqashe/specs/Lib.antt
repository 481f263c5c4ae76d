pub mod Bytes
pub mod Openings
pub mod Channels
pub mod States
pub mod Typed
pub mod Answers
