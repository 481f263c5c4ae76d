pub mod Closed
pub mod Answers
pub mod Ends
pub mod Working
