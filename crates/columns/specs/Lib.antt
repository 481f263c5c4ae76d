pub mod Columns
pub mod Answers
pub mod Trips
pub mod Places
