mod Fours
pub mod Accepted
pub mod Opens
pub mod Parts
pub mod Samples
pub mod Cells
