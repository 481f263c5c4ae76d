pub mod Marked
pub mod Card
pub mod Strikes
pub mod Closed
pub mod Head
pub mod Transposed
pub mod Columns
pub mod Levels
