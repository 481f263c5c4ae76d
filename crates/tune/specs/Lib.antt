pub mod Numbers
pub mod Sizes
pub mod Cells
pub mod Samples
pub mod Transposition
pub mod Opening
pub mod Rules
