pub mod Periods
pub mod Octaves
pub mod Frequency
pub mod Slides
pub mod Limits
pub mod Offset
pub mod Finetune
