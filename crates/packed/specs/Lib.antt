pub mod Entry
pub mod Unpacking
pub mod Reading
