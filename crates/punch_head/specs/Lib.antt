pub mod Registers
pub mod Steps
pub mod Histories
pub mod Alike
