pub mod Masks
pub mod Stepping
pub mod Effects
pub mod Accounts
pub mod Alike
pub mod Rows
