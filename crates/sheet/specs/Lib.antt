pub mod Records
pub mod Order
pub mod Strikes
pub mod Listing
pub mod Keys
pub mod Lines
pub mod Digits
