pub mod Little
pub mod Signed
pub mod Sized
pub mod RowCell
pub mod Opened
pub mod Checks
pub mod Bytes
pub mod Channels
