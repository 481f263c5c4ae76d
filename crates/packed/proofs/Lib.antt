mod Chosen
mod Filled
mod Steps
mod Walks
pub mod Lengths
pub mod PastTheEnd
