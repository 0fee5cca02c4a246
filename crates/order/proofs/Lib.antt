pub mod Behind
pub mod Counts
pub mod Given
pub mod Releasing
pub mod Running
