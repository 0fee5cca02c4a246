pub mod Given
pub mod Marks
pub mod Flags
