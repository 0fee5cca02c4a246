pub mod Entries
pub mod Given
