pub mod Times
pub mod Along
pub mod Marking
pub mod Walks
pub mod Flags
pub mod BackTable
