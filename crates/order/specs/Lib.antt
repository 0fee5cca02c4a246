pub mod Given
pub mod Pending
pub mod Ready
