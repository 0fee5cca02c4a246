pub mod Given
pub mod Says
