pub mod Writing
pub mod LineText
