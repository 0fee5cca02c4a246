pub mod DecimalDigits
pub mod Writing
pub mod Lines
