pub mod Lines
pub mod FastNumbers
pub mod FieldNumbers
