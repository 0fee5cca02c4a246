pub mod Lines
pub mod Fast
pub mod Numbers
