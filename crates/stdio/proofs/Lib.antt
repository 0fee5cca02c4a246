pub mod Fronts
pub mod Streams
