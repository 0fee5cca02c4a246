pub mod Adjacency
pub mod Linked
pub mod Side
