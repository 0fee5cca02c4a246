pub mod Adjacency
pub mod Stores
