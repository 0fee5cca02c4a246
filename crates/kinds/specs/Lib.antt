pub mod Sets
pub mod Masks
pub mod Ends
