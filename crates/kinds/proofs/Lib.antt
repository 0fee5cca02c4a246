pub mod Sets
pub mod PreferredKind
