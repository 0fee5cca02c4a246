pub mod Freed
pub mod FirstFit
pub mod CopyKeys
pub mod Collecting
pub mod Placing
