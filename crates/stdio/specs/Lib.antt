pub mod System
pub mod Answers
pub mod Input
pub mod Output
