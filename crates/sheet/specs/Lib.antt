pub mod Answers
pub mod Commit
pub mod Loading
pub mod Repeats
