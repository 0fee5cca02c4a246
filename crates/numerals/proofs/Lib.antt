pub mod Numbers
pub mod Leading
pub mod PackedBytes
pub mod WordNumbers
pub mod Ended
