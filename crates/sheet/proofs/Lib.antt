pub mod StoredLines
pub mod LinesSofar
pub mod LinesLeft
pub mod WholeSheet
pub mod Marks
pub mod Committed
pub mod ReadCall
