pub mod Plans
pub mod LinesPrinted
pub mod TableRows
