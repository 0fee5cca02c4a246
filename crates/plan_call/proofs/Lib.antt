pub mod Call
pub mod Printing
pub mod SheetPlan
pub mod CopyRows
