pub mod Later
pub mod Marks
pub mod Rows
