mod Blocks
pub mod Forests
mod Rows
mod RouteLists
mod Layouts
mod RowCells
