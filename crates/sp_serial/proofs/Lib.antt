pub mod Lowered
pub mod Started
pub mod Touching
pub mod PartRows
pub mod RootedRows
