pub mod Parts
pub mod Groups
pub mod Held
pub mod Stands
