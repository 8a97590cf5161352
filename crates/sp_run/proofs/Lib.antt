pub mod LawfulWalks
pub mod RunFromAny
pub mod Marks
