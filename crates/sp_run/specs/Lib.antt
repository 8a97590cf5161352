pub mod Walks
pub mod Sources
pub mod RunFromAny
