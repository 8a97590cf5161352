pub mod Network
pub mod NetworkView
pub mod Turned
