pub mod TrackedWords
pub mod Part
pub mod Rooted
pub mod Live
pub mod Lowers
