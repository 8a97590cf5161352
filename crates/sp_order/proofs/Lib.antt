pub mod Telling
pub mod Answering
pub mod Apart
pub mod Reading
pub mod Begun
