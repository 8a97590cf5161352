pub mod Word
pub mod Ranges
pub mod Reply
pub mod History
pub mod Offering
