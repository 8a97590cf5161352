pub mod Words
pub mod Reads
pub mod Orders
pub mod Told
