pub mod Devices
pub mod Failing
pub mod Printing
pub mod Peeked
