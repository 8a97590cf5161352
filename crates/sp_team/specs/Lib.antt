pub mod Law
pub mod Later
pub mod Live
pub mod Marked
pub mod Requests
