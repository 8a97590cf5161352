pub mod Pairs
pub mod Slots
pub mod Near
pub mod SameTold
