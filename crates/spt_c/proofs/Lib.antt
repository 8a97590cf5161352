mod SlotValue
mod Same
mod OneSource
pub mod Pairs
mod Alone
