pub mod TextSteps
pub mod Peeking
