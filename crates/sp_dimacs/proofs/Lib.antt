pub mod Limits
pub mod LineSteps
pub mod Given
