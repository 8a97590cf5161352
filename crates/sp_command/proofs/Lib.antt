pub mod LineSteps
pub mod Displays
pub mod Building
