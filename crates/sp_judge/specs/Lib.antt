pub mod Shown
pub mod Marked
pub mod Passing
pub mod Lowering
pub mod Answer
pub mod Several
pub mod Asked
