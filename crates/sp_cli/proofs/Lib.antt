pub mod Opening
pub mod Near
pub mod Jobs
pub mod PairJob
pub mod Told
pub mod Simple
