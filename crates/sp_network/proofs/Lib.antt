pub mod DirectedArcs
pub mod LineForm
pub mod WordForm
pub mod FailedFirst
pub mod TurnedArcs
pub mod TurnedWalks
