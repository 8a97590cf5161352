pub mod TextsToPairs
pub mod SlotSteps
pub mod PairLines
pub mod SamePairs
pub mod NearPairs
pub mod TurnedPairs
