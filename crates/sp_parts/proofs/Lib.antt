pub mod Lists
pub mod TextParts
pub mod Standing
pub mod OneProof
pub mod Holding
