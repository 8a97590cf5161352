pub mod Words
pub mod Told
pub mod Commands
pub mod Answers
pub mod PairsAnswers
