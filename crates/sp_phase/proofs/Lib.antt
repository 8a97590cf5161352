pub mod TaskMarks
pub mod StageTasks
pub mod KnownWords
pub mod FoundEntries
pub mod LeaderHolds
pub mod CopiedWords
pub mod SettledBuckets
pub mod MadeTasks
