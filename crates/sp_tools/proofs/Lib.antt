pub mod Opening
pub mod Judging
pub mod VerdictTexts
pub mod SameVerdicts
pub mod Texts
pub mod Limits
