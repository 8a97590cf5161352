pub mod Checker
pub mod ForestRows
pub mod Exact
pub mod FirstSteps
pub mod RowSteps
pub mod VertexSteps
pub mod Verdict
pub mod TreeSteps
