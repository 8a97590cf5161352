pub mod Claims
pub mod Rules
pub mod Faults
pub mod ForestRows
pub mod Certificate
