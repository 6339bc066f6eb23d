pub mod Summary
pub mod Inner
pub mod Claims
pub mod Outcomes
