pub mod Writer
pub mod Inner
pub mod Sizes
pub mod Again
pub mod Claims
pub mod Outcomes
pub mod Samples
