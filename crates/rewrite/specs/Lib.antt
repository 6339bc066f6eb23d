pub mod Again
pub mod Inner
