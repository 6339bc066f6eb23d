pub mod Play
pub mod Fold
pub mod Inner
