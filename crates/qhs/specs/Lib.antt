pub mod Qhs
pub mod Inner
pub mod Laws
pub mod Parts
