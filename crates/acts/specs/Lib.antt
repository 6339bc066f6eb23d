pub mod Calls
pub mod Inner
pub mod Settled
pub mod Worlds
pub mod WorldLaws
pub mod Lent
