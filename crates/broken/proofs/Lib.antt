pub mod Lost
pub mod Spent
pub mod Tight
pub mod Shams
pub mod Waiting
pub mod Undecided
