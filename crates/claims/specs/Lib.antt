pub mod Words
pub mod Claims
pub mod Harmless
pub mod OneSight
pub mod NewNumbers
