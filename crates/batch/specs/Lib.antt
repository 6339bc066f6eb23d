pub mod Batch
pub mod Words
pub mod Kept
pub mod Fold
