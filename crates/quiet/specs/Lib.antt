pub mod Quiet
pub mod Looked
