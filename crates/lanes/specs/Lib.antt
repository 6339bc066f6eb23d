pub mod Ranges
pub mod Laws
pub mod Scan
