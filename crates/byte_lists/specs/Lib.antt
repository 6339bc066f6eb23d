pub mod Bytes
pub mod Decimals
pub mod Places
pub mod Lines
