pub mod Laws
pub mod Logs
pub mod Made
