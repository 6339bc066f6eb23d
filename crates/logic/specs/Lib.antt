pub mod Determined
pub mod Pick
pub mod Truth
pub mod Below
pub mod BelowLaws
