pub mod LineLaws
pub mod PutLaws
pub mod MadeLaws
pub mod Digits
