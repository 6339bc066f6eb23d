pub mod Memory
pub mod Steps
pub mod Changes
pub mod ChangeLaws
pub mod Touched
pub mod Inner
