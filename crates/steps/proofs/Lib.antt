pub mod LookLaws
pub mod StoreLaws
pub mod OneWord
