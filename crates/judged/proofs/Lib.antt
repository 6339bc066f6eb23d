pub mod NewLaws
pub mod ActLaws
