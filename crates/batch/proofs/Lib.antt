pub mod WordLaws
pub mod BatchLaws
