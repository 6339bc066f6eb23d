pub mod TouchLaws
