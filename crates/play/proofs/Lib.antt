pub mod ListLaws
pub mod LineLaws
pub mod RunLaws
pub mod FileLaws
pub mod EndLaws
pub mod Fills
pub mod Opens
pub mod Listing
