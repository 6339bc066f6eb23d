pub mod SizeLaws
pub mod LaidLaws
pub mod WriteLaws
pub mod ReadBack
pub mod Samples
