pub mod Cells
pub mod Hours
pub mod Theorems
