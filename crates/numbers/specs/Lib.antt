pub mod Numbers
pub mod Cells
pub mod CellLaws
