pub mod OnPaper
