pub mod LaidLaws
pub mod WriteLaws
pub mod ReadWritten
pub mod WrittenRead
