pub mod PlannersText
pub mod Inner
pub mod Rfc4180
pub mod Sheet
pub mod Claims
pub mod Outcomes
