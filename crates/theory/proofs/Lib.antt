-- what falls with a definition: the check's answers, every call keeps the whole, and the consequences
pub mod ReadAnswers
pub mod Check
pub mod ByStage
pub mod Whole
pub mod AtRest
pub mod Sieve
pub mod Consequences
-- beyond one array: a part of the cells, operations one after another
pub mod Part
pub mod Sequence
-- for the proofs of the crates above
pub mod Interface
