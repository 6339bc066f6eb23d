-- demand 1
pub mod Refused
-- the theory's run behind a state, its memories and its book
pub mod Shadow
-- what grows along a run, and what does not vanish
pub mod Along
pub mod Vanish
