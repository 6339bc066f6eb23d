-- the shadow's laws
pub mod ShadowLaws
pub mod Good
pub mod Opens
-- a step is the theory's step
pub mod Goes
pub mod Looks
pub mod Writes
-- calls keep what is good
pub mod Keep
pub mod KeepStep
pub mod Views
pub mod Runs
pub mod Grows
-- the theorems
pub mod Proved
pub mod Theorems
