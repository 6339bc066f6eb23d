-- the statements
pub mod Printed
-- a line tells its refusal
pub mod Lines
