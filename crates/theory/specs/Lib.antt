-- the statements: the array, one order
pub mod Base
pub mod Array
pub mod Order
-- the machine and its run
pub mod Shape
pub mod Segments
pub mod Machine
pub mod Words
pub mod Run
pub mod OneOrder
pub mod Standing
-- the invariant
pub mod OrderLaws
pub mod RealTime
pub mod World
pub mod Claims
pub mod Inv
pub mod Plan
pub mod Log
pub mod ClaimsKept
pub mod Frame
pub mod Calm
pub mod Steps
-- the steps of any array: check, drawing, tombstone, mark, take-back, swap
pub mod Check
pub mod Mark
pub mod Swap
-- the steps of write-then-mark: store first, all stored writes enter the order at the won swap
pub mod Store
pub mod Sweep
pub mod WriteSwap
pub mod Rest
pub mod Begin
-- the account
pub mod Sum
pub mod Account
pub mod AccountSteps
pub mod Count
pub mod Tallies
-- the layout in the pool
pub mod Layout
pub mod LayoutAside
pub mod LayoutSteps
pub mod LayoutStages
pub mod Top
pub mod Ranges
-- the step counts
pub mod Ticks
pub mod Timely
-- what a call touches
pub mod Touch
-- for the crates above
pub mod Interface
-- starred examples of the scope
pub mod Trial
