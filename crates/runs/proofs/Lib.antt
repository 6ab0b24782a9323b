-- when something is claimed of a run
pub mod Traces
-- the comparison of runs
pub mod Equivalence
-- two machines whose steps follow each other have the same runs, at all inputs
pub mod SameRuns
-- stretches of metered runs, and how a metered run follows a nested one
pub mod Spends
