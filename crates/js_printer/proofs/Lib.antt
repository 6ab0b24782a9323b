-- turns of the loop over the tasks
pub mod Turns
-- how the task of each node comes apart
pub mod Parts
-- nodes that are not of a kind
pub mod Others
-- what a step leaves, from how a task comes apart
pub mod Splits
-- the texts of units and of ports, one on
pub mod Texts
