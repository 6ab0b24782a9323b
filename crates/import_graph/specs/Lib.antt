pub mod Examples
pub mod Order
pub mod Rings
pub mod View
-- the values of modules, each made of those of its imports
pub mod Fold
-- three modules, worked out
pub mod ModuleFoldExamples
pub mod Entries
pub mod Places
pub mod Entry
pub mod Modules
pub mod Plain
pub mod ModuleWalkView
pub mod Walk
pub mod Words
pub mod ModuleGraphExamples
pub mod Faults
pub mod Graph
pub mod Laws
pub mod ModuleGraphView
pub mod Heads
