-- which nodes of a type fit
pub mod Nodes
-- what waits while a type is written
pub mod Waiting
-- a type that is written, node by node
pub mod ByNodes
-- stacks that are cut
pub mod Stacks
-- nodes that are written in turn
pub mod Loops
-- how many nodes a type has
pub mod Lengths
-- types of functions, by their nodes
pub mod Spines
-- variables of kinds
pub mod Choosing
-- types with others in the place of their variables
pub mod Substituted
-- the type of an instance
pub mod Instancing
-- the parts of types of functions
pub mod Parting
-- constructors
pub mod Shaping
-- uses of names
pub mod Using
-- the type of an annotation over numbers
pub mod Typing
-- kinds that are asked of variables
pub mod Kinding
-- the variables of an annotation by their numbers
pub mod Numbering
-- the type of an annotation over constants
pub mod Constants
-- the annotation's own variables
pub mod Owning
-- annotations inside no others
pub mod Topmost
-- where the table places each name
pub mod Placing
-- the type with the annotation's own variables first
pub mod Standing
