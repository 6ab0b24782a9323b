-- one definition more around
pub mod Deeper
-- names with variables come into scope
pub mod Naming
-- members of a group in turn
pub mod Members
-- a group is done
pub mod Closing
-- definitions in turn
pub mod Turning
-- a let
pub mod Lets
-- one name more
pub mod Entering
-- a group that is one pattern with its value
pub mod Patterns
-- constants come into scope
pub mod Opening
-- a store whose constants were let go
pub mod Following
-- the definition is done
pub mod InferAnnotatedClosing
-- its body
pub mod Walking
-- its constants are made
pub mod Built
-- no constant is of a place below
pub mod Clearing
-- its end
pub mod Ending
-- the variables of an annotation are different ones
pub mod Apart
