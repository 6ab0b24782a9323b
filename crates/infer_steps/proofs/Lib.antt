-- what a step of the store is for a state
pub mod Stepping
-- fields that are asked to be absent, and what no types meet
pub mod Lacking
-- the fields of a row in order
pub mod Gathering
-- frozen types where others have the same types
pub mod Copying
-- constants keep to their depth
pub mod Shallow
-- what stays of a scope in later states
pub mod Staying
-- names that come into scope
pub mod Entering
-- the code's scope as names come and go
pub mod Scoping
-- what is of a type alone, and numbers
pub mod Leaves
-- functions that read a field
pub mod Reading
-- types that are made in several steps
pub mod Making
-- regions below a place
pub mod Inside
-- steps in turn that make what was begun
pub mod Steps
-- items and types as the plan of an operation has them
pub mod Plans
-- operations whose parts are walked one after the other
pub mod Beginning
-- fields of records
pub mod InferOpsReading
-- functions, `&&` and `||`
pub mod Calling
