-- what is read is what was written, and what was written is read
pub mod Laws
-- a number is read as it was written
pub mod Numbers
-- the formats of all that an interface has are lawful
pub mod Written
-- the types of declarations that steps make are those whose steps they are
pub mod Building
-- which nodes are those of a type
pub mod Shaping
-- loops that write and read lists
pub mod Loops
-- the steps of a type of the program, by its parts
pub mod Flattening
-- a stack that holds what was read
pub mod Stacks
-- values, unions and aliases in the order of their names
pub mod Arranging
-- interfaces and their texts
pub mod Whole
-- steps in front of types that were read
pub mod Onto
-- types of declarations are read by the types of their steps
pub mod Typed
