-- what each form of a tree is, given the tokens, by what its parts are
pub mod Views
-- the turns of a chain, by a stack of operators
pub mod Turning
-- chains are grouped in one way
pub mod Grouping
-- which operator may stand below which, as facts on levels and sides
pub mod Levels
