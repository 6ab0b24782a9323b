-- places below a place
pub mod Spots
-- children that are walked in turn
pub mod Parts
-- walks in turn
pub mod Chains
-- the names that patterns bind
pub mod Naming
-- patterns
pub mod Matching
-- what asks for no sizes
pub mod Sizes
-- steps in turn
pub mod Running
-- expressions
pub mod Walking
-- what stops in a part stops the whole
pub mod Stops
-- where patterns stop
pub mod Missing
pub mod ToldReadingParts
pub mod Inserting
pub mod Renamed
pub mod Values
pub mod Reached
pub mod Formed
pub mod Orders
pub mod Telling
pub mod Refits
pub mod Moments
pub mod Passing
pub mod Failing
pub mod Entering
pub mod Keeping
pub mod Escaping
pub mod Fixing
pub mod Defining
pub mod Pairing
pub mod Explaining
pub mod Lasting
pub mod Ending
-- groups of definitions
pub mod Grouping
-- definitions with annotations
pub mod Closing
pub mod Finding
pub mod Turning
-- where expressions stop
pub mod Stopping
-- where operations stop
pub mod Operating
