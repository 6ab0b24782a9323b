-- what a module without faults in its names compiles to
mod After
-- imports beside what their modules show, one import after the other
pub mod Listing
-- what the names of a module are resolved against
pub mod Resolving
-- what a module is compiled in, with one interface more
pub mod Surroundings
-- which faults of a module stand, by phases
pub mod Verdicts
-- what holds of a value that is made by steps
mod Outcome
-- interfaces by their places
pub mod Offering
