-- modules in turn
pub mod Chain
-- commands and subscriptions, laid flat
pub mod Flat
-- runs
pub mod Runs
-- a program worked out
pub mod Example
-- what inference tells
pub mod Told
-- the functions of the fixed JavaScript text
pub mod Primitives
-- what is mentioned
pub mod Joined
-- ports
pub mod Ports
-- signs that are the same
pub mod Same
-- signs that have nothing of a port
pub mod Free
-- trees that are told by their signs
pub mod Reading
-- the two mappings
pub mod Mapping
-- modules
pub mod Leaving
