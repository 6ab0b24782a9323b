-- modules, resolved one after another
pub mod Resolved
-- the flags of an entry
pub mod Flags
-- modules with proper names
pub mod Modules
-- what a module has in which nothing is lacking
pub mod Laws
-- what a module means and compiles to is determined
pub mod Once
-- a build has one outcome
pub mod BuildOnce
-- builds of good modules
pub mod Builds
