-- what a start reaches by uses
pub mod Reached
-- the link of fragments
pub mod Link
-- the program of modules
pub mod Programs
-- as the program keeps it
pub mod View
-- small links, worked out
pub mod Examples
-- maps of names and ports
pub mod Kept
-- functions of core modules that no text can say
pub mod Cores
-- names of modules
pub mod Names
-- what a link needs to know of a module
pub mod Fragments
-- of what it is made
pub mod Made
-- as the program keeps it
pub mod FragmentsView
-- where ports are declared
pub mod Found
-- ports by their names
pub mod Named
