-- what declarations use
pub mod Used
-- functions that no text can say, in front
pub mod Moved
-- imports that show no more than a module
mod Within
-- modules after modules
pub mod First
-- declarations where all modules are in scope
pub mod Second
-- what a link takes
pub mod Taken
-- the flags of an entry
pub mod Flags
-- parts of lists
pub mod Sublists
-- declarations that are left
pub mod Left
-- what is reached has what it uses
pub mod Closed
-- ports, each once
pub mod Ports
-- the program
pub mod Whole
-- what modules define
pub mod Defined
-- the values that modules offer
pub mod Offered
-- modules that lack nothing
pub mod OperatorLawsWhole
-- what a text guarantees of its declarations
pub mod Read
-- declarations make one module
pub mod Modules
-- what is told of a title
pub mod Titles
-- what a module offers by what is told
pub mod MadeOnceOffered
-- faults in order
pub mod Faulty
-- the phases, one after another
pub mod Phases
-- the core library
pub mod Core
-- the values of modules
pub mod Values
-- the text of an output
pub mod Texts
-- the steps of a build
pub mod Steps
-- names of modules
mod Named
-- what interfaces show
mod Shows
-- a module more
pub mod Next
-- all modules
pub mod Chain
