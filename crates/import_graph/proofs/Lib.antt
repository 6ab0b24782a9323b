-- orders and rings of small graphs
pub mod Worked
-- members of groups and of uses are modules
pub mod Within
-- the ring with the least first module, among one more group
pub mod Least
-- where no group is a ring, the order of groups is that of the modules
pub mod Orders
-- one order or one ring, and never both
pub mod OneOrder
-- values of modules, one after another
pub mod Values
-- the files of a module, directory by directory
pub mod Finding
-- the name of an entry, directory by directory
pub mod Naming
-- names that are texts
pub mod Texts
-- at the end of the walk all modules that the entry reaches were met
pub mod Reaching
-- the imports of one module are met, one after the other
pub mod Meeting
-- one more module of the walk is read
pub mod Stepping
-- where the project has a name
pub mod Locating
-- why modules are not told
pub mod Reasons
-- one more name is met
pub mod Walking
-- places in lists that grow
pub mod Lists
-- what holds of the walk whatever the files hold
pub mod Plain
-- modules under their names
pub mod ByName
-- how a crawl ends
pub mod Ends
-- a number in a ring
pub mod Searching
-- the numbers of what modules import
pub mod Uses
-- a path is the entry of one module
pub mod OneEntry
-- a project is refused for one fault, and then has no graph
pub mod OneFault
-- an entry reaches one list of modules, or too many
pub mod OneList
-- the names that a head of the program imports
pub mod Names
-- the imports of a text are determined by it
pub mod OneHead
-- words of the program as tokens
pub mod ModuleHeadsPlaces
