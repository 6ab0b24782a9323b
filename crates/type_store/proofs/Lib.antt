-- the order of names
pub mod Names
-- fields that are put in order
pub mod Rows
-- two open rows that meet
pub mod RowsMeet
-- one store becomes another
pub mod Turns
-- two variables, of which one is bound to the other
pub mod OneSlot
-- the fields of a row
pub mod RowFields
-- a variable that is made
pub mod NewSlot
-- two rows that are asked to be the same
pub mod RowSteps
-- what the ends of two rows become
pub mod RowEnds
-- what a variable may stand for
pub mod KindSteps
-- what was written is undone
pub mod Undoing
-- each slot stays as it is to be
pub mod Graphs
-- a name is in a list
pub mod Lookups
-- steps as the program keeps the slots
pub mod AtSlots
-- two variables become the same
pub mod Joins
-- what the ends of two rows become, as the program keeps the slots
pub mod Ending
-- two rows become the same
pub mod RowJoins
-- what was written is undone, where slots were made
pub mod Growing
-- all that is asked, step by step
pub mod SameSteps
-- the fields of two rows, by their names
pub mod Splitting
-- the fields of a row with those that it leads to
pub mod Gathering
-- classes above a class
pub mod Classes
-- fields that a ground type lacks
pub mod Lacking
-- the value of a row, by its names
pub mod RowValues
-- what holds of each part of a cell
pub mod Parts
-- a store has a solution
pub mod Solution
-- the steps of the search for a cycle
pub mod Walks
-- no variable of a store with a solution leads to itself
pub mod Weights
-- the places of those that are done are ranks
pub mod Ranks
-- what the program reads of slots
pub mod Views
-- the work that is left falls
pub mod Work
-- one step of the search for a cycle, as the code takes it
pub mod Follow
-- a search begins at rest, and ends at rest
pub mod Searches
-- variables that are made less deep
pub mod Levels
-- what is left when all asks are done
pub mod Whole
-- what is not on the trail is as it was
pub mod Trails
-- what is known of the variables that a cell names, or is still asked of them
pub mod Spreading
-- what two classes ask of a type is what the class that is below both asks
pub mod Demanding
-- what is known of variables stays known, or is asked
pub mod Keeping
-- a step for a kind spreads what is known
pub mod KindSpreads
-- what is known of the variables that a new row names, or is asked
pub mod RowSpreads
-- the fields of two rows are asked to be the same
pub mod Pushing
-- a store becomes whole again
pub mod Settling
-- a variable is made, of which something is known
pub mod Making
-- which cells were changed
pub mod Noting
-- a record is made
pub mod Rowing
-- two rows of which one was bound to the other
pub mod RowsBound
-- variables of which something is known as they are made
pub mod Building
-- a store with a variable more, and its solutions
pub mod Extending
-- two ground types are the same, or not
pub mod Deciding
-- the types of some variables say those of others
pub mod Resting
-- a constant is let go
pub mod Loosening
-- the rows that a row leads to, and their fields in one
pub mod Linking
