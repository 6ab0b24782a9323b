-- types that are made of copies of the parts of another
pub mod Copies
-- what stands for parameters, and types that are filled part by part
pub mod Fillings
-- ports whose types have another number of parts
pub mod Forms
-- where nothing stands for anything
pub mod Meanings
-- the walk over a written type, part by part
pub mod Walks
-- the variables in a type, part by part
pub mod Parts
-- the aliases that a type uses, part by part
pub mod Places
-- the places of names
pub mod Naming
-- aliases that are marked
pub mod Marks
-- constructors and unions, one after the other
pub mod Making
-- worlds in which names mean the same
pub mod Agreeing
-- what the names of one module mean
pub mod Firsts
-- aliases that are added one after the other
pub mod Adding
-- one alias more
pub mod Steps
-- the aliases of a group
pub mod Grouping
-- groups in order of use
pub mod Ordering
-- before the first alias, and after the last
pub mod Starting
-- types in worlds where names mean the same
pub mod Carrying
-- what the names of a module mean in its world, by what they mean once its aliases are declared
pub mod Meaning
-- the types that a module declares, once its aliases are declared
pub mod Together
-- no others are declared
pub mod Only
-- values that are made by steps
pub mod Outcome
