-- what each step leaves while groups are placed
pub mod Places
-- lists of lists, and the groups that are gathered
pub mod Gather
-- what goes into a heap and comes out of it
pub mod Heaps
-- the steps of the search, as the code takes them
pub mod Steps
-- the work that is left falls
pub mod Work
-- what each step of the search leaves
pub mod Search
-- definitions have one order
pub mod Unique
-- lists of places, their members and their order
pub mod Basics
-- where groups have an order, it is the one that is computed
pub mod Computed
-- what is computed of reaching is what uses lead to
pub mod Reaching
-- one more group is told
pub mod Telling
-- members of groups and of uses are places of definitions
pub mod Within
-- each definition stands in one group, and whether the group uses itself says whether the definition does
pub mod Standing
-- the computed order is one
pub mod Ordering
-- definitions that lead to themselves
pub mod Itself
-- walks, step by step
pub mod Walking
