-- what is made of lists that are held from the last item to the first
pub mod Making
-- what the steps of a derivation leave on the stacks
pub mod Runs
-- the steps are done from the last to the first
pub mod Looping
-- what a stack holds, as the views of its values
pub mod Columns
-- what an action does to the columns
pub mod Acting
