-- steps one after the other
pub mod Going
-- the place of the state
pub mod Placing
-- operations
pub mod Operating
pub mod Turning
-- calls
pub mod Calling
-- patterns, and what stands after them
pub mod Entering
-- where nothing is asked
pub mod Onward
-- choices
pub mod Choosing
-- chains
pub mod Chaining
-- what is asked of trees
pub mod Forming
-- fields that are read
pub mod Reading
-- chains that are opened and closed
pub mod Winding
-- arguments behind any function
pub mod Several
-- parts that a loop goes through
pub mod Rows
-- what was walked, said of the program
pub mod Showing
-- the scope said by another name
pub mod Coding
