-- the tasks for a program end well exactly when its names are bound
pub mod Beginning
-- tasks that go on in the place of one
pub mod Going
-- steps that do the same
pub mod Ends
-- the names that are bound, as they are kept
pub mod Bindings
-- what the index of names has after a change
pub mod Indexes
-- the uses of a program are allowed exactly if its names are bound
pub mod Programs
-- a walk ends well exactly when each use is allowed by what the names are in their scopes
pub mod Allowed
-- the marks of assignment that a walk leaves
pub mod Marks
-- the test of names tells whether they are one
pub mod Names
-- a text with its names
pub mod Whole
-- reading, byte by byte and whole
pub mod Reading
-- places, byte by byte
pub mod Places
-- the fixed end, after the bytes before it
pub mod Closing
-- outgoing ports, which the reader has in their order and the machine in reverse
pub mod Outs
-- the words in their tables
pub mod Words
-- digits of base 16
pub mod Hex
