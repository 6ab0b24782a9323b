-- trees after the change of one file
pub mod Trees
-- the tree of a map from texts to files
pub mod Held
