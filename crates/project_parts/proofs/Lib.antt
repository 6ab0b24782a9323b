-- places in lists
pub mod Placing
-- the modules of an order
pub mod Ordering
-- names of the core library
pub mod Naming
-- imports of lower numbers
pub mod Lower
-- texts by their units
pub mod Texts
-- modules that an entry reaches
pub mod Reached
-- names with numbers
pub mod Numbered
-- rows of numbers
pub mod Rows
-- names that differ
pub mod Differing
-- one module of the core library more
pub mod Adding
