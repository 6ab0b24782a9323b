-- the lines that are printed
pub mod Printed
-- the modules of a project are counted once
pub mod Counted
-- what each step of a build gives
pub mod Building
-- names that are the same
pub mod Names
-- what lies on a desk
pub mod Laying
-- what a module is made to
pub mod Folding
-- the faults of modules, one after another
pub mod Faulted
-- the modules that a link takes, one after another
pub mod Taken
-- what a link makes of good modules
pub mod Ended
-- a build has few modules
pub mod ProjectCompileCounted
