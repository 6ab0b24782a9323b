-- how many modules a build compiles
pub mod Counts
-- the outcome of a build of the code
pub mod View
-- what a build leaves and reports
pub mod End
-- the steps of a build
pub mod Steps
-- what modules of the program compile to
pub mod ProjectCompileView
-- what lies on a desk
pub mod Desks
-- what a module is made to
pub mod Making
-- what a finished build is
pub mod Outcome
