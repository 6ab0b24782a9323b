-- what a module of the program compiles to
pub mod View
-- what is said of a module without faults in its names
pub mod Typing
-- what is kept of the imports of a module, as plain data
pub mod Parts
-- what a module is compiled in
pub mod ModulePhasesView
-- what the names of a module are resolved against
pub mod Settings
-- what the phases up to names say of a text
pub mod Phases
