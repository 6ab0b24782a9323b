pub mod Given
-- types and imports, part by part
pub mod Opaque
pub mod Library
-- the same in three parts
pub mod Thirds
-- declarations, sign by sign
pub mod Signs
-- what the core library must declare
pub mod Table
-- what a module lacks of it
pub mod Facts
-- the table as the program keeps it
pub mod Rows
-- commands and subscriptions of ports, in unions and constructors
pub mod Makers
-- signs that have no name
pub mod Ported
-- signs that are the same
pub mod Same
-- declarations, sign by sign
pub mod PortFaultsSigns
-- the signs around an expression
pub mod Links
-- declarations that take none apart, and make none
pub mod Faults
