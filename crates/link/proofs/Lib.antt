-- the places of names
pub mod Numbering
-- the program that a link writes
pub mod Written
-- functions that stand alone in their groups
mod Alone
-- names of modules among names
pub mod Naming
