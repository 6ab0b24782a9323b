-- values of lists of definitions
pub mod Valuing
-- names of functions
mod Names
