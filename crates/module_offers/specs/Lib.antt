-- what a module offers to those that import it
pub mod Offers
-- as the program keeps it
pub mod View
-- what the text of a core module must have
pub mod Faults
