-- lines that go on
pub mod Growth
-- the ports in order, and a program by its parts
pub mod Programs
-- the texts of parts of an output
pub mod Texts
