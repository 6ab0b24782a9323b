-- a set of paths, in the order in which they went in
pub mod Distinct
-- what a file tells, by whether it is read
pub mod Told
-- paths below a folder
pub mod Below
-- parts joined by a slash, one more at the end
pub mod Joins
