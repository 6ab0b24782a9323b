-- values of bare variables, chosen values, and small laws of types
pub mod Values
-- the first bad item, where an annotation promises more than the body keeps
pub mod EveryType
-- the first bad item, where a function uses its parameter at two types
pub mod OneType
-- the principal type of a function whose parameters have two classes
pub mod BothClasses
-- records with a field more
pub mod Inserting
-- the principal type of a function that updates a field
pub mod Updated
-- the first bad item, where a record has not the field
pub mod NoField
-- items that ask for sizes
pub mod Sizes
-- an annotation that is kept
pub mod Next
-- a name of a let that is used at two types
pub mod Pairs
