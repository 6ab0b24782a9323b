-- what each form of a tree is, by what its parts are
pub mod Views
-- names among names
pub mod Among
