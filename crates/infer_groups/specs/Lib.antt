pub mod Defined
pub mod Members
pub mod General
pub mod Names
pub mod Lets
pub mod Laws
pub mod Annotated
pub mod Given
