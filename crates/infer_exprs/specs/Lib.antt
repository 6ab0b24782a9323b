pub mod Titles
pub mod Reading
pub mod Laws
pub mod Beginning
pub mod Members
pub mod Begun
pub mod Finished
pub mod First
