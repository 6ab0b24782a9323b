pub mod Keys
pub mod Owners
pub mod Links
pub mod Spots
pub mod Order
