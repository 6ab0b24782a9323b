pub mod Told
pub mod Names
pub mod Resolved
pub mod Parts
-- the types of constructors and ports
pub mod Schemes
-- constructors of declared unions
pub mod Unions
-- what core modules have that lack nothing
pub mod Facts
-- declared types whose variables are parameters
pub mod Closed
pub mod Laws
-- constructors and ports
pub mod Once
-- what modules offer
pub mod Offers
