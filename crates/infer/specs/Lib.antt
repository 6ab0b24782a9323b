pub mod Types
pub mod Names
pub mod Told
pub mod Middle
pub mod Inside
pub mod Texts
pub mod Known
pub mod Named
pub mod Laws
-- modules whose types can be inferred, and what they tell others
pub mod Modules
