-- the world of a build
pub mod BuildWorlds
-- constructors of unions
pub mod UnionTags
-- names of unions
pub mod UnionNames
-- unions
pub mod WorldUnions
-- constructors of closed unions
pub mod ClosedMakers
-- builds
pub mod ClosedBuilds
-- worlds that hold together
pub mod SoundWorlds
-- constructors of a build
pub mod BuildMakers
-- expressions
pub mod SimplePieces
-- annotated names of modules
pub mod ToldAnnotated
-- functions that no text can say
pub mod ToldPrimitives
-- what a link takes of the modules of a build
pub mod LinkedPieces
-- what a program has of the core, and what stands before its modules
pub mod LinkedPrimitives
-- expressions of a linked program
pub mod LinkedSimple
-- the world of a program
pub mod PortWorlds
-- what has no body
pub mod TypedMakers
-- what a link takes, placed in a world
pub mod PlacedLinks
-- what is told of a program's start
pub mod LinkedMain
-- modules that leave commands and subscriptions as ports made them, and links of them
pub mod KeptLinks
-- programs of builds that never get stuck
pub mod Safety
-- what the output of a build means
pub mod Meaning
pub mod Laws
-- modules of a build as they were compiled
pub mod Compiled
-- what they tell
pub mod Told
-- builds of good modules
pub mod Builds
-- programs that are placed in a build
pub mod Placed
