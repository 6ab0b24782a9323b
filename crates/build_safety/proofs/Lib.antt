-- what is known
pub mod WorldKnown
-- the types of constructors that are offered
pub mod WorldExact
-- constructors
pub mod WorldMakers
-- tags
pub mod UnionTags
-- names of unions
pub mod UnionNames
-- unions
pub mod WorldUnions
-- the variables of types
pub mod ClosedVariables
-- constructors
pub mod ClosedMakers
-- builds
pub mod ClosedBuilds
-- constructors of the modules of a build
pub mod SoundFrom
-- the unions of the core library
pub mod SoundCore
-- the world
pub mod SoundWorlds
-- the modules of the core library
pub mod SoundBuilds
-- rows of names
pub mod MakersRows
-- what modules show
pub mod MakersShown
-- what modules mention
pub mod MakersMentions
-- expressions
pub mod SimplePieces
-- annotated names
pub mod ToldAnnotated
-- names of the table
mod ToldRows
-- what modules offer of names that they define
pub mod ToldOffers
-- functions that no text can say
pub mod ToldPrimitives
-- lists of items
pub mod LinkedItems
-- names that are bound
pub mod LinkedBound
-- what a link takes
pub mod LinkedPieces
-- functions of the core that a link takes
mod LinkedCores
-- what a program has of the core
pub mod LinkedPrimitives
-- pieces of a program
pub mod LinkedSimple
-- ports of the modules of a program
pub mod PortsApart
-- and what they carry
pub mod PortWorlds
-- lists
pub mod TypedLists
-- a module, and what is asked of its declarations
pub mod TypedWanted
-- constructors of unions
pub mod TypedMakers
-- constructors of records
pub mod TypedRecords
-- ports
pub mod TypedPorts
-- all that has no body
pub mod TypedGiven
-- in a program
pub mod TypedLinked
-- each module after those before it
pub mod PlacedLinks
-- types that cross ports
mod MainPayloads
-- the types of programs
mod MainPrograms
-- the types of a module's values
mod MainValues
-- what a link knows of its entry
mod MainEntry
-- what is bound
mod MainBound
-- the start of a program
pub mod LinkedMain
-- modules that leave commands and subscriptions as ports made them
pub mod LeavingModules
-- and links of them
pub mod KeptLinks
-- programs of builds that never get stuck
pub mod Safety
-- what the output of a build means
pub mod Meaning
pub mod Made
-- modules among others
pub mod Among
-- what they tell
pub mod Told
-- all modules
pub mod Chain
-- modules and programs
pub mod Placed
