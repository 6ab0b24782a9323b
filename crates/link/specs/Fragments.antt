-- Fragments: what a link needs to know of a module. The JavaScript of its declarations stands in it as text.
use Rattle.std.specs.Prelude.{ℕ, List, Bool, Option}
use Rattle.elm_base.specs.declared.position.Pos.{Pos}
use Rattle.elm_canon.specs.Names.{Name}
use Rattle.link.specs.Names.{TopName}

-- a port, and where it is declared; an incoming one has the text of the decoder of what comes in
pub record Port : Type 0 where
  pub name : Name
  pub place : Pos
  pub decoder : Option (List ℕ)

-- what is declared together: its names, its lines, the names that it uses, each once, and the port that it is
pub record Piece : Type 0 where
  -- a name of the core that stands for a function of the fixed text
  pub is_core : Bool
  pub names : List TopName
  pub lines : List ℕ
  pub uses : List TopName
  pub port : Option Port

-- what the type of a `main` says: a program, by the text of the decoder of its flags; a program whose flags may not
-- cross, by the text of their type; no program, by the text of the type
pub data Says : Type 0 where
  IsProgram : List ℕ → Says
  HasFlags : List ℕ → Says
  IsNoProgram : List ℕ → Says

pub record Main : Type 0 where
  pub place : Pos
  pub says : Says

-- the declarations of a module in order, and its `main`, if it has one
pub record Fragment : Type 0 where
  pub pieces : List Piece
  pub main : Option Main
