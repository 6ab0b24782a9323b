-- What inference as code knows of names, as plain data, and where it is in the tree of a module.
use Rattle.std.specs.Prelude.{ℕ, List, [], ◌∷◌, Option, Some, if◌then◌else◌}
use Rattle.std.specs.Str.{bytes_eq}
use Rattle.elm_canon.specs.Names.{same_ref}
use Rattle.elm_canon.specs.declared.reference.Ref.{Ref}
use Rattle.elm_canon.specs.declared.reference.Ref.TheVariants.{Local}
use Rattle.elm_type.specs.Types.{Name, Scheme}
use Rattle.type_items.specs.Items.{Place}
use Rattle.type_items.specs.Scopes.{Known}
use Rattle.type_store.specs.Store.{Store}
use Rattle.type_walks.specs.Frozen.{Frozen}

-- A type that is written. The scheme has its own variables, and after them, by higher numbers, those of annotations
-- around: these are variables of the store, in turn.
pub record Declared : Type 0 where
  pub scheme : Scheme
  pub outer : List ℕ

-- what a name stands for: a variable of the store; at each use a copy of a frozen type; at each use an instance of a
-- type that is written
pub data Meaning : Type 0 where
  One : ℕ → Meaning
  Many : Frozen → Meaning
  Each : Declared → Meaning

-- The scope of the code: what is declared elsewhere, the names in scope, and the variables of the store for the
-- variables of the annotations around.
pub record Code : Type 0 where
  pub known : Known
  pub names : Ref → Option Meaning
  pub constants : Name → Option ℕ

-- a name stands for this, or for nothing
abbrev pub stands_for : Ref → Option Meaning → Code → Code
stands_for x m code = record code { names = λ y. if same_ref y x then m else code.names y }

-- one more name, before those that are there
abbrev pub with_meaning : Ref → Meaning → Code → Code
with_meaning x m code = stands_for x (Some m) code

-- a name that a pattern binds, and its variable
abbrev pub Bound : Type 0
Bound = Name × ℕ

-- the first one is the innermost
abbrev pub with_bound : List Bound → Code → Code
with_bound [] code = code
with_bound (b ∷ bs) code = with_meaning (Local b.0) (One b.1) (with_bound bs code)

-- a variable of an annotation stands for this, or for nothing
abbrev pub constant_is : Name → Option ℕ → Code → Code
constant_is a v code = record code { constants = λ b. if bytes_eq b a then v else code.constants b }

-- one more variable of an annotation
abbrev pub with_constant : Name → ℕ → Code → Code
with_constant a v code = constant_is a (Some v) code

-- where inference is: its store, how many definitions are around, and the place in the tree of the module
pub record State : Type 0 where
  pub store : Store
  pub depth : ℕ
  pub place : Place
