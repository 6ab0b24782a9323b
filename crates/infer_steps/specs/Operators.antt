-- Operators of two values: their types and classes, whatever types the items name.
use Rattle.std.specs.Prelude.{◌≡◌, ℕ, List, [], ◌∷◌, ◌++◌}
use Rattle.elm_base.specs.declared.position.Pos.{Pos}
use Rattle.elm_canon.specs.declared.tree.Operator.{Operator}
use Rattle.elm_type.specs.Types.{functions, int_type, list_type}
use Rattle.elm_type.specs.declared.class.Class.{Class}
use Rattle.type_items.specs.Items.{Wanted, Item, class_items}
use Rattle.type_items.specs.Operations.{computes, compares, operator_type}
use Rattle.type_walks.specs.Regions.{Region, none}
use Rattle.type_walks.specs.Links.{Links, AreLive, Has}
use Rattle.type_walks.specs.Walks.{Around, Walk}
use Rattle.type_constructs.specs.Failing.{Bad, Fails}
use Rattle.infer_steps.specs.Codes.{State}
use Rattle.infer_steps.specs.Ready.{Follows}

-- ---- classes

-- a variable meets a class, which asks nothing where it is that of all types
pub record AsksClassItems (old new : State) (pos : Pos) (v : ℕ) (c : Class) : Type 0 where
  pub follows : Follows old new
  pub walk : (a : Around) (links : Links) (t : Wanted) → a.depth ≡ old.depth → AreLive a.depth old.store links
      → Has links v t → Walk a none (class_items pos t c) old.store links new.store links

pub record RefusesClassItems (old new : State) (pos : Pos) (v : ℕ) (c : Class) (bad : Bad) : Type 0 where
  pub fails : (a : Around) (links : Links) (Q : Region) (t : Wanted) (rest : List Item)
      → Has links v t → Fails a old.store links Q (class_items pos t c ++ rest) bad new.store

-- ---- types: that of the variable w stands for the type variable

pub record OfComputing (w : ℕ) (links : Links) (t : Wanted) : Type 0 where
  pub operand : Wanted
  pub has : Has links w operand
  pub is : t ≡ computes operand

pub record OfComparing (w : ℕ) (links : Links) (t : Wanted) : Type 0 where
  pub operand : Wanted
  pub has : Has links w operand
  pub is : t ≡ compares operand

pub record OfConsing (w : ℕ) (links : Links) (t : Wanted) : Type 0 where
  pub operand : Wanted
  pub has : Has links w operand
  pub is : t ≡ functions (operand ∷ list_type operand ∷ []) (list_type operand)

abbrev pub OfDividing : Links → Wanted → Type 0
OfDividing links t = t ≡ computes int_type

-- the type of an operator
pub record OfOperator (op : Operator) (w : ℕ) (links : Links) (t : Wanted) : Type 0 where
  pub operand : Wanted
  pub has : Has links w operand
  pub is : t ≡ operator_type op operand
