-- Expressions that read no scope: what they ask, for a type that is wanted.
use Rattle.std.specs.Prelude.{◌≡◌, ℕ, [], ◌∷◌}
use Rattle.elm_base.specs.declared.position.Pos.{Pos}
use Rattle.elm_canon.specs.Tree.{Expr}
use Rattle.elm_type.specs.Types.{Name, NoField, MoreField, function}
use Rattle.elm_type.specs.Rows.{extend}
use Rattle.elm_type.specs.declared.class.Class.TheVariants.{Number}
use Rattle.type_items.specs.Items.{Wanted, child, at, Same, InClass}
use Rattle.type_items.specs.Expressions.{items}
use Rattle.type_walks.specs.Links.{Links, Has}
use Rattle.type_constructs.specs.Failing.{Bad}
use Rattle.infer_steps.specs.Codes.{Code, State}
use Rattle.infer_steps.specs.Ready.{Follows}
use Rattle.infer_steps.specs.Promises.{Listing, Walked, Stopped}

-- an expression
abbrev pub listed : Expr → Pos → Listing
listed e here scope q w = items e scope here q w

-- what is of a type alone
abbrev pub of_type : Wanted → Pos → Listing
of_type t here scope q w = Same here t w ∷ []

-- a number
abbrev pub of_number : Pos → Listing
of_number here scope q w = InClass here (at (child q 0)) Number ∷ Same here (at (child q 0)) w ∷ []

-- a function from the records with a field of the type of the variable f, and what the variable r has, to that type
pub record OfReader (x : Name) (r f : ℕ) (links : Links) (t : Wanted) : Type 0 where
  pub rest : Wanted
  pub rest_has : Has links r rest
  pub type : Wanted
  pub has : Has links f type
  pub is : t ≡ function (extend (MoreField x type NoField) rest) type

-- it was walked, wanted at the variable v, whatever is in scope
pub record WalksAlone (v : ℕ) (list : Listing) (old new : State) : Type 0 where
  pub follows : Follows old new
  pub walked : (code : Code) → Walked code v list old new

-- it stops, whatever is in scope
pub record StopsAlone (v : ℕ) (list : Listing) (old new : State) (bad : Bad) : Type 0 where
  pub stopped : (code : Code) → Stopped code v list old new bad
