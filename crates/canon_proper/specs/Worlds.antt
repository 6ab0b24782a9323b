-- What a module can name, as names need it: each constructor is one of its union.
use Rattle.std.specs.Prelude.{◌≡◌, ℕ, List, [], ◌∷◌, true, is_some}
use Rattle.elm_base.specs.Units.{text_units}
use Rattle.elm_tree.specs.Tree.{Long}
use Rattle.elm_canon.specs.Names.{Name}
use Rattle.elm_canon.specs.declared.reference.Ref.{Ref}
use Rattle.elm_canon.specs.declared.reference.Ref.TheVariants.{Local, Top}
use Rattle.canon_env.specs.Exposing.{is_operator, operator_home}
use Rattle.canon_env.specs.Found.{Row, One}
use Rattle.canon_env.specs.declared.found.Meant.{Meant}
use Rattle.canon_env.specs.Shown.{MakerMeaning, OfUnion, OfRecord}
use Rattle.canon_env.specs.Naming.{World, value_found, maker_found, own_name}
use Rattle.canon_env.specs.Locals.{Locals}
use Rattle.canon_expr.specs.Operators.{meaning_of}
use Rattle.elm_canon.specs.Constructors.{is_constructor}
use Rattle.elm_canon.specs.Proper.{Scope, among, IsIn}

abbrev pub IsMaker : MakerMeaning → Type 0
IsMaker (OfUnion u c) = is_constructor u c ≡ true
IsMaker (OfRecord fields) = Unit {0}

abbrev pub AreMakers : List (Row MakerMeaning) → Type 0
AreMakers [] = Unit {0}
AreMakers (r ∷ rows) = IsMaker r.meaning × AreMakers rows

pub record HasMakers (w : World) : Type 0 where
  pub own : AreMakers w.own.makers
  pub imported : AreMakers w.imported.makers

-- the local names in scope are these
abbrev pub IsScopeOf : Locals → Scope → Type 0
IsScopeOf locals scope = (x : Name) → among (Local x) scope ≡ is_some (locals x)

-- the core function of an operator
abbrev pub operator_ref : List ℕ → Ref
operator_ref op = Top (text_units (operator_home op)) (text_units (meaning_of op).function)

-- what the module can name is in scope, and so are the functions of the language's operators
pub record HasNames (w : World) (scope : Scope) : Type 0 where
  pub values : (x : Long) (m : Meant (Unit {0})) → value_found w x ≡ One m → IsIn (Top m.home (own_name x)) scope
  pub makers : (x : Long) (m : Meant MakerMeaning) → maker_found w x ≡ One m → IsIn (Top m.home (own_name x)) scope
  pub operators : (op : List ℕ) → is_operator op ≡ true → IsIn (operator_ref op) scope
