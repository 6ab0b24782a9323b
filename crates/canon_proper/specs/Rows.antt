-- What the rows of names need to say: each names what is in scope, and each constructor is one of its union.
use Rattle.std.specs.Prelude.{◌≡◌, ℕ, List, [], ◌∷◌, true}
use Rattle.elm_canon.specs.Unions.{Union}
use Rattle.elm_canon.specs.declared.unions.Alternative.{Alternative}
use Rattle.elm_canon.specs.declared.reference.Ref.TheVariants.{Top}
use Rattle.elm_canon.specs.Tree.{UnionDeclaration}
use Rattle.canon_env.specs.Env.{Known, declared_alternatives}
use Rattle.canon_env.specs.Exposing.{is_operator}
use Rattle.canon_env.specs.Found.{Row}
use Rattle.canon_env.specs.Naming.{World}
use Rattle.elm_canon.specs.Constructors.{is_constructor}
use Rattle.elm_canon.specs.Proper.{Scope, IsIn}
use Rattle.canon_proper.specs.Worlds.{operator_ref}

-- ---- names

abbrev pub AreInScope : {M : Type 0} → List (Row M) → Scope → Type 0
AreInScope [] scope = Unit {0}
AreInScope (r ∷ rows) scope = IsIn (Top r.home r.name) scope × AreInScope rows scope

pub record HasRows (w : World) (scope : Scope) : Type 0 where
  pub own_values : AreInScope w.own.values scope
  pub imported_values : AreInScope w.imported.values scope
  pub own_makers : AreInScope w.own.makers scope
  pub imported_makers : AreInScope w.imported.makers scope
  pub operators : (op : List ℕ) → is_operator op ≡ true → IsIn (operator_ref op) scope

-- ---- constructors

abbrev pub AreConstructors : Union → List Alternative → Type 0
AreConstructors u [] = Unit {0}
AreConstructors u (c ∷ cs) = (is_constructor u c ≡ true) × AreConstructors u cs

-- the constructors of each are its own
abbrev pub AreUnions : List UnionDeclaration → Type 0
AreUnions [] = Unit {0}
AreUnions (u ∷ us) = AreConstructors u.union (declared_alternatives u.union) × AreUnions us

-- the unions that imported modules show
abbrev pub HaveUnions : List Known → Type 0
HaveUnions [] = Unit {0}
HaveUnions (k ∷ ks) = AreUnions k.shown.unions × HaveUnions ks
