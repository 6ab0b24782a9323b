-- What is told of the types of a module is determined: its principal types, whether it is typable, and its first bad
-- item with what is said of it.
use Rattle.std.specs.Prelude.{◌≡◌, List, map}
use Rattle.elm_base.specs.declared.position.Pos.{Pos}
use Rattle.elm_base.specs.declared.fault.Code.{Code}
use Rattle.elm_type.specs.Types.{Name, size, Scheme}
use Rattle.elm_type.specs.Schemes.{rename}
use Rattle.type_items.specs.Items.{Place, Wanted, Item}
use Rattle.type_items.specs.Principal.{IsPrincipal}
use Rattle.type_items.specs.Faults.{Typable, FirstBad}

-- two principal types of the same have the same number of nodes
abbrev pub OneSize : Type 0
OneSize =
    (p : Place) (items : List Item) (t : Wanted) (s u : Scheme) → IsPrincipal p items t s → IsPrincipal p items t u
    → size s.type ≡ size u.type

-- the same type, and variables of the same classes
pub record SameScheme (s u : Scheme) : Type 0 where
  pub type : s.type ≡ u.type
  pub classes : map (λ k. k.class) s.kinds ≡ map (λ k. k.class) u.kinds

-- with their variables in order of appearance they are one
abbrev pub OneScheme : Type 0
OneScheme =
    (p : Place) (items : List Item) (t : Wanted) (s u : Scheme) → IsPrincipal p items t s → IsPrincipal p items t u
    → rename s ≡ s → rename u ≡ u → SameScheme s u

-- what is typable has no first bad item
abbrev pub NeverBoth : Type 0
NeverBoth =
    (p : Place) (items : List Item) (code : Code) (pos : Pos) (detail : Name) → Typable p items
    → FirstBad p items code pos detail → ⊥

-- two first bad items are one, and the same is said of them
abbrev pub OneFault : Type 0
OneFault =
    (p : Place) (items : List Item) (code other : Code) (pos place : Pos) (detail text : Name)
    → FirstBad p items code pos detail → FirstBad p items other place text
    → (code ≡ other) × (pos ≡ place) × (detail ≡ text)

-- to put the variables of a scheme in order once more changes nothing
abbrev pub RenamedTwice : Type 0
RenamedTwice = (s : Scheme) → rename (rename s) ≡ rename s

-- and a principal type is principal with its variables in order
abbrev pub RenamedPrincipal : Type 0
RenamedPrincipal =
    (p : Place) (items : List Item) (t : Wanted) (s : Scheme) → IsPrincipal p items t s
    → IsPrincipal p items t (rename s)
