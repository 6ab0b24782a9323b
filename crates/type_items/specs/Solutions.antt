-- Which ground types solve items. (Elm guide: types.)
use Rattle.std.specs.Prelude.{◌≡◌, ℕ, List, ◌∷◌, ◌++◌, ◌↔◌, true}
use Rattle.std.specs.List.{AllByRecursion}
use Rattle.elm_type.specs.Types.{variables, Rigid}
use Rattle.elm_type.specs.Classes.{Ground, meets}
use Rattle.elm_type.specs.Ground.{is_ground, lacks, value}
use Rattle.type_items.specs.Items.{Place, Item, Same, InClass, Lacks, Keeps, Small, copied}

-- ground types for the variables
abbrev pub Values : Type 0
Values = Place → Ground

-- s is not the constant r, nor one of an annotation below it
pub record Avoids (r s : Rigid) : Type 0 where
  pub other : s.place ≡ r.place → s.name ≡ r.name → ⊥
  pub not_below : (i : ℕ) (q : Place) → s.place ≡ r.place ++ i ∷ q → ⊥

abbrev pub Keep : Rigid → Ground → Type 0
Keep r g = AllByRecursion (Avoids r) (variables g)

abbrev pub Meets : Values → Item → Type 0
Meets values (Same pos t u) = value values t ≡ value values u
Meets values (InClass pos t c) = meets c (value values t) ≡ true
Meets values (Lacks pos t x) = lacks x (value values t) ≡ true
Meets values (Keeps pos r ts) = AllByRecursion (λ t. Keep r (value values t)) ts
Meets values (Small pos t) = Unit {0}

abbrev pub Solves : Values → List Item → Type 0
Solves values items = AllByRecursion (Meets values) items

-- ground types that meet all items
pub record Solution (items : List Item) : Type 0 where
  pub values : Values
  pub ground : (p : Place) → is_ground (values p) ≡ true
  pub solves : Solves values items

pub record Unsolvable (items : List Item) : Type 0 where
  pub never : Solution items → ⊥

-- ---- laws

-- a copy is solved by the same types
abbrev pub CopiesAskTheSame : Type 0
CopiesAskTheSame = (values : Values) (items : List Item) → Solves values items ↔ Solves values (copied items)
