-- Values of bare variables, values that are chosen at a few places, and small laws of ground types.
use Rattle.std.proofs.Common.{◌≡◌, ℕ, zero, suc, List, [], ◌∷◌, ◌++◌, Bool, true, false, refl, sym, ap, ◌∙◌}
use Rattle.std.specs.Prelude.{◌&&◌, ◌||◌, if◌then◌else◌}
use Rattle.std.specs.List.{AllByRecursion, list_any}
use Rattle.std.specs.Str.{bytes_eq}
use Rattle.elm_type.specs.Types.{ElmType, ElmTypes, Closed, Over, Made, Record, NoType, MoreType, NoField, MoreField}
use Rattle.elm_type.specs.Types.{int_type}
use Rattle.elm_type.specs.Classes.{Ground, meets, is_below}
use Rattle.elm_type.specs.Rows.{extend}
use Rattle.elm_type.specs.declared.class.Class.{Class}
use Rattle.elm_type.specs.declared.class.Class.TheVariants.{Any, Number, Comparable, Appendable, CompAppend}
use Rattle.elm_type.specs.Ground.{is_ground}
use Rattle.type_items.specs.Items.{Place, Wanted, Item, Small, asks_size}
use Rattle.type_items.specs.Solutions.{Values}
use Rattle.type_items.specs.Faults.{IsSmall}
use Rattle.elm_base.specs.declared.position.Pos.{Pos}

pub both : (a b : Bool) → a ≡ true → b ≡ true → (a && b) ≡ true
both true b d e = e
both false b d e = d

pub first_true : (a b : Bool) → (a && b) ≡ true → a ≡ true
first_true true b e = refl
first_true false b e = e

pub second_true : (a b : Bool) → (a && b) ≡ true → b ≡ true
second_true true b e = e
second_true false b e = absurd cc

-- a type without further fields
pub bare : (g : Ground) → extend NoField g ≡ g
bare (Made h ts) = refl
bare (Record fs end) = refl

below_any : (c : Class) → is_below c Any ≡ true
below_any Any = refl
below_any Number = refl
below_any Comparable = refl
below_any Appendable = refl
below_any CompAppend = refl

pub meets_any : (g : Ground) → meets Any g ≡ true
meets_any (Made h ts) = refl
meets_any (Record NoField Closed) = refl
meets_any (Record NoField (Over r)) = below_any r.class
meets_any (Record (MoreField k t fs) end) = refl

-- the part of a type at a place
abbrev pub part_at : ℕ → ElmTypes Rattle.elm_type.specs.Types.Rigid → Ground
part_at n NoType = int_type
part_at zero (MoreType t ts) = t
part_at (suc n) (MoreType t ts) = part_at n ts

abbrev pub part : ℕ → Ground → Ground
part n (Made h ts) = part_at n ts
part n (Record fs end) = int_type

-- ---- values at a few places, and one value elsewhere

abbrev pub chosen : List (Place × Ground) → Ground → Values
chosen [] other p = other
chosen (c ∷ cs) other p = if bytes_eq p c.0 then c.1 else chosen cs other p

either : (b : Bool) (g h : Ground) → is_ground g ≡ true → is_ground h ≡ true → is_ground (if b then g else h) ≡ true
either true g h d e = d
either false g h d e = e

pub chosen_ground : (cs : List (Place × Ground)) (other : Ground) → AllByRecursion (λ c. is_ground c.1 ≡ true) cs
    → is_ground other ≡ true → (p : Place) → is_ground (chosen cs other p) ≡ true
chosen_ground [] other all e p = e
chosen_ground (c ∷ cs) other all e p =
    either (bytes_eq p c.0) c.1 (chosen cs other p) all.0 (chosen_ground cs other all.1 e p)

-- ---- items of which none asks for a size

or_true : (a b : Bool) → b ≡ true → (a || b) ≡ true
or_true true b e = refl
or_true false b e = e

some_asks : (front back : List Item) (pos : Pos) (t : Wanted) → list_any asks_size (front ++ Small pos t ∷ back) ≡ true
some_asks [] back pos t = refl
some_asks (i ∷ front) back pos t = or_true (asks_size i) (list_any asks_size (front ++ Small pos t ∷ back)) (some_asks front back pos t)

pub none_asks : (items : List Item) → list_any asks_size items ≡ false → (front back : List Item) (pos : Pos) (t : Wanted)
    → items ≡ front ++ Small pos t ∷ back → IsSmall [] front t
none_asks items none front back pos t e =
    let w : false ≡ true = sym none ∙ (ap (list_any asks_size) e ∙ some_asks front back pos t) in absurd cc
