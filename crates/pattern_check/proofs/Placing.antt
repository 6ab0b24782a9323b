-- Where lists begin.
use Rattle.std.proofs.Common.{◌≡◌, ℕ, ◌≢◌, ◌<◌, ◌≤◌, List, [], ◌∷◌, map, length, get_or, refl, ap, ◌∙◌, arith}
use Rattle.std.proofs.lemmas.List.{get_or-map, get_or_past, length-map}
use Rattle.elm_base.specs.declared.position.Pos.{Pos}
use Rattle.elm_canon.specs.Tree as plain
use Rattle.elm_canon.specs.View.{items_before, nil_pattern, pattern_view}
use Rattle.elm_canon.specs.declared.tree.Pattern as tree
use Rattle.pattern_check.specs.Faults.{place_of}

-- the pattern with a number, among references
pub at_place : {R : Type 0} (now : R → tree.Pattern) (here : Pos) (rs : List R) (n : ℕ) (d : R) → n < length rs →
    place_of here (get_or (map pattern_view (map now rs)) n plain.Anything) ≡ place_of here (pattern_view (now (get_or rs n d)))
at_place now here rs n d l =
    ap (place_of here)
    (get_or-map pattern_view (map now rs) n (now d) plain.Anything (omega (arith, l, length-map rs now))
    ∙ ap pattern_view (get_or-map now rs n d (now d) l))

pub past_place : {R : Type 0} (now : R → tree.Pattern) (here : Pos) (rs : List R) (n : ℕ) → length rs ≤ n →
    place_of here (get_or (map pattern_view (map now rs)) n plain.Anything) ≡ here
past_place now here rs n l =
    ap (place_of here)
    (get_or_past (map pattern_view (map now rs)) n plain.Anything (omega (arith, l, length-map rs now, length-map (map now rs) pattern_view)))

pub list_place : (here : Pos) (ps : List plain.Pattern) → place_of here (items_before nil_pattern ps) ≡ here
list_place here [] = refl
list_place here (p ∷ ps) = refl

pub items_place : (here : Pos) (rest : plain.Pattern) (ps : List tree.Pattern) → length ps ≢ 0 →
    place_of here (items_before rest (map pattern_view ps)) ≡ here
items_place here rest [] l = absurd (l refl)
items_place here rest (p ∷ ps) l = refl

pub no_items : (here : Pos) (rest : plain.Pattern) (ps : List tree.Pattern) → length ps ≡ 0 →
    place_of here (items_before rest (map pattern_view ps)) ≡ place_of here rest
no_items here rest [] l = refl
no_items here rest (p ∷ ps) l = absurd (omega (arith, l))
