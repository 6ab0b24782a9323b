-- What is left of rows.
use Rattle.std.proofs.Common.{◌≡◌, ℕ, zero, suc, ◌<◌, ◌≤◌, List, [], ◌∷◌, ◌++◌, length, take, drop, get_or, refl, sym}
use Rattle.std.proofs.Common.{ap, ◌∙◌}
use Rattle.std.proofs.Common.{arith, ◌+◌, append-nil, Option, Some, None, option_map}
use Rattle.elm_canon.specs.Tree.{Pattern}
use Rattle.js_emit.specs.Matrix.{Ask, Nothing, ask, ask_at, in_place, after_one, narrowed, keep}
use Rattle.decision_tree.specs.Placed.{placed}
use Rattle.decision_tree.specs.Views.{part_view, parts_view, row_of}
use Rattle.decision_tree.specs.declared.part.Part.{Part}
use Rattle.decision_tree.proofs.Lists.{map_at}
use Rattle.std.proofs.lemmas.List.{length-map, take-map, drop-map}

after_placed : (p : Pattern) (column : ℕ) (ps : List Pattern) (left : Option (List Pattern))
    → after_one p (option_map (placed column ps) left) ≡ option_map (placed (suc column) (p ∷ ps)) left
after_placed p column ps None = refl
after_placed p column ps (Some qs) = refl

first_placed : (p : Pattern) (ps : List Pattern) (left : Option (List Pattern))
    → in_place left ps ≡ option_map (placed 0 (p ∷ ps)) left
first_placed p ps None = refl
first_placed p ps (Some qs) = refl

pub narrowed_at : (left : Ask → Option (List Pattern)) (column : ℕ) (ps : List Pattern) (d : Pattern)
    → column < length ps
    → narrowed left column ps ≡ option_map (placed column ps) (left (ask (get_or ps column d)))
narrowed_at left column [] d h = absurd (omega (arith, h))
narrowed_at left zero (p ∷ ps) d h = first_placed p ps (left (ask p))
narrowed_at left (suc column) (p ∷ ps) d h =
    ap (after_one p) (narrowed_at left column ps d (omega (arith, h)))
    ∙ after_placed p column ps (left (ask (get_or ps column d)))

pub narrowed_past : (left : Ask → Option (List Pattern)) (column : ℕ) (ps : List Pattern) → length ps ≤ column
    → narrowed left column ps ≡ Some ps
narrowed_past left column [] h = refl
narrowed_past left zero (p ∷ ps) h = absurd (omega (arith, h))
narrowed_past left (suc column) (p ∷ ps) h = ap (after_one p) (narrowed_past left column ps (omega (arith, h)))

pub ask_inside : (column : ℕ) (ps : List Pattern) (d : Pattern) → column < length ps
    → ask_at column ps ≡ ask (get_or ps column d)
ask_inside column [] d h = absurd (omega (arith, h))
ask_inside zero (p ∷ ps) d h = refl
ask_inside (suc column) (p ∷ ps) d h = ask_inside column ps d (omega (arith, h))

pub ask_past : (column : ℕ) (ps : List Pattern) → length ps ≤ column → ask_at column ps ≡ Nothing
ask_past column [] h = refl
ask_past zero (p ∷ ps) h = absurd (omega (arith, h))
ask_past (suc column) (p ∷ ps) h = ask_past column ps (omega (arith, h))

-- ---- of the parts of the program

pub ask_here : (ps : List Part) (column : ℕ) (x : Part) → column < length ps → get_or ps column x ≡ x
    → ask_at column (parts_view ps) ≡ ask (part_view x)
ask_here ps column x h at =
    ask_inside column (parts_view ps) (part_view x) (omega (arith, h, length-map ps part_view))
    ∙ ap ask (map_at part_view ps column x (part_view x) h at)

pub ask_none : (ps : List Part) (column : ℕ) → length ps ≤ column → ask_at column (parts_view ps) ≡ Nothing
ask_none ps column h = ask_past column (parts_view ps) (omega (arith, h, length-map ps part_view))

pub narrowed_here : (left : Ask → Option (List Pattern)) (ps : List Part) (column : ℕ) (x : Part) → column < length ps
    → get_or ps column x ≡ x
    → narrowed left column (parts_view ps)
    ≡ option_map (λ qs. take column (parts_view ps) ++ (qs ++ drop (suc column) (parts_view ps)))
    (left (ask (part_view x)))
narrowed_here left ps column x h at =
    narrowed_at left column (parts_view ps) (part_view x) (omega (arith, h, length-map ps part_view))
    ∙ ap (λ p. option_map (placed column (parts_view ps)) (left (ask p)))
    (map_at part_view ps column x (part_view x) h at)

pub narrowed_none : (left : Ask → Option (List Pattern)) (ps : List Part) (column : ℕ) → length ps ≤ column
    → narrowed left column (parts_view ps) ≡ Some (parts_view ps)
narrowed_none left ps column h =
    narrowed_past left column (parts_view ps) (omega (arith, h, length-map ps part_view))

-- a row that has no such column stays as it is
pub row_past : (left : Ask → Option (List Pattern)) (ps : List Part) (column branch : ℕ) → length ps ≤ column
    → row_of branch (parts_view ps ++ ([] ++ [])) ∷ [] ≡ keep (narrowed left column (parts_view ps)) branch []
row_past left ps column branch h =
    ap (λ qs. row_of branch qs ∷ []) (append-nil (parts_view ps))
    ∙ sym (ap (λ o. keep o branch []) (narrowed_none left ps column h))

-- by what is left of the column
pub row_left : (left : Ask → Option (List Pattern)) (ps : List Part) (column branch : ℕ) (x : Part) (a : Ask)
    (o : Option (List Pattern)) → column < length ps → get_or ps column x ≡ x → a ≡ ask (part_view x) → o ≡ left a
    → keep (option_map (placed column (parts_view ps)) o) branch []
    ≡ keep (narrowed left column (parts_view ps)) branch []
row_left left ps column branch x a o h at asks leaves =
    sym (ap (λ z. keep z branch []) (narrowed_here left ps column x h at
    ∙ ap (option_map (placed column (parts_view ps))) (sym (leaves ∙ ap left asks))))

-- the parts before the column and after it
pub parts_around : (ps before after : List Part) (column : ℕ) (inner : List Pattern) → before ≡ take column ps
    → after ≡ drop (column + 1) ps
    → parts_view before ++ (inner ++ parts_view after) ≡ placed column (parts_view ps) inner
parts_around ps before after column inner first second =
    let next : column + 1 ≡ suc column = omega arith in
    ap (λ us. parts_view us ++ (inner ++ parts_view after)) first
    ∙ (ap (λ us. us ++ (inner ++ parts_view after)) (sym (take-map part_view column ps))
    ∙ ap (λ us. take column (parts_view ps) ++ (inner ++ us))
    (ap parts_view second ∙ (ap (λ n. parts_view (drop n ps)) next ∙ sym (drop-map part_view (suc column) ps))))
