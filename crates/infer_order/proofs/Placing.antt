-- Where definitions stand, one after another.
use Rattle.std.proofs.Common.{◌≡◌, ℕ, zero, suc, ◌+◌, ◌≤◌, List, [], ◌∷◌, ◌++◌, length, take, refl}
use Rattle.std.proofs.Common.{sym, ap, ◌∙◌, arith, append_assoc, append-nil}
use Rattle.elm_canon.specs.Tree.{Group, functions_of, groups_of}
use Rattle.elm_canon.specs.View.{FunctionView}
use Rattle.type_items.specs.Definitions.{Definition}
use Rattle.type_items.specs.Uses.{used}
use Rattle.type_items.specs.Expressions.{titled, function_items, items, group_definitions, function_definitions}
use Rattle.type_items.specs.Expressions.{definitions}
use Rattle.infer_order.specs.Order.{spots_from, all_spots}

pub take_nothing : {X : Type 0} (xs : List X) → take 0 xs ≡ []
take_nothing [] = refl
take_nothing (x ∷ xs) = refl

pub take_whole : {X : Type 0} (xs : List X) (n : ℕ) → length xs ≤ n → take n xs ≡ xs
take_whole [] zero h = refl
take_whole [] (suc n) h = refl
take_whole (x ∷ xs) zero h = absurd (omega arith)
take_whole (x ∷ xs) (suc n) h = ap (λ l. x ∷ l) (take_whole xs n (omega arith))

spots_more : (g i j : ℕ) (ds : List Definition) (d : Definition) → i + length ds ≡ j
    → spots_from g i (ds ++ d ∷ []) ≡ spots_from g i ds ++ record { group = g; function = j; place = d.place } ∷ []
spots_more g i j [] d e =
    let f : i ≡ j = omega arith in ap (λ n. record { group = g; function = n; place = d.place } ∷ []) f
spots_more g i j (x ∷ xs) d e =
    ap (λ l. record { group = g; function = i; place = x.place } ∷ l) (spots_more g (i + 1) j xs d (omega arith))

functions_count : (vs : List FunctionView) → length (function_definitions (functions_of vs)) ≡ length vs
functions_count [] = refl
functions_count (v ∷ vs) = ap suc (functions_count vs)

functions_more : (vs : List FunctionView) (v : FunctionView)
    → function_definitions (functions_of (vs ++ v ∷ [])) ≡ function_definitions (functions_of vs) ++
    function_definitions (functions_of (v ∷ []))
functions_more [] v = refl
functions_more (x ∷ xs) v = ap (λ l. function_definitions (functions_of (x ∷ [])) ++ l) (functions_more xs v)

pub spots_next : (g j : ℕ) (vs : List FunctionView) (v : FunctionView) → length vs ≡ j
    → spots_from g 0 (function_definitions (functions_of (vs ++ v ∷ [])))
    ≡ spots_from g 0 (function_definitions (functions_of vs)) ++ record { group = g; function = j; place = v.0.place } ∷
    []
spots_next g j vs v e =
    ap (spots_from g 0) (functions_more vs v)
    ∙ spots_more g 0 j (function_definitions (functions_of vs))
    (titled v.0 (used v.2) (λ scope p w. function_items v.1 (items v.2) scope v.0.place p w))
    (omega (arith, functions_count vs, e))

pub all_more : (i j : ℕ) (gs : List Group) (g : Group) → i + length gs ≡ j
    → all_spots i (gs ++ g ∷ []) ≡ all_spots i gs ++ spots_from j 0 (group_definitions g)
all_more i j [] g e =
    let f : i ≡ j = omega arith in append-nil (spots_from i 0 (group_definitions g)) ∙ ap
    (λ n. spots_from n 0 (group_definitions g)) f
all_more i j (x ∷ xs) g e =
    ap (λ l. spots_from i 0 (group_definitions x) ++ l) (all_more (i + 1) j xs g (omega arith))
    ∙ sym (append_assoc (spots_from i 0 (group_definitions x)) (all_spots (i + 1) xs)
    (spots_from j 0 (group_definitions g)))

pub groups_defined : (gs : List Group) (g : Group)
    → definitions (groups_of (gs ++ g ∷ [])) ≡ definitions (groups_of gs) ++ group_definitions g
groups_defined [] g = append-nil (group_definitions g)
groups_defined (x ∷ xs) g =
    ap (λ l. group_definitions x ++ l) (groups_defined xs g)
    ∙ sym (append_assoc (group_definitions x) (definitions (groups_of xs)) (group_definitions g))

pub taken : {X : Type 0} (i : ℕ) (xs : List X) → i ≤ length xs → length (take i xs) ≡ i
taken zero xs h = ap length (take_nothing xs)
taken (suc i) [] h = absurd (omega arith)
taken (suc i) (x ∷ xs) h = ap suc (taken i xs (omega arith))
