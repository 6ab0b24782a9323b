-- A build has fewer than 2 ^ 32 modules.
use Rattle.std.proofs.Common.{◌≡◌, ℕ, suc, ◌^◌, ◌<◌, ◌≤◌, List, [], ◌∷◌, ◌++◌, length, map, Option, Some, None, Bool}
use Rattle.std.proofs.Common.{true, false, eqb, refl, sym, ap, subst, ◌∙◌, arith}
use Rattle.std.specs.Prelude.{slice_get}
use Rattle.std.specs.List.{AllByRecursion, Contains, IsDistinct, cons_option, filter_map, list_any}
use Rattle.std.proofs.lemmas.List.{length-append, length-map}
use Rattle.std.proofs.lemmas.List.Elements.{Contains-append_left, Contains-push}
use Rattle.std.proofs.lemmas.Map.Keys.{IsDistinct-cons}
use Rattle.std.proofs.lemmas.Map.Steps.{length-le_from_distinct_below}
use Rattle.core_modules.specs.Library.{core_library}
use Rattle.import_graph.specs.Order.{IsOrder, all_placed, next}
use Rattle.import_graph.specs.Graph.{AreNumbered, uses_of, used}
use Rattle.import_graph.specs.Modules.{Module}
use Rattle.project_parts.specs.Modules.{AreCoreModules, core_part, project_part, parts_of}
use Rattle.project_parts.specs.View.{part_view}
use Rattle.project_parts.specs.declared.parts.Part as program

-- ---- an order is no longer than there are modules

weaker : {P Q : ℕ → Type 0} → ((x : ℕ) → P x → Q x) → (xs : List ℕ) → AllByRecursion P xs → AllByRecursion Q xs
weaker h [] a = tt
weaker h (x ∷ xs) a = (h x a.0, weaker h xs a.1)

-- a module that is not placed yet
abbrev IsLeft : List (List ℕ) → List ℕ → ℕ → Type 0
IsLeft uses placed q = (q < length uses) × (Contains placed q → ⊥)

all_left : {uses : List (List ℕ)} {placed order : List ℕ} → IsOrder uses placed order
    → AllByRecursion (IsLeft uses placed) order
all_left (all_placed f) = tt
all_left {uses} {placed} (next {m = m} {rest = rest} n o) = (
  (n.ready.within, n.ready.not_placed),
  weaker (λ q h. (h.0, λ c. h.1 (Contains-append_left placed (m ∷ []) q c))) rest (all_left o),
)

other : (placed : List ℕ) (m q : ℕ) → (Contains (placed ++ m ∷ []) q → ⊥) → eqb m q ≡ false
other placed m q h = at (eqb m q) refl
  where
    at : (b : Bool) → eqb m q ≡ b → b ≡ false
    at false e = refl
    at true e =
        let same : m ≡ q = grind (arith, e) in
        absurd (h (subst (λ x. Contains (placed ++ m ∷ []) x) same (Contains-push placed m)))

none : IsDistinct eqb []
unfolding IsDistinct
none = tt

distinct : {uses : List (List ℕ)} {placed order : List ℕ} → IsOrder uses placed order → IsDistinct eqb order
distinct (all_placed f) = none
distinct {uses} {placed} (next {m = m} {rest = rest} n o) =
    IsDistinct-cons eqb m rest (weaker (λ q h. other placed m q h.1) rest (all_left o)) (distinct o)

among : (P : ℕ → Type 0) (xs : List ℕ) (q : ℕ) → AllByRecursion P xs → list_any (eqb q) xs ≡ true → P q
among P [] q a e = absurd cc
among P (x ∷ xs) q a e = at (eqb q x) refl (among P xs q a.1)
  where
    at : (b : Bool) → eqb q x ≡ b → (list_any (eqb q) xs ≡ true → P q) → P q
    at true f h = let same : x ≡ q = grind (arith, f) in subst P same a.0
    at false f h = h (let g : list_any (eqb q) (x ∷ xs) ≡ list_any (eqb q) xs = rw f refl in sym g ∙ e)

order_length : (uses : List (List ℕ)) (order : List ℕ) → IsOrder uses [] order → length order ≤ length uses
order_length uses order o =
    length-le_from_distinct_below order (length uses) (distinct o)
    (λ q e. (among (IsLeft uses []) order q (all_left o) e).0)

-- ---- the modules of a build

given_length : {X Y : Type 0} (f : X → Option Y) (xs : List X) → length (filter_map f xs) ≤ length xs
given_length f [] = omega arith
given_length {X} {Y} f (x ∷ xs) = at (f x) (given_length f xs)
  where
    at : (o : Option Y) → length (filter_map f xs) ≤ length xs
        → length (cons_option o (filter_map f xs)) ≤ suc (length xs)
    at None l = omega (arith, l)
    at (Some y) l = omega (arith, l)

core_length : (before cs : List (List ℕ × List ℕ)) (ms : List Module) → AreCoreModules before cs ms
    → length ms ≡ length cs
core_length before [] [] a = refl
core_length before [] (m ∷ ms) a = absurd a
core_length before (c ∷ cs) [] a = absurd a
core_length before (c ∷ cs) (m ∷ ms) a = ap suc (core_length (before ++ c ∷ []) cs ms a.1)

library_length : length core_library ≡ 14
library_length = refl

few_parts : (core ms : List Module) (order : List ℕ) → AreCoreModules [] core_library core → AreNumbered ms
    → IsOrder (uses_of ms) [] order → length (parts_of core ms order) < 2 ^ 32
few_parts core ms order are_core numbered is_order =
    let there = filter_map (slice_get ms) order in
    omega (
      arith,
      length-append (map core_part core) (map project_part there),
      length-map core core_part,
      length-map there project_part,
      core_length [] core_library core are_core,
      library_length,
      given_length (slice_get ms) order,
      order_length (uses_of ms) order is_order,
      length-map ms (λ m. filter_map (used ms) m.imports),
      numbered.few,
    )

-- as the program takes them
pub few_taken : (core given ms : List Module) (order : List ℕ) (xs ys : List program.Part)
    → AreCoreModules [] core_library core → AreNumbered ms → IsOrder (uses_of ms) [] order → given ≡ core
    → map part_view xs ≡ parts_of given ms order → ys ≡ xs → length ys < 2 ^ 32
few_taken core given ms order xs ys are_core numbered is_order e is f =
    let n = few_parts core ms order are_core numbered is_order in
    let same : map part_view xs ≡ parts_of core ms order = is ∙ ap (λ cs. parts_of cs ms order) e in
    omega (arith, n, ap length same, length-map xs part_view, ap length f)
