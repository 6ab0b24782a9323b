-- The names of the modules of a build differ, and their texts are within the limit.
use Rattle.std.proofs.Common.{◌≡◌, ℕ, zero, suc, ◌+◌, ◌<◌, List, [], ◌∷◌, ◌++◌, length, map, take}
use Rattle.std.proofs.Common.{Some}
use Rattle.std.proofs.Common.{Bool, true, false, not, ◌&&◌, ⊎_elim, refl, sym, ap, subst, ◌∙◌, arith}
use Rattle.std.specs.Prelude.{slice_get, slice_index, option_map, nat_lt}
use Rattle.std.specs.Cmp.Lexicographic.{slice_cmp}
use Rattle.std.specs.Ordering.{nat_cmp, ordering_reverse}
use Rattle.std.specs.declared.cmp.Ordering.TheVariants.{Less, Greater}
use Rattle.std.specs.List.{AllByRecursion, filter_map, list_any, list_all}
use Rattle.std.specs.List.Sorted.{IsStrictlySortedBy}
use Rattle.std.specs.Str.{bytes_eq, IsUtf8}
use Rattle.std.proofs.lemmas.Bool.{cases_lt, false≢true}
use Rattle.std.proofs.lemmas.Cmp.{nat_list_cmp_total}
use Rattle.std.proofs.lemmas.List.Elements.{All-contains}
use Rattle.std.proofs.lemmas.Map.Keys.{sorted_head, sorted_tail, any_passes_from_place}
use Rattle.std.proofs.lemmas.Option.{slice_get-map}
use Rattle.std.proofs.lemmas.Slice.Eq.{bytes_eq-Decides}
use Rattle.std.proofs.lemmas.Bool.Decides.{nat_tests}
use Rattle.std.proofs.lemmas.Str.{IsUtf8-from_ascii}
use Rattle.core_modules.specs.Library.{core_library}
use Rattle.import_graph.specs.Order.{IsOrder}
use Rattle.import_graph.specs.Graph.{names_of}
use Rattle.import_graph.specs.Modules.{Module, Source}
use Rattle.import_graph.specs.Plain.{IsPlain}
use Rattle.project_parts.specs.Modules.{Part, core_names, core_part, project_part, parts_of, name_of}
use Rattle.project_parts.specs.Laws.{AreToBuild, HomesApart, Fits, Fit, IsBuild}
use Rattle.project_parts.proofs.Lower.{names, order_within, ordered}
use Rattle.project_parts.proofs.Naming.{core_at}
use Rattle.project_parts.proofs.Ordering.{ready_at}
use Rattle.project_parts.proofs.Placing.{Names, got_cases, given_got, got_member, mapped, image}
use Rattle.project_parts.proofs.Reached.{within_fits}
use Rattle.project_parts.proofs.Texts.{same_texts}

-- ---- lists without repeats

abbrev pub all_new : Names → Bool
all_new [] = true
all_new (x ∷ xs) = not (list_any (bytes_eq x) xs) && all_new xs

stands : (xs : Names) (k : ℕ) (x : List ℕ) → slice_get xs k ≡ Some x → list_any (bytes_eq x) xs ≡ true
stands xs k x e = any_passes_from_place (bytes_eq x) xs k x e ((bytes_eq-Decides x x).1 refl)

new_rest : (a b : Bool) → (not a && b) ≡ true → (a ≡ false) × (b ≡ true)
new_rest false b e = (refl, e)
new_rest true b e = absurd cc

pub new_apart : (xs : Names) (i j : ℕ) (x : List ℕ) → all_new xs ≡ true → slice_get xs i ≡ Some x
    → slice_get xs j ≡ Some x
    → i ≡ j
new_apart [] i j x a e f = absurd cc
new_apart (y ∷ ys) zero zero x a e f = refl
new_apart (y ∷ ys) zero (suc j) x a e f =
    let h : y ≡ x = cc in
    let n = (new_rest (list_any (bytes_eq y) ys) (all_new ys) a).0 in
    absurd (false≢true (sym n ∙ ap (λ z. list_any (bytes_eq z) ys) h ∙ stands ys j x f))
new_apart (y ∷ ys) (suc i) zero x a e f =
    let h : y ≡ x = cc in
    let n = (new_rest (list_any (bytes_eq y) ys) (all_new ys) a).0 in
    absurd (false≢true (sym n ∙ ap (λ z. list_any (bytes_eq z) ys) h ∙ stands ys i x e))
new_apart (y ∷ ys) (suc i) (suc j) x a e f =
    ap suc (new_apart ys i j x (new_rest (list_any (bytes_eq y) ys) (all_new ys) a).1 e f)

pub core_new : all_new core_names ≡ true
core_new = refl

-- ---- lists in ascending order

not_below : (x : List ℕ) → slice_cmp nat_cmp x x ≡ Less → ⊥
not_below x e =
    let h : Less ≡ Greater = sym e ∙ nat_list_cmp_total.antisymm x x ∙ ap ordering_reverse e in cc

below_at : (x y : List ℕ) (ys : Names) (k : ℕ) → AllByRecursion (λ z. slice_cmp nat_cmp x z ≡ Less) ys
    → slice_get ys k ≡ Some y → slice_cmp nat_cmp x y ≡ Less
below_at x y [] k a e = absurd cc
below_at x y (z ∷ zs) zero a e = let h : z ≡ y = cc in subst (λ w. slice_cmp nat_cmp x w ≡ Less) h a.0
below_at x y (z ∷ zs) (suc k) a e = below_at x y zs k a.1 e

ascending_apart : (xs : Names) (i j : ℕ) (x : List ℕ) → IsStrictlySortedBy (slice_cmp nat_cmp) xs
    → slice_get xs i ≡ Some x → slice_get xs j ≡ Some x → i ≡ j
ascending_apart [] i j x s e f = absurd cc
ascending_apart (y ∷ ys) zero zero x s e f = refl
ascending_apart (y ∷ ys) zero (suc j) x s e f =
    let h : y ≡ x = cc in
    absurd (not_below y (below_at y y ys j (sorted_head (slice_cmp nat_cmp) y ys s) (f ∙ ap Some (sym h))))
ascending_apart (y ∷ ys) (suc i) zero x s e f =
    let h : y ≡ x = cc in
    absurd (not_below y (below_at y y ys i (sorted_head (slice_cmp nat_cmp) y ys s) (e ∙ ap Some (sym h))))
ascending_apart (y ∷ ys) (suc i) (suc j) x s e f =
    ap suc (ascending_apart ys i j x (sorted_tail (slice_cmp nat_cmp) y ys s) e f)

-- ---- an order without repeats

take_got : {X : Type 0} (xs : List X) (n k : ℕ) (x : X) → k < n → slice_get xs k ≡ Some x
    → slice_get (take n xs) k ≡ Some x
take_got [] n k x l e = absurd cc
take_got (y ∷ ys) zero k x l e = absurd (omega (arith, l))
take_got (y ∷ ys) (suc n) zero x l e = e
take_got (y ∷ ys) (suc n) (suc k) x l e = take_got ys n k x (omega (arith, l)) e

order_apart : {uses : List (List ℕ)} {order : List ℕ} → IsOrder uses [] order → (i j m : ℕ) → slice_get order i ≡ Some m
    → slice_get order j ≡ Some m → i ≡ j
order_apart {uses} {order} o i j m e f =
    ⊎_elim (λ l. absurd ((ready_at o j m f).not_placed (got_member (take j order) i m (take_got order j i m l e))))
    (λ ge. ⊎_elim (λ l. absurd ((ready_at o i m e).not_placed (got_member (take i order) j m
    (take_got order i j m l f))))
    (λ le. omega (arith, ge, le)) (cases_lt j i)) (cases_lt i j)

-- ---- the modules of a build

both : (a b : Bool) → (a && b) ≡ true → (a ≡ true) × (b ≡ true)
both true b e = (refl, e)
both false b e = absurd cc

abbrev is_ascii : List ℕ → Bool
is_ascii x = list_all (λ c. nat_lt c 128) x

ascii_at : (x : List ℕ) → is_ascii x ≡ true → (i : ℕ) → slice_index x i < 128
ascii_at [] e i = omega arith
ascii_at (c ∷ cs) e zero =
    let w : nat_lt c 128 ≡ true = (both (nat_lt c 128) (is_ascii cs) e).0 in grind (arith, nat_tests)
ascii_at (c ∷ cs) e (suc i) = ascii_at cs (both (nat_lt c 128) (is_ascii cs) e).1 i

core_texts : list_all is_ascii core_names ≡ true
core_texts = refl

all_at : (xs : Names) (k : ℕ) (x : List ℕ) → list_all is_ascii xs ≡ true → slice_get xs k ≡ Some x → IsUtf8 x
all_at [] k x a e = absurd cc
all_at (y ∷ ys) zero x a e =
    let s : y ≡ x = cc in
    subst IsUtf8 s (IsUtf8-from_ascii y (ascii_at y (both (is_ascii y) (list_all is_ascii ys) a).0))
all_at (y ∷ ys) (suc k) x a e = all_at ys k x (both (is_ascii y) (list_all is_ascii ys) a).1 e

module _ (core ms : List Module) (order : List ℕ) (b : AreToBuild core ms order) where
  abbrev parts : List Part
  parts = parts_of core ms order

  abbrev there : List Module
  there = filter_map (slice_get ms) order

  plain_at : (n : ℕ) (m : Module) → slice_get ms n ≡ Some m → IsPlain core_names m
  plain_at n m e = All-contains (IsPlain core_names) ms m b.plain (got_member ms n m e)

  there_plain : (j : ℕ) (m : Module) → slice_get there j ≡ Some m → IsPlain core_names m
  there_plain j m e =
      let r = given_got ms order j m (order_within core ms order b) e in plain_at r.0 m r.2

  name_plain : (j : ℕ) (x : List ℕ) → slice_get (names_of there) j ≡ Some x
      → IsUtf8 x × (list_any (bytes_eq x) core_names ≡ false)
  name_plain j x e =
      let m = mapped (λ (y : Module). y.source.name) there j x e in
      let s = there_plain j m.0 m.1 in
      (subst IsUtf8 m.2 s.name, subst (λ y. list_any (bytes_eq y) core_names ≡ false) m.2 s.not_core)

  there_apart : (i j : ℕ) (x : List ℕ) → slice_get (names_of there) i ≡ Some x → slice_get (names_of there) j ≡ Some x
      → i ≡ j
  there_apart i j x e f =
      let m = mapped (λ (y : Module). y.source.name) there i x e in
      let n = mapped (λ (y : Module). y.source.name) there j x f in
      let r = given_got ms order i m.0 (order_within core ms order b) m.1 in
      let s = given_got ms order j n.0 (order_within core ms order b) n.1 in
      let same : r.0 ≡ s.0 =
      ascending_apart (names_of ms) r.0 s.0 x b.numbered.ascend
      (image (λ (y : Module). y.source.name) ms r.0 m.0 r.2 ∙ ap Some m.2)
      (image (λ (y : Module). y.source.name) ms s.0 n.0 s.2 ∙ ap Some n.2) in
      order_apart b.is_order i j s.0 (r.1 ∙ ap Some same) s.1

  abbrev all_names : Names
  all_names = core_names ++ names_of there

  names_apart : (i j : ℕ) (x : List ℕ) → slice_get all_names i ≡ Some x → slice_get all_names j ≡ Some x → i ≡ j
  names_apart i j x e f =
      got_cases core_names (names_of there) i x (i ≡ j) e
      (λ p. got_cases core_names (names_of there) j x (i ≡ j) f (λ q. new_apart core_names i j x core_new p q)
      (λ l here q. absurd (false≢true (sym (name_plain l x q).1 ∙ stands core_names i x p))))
      (λ k at p. got_cases core_names (names_of there) j x (i ≡ j) f
      (λ q. absurd (false≢true (sym (name_plain k x p).1 ∙ stands core_names j x q)))
      (λ l here q. at ∙ ap (λ n. length core_names + n) (there_apart k l x p q) ∙ sym here))

  name_text : (i : ℕ) (x : List ℕ) → slice_get all_names i ≡ Some x → IsUtf8 x
  name_text i x e =
      got_cases core_names (names_of there) i x (IsUtf8 x) e (λ p. all_at core_names i x core_texts p)
      (λ k at p. (name_plain k x p).0)

  part_named : (i : ℕ) (p : Part) → slice_get parts i ≡ Some p → slice_get all_names i ≡ Some (name_of p)
  part_named i p e =
      subst (λ xs. slice_get xs i ≡ Some (name_of p)) (names core ms order b)
      (slice_get-map name_of parts i ∙ ap (option_map name_of) e)

  pub apart : HomesApart parts
  apart i j p q e f same =
      let x = part_named i p e in
      let y = part_named j q f in
      let name : name_of p ≡ name_of q =
      same_texts (name_of p) (name_of q) (name_text i (name_of p) x) (name_text j (name_of q) y) same in
      names_apart i j (name_of q) (x ∙ ap Some name) y

  pub fitting : Fit parts
  fitting i p e =
      got_cases (map core_part core) (map project_part there) i p (Fits p.module_.source.text) e
      (λ h.
      let m = mapped core_part core i p h in
      let c = core_at [] core_library core b.are_core i m.0 m.1 in
      subst (λ (x : Part). Fits x.module_.source.text) m.2
      (subst Fits (sym (ap (λ (s : Source). s.text) c.2.source)) (within_fits c.0.1)))
      (λ j here h.
      let m = mapped project_part there j p h in
      subst (λ (x : Part). Fits x.module_.source.text) m.2 (there_plain j m.0 m.1).text)

  pub build : IsBuild parts
  build = record { ordered = ordered core ms order b; apart = apart; fit = fitting }
