-- The parts that the code finds.
use Rattle.std.proofs.Common.{◌≡◌, ℕ, ◌+◌, ◌<◌, ◌≤◌, List, [], ◌∷◌, ◌++◌, length, map, take, get_or, true, false, cond, Option, Some, None, sym, ap, ◌∙◌, arith}
use Rattle.std.specs.Prelude.{nat_le}
use Rattle.std.specs.List.{All}
use Rattle.std.proofs.lemmas.Bool.Decides.{nat_tests}
use Rattle.std.proofs.lemmas.List.{take_more, take_all, map_push}
use Rattle.type_store.specs.Store.{Store, slot_at}
use Rattle.type_store.specs.Shape.{IsStore}
use Rattle.type_store.specs.Steps.{Leads, is_bound}
use Rattle.type_walks.specs.Frozen.{Inner, Outer}
use Rattle.type_schemes.specs.Ends.{end_of}
use Rattle.type_schemes.specs.Order.{number_in, IsReady}
use Rattle.type_schemes.proofs.Ends.{end_is}
use Rattle.type_schemes.specs.Cells.{numbered, part_in, CanName}

module _ (d : ℕ) (s : Store) (whole : IsStore s) (w at : ℕ) (leads : Leads s w at) (free : is_bound (slot_at s at).cell ≡ false) where
  ends : end_of s w ≡ at
  ends = end_is s whole w at leads free

  pub low_part : (N : ℕ → Option ℕ) → (slot_at s at).depth ≤ d → Outer at ≡ part_in d s N w
  unfolding part_in
  low_part N l =
      let e : nat_le (slot_at s at).depth d ≡ true = grind (arith, nat_tests) in
      sym (ap (λ u. cond (nat_le (slot_at s u).depth d) (Outer u) (numbered (N u))) ends ∙ ap (λ b. cond b (Outer at) (numbered (N at))) e)

  pub high_part : (N : ℕ → Option ℕ) (i : ℕ) → d < (slot_at s at).depth → N at ≡ Some i → Inner i ≡ part_in d s N w
  unfolding part_in
  high_part N i l n =
      let e : nat_le (slot_at s at).depth d ≡ false = grind (arith, nat_tests) in
      sym (ap (λ u. cond (nat_le (slot_at s u).depth d) (Outer u) (numbered (N u))) ends
      ∙ (ap (λ b. cond b (Outer at) (numbered (N at))) e ∙ ap numbered n))

  pub high_listed : (older : List ℕ) → IsReady (d + 1) s older w → d < (slot_at s at).depth → number_in older at ≡ None → ⊥
  high_listed older ready l n =
      let e = ap (λ u. (slot_at s u).depth) ends in
      let r = ready (omega (arith, e, l)) in
      let x = sym n ∙ (ap (number_in older) (sym ends) ∙ r.1) in cc

pub name_at : (d : ℕ) (s : Store) (older ws : List ℕ) (i : ℕ) → All (CanName d s older) ws → i < length ws → CanName d s older (get_or ws i 0)
name_at d s older ws i h l = Rattle.std.proofs.lemmas.List.Elements.All-get_or (CanName d s older) ws i 0 l h

-- one more is made
pub made_more : {X Y Z : Type 0} (view : X → Z) (f : Y → Z) (made now : List X) (x : X) (ys : List Y) (i : ℕ) (d : Y) → i < length ys
    → map view made ≡ map f (take i ys) → now ≡ made ++ x ∷ [] → view x ≡ f (get_or ys i d) → map view now ≡ map f (take (i + 1) ys)
made_more view f made now x ys i d l a b e =
    ap (map view) b
    ∙ (map_push view made x
    ∙ (ap (λ zs. zs ++ view x ∷ []) a
    ∙ (ap (λ z. map f (take i ys) ++ z ∷ []) e
    ∙ sym (ap (map f) (take_more ys i d l) ∙ map_push f (take i ys) (get_or ys i d)))))

pub made_all : {X Y Z : Type 0} (view : X → Z) (f : Y → Z) (made : List X) (ys : List Y) (i : ℕ) → length ys ≤ i
    → map view made ≡ map f (take i ys) → map view made ≡ map f ys
made_all view f made ys i l a = a ∙ ap (map f) (take_all i ys l)
