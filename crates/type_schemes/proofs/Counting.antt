-- The sizes that are known, one after the other.
use Rattle.std.proofs.Common.{◌≡◌, ℕ, ◌+◌, ◌<◌, List, [], ◌∷◌, length, take, get_or, reverse, min, Bool, true, false, cond, nat_eq, Some, ⊎_elim, refl, sym, ap, ◌∙◌, subst, arith}
use Rattle.std.specs.List.{All, AllByRecursion}
use Rattle.std.specs.HashMap as hash
use Rattle.std.specs.HashMap.{HashMap}
use Rattle.std.proofs.lemmas.Bool.{eqb-true, eq-eqb}
use Rattle.std.proofs.lemmas.List.Elements.{recursion_from_All, All-from_recursion}
use Rattle.type_store.specs.Store.{Store, slot_at}
use Rattle.type_store.specs.Shape.{IsStore, parts_of}
use Rattle.type_schemes.specs.Ends.{end_of}
use Rattle.type_schemes.specs.Order.{IsListed, IsReady, PartsFirst}
use Rattle.type_schemes.specs.Reading.{read_in, read_cell}
use Rattle.type_schemes.specs.Bases.{base, most, type_in, HasBase}
use Rattle.type_schemes.proofs.Types.{listed_last, listed_cases, listed_taken, first_taken, taken_more, read_is}

module _ {S : Type 0} (s : Store) (whole : IsStore s) (vs : List ℕ) (first : PartsFirst 0 s (reverse vs)) (bases : HashMap ℕ ℕ S) (n d : ℕ) (l : n < length vs)
    (has : (v : ℕ) → IsListed (reverse (take n vs)) v → hash.get nat_eq bases v ≡ Some (min (base (read_in s (reverse vs) v)) most)) where
  abbrev u : ℕ
  u = get_or vs n d

  next : PartsFirst 0 s (u ∷ reverse (take n vs))
  next = subst (PartsFirst 0 s) (taken_more vs n d l) (first_taken 0 s vs (n + 1) first)

  pub next_inside : u < length s
  next_inside = next.0.inside

  pub next_free : Rattle.type_store.specs.Steps.is_bound (slot_at s u).cell ≡ false
  next_free = next.0.end

  next_listed : IsListed (reverse vs) u
  next_listed = listed_taken vs (n + 1) u (subst (λ xs. IsListed xs u) (sym (taken_more vs n d l)) (listed_last u (reverse (take n vs))))

  have : (ws : List ℕ) → AllByRecursion (λ w. w < length s) ws → AllByRecursion (IsReady 0 s (reverse (take n vs))) ws → AllByRecursion (HasBase s (reverse vs) bases) ws
  have [] i r = tt
  have (w ∷ ws) i r = (
    record {
      inside = i.0;
      listed = listed_taken vs n (end_of s w) (r.0 (omega arith));
      has = has (end_of s w) (r.0 (omega arith));
    },
    have ws i.1 r.1,
  )

  -- the sizes of its parts are known
  pub parts_known : All (HasBase s (reverse vs) bases) (parts_of (slot_at s u).cell)
  parts_known =
      All-from_recursion (HasBase s (reverse vs) bases) (parts_of (slot_at s u).cell)
      (have (parts_of (slot_at s u).cell) (recursion_from_All (λ w. w < length s) (parts_of (slot_at s u).cell) (whole.each u next.0.inside).inside) next.0.parts)

  -- and its own then
  module _ (after : HashMap ℕ ℕ S) (size : ℕ) (is : size ≡ min (base (read_cell (type_in s (reverse vs)) u (slot_at s u).cell)) most)
      (more : (q : ℕ) → hash.get nat_eq after q ≡ cond (nat_eq u q) (Some size) (hash.get nat_eq bases q)) where
    own : Some size ≡ Some (min (base (read_in s (reverse vs) u)) most)
    own = ap Some (is ∙ ap (λ t. min (base t) most) (sym (read_is s (reverse vs) u first next_listed)))

    pub has_more : (v : ℕ) → IsListed (reverse (take (n + 1) vs)) v → hash.get nat_eq after v ≡ Some (min (base (read_in s (reverse vs) v)) most)
    has_more v h = more v ∙ go (nat_eq u v) refl
      where
        go : (b : Bool) → nat_eq u v ≡ b → cond b (Some size) (hash.get nat_eq bases v) ≡ Some (min (base (read_in s (reverse vs) v)) most)
        go true e = subst (λ w. Some size ≡ Some (min (base (read_in s (reverse vs) w)) most)) (eqb-true u v e) own
        go false e =
            ⊎_elim (λ k. absurd (let x = sym e ∙ eq-eqb u v k in cc)) (λ k. has v k)
            (listed_cases u (reverse (take n vs)) v (subst (λ xs. IsListed xs v) (taken_more vs n d l) h))
