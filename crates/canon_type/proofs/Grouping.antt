-- The aliases of a group, one after the other.
use Rattle.std.proofs.Common.{◌≡◌, ℕ, ◌+◌, ◌<◌, ◌≤◌, zero, suc, List, [], ◌∷◌, ◌++◌, Bool, true, false, ◌⊎◌, inl, inr, ⊎_elim}
use Rattle.std.proofs.Common.{length, map, take, get_or, refl, sym, ap, ◌∙◌, subst, arith}
use Rattle.std.specs.List.{Contains, All}
use Rattle.std.proofs.lemmas.Bool.{false≢true, cases_lt}
use Rattle.std.proofs.lemmas.List.{length-map}
use Rattle.std.proofs.Math.ListN.{get_or-eq_default}
use Rattle.decl_groups.specs.Groups.{Ascends, Uses, list_at, Reaches, here, IsReady}
use Rattle.decl_groups.proofs.Basics.{no_member, first_member, later_member, member_cases, ascends_head, ascends_tail}
use Rattle.decl_groups.specs.InOrder.{is_recursive, uses_itself, AreWithin}
use Rattle.decl_groups.proofs.Standing.{recursive_is, is_recursive_from, itself_from}
use Rattle.canon_env.specs.Imports.{name_of}
use Rattle.canon_type.specs.Written.{AliasTree, alias_names}
use Rattle.canon_type.specs.Recursion.{uses_of}
use Rattle.canon_type.proofs.Marks.{uses_within}
use Rattle.canon_type.specs.CanonAliasesKept.{Setting, uses_in}

pub at_member : (xs : List ℕ) (k d : ℕ) → k < length xs → Contains xs (get_or xs k d)
at_member [] k d l = absurd (omega (arith, l))
at_member (x ∷ xs) zero d l = first_member x xs
at_member (x ∷ xs) (suc k) d l = later_member x (get_or xs k d) xs (at_member xs k d (omega (arith, l)))

-- in an ascending list no item stands before itself
pub not_before : (xs : List ℕ) → Ascends xs → (k d : ℕ) → k < length xs → Contains (take k xs) (get_or xs k d) → ⊥
not_before [] a k d l m = absurd (omega (arith, l))
not_before (x ∷ xs) a zero d l m = no_member x m
not_before (x ∷ xs) a (suc k) d l m =
    let lk : k < length xs = omega (arith, l) in
    ⊎_elim
    (λ e. let b : x < get_or xs k d = ascends_head x (get_or xs k d) xs a (at_member xs k d lk) in omega (arith, b, e))
    (λ n. not_before xs (ascends_tail x xs a) k d lk n) (member_cases x (get_or xs k d) (take k xs) m)

pub single : (xs : List ℕ) (d : ℕ) → 1 ≤ length xs → length xs < 2 → xs ≡ get_or xs 0 d ∷ []
single [] d a b = absurd (omega (arith, a))
single (x ∷ []) d a b = refl
single (x ∷ y ∷ xs) d a b = absurd (omega (arith, b))

module _ (s : Setting) where
  pub aliases_within : AreWithin (uses_in s)
  aliases_within i j u =
      let many : length (alias_names s.aliases) ≡ length (uses_in s) =
      length-map s.aliases (λ (a : AliasTree). name_of a.name)
      ∙ sym (length-map s.aliases (uses_of s.names (alias_names s.aliases))) in
      ⊎_elim
      (λ l.
      let below : get_or (list_at (uses_in s) i) u.0 j < length (alias_names s.aliases) =
      uses_within s.names (alias_names s.aliases) s.aliases i [] l u.0 j u.1 in
      omega (arith, below, u.2, many))
      (λ past. absurd (no_member j (subst (λ xs. Contains xs j) (get_or-eq_default (uses_in s) [] past) u)))
      (cases_lt i (length (uses_in s)))

  module _ (placed group : List ℕ) (ready : IsReady (uses_in s) placed group) where
    pub loops : is_recursive (uses_in s) group ≡ true → (i : ℕ) → Contains group i → uses_itself (uses_in s) i ≡ true
    loops e i m = recursive_is (uses_in s) aliases_within group ready.is_group i m e

    no_true : (b : Bool) → (b ≡ true → ⊥) → b ≡ false
    no_true true f = absurd (f refl)
    no_true false f = refl

    pub no_loop : is_recursive (uses_in s) group ≡ false → (i : ℕ) → Contains group i →
        uses_itself (uses_in s) i ≡ false
    no_loop e i m =
        no_true (uses_itself (uses_in s) i)
        (λ t. false≢true (sym e ∙ is_recursive_from (uses_in s) aliases_within group ready.is_group i m t))

    -- what the only alias of a group uses is declared, if it does not use itself
    pub used_before : (i : ℕ) → group ≡ i ∷ [] → is_recursive (uses_in s) group ≡ false → (j : ℕ) →
        Uses (uses_in s) i j → Contains placed j
    used_before i only e j u =
        let m : Contains group i = subst (λ g. Contains g i) (sym only) (first_member i []) in
        ⊎_elim (λ p. p)
        (λ n.
        let same : i ≡ j =
        ⊎_elim (λ q. q) (λ k. absurd (no_member j k)) (member_cases i j [] (subst (λ g. Contains g j) only n)) in
        absurd (false≢true (sym (no_loop e i m)
        ∙ itself_from (uses_in s) aliases_within i i (subst (Uses (uses_in s) i) (sym same) u) here)))
        (ready.used i j m u)
