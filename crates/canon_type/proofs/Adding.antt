-- Aliases that are added one after the other, each under its name if it is the first of that name.
use Rattle.std.proofs.Common.{◌≡◌, ℕ, suc, List, [], ◌∷◌, ◌++◌, Bool, true, false, if◌then◌else◌, Option, Some, None}
use Rattle.std.proofs.Common.{get_or, refl, sym, ap, ◌∙◌}
use Rattle.std.specs.Prelude.{option_map, is_some}
use Rattle.std.proofs.lemmas.Bool.{false≢true}
use Rattle.std.proofs.lemmas.Cmp.{nat_list_eq_equiv}
use Rattle.elm_canon.specs.Names.{Name, same_name}
use Rattle.elm_canon.specs.Tree.{AliasDeclaration}
use Rattle.canon_env.specs.Exposing.{is_among}
use Rattle.canon_env.specs.Shown.{TypeMeaning, alias_meaning}
use Rattle.canon_env.specs.declared.found.Named.{Named}
use Rattle.canon_env.proofs.Adding.{one_name}
use Rattle.canon_type.specs.Recursion.{place_among, place_of_name}
use Rattle.canon_type.specs.CanonAliasesKept.{first, Got, meaning_at, named, Tells}

-- got, and then the alias at a place
pub record Gains (old new : Got) (i : ℕ) (d : AliasDeclaration) : Type 0 where
  pub here : new i ≡ Some d
  pub others : (j : ℕ) → (j ≡ i → ⊥) → new j ≡ old j

first_other : (x y : Name) (d : AliasDeclaration) (ns : List (Named TypeMeaning)) → same_name x y ≡ false →
    first x (ns ++ named y d ∷ []) ≡ first x ns
first_other x y d [] e = ap (λ b. if b then Some (alias_meaning d) else None) e
first_other x y d (n ∷ ns) e = ap (λ o. if same_name x n.name then Some n.meaning else o) (first_other x y d ns e)

first_new : (x y : Name) (d : AliasDeclaration) (ns : List (Named TypeMeaning)) → same_name x y ≡ true →
    first x ns ≡ None → first x (ns ++ named y d ∷ []) ≡ Some (alias_meaning d)
first_new x y d [] e none = ap (λ b. if b then Some (alias_meaning d) else None) e
first_new x y d (n ∷ ns) e none = by (same_name x n.name) none (λ h. first_new x y d ns e h)
  where
    by : (b : Bool) → (if b then Some n.meaning else first x ns) ≡ None →
        (first x ns ≡ None → first x (ns ++ named y d ∷ []) ≡ Some (alias_meaning d)) →
        (if b then Some n.meaning else first x (ns ++ named y d ∷ [])) ≡ Some (alias_meaning d)
    by true h more = cc
    by false h more = more h

module _ (unions names : List Name) (old new : Got) (i : ℕ) (y : Name) (d : AliasDeclaration)
    (gains : Gains old new i d) (absent : old i ≡ None)
    (at_place : (x : Name) → place_among x names ≡ Some i → x ≡ y) (added : List (Named TypeMeaning))
    (h : Tells unions names old added) where
  -- at another place nothing changes
  elsewhere : (o : Option ℕ) → (o ≡ Some i → ⊥) → meaning_at o old ≡ meaning_at o new
  elsewhere None other = refl
  elsewhere (Some p) other = ap (option_map alias_meaning) (sym (gains.others p (λ e. other (ap Some e))))

  -- the first of its name, which no union has
  pub added_tells : place_of_name unions names y ≡ Some i → Tells unions names new (added ++ named y d ∷ [])
  added_tells is x apart = by (same_name x y) refl
    where
      by : (b : Bool) → same_name x y ≡ b → first x (added ++ named y d ∷ []) ≡ meaning_at (place_among x names) new
      by true e =
          let place : place_among x names ≡ Some i =
          ap (λ b. if b then None else place_among x names) (sym apart)
          ∙ ap (λ z. place_of_name unions names z) (one_name x y e) ∙ is in
          first_new x y d added e
          (h x apart ∙ ap (λ o. meaning_at o old) place ∙ ap (option_map alias_meaning) absent)
          ∙ sym (ap (λ o. meaning_at o new) place ∙ ap (option_map alias_meaning) gains.here)
      by false e =
          first_other x y d added e ∙ h x apart
          ∙ elsewhere (place_among x names)
          (λ p. false≢true (sym e ∙ ap (λ z. same_name x z) (sym (at_place x p)) ∙ nat_list_eq_equiv.refl x))

  -- another one of that name, or one with the name of a union
  pub hidden_tells : (place_of_name unions names y ≡ Some i → ⊥) → Tells unions names new added
  hidden_tells other x apart =
      h x apart
      ∙ elsewhere (place_among x names)
      (λ p. other (ap (λ z. place_of_name unions names z) (sym (at_place x p))
      ∙ ap (λ b. if b then None else place_among x names) apart ∙ p))

pub place_is : (x : Name) (names : List Name) (p : ℕ) (d : Name) → place_among x names ≡ Some p → x ≡ get_or names p d
place_is x [] p d e = cc
place_is x (y ∷ names) p d e = by (same_name y x) refl (place_among x names) refl e (λ q h. place_is x names q d h)
  where
    by : (b : Bool) → same_name y x ≡ b → (o : Option ℕ) → place_among x names ≡ o →
        (if b then Some 0 else option_map suc o) ≡ Some p →
        ((q : ℕ) → place_among x names ≡ Some q → x ≡ get_or names q d) → x ≡ get_or (y ∷ names) p d
    by true is o at h more =
        let zero_is : 0 ≡ p = cc in
        sym (one_name y x is) ∙ ap (λ n. get_or (y ∷ names) n d) zero_is
    by false is None at h more = cc
    by false is (Some q) at h more =
        let next : suc q ≡ p = cc in more q at ∙ ap (λ n. get_or (y ∷ names) n d) next
