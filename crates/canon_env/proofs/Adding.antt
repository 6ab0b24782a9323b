-- Names that are added one after the other.
use Rattle.std.proofs.Common.{◌≡◌, List, [], ◌∷◌, ◌++◌, Bool, true, false, cond, if◌then◌else◌, Some, refl, sym, ap}
use Rattle.std.proofs.Common.{◌∙◌}
use Rattle.std.proofs.lemmas.Cmp.{nat_list_eq_equiv}
use Rattle.std.proofs.lemmas.Slice.Eq.{bytes_eq-Decides}
use Rattle.indexmap.specs.IndexMap.{get}
use Rattle.elm_canon.specs.Names.{Name, same_name}
use Rattle.canon_env.specs.Found.{Found}
use Rattle.canon_env.specs.Space.{named_at, named_in, found_at, added, added_all}
use Rattle.canon_env.specs.declared.found.Named.{Named}
use Rattle.canon_env.specs.declared.space.Names.{Names}
use Rattle.canon_env.specs.declared.space.Space.{Space}

pub same_name-sym : (x y : Name) → same_name x y ≡ same_name y x
same_name-sym = nat_list_eq_equiv.symm

-- names that are the same are one list
pub one_name : (x y : Name) → same_name x y ≡ true → x ≡ y
one_name x y e = (bytes_eq-Decides x y).0 e

module _ {M : Type 0} where
  -- one more name
  pub added_all-append : (found : Found M) (x home : Name) (ns : List (Named M)) (n : Named M) →
      added_all found x home (ns ++ n ∷ [])
      ≡ (if same_name x n.name then added (added_all found x home ns) (record { home = home; meaning = n.meaning })
      else added_all found x home ns)
  added_all-append found x home [] n = refl
  added_all-append found x home (m ∷ ms) n =
      added_all-append (if same_name x m.name then added found (record { home = home; meaning = m.meaning }) else found)
      x home ms n

  -- the names with a qualifier are taken out, changed, and put back
  pub put_back : (old mid new : Space M) (taken names : Names M) (qualifier key home : Name) (ns : List (Named M)) →
      key ≡ qualifier → ((x : Name) → named_at taken x ≡ found_at old qualifier x) →
      ((q x : Name) → same_name q qualifier ≡ false → found_at mid q x ≡ found_at old q x) →
      ((x : Name) → named_at names x ≡ added_all (named_at taken x) x home ns) →
      ((q : Name) → get same_name new.by_qualifier q ≡ cond (same_name key q) (Some names) (get same_name mid.by_qualifier q)) →
      (q x : Name) →
      found_at new q x ≡ (if same_name q qualifier then added_all (found_at old q x) x home ns else found_at old q x)
  put_back old mid new taken names qualifier key home ns same take others change put q x =
      by (same_name q qualifier) refl
    where
      named : (b : Bool) → same_name q qualifier ≡ b →
          found_at new q x ≡ named_in (cond b (Some names) (get same_name mid.by_qualifier q)) x
      named b e =
          ap (λ o. named_in o x) (put q)
          ∙ ap (λ c. named_in (cond c (Some names) (get same_name mid.by_qualifier q)) x)
          (ap (λ k. same_name k q) same ∙ same_name-sym qualifier q ∙ e)

      by : (b : Bool) → same_name q qualifier ≡ b →
          found_at new q x ≡ (if b then added_all (found_at old q x) x home ns else found_at old q x)
      by true e =
          named true e ∙ change x ∙ ap (λ f. added_all f x home ns) (take x)
          ∙ ap (λ k. added_all (found_at old k x) x home ns) (sym (one_name q qualifier e))
      by false e = named false e ∙ others q x e
