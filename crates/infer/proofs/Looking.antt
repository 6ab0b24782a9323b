-- What is found of names that stand once.
use Rattle.std.proofs.Common.{◌≡◌, List, [], ◌∷◌, ◌++◌, ⊎_elim, Bool, true, false, cond, Option, Some, None, map, refl, sym}
use Rattle.std.proofs.Common.{ap, ◌∙◌}
use Rattle.std.proofs.Common.{subst}
use Rattle.std.specs.List.{AllByRecursion, Contains}
use Rattle.std.specs.Map.{lookup}
use Rattle.std.specs.Option.{option_or}
use Rattle.std.proofs.lemmas.Map.Entries.{lookup_head, lookup_tail}
use Rattle.elm_canon.specs.Names.{same_ref}
use Rattle.elm_canon.specs.declared.reference.Ref.{Ref}
use Rattle.decl_groups.proofs.Basics.{no_member, first_member, later_member, member_cases}
use Rattle.infer_steps.proofs.Scoping.{one_ref}
use Rattle.infer.specs.Names.{EachOnce}
use Rattle.infer.proofs.Refs.{ref_itself}

module _ {X : Type 0} where
  -- the first one that passes, or one of the others
  pub lookup_on : (test : Ref → Bool) (es fs : List (Ref × X))
      → lookup test (es ++ fs) ≡ option_or (lookup test es) (lookup test fs)
  lookup_on test [] fs = refl
  lookup_on test (e ∷ es) fs = by (test e.0) refl (lookup_on test es fs)
    where
      by : (b : Bool) → test e.0 ≡ b → lookup test (es ++ fs) ≡ option_or (lookup test es) (lookup test fs)
          → lookup test (e ∷ (es ++ fs)) ≡ option_or (lookup test (e ∷ es)) (lookup test fs)
      by true h again =
          lookup_head test e (es ++ fs) h ∙ sym (ap (λ o. option_or o (lookup test fs)) (lookup_head test e es h))
      by false h again =
          lookup_tail test e (es ++ fs) h
          ∙ (again ∙ sym (ap (λ o. option_or o (lookup test fs)) (lookup_tail test e es h)))

  named_there : (es : List (Ref × X)) (x : Ref) (v : X) → Contains es (x, v)
      → Contains (map (λ (t : Ref × X). t.0) es) x
  named_there [] x v c = absurd (no_member (x, v) c)
  named_there (e ∷ es) x v c =
      ⊎_elim
      (λ h. subst (λ (t : Ref × X). Contains (map (λ (t : Ref × X). t.0) (e ∷ es)) t.0) h
      (first_member e.0 (map (λ (t : Ref × X). t.0) es)))
      (λ h. later_member e.0 x (map (λ (t : Ref × X). t.0) es) (named_there es x v h)) (member_cases e (x, v) es c)

  -- each is found by its name
  pub found : (es : List (Ref × X)) → EachOnce (map (λ (t : Ref × X). t.0) es) → (x : Ref) (v : X) → Contains es (x, v)
      → lookup (same_ref x) es ≡ Some v
  found [] h x v c = absurd (no_member (x, v) c)
  found (e ∷ es) h x v c =
      ⊎_elim
      (λ k. lookup_head (same_ref x) e es (ap (λ (t : Ref × X). same_ref x t.0) k ∙ ref_itself x)
      ∙ ap (λ (t : Ref × X). Some t.1) k)
      (λ k. by (same_ref x e.0) refl (named_there es x v k) (found es h.1 x v k)) (member_cases e (x, v) es c)
    where
      by : (b : Bool) → same_ref x e.0 ≡ b → Contains (map (λ (t : Ref × X). t.0) es) x
          → lookup (same_ref x) es ≡ Some v → lookup (same_ref x) (e ∷ es) ≡ Some v
      by true s k rest =
          absurd (h.0 (subst (Contains (map (λ (t : Ref × X). t.0) es)) (one_ref x e.0 s) k))
      by false s k rest = lookup_tail (same_ref x) e es s ∙ rest

  -- what holds of each holds of the one that is found
  pub of_found : (P : X → Type 0) (test : Ref → Bool) (es : List (Ref × X)) (v : X)
      → AllByRecursion (λ (t : Ref × X). P t.1) es → lookup test es ≡ Some v → P v
  of_found P test [] v h e = absurd cc
  of_found P test (t ∷ es) v h e = by (test t.0) refl (λ k. of_found P test es v h.1 k)
    where
      by : (b : Bool) → test t.0 ≡ b → (lookup test es ≡ Some v → P v) → P v
      by true s again =
          let is : Some t.1 ≡ Some v = sym (lookup_head test t es s) ∙ e in
          let same : t.1 ≡ v = cc in subst P same h.0
      by false s again = again (sym (lookup_tail test t es s) ∙ e)

  -- or something else, where none passes
  pub lookup_else : (test : Ref → Bool) (es : List (Ref × X)) → option_or (lookup test es) None ≡ lookup test es
  lookup_else test es = by (lookup test es)
    where
      by : (o : Option X) → option_or o None ≡ o
      by None = refl
      by (Some x) = refl

  -- the last one stands before what else there is
  pub lookup_last : (test : Ref → Bool) (es : List (Ref × X)) (e : Ref × X) (other : Option X)
      → option_or (lookup test (es ++ e ∷ [])) other
      ≡ option_or (lookup test es) (cond (test e.0) (Some e.1) other)
  lookup_last test es e other =
      ap (λ o. option_or o other) (lookup_on test es (e ∷ []))
      ∙ (three (lookup test es) (lookup test (e ∷ [])) ∙ ap (option_or (lookup test es)) (by (test e.0) refl))
    where
      three : (o p : Option X) → option_or (option_or o p) other ≡ option_or o (option_or p other)
      three None p = refl
      three (Some x) p = refl

      by : (b : Bool) → test e.0 ≡ b → option_or (lookup test (e ∷ [])) other ≡ cond (test e.0) (Some e.1) other
      by true h =
          ap (λ o. option_or o other) (lookup_head test e [] h) ∙ sym (ap (λ b. cond b (Some e.1) other) h)
      by false h =
          ap (λ o. option_or o other) (lookup_tail test e [] h) ∙ sym (ap (λ b. cond b (Some e.1) other) h)
