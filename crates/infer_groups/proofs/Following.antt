-- After the body of a definition: its constants still are those of their variables. Where these were let go, the store
-- follows that of before.
use Rattle.std.proofs.Common.{◌≡◌, ℕ, ◌+◌, ◌<◌, ◌≤◌, List, [], ◌∷◌, length, true, false, inl, inr, refl, sym, ap, ◌∙◌}
use Rattle.std.proofs.Common.{arith}
use Rattle.std.specs.Prelude.{◌⊎◌}
use Rattle.std.specs.List.{AllByRecursion, Contains}
use Rattle.elm_type.specs.Types.{Rigid, variable}
use Rattle.type_items.specs.Items.{Place}
use Rattle.type_store.specs.Store.{Store, slot_at}
use Rattle.type_store.specs.Shape.{IsStore}
use Rattle.type_store.specs.Solutions.{Values, Fit, constants_of}
use Rattle.type_store.specs.Laws.{EachChoiceFits}
use Rattle.type_walks.specs.Regions.{only}
use Rattle.type_walks.specs.Links.{Live, Later}
use Rattle.type_walks.specs.Walks.{Earlier}
use Rattle.type_walks.proofs.Cleaning.{constant_there}
use Rattle.type_schemes.specs.Constants.{Own, rigids, Opened, Loosened, StillKept, Loosening, HaveOwn}
use Rattle.type_schemes.proofs.Moving.{kappa_other, far, far_off, fit_with}
use Rattle.type_schemes.proofs.Lifting.{depth_kept, kept_there, kept_other, lifted, lifted_fit, lifted_constants}
use Rattle.type_schemes.proofs.Lifting.{lifted_low}

all_two : {A : Type 0} (P Q R : A → Type 0) (xs : List A) → ((x : A) → P x → Q x → R x) → AllByRecursion P xs
    → AllByRecursion Q xs → AllByRecursion R xs
all_two P Q R [] f h k = tt
all_two P Q R (x ∷ xs) f h k = (f x h.0 k.0, all_two P Q R xs f h.1 k.1)

module _ (d : ℕ) (p : Place) (own : List Own) (s c s1 : Store)
    (clear : (r : Rigid) → Contains (constants_of s) r → only p r.place ≡ false)
    (opened : Opened d p s own c) (later : Later c s1) (back : (σ : Values) → Fit σ s1 → Earlier (d + 1) c σ) where
  pub have_own : HaveOwn s1 own
  have_own = record {
    each = λ σ f. (
        let w = back σ f in
        all_two (λ (o : Own). Live (d + 1) c o.slot)
        (λ (o : Own). w.values.types o.slot ≡ variable (w.values.constants o.rigid))
        (λ (o : Own). σ.types o.slot ≡ variable (σ.constants o.rigid)) own
        (λ o l e. w.agree.types o.slot l ∙ (e ∙ ap variable (sym (w.agree.constants o.rigid)))) opened.live
        (opened.back w.values w.fit).1);
  }

  pub none_gone : Loosening d p own s1 s1
  none_gone = record {
    count = refl;
    each = λ v. StillKept refl (λ r e here. go r here (opened.known r (later.constants r (constant_there s1 v r e))));
  }
    where
      go : (r : Rigid) → only p r.place ≡ true → Contains (constants_of s) r ⊎ Contains (rigids own) r
          → Contains (rigids own) r
      go r here (inl x) = absurd (let y = clear r x in cc)
      go r here (inr y) = y

  module _ (choice_fits : EachChoiceFits) (shape : IsStore s1) (s' : Store) (loose : Loosened d p s1 s') where
    back_depth : (v : ℕ) → v < length s → (slot_at s1 v).depth ≤ (slot_at s v).depth
    back_depth v l =
        let x = opened.depth v l in
        let y = later.depth v (omega (arith, opened.grows, l)) in
        omega arith

    from : (r : Rigid) → Contains (constants_of s1) r → only p r.place ≡ false → Contains (constants_of s) r
    from r h off = go (opened.constants r (later.constants r h))
      where
        go : Contains (constants_of s) r ⊎ (only p r.place ≡ true) → Contains (constants_of s) r
        go (inl x) = x
        go (inr y) = absurd cc

    pub done_later : Later s s'
    done_later = record {
      grows = omega (arith, opened.grows, later.grows, loose.count);
      depth = λ v l. (let x = depth_kept d p s1 s' loose v in let y = back_depth v l in omega arith);
      constants = λ r h. from r (kept_there d p s1 s' loose r h) (kept_other d p s1 s' loose r h);
    }

    live_in : (v : ℕ) → Live d s v → Live (d + 1) c v
    live_in v l =
        let x = opened.depth v l.inside in
        record { inside = omega (arith, opened.grows, l.inside); depth = omega (arith, x, l.depth) }

    low_in : (v : ℕ) → Live d s v → (slot_at s1 v).depth ≤ d
    low_in v l = let x = back_depth v l.inside in omega (arith, l.depth)

    pub done_back : (σ : Values) → Fit σ s' → Earlier d s σ
    done_back σ f =
        let x = far σ.constants σ.constants (constants_of s') in
        let free = far_off σ.constants σ.constants (constants_of s') in
        let w = back (lifted d p s1 s' loose choice_fits shape σ f x free)
        (lifted_fit d p s1 s' loose choice_fits shape σ f x free) in
        let o = opened.back w.values w.fit in
        record {
          values = record { types = w.values.types; constants = σ.constants };
          fit =
              fit_with s w.values σ.constants o.0 f.renames.class f.renames.lacks
              (λ r h. sym (w.agree.constants r)
              ∙ (lifted_constants d p s1 s' loose choice_fits shape σ f x free r ∙ kappa_other p x σ.constants r
              (clear r h)));
          agree = record {
            types = λ v l. sym (lifted_low d p s1 s' loose choice_fits shape σ f x free v (low_in v l)) ∙ w.agree.types
                v (live_in v l);
            constants = λ r. refl;
          };
        }
