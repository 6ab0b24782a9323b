-- The walk of an annotated definition.
use Rattle.std.proofs.Common.{◌≡◌, ℕ, zero, suc, ◌+◌, ◌<◌, ◌≤◌, List, [], ◌∷◌, ◌++◌, length, Bool, true, false, inl, inr, refl, sym, ap, ◌∙◌, subst, arith}
use Rattle.std.specs.Prelude.{◌⊎◌}
use Rattle.std.specs.List.{AllByRecursion, Contains}
use Rattle.std.proofs.lemmas.List.Elements.{Contains-append_cases}
use Rattle.elm_base.specs.declared.position.Pos.{Pos}
use Rattle.elm_type.specs.Types.{Rigid, variable, variables}
use Rattle.elm_type.specs.Classes.{is_below}
use Rattle.elm_type.specs.Ground.{value, lacks_all, fits}
use Rattle.type_items.specs.Items.{Place, Wanted, Item}
use Rattle.type_items.specs.Solutions.{Avoids, Keep, Solves}
use Rattle.type_items.specs.Principal.{unscoped}
use Rattle.type_store.specs.Store.{Store, slot_at}
use Rattle.type_store.specs.Solutions.{Values, Fit, Says, Meets, constants_of}
use Rattle.type_store.specs.Shape.{IsStore}
use Rattle.type_store.specs.Laws.{EachChoiceFits}
use Rattle.type_store.proofs.RowsMeet.{and_both}
use Rattle.type_store.proofs.Classes.{below_itself}
use Rattle.type_store.proofs.Lacking.{constant_lacks, all_in_itself}
use Rattle.type_walks.specs.Regions.{Region, only}
use Rattle.type_walks.specs.Links.{Types, AreGround, Links, Linked, Live, AreLive, Later, Carries, IsClean, Clean, Away, Within}
use Rattle.type_walks.specs.Walks.{Around, Earlier, Filled, Onward, Determined, Walk}
use Rattle.type_walks.proofs.Linking.{live_later, all_live_later, clean_inside, solves_both, solves_first, unscoped_both}
use Rattle.type_walks.proofs.Cleaning.{all_both}
use Rattle.type_schemes.specs.Constants.{moved, Own, rigids, own_links, within, AreOwn, Opened, LoosenedAt, Kept, LetGo, Loosened, scope_items, Outer, IsBody}
use Rattle.type_schemes.specs.Laws.{Closes}
use Rattle.type_schemes.proofs.Moving.{below_there, kappa, kappa_own, kappa_other, kappa_class, kappa_lacks, kappa_renames, far, far_off, far_off_second, meets_with, fit_with}
use Rattle.type_schemes.proofs.Lifting.{depth_kept, kept_there, kept_other, lifted, lifted_fit, lifted_constants, lifted_low, lifted_clean}

linked_types : (d : ℕ) (s : Store) (links : Links) (σ τ : Values) (all : Types) → AreLive d s links → ((v : ℕ) → Live d s v → σ.types v ≡ τ.types v)
    → Linked links σ all → Linked links τ all
linked_types d s [] σ τ all live same h = tt
linked_types d s (l ∷ ls) σ τ all live same h = (sym (same l.0 live.0) ∙ h.0, linked_types d s ls σ τ all live.1 same h.1)

-- the variables of the constants have them
own_linked : (q : Place) (own : List Own) (τ : Values) (all : Types) → AllByRecursion (λ (o : Own). τ.types o.slot ≡ variable (moved q o.rigid)) own
    → Linked (own_links q own) τ all
own_linked q [] τ all h = tt
own_linked q (o ∷ os) τ all h = (h.0, own_linked q os τ all h.1)

all_two : {A : Type 0} (P Q R : A → Type 0) (xs : List A) → ((x : A) → P x → Q x → R x) → AllByRecursion P xs → AllByRecursion Q xs → AllByRecursion R xs
all_two P Q R [] f h k = tt
all_two P Q R (x ∷ xs) f h k = (f x h.0 k.0, all_two P Q R xs f h.1 k.1)

own_here : (p : Place) (own : List Own) (r : Rigid) → AllByRecursion (λ (o : Own). only p o.rigid.place ≡ true) own → Contains (rigids own) r
    → only p r.place ≡ true
own_here p [] r h (k, l, e) = absurd (omega arith)
own_here p (o ∷ os) r h (zero, l, e) = ap (λ (x : Rigid). only p x.place) (sym e) ∙ h.0
own_here p (o ∷ os) r h (suc k, l, e) = own_here p os r h.1 (k, omega arith, e)

-- ---- the items on scopes

unscoped_tail : (pos : Pos) (q : Place) (own : List Own) (outer : List Wanted) (type : Wanted) (all : Types)
    → Solves all (unscoped (scope_items pos q own outer type))
unscoped_tail pos q [] outer type all = (tt, tt)
unscoped_tail pos q (o ∷ os) outer type all = unscoped_tail pos q os outer type all

module _ (q : Place) (R : Region) (here : R q ≡ true) (under : (i : ℕ) (y : Place) → R (q ++ i ∷ y) ≡ true) where
  kept_one : (r : Rigid) (cs : List Rigid) → AllByRecursion (λ (c : Rigid). R c.place ≡ false) cs → AllByRecursion (Avoids (moved q r)) cs
  kept_one r [] h = tt
  kept_one r (c ∷ cs) h = (
    record {
      other = λ e _. (let x = ap R e in cc (h.0, here));
      not_below = λ i y e. (let x = ap R e in cc (h.0, under i y));
    },
    kept_one r cs h.1,
  )

  kept_outer : (r : Rigid) (all : Types) (outer : List Wanted) → AllByRecursion (λ t. IsClean R (value all t)) outer
      → AllByRecursion (λ t. Keep (moved q r) (value all t)) outer
  kept_outer r all [] h = tt
  kept_outer r all (t ∷ ts) h = (kept_one r (variables (value all t)) h.0, kept_outer r all ts h.1)

  kept_tail : (pos : Pos) (own : List Own) (outer : List Wanted) (type : Wanted) (all : Types) → AllByRecursion (λ t. IsClean R (value all t)) outer
      → Solves all (scope_items pos q own outer type)
  kept_tail pos [] outer type all h = (tt, tt)
  kept_tail pos (o ∷ os) outer type all h = (kept_outer o.rigid all outer h, kept_tail pos os outer type all h)

outer_clean : (d : ℕ) (s : Store) (links : Links) (R : Region) (σ : Values) (all : Types) (outer : List Wanted) → AllByRecursion (Outer d s links) outer
    → ((v : ℕ) → Live d s v → IsClean R (σ.types v)) → Linked links σ all → AllByRecursion (λ t. IsClean R (value all t)) outer
outer_clean d s links R σ all [] h clean linked = tt
outer_clean d s links R σ all (t ∷ ts) h clean linked =
    (subst (IsClean R) (h.0.has.same σ all linked) (clean h.0.slot h.0.live), outer_clean d s links R σ all ts h.1 clean linked)

module _ (choice_fits : EachChoiceFits) (a : Around) (p q : Place) (body all : Region) (items : List Item) (own : List Own) (outer : List Wanted)
    (type : Wanted) (pos : Pos) (s c s1 s' : Store) (links after : Links) (shape : IsStore s1) (known : Within a.constants s)
    (live : AreLive a.depth s links) (owned : AreOwn p a own) (region : IsBody q body all) (outers : AllByRecursion (Outer a.depth s links) outer)
    (opened : Opened a.depth p s own c) (walk : Walk (within a own) body items c (own_links q own ++ links) s1 after)
    (loose : Loosened a.depth p s1 s') where
  abbrev d : ℕ
  d = a.depth

  back_depth : (v : ℕ) → v < length s → (slot_at s1 v).depth ≤ (slot_at s v).depth
  back_depth v l =
      let x = opened.depth v l in
      let y = walk.later.depth v (omega (arith, opened.grows, l)) in
      omega arith

  other : (r : Rigid) → Contains (constants_of s) r → only p r.place ≡ false
  other r h = owned.new r (known.each r h)

  -- a constant of the body is one of before, or one of the definition
  from : (r : Rigid) → Contains (constants_of s1) r → only p r.place ≡ false → Contains (constants_of s) r
  from r h off = go (opened.constants r (walk.later.constants r h))
    where
      go : Contains (constants_of s) r ⊎ (only p r.place ≡ true) → Contains (constants_of s) r
      go (inl x) = x
      go (inr y) = absurd (cc)

  done_later : Later s s'
  done_later = record {
    grows = omega (arith, opened.grows, walk.later.grows, loose.count);
    depth = λ v l. (let x = depth_kept d p s1 s' loose v in let y = back_depth v l in omega arith);
    constants = λ r h. from r (kept_there d p s1 s' loose r h) (kept_other d p s1 s' loose r h);
  }

  live_in : (v : ℕ) → Live d s v → Live (d + 1) c v
  live_in v l =
      let x = opened.depth v l.inside in
      record { inside = omega (arith, opened.grows, l.inside); depth = omega (arith, x, l.depth) }

  low_in : (v : ℕ) → Live d s v → (slot_at s1 v).depth ≤ d
  low_in v l = let x = back_depth v l.inside in omega (arith, l.depth)

  module _ (σ : Values) (f : Fit σ s') (x : Place) (free : (r : Rigid) → Contains (constants_of s') r → x ≡ (σ.constants r).place → ⊥) where
    abbrev τ : Values
    τ = lifted d p s1 s' loose choice_fits shape σ f x free

    τ_fit : Fit τ s1
    τ_fit = lifted_fit d p s1 s' loose choice_fits shape σ f x free

    τ_constants : (r : Rigid) → τ.constants r ≡ kappa p x σ.constants r
    τ_constants = lifted_constants d p s1 s' loose choice_fits shape σ f x free

    τ_low : (v : ℕ) → (slot_at s1 v).depth ≤ d → τ.types v ≡ σ.types v
    τ_low = lifted_low d p s1 s' loose choice_fits shape σ f x free

    τ_own : AllByRecursion (λ (o : Own). τ.types o.slot ≡ variable (moved x o.rigid)) own
    τ_own =
        let w = walk.back τ τ_fit in
        let o = opened.back w.values w.fit in
        all_two (λ (o : Own). Live (d + 1) c o.slot) (λ (o : Own). (w.values.types o.slot ≡ variable (w.values.constants o.rigid)) × (only p o.rigid.place ≡ true))
        (λ (o : Own). τ.types o.slot ≡ variable (moved x o.rigid)) own
        (λ o l e. w.agree.types o.slot l ∙ (e.0 ∙ ap variable (sym (w.agree.constants o.rigid) ∙ (τ_constants o.rigid ∙ kappa_own p x σ.constants o.rigid e.1))))
        opened.live
        (all_two (λ (o : Own). w.values.types o.slot ≡ variable (w.values.constants o.rigid)) (λ (o : Own). only p o.rigid.place ≡ true)
        (λ (o : Own). (w.values.types o.slot ≡ variable (w.values.constants o.rigid)) × (only p o.rigid.place ≡ true)) own (λ o l e. (l, e)) o.1 owned.here)

  -- ---- back

  done_back : (σ : Values) → Fit σ s' → Earlier d s σ
  done_back σ f =
      let x = far σ.constants σ.constants (constants_of s') in
      let free = far_off σ.constants σ.constants (constants_of s') in
      let w = walk.back (τ σ f x free) (τ_fit σ f x free) in
      let o = opened.back w.values w.fit in
      record {
        values = record { types = w.values.types; constants = σ.constants };
        fit =
            fit_with s w.values σ.constants o.0 f.renames.class f.renames.lacks
            (λ r h. sym (w.agree.constants r) ∙ (τ_constants σ f x free r ∙ kappa_other p x σ.constants r (other r h)));
        agree = record {
          types = λ v l. sym (τ_low σ f x free v (low_in v l)) ∙ w.agree.types v (live_in v l);
          constants = λ r. refl;
        };
      }

  done_determined : (e v : ℕ) → e < d → Live e s' v → Determined e s s' v
  done_determined e v lt lv = record {
    same = λ σ ρ f g agree. (
        let x = far σ.constants ρ.constants (constants_of s') in
        let free = far_off σ.constants ρ.constants (constants_of s') in
        let free2 = far_off_second σ.constants ρ.constants (constants_of s') in
        let deep = depth_kept d p s1 s' loose v in
        let low : (slot_at s1 v).depth ≤ d = omega (arith, lv.depth) in
        let here : Live e s1 v = record { inside = omega (arith, loose.count, lv.inside); depth = omega (arith, lv.depth) } in
        let mid = λ (u : ℕ) (l : Live e c u). (
        let y = walk.later.depth u l.inside in
        let z : (slot_at s1 u).depth ≤ d = omega (arith, l.depth) in
        τ_low σ f x free u z ∙ (agree u (opened.old e u (omega (arith, lt)) l) ∙ sym (τ_low ρ g x free2 u z))) in
        sym (τ_low σ f x free v low)
        ∙ ((walk.determined e v (omega (arith, lt)) here).same (τ σ f x free) (τ ρ g x free2) (τ_fit σ f x free) (τ_fit ρ g x free2) mid
        ∙ τ_low ρ g x free2 v low));
  }

  -- ---- on

  no_body : (r : Place) → all r ≡ false → body r ≡ false
  no_body r h = go (body r) refl
    where
      go : (b : Bool) → body r ≡ b → b ≡ false
      go true e = absurd (let x = region.inside.each r e in cc)
      go false e = refl

  away_body : (τ : Values) (k : Rigid → Rigid) → ((r : Rigid) → τ.constants r ≡ kappa p q k r) → ((r : Rigid) → Contains a.constants r → all (k r).place ≡ false)
      → Away body (within a own).constants τ
  away_body τ k same off = record { each = λ r h. go r (Contains-append_cases (rigids own) a.constants r h) }
    where
      go : (r : Rigid) → Contains (rigids own) r ⊎ Contains a.constants r → body (τ.constants r).place ≡ false
      go r (inl h) = ap (λ (x : Rigid). body x.place) (same r ∙ kappa_own p q k r (own_here p own r owned.here h)) ∙ region.off
      go r (inr h) = ap (λ (x : Rigid). body x.place) (same r ∙ kappa_other p q k r (owned.new r h)) ∙ no_body (k r).place (off r h)

  not_q : (σ : Values) → Away all a.constants σ → (r : Rigid) → Contains (constants_of s) r → q ≡ (σ.constants r).place → ⊥
  not_q σ away r h e = (
      let x = away.each r (known.each r h) in
      let y = ap all e in
      let z = region.here in
      cc)

  done_sound : (σ : Values) → Fit σ s' → Away all a.constants σ → Filled a all (items ++ scope_items pos q own outer type) links s' links σ
  done_sound σ f away =
      let free = λ (r : Rigid) (h : Contains (constants_of s') r). not_q σ away r (done_later.constants r h) in
      let off = away_body (τ σ f q free) σ.constants (τ_constants σ f q free) away.each in
      let fill = walk.sound (τ σ f q free) (τ_fit σ f q free) off in
      let low = λ (ts : Types) (h : Linked links σ ts).
      all_both (λ (l : ℕ × Wanted). (τ σ f q free).types l.0 ≡ value ts l.1) (own_links q own) links
      (own_linked q own (τ σ f q free) ts (τ_own σ f q free))
      (linked_types d s links σ (τ σ f q free) ts live (λ v l. sym (τ_low σ f q free v (low_in v l))) h) in
      let part = λ (ts : Types) (h : Carries all ts fill.types) (r : Place) (e : body r ≡ true). h r (region.inside.each r e) in
      record {
        types = fill.types;
        ground = fill.ground;
        linked = λ ts h k. k;
        solves = λ ts h k.
            subst (Solves ts) (sym (unscoped_both items (scope_items pos q own outer type)))
            (solves_both ts (unscoped items) (unscoped (scope_items pos q own outer type)) (fill.solves ts (part ts h) (low ts k))
            (unscoped_tail pos q own outer type ts));
        kept = λ ts h k clean.
            solves_both ts items (scope_items pos q own outer type)
            (fill.kept ts (part ts h) (low ts k) (clean_body σ f away free clean))
            (kept_tail q all region.here (λ i y. region.under.each (q ++ i ∷ y) (below_there q i y)) pos own outer type ts
            (outer_clean d s links all σ ts outer outers (λ v l. clean.each v (live_later d d s s' v done_later (omega arith) l)) k));
      }
    where
      clean_body : (σ : Values) (f : Fit σ s') → Away all a.constants σ → (free : (r : Rigid) → Contains (constants_of s') r → q ≡ (σ.constants r).place → ⊥)
          → Clean d all s' σ → Clean (d + 1) body s1 (τ σ f q free)
      clean_body σ f away free clean = record {
        each = λ v l.
            lifted_clean d p s1 s' loose choice_fits shape σ f q free body region.root
            (λ u n low. (clean_inside d body all s' σ region.inside clean).each u
            (record { inside = omega (arith, loose.count, n); depth = (let x = depth_kept d p s1 s' loose u in omega (arith, low)) }))
            (λ r h. go r h (only p r.place) refl) v l.inside;
      }
        where
          go : (r : Rigid) → Contains (constants_of s1) r → (b : Bool) → only p r.place ≡ b → body ((τ σ f q free).constants r).place ≡ false
          go r h true e = ap (λ (x : Rigid). body x.place) (τ_constants σ f q free r ∙ kappa_own p q σ.constants r e) ∙ region.off
          go r h false e =
              ap (λ (x : Rigid). body x.place) (τ_constants σ f q free r ∙ kappa_other p q σ.constants r e)
              ∙ no_body (σ.constants r).place (away.each r (known.each r (from r h e)))

  done_complete : (σ : Values) (types : Types) → Fit σ s → AreGround types → Away all a.constants σ → Linked links σ types
      → Solves types (unscoped (items ++ scope_items pos q own outer type)) → Onward d s s' links σ types
  done_complete σ types f g away linked sol =
      let k = kappa p q σ.constants in
      let class = kappa_class p q σ.constants f.renames.class in
      let lacks = kappa_lacks p q σ.constants f.renames.lacks in
      let one = fit_with s σ k f class lacks (λ r h. sym (kappa_other p q σ.constants r (other r h))) in
      let ren = kappa_renames p q σ.constants (constants_of s) (constants_of c) f.renames (λ r h o. in_s r o (opened.constants r h)) (not_q σ away) in
      let two = opened.on (record { types = σ.types; constants = k }) one ren in
      let same = λ (v : ℕ) (l : Live d s v). two.2.types v l.inside in
      let own_two = all_two (λ (o : Own). two.0.types o.slot ≡ variable (two.0.constants o.rigid)) (λ (o : Own). only p o.rigid.place ≡ true)
      (λ (o : Own). two.0.types o.slot ≡ variable (moved q o.rigid)) own
      (λ o e h. e ∙ ap variable (sym (two.2.constants o.rigid) ∙ kappa_own p q σ.constants o.rigid h)) (opened.back two.0 two.1).1 owned.here in
      let all_linked = all_both (λ (l : ℕ × Wanted). two.0.types l.0 ≡ value types l.1) (own_links q own) links
      (own_linked q own two.0 types own_two) (linked_types d s links σ two.0 types live same linked) in
      let off = away_body two.0 σ.constants (λ r. sym (two.2.constants r)) away.each in
      let first = solves_first types (unscoped items) (unscoped (scope_items pos q own outer type))
      (subst (Solves types) (unscoped_both items (scope_items pos q own outer type)) sol) in
      let w = walk.complete two.0 types two.1 g off all_linked first in
      let agree = λ (v : ℕ) (l : Live d s v). same v l ∙ w.agree.types v (live_in v l) in
      record {
        values = record { types = w.values.types; constants = σ.constants };
        fit = record {
          renames = record {
            class = f.renames.class;
            lacks = f.renames.lacks;
            apart = λ r t a b e. f.renames.apart r t (done_later.constants r a) (done_later.constants t b) e;
          };
          each = λ v. meet σ w.values w.fit (λ r. sym (w.agree.constants r) ∙ sym (two.2.constants r)) v (loose.each v);
        };
        agree = record { types = agree; constants = λ r. refl };
        linked = linked_types d s links σ (record { types = w.values.types; constants = σ.constants }) types live agree linked;
      }
    where
      in_s : (r : Rigid) → only p r.place ≡ false → Contains (constants_of s) r ⊎ (only p r.place ≡ true) → Contains (constants_of s) r
      in_s r o (inl h) = h
      in_s r o (inr h) = absurd (cc)

      meet : (σ ω : Values) → Fit ω s1 → ((r : Rigid) → ω.constants r ≡ kappa p q σ.constants r) → (v : ℕ) → LoosenedAt d p s1 s' v
          → Meets (record { types = ω.types; constants = σ.constants }) (slot_at s' v) (ω.types v)
      meet σ ω f same v (Kept here other) =
          subst (λ y. Meets (record { types = ω.types; constants = σ.constants }) y (ω.types v)) (sym here)
          (meets_with ω σ.constants (slot_at s1 v) (ω.types v) (f.each v) (λ r e. same r ∙ kappa_other p q σ.constants r (other r e)))
      meet σ ω f same v (LetGo r here cell deep is) =
          let is_constant : ω.types v ≡ variable (ω.constants r) = subst (λ y. Says ω (ω.types v) y) cell (f.each v).cell in
          let value : ω.types v ≡ variable (moved q r) = is_constant ∙ ap variable (same r ∙ kappa_own p q σ.constants r here) in
          let fine : fits (record { class = r.class; lacks = r.lacks }) (variable (moved q r)) ≡ true =
          and_both (is_below r.class r.class) (lacks_all r.lacks (variable (moved q r))) (below_itself r.class)
          (constant_lacks r.lacks (moved q r) (all_in_itself r.lacks)) in
          subst (λ y. Meets (record { types = ω.types; constants = σ.constants }) y (ω.types v)) (sym is)
          (record { cell = tt; kind = ap (fits (record { class = r.class; lacks = r.lacks })) value ∙ fine; ground = (f.each v).ground })

  closed : Walk a all (items ++ scope_items pos q own outer type) s links s' links
  closed = record {
    later = done_later;
    live = λ h. all_live_later d s s' links done_later h;
    determined = done_determined;
    back = done_back;
    sound = done_sound;
    complete = done_complete;
  }

pub closes : EachChoiceFits → Closes
closes choice_fits a p q body all items own outer type pos s c s1 s' links after shape known live owned region outers opened walk loose =
    closed choice_fits a p q body all items own outer type pos s c s1 s' links after shape known live owned region outers opened walk loose
