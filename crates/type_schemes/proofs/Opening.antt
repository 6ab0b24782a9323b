-- Constants are made one after another.
use Rattle.std.proofs.Common.{◌≡◌, ℕ, ◌+◌, ◌<◌, ◌≤◌, List, [], ◌∷◌, ◌++◌, length, true, inl, inr, refl, sym, ap, ◌∙◌, subst, arith}
use Rattle.std.specs.Prelude.{◌⊎◌}
use Rattle.std.specs.List.{AllByRecursion, Contains}
use Rattle.std.proofs.lemmas.Bool.{cases_lt}
use Rattle.std.proofs.lemmas.List.{length_push}
use Rattle.std.proofs.lemmas.List.Elements.{All-nil, Contains-append_left, Contains-push}
use Rattle.elm_type.specs.Types.{Rigid, variable}
use Rattle.type_items.specs.Items.{Place}
use Rattle.type_store.specs.Store.{Constant, Slot, Store, slot_at}
use Rattle.type_store.specs.Solutions.{Values, Fit, AgreeBelow, Renames, constants_of}
use Rattle.type_store.specs.Shape.{IsStore}
use Rattle.type_store.specs.Steps.{put}
use Rattle.type_store.proofs.Parts.{slot_past}
use Rattle.type_store.proofs.Turns.{Which, Yes, Not, which, slot_pushed, slot_before, renames_fewer}
use Rattle.type_store.proofs.NewSlot.{glued, glued_off}
use Rattle.type_store.proofs.Extending.{made_back, made_on}
use Rattle.type_walks.specs.Regions.{only}
use Rattle.type_walks.specs.Links.{Live}
use Rattle.type_walks.proofs.Cleaning.{constant_there, stored}
use Rattle.type_schemes.specs.Constants.{Own, rigids, Opened}
use Rattle.type_schemes.specs.Laws.{OpensNone, IsNew, OpensOneMore}

pub opens_none : OpensNone
opens_none d p s = record {
  grows = omega arith;
  depth = λ v l. omega arith;
  constants = λ r h. inl h;
  known = λ r h. inl h;
  live = tt;
  old = λ e v l h. h;
  back = λ σ f. (f, tt);
  on = λ σ f r. (σ, f, record { types = λ v l. refl; constants = λ t. refl });
}

pub is_new : IsNew
is_new d p s between own r opened off here fresh h = go (opened.known r h)
  where
    go : Contains (constants_of s) r ⊎ Contains (rigids own) r → ⊥
    go (inl x) = (let y = off r x in cc)
    go (inr y) = fresh y

-- ---- lists of constants

all_pushed : {A : Type 0} (P : A → Type 0) (xs : List A) (x : A) → AllByRecursion P xs → P x → AllByRecursion P (xs ++ x ∷ [])
all_pushed P [] x h k = (k, tt)
all_pushed P (y ∷ ys) x h k = (h.0, all_pushed P ys x h.1 k)

all_weaker : {A : Type 0} (P Q : A → Type 0) (xs : List A) → ((x : A) → P x → Q x) → AllByRecursion P xs → AllByRecursion Q xs
all_weaker P Q [] f h = tt
all_weaker P Q (x ∷ xs) f h = (f x h.0, all_weaker P Q xs f h.1)

all_both : {A : Type 0} (P Q R : A → Type 0) (xs : List A) → ((x : A) → P x → Q x → R x) → AllByRecursion P xs → AllByRecursion Q xs → AllByRecursion R xs
all_both P Q R [] f h k = tt
all_both P Q R (x ∷ xs) f h k = (f x h.0 k.0, all_both P Q R xs f h.1 k.1)

rigids_pushed : (own : List Own) (o : Own) → rigids (own ++ o ∷ []) ≡ rigids own ++ o.rigid ∷ []
rigids_pushed [] o = refl
rigids_pushed (x ∷ xs) o = ap (λ rs. x.rigid ∷ rs) (rigids_pushed xs o)

same_renames : (list : List Rigid) (f g : Rigid → Rigid) → ((r : Rigid) → f r ≡ g r) → Renames list f → Renames list g
same_renames list f g e h = record {
  class = λ r. ap (λ (x : Rigid). x.class) (sym (e r)) ∙ h.class r;
  lacks = λ r. ap (λ (x : Rigid). x.lacks) (sym (e r)) ∙ h.lacks r;
  apart = λ r t a b q. h.apart r t a b (e r ∙ (q ∙ sym (e t)));
}

-- a constant is an old one, or the new one
pub one_of : (depth : ℕ) (between : Store) (r t : Rigid) → Contains (constants_of (between ++ put (Constant r) depth ∷ [])) t
    → Contains (constants_of between) t ⊎ (t ≡ r)
one_of depth between r t h =
    let last = between ++ put (Constant r) depth ∷ [] in
    let at = stored last t h in
    go at.variable at.is (which at.variable (length between)) (cases_lt at.variable (length between))
  where
    go : (v : ℕ) → (slot_at (between ++ put (Constant r) depth ∷ []) v).cell ≡ Constant t → Which v (length between) → (v < length between) ⊎ (length between ≤ v)
        → Contains (constants_of between) t ⊎ (t ≡ r)
    go v e (Yes q) o =
        inr (let x : Constant r ≡ Constant t =
        ap (λ (y : Slot). y.cell) (sym (slot_pushed between (put (Constant r) depth))) ∙ (ap (λ u. (slot_at (between ++ put (Constant r) depth ∷ []) u).cell) (sym q) ∙ e) in cc)
    go v e (Not m) (inl l) = inl (constant_there between v t (ap (λ (y : Slot). y.cell) (sym (slot_before between (put (Constant r) depth) v l)) ∙ e))
    go v e (Not m) (inr g) =
        absurd (let x = ap (λ (y : Slot). y.cell) (sym (slot_past (between ++ put (Constant r) depth ∷ []) v (omega (arith, g, m, length_push between (put (Constant r) depth))))) ∙ e in cc)

module _ (d : ℕ) (p : Place) (s between : Store) (own : List Own) (r : Rigid) (whole : IsStore between) (opened : Opened d p s own between)
    (here : only p r.place ≡ true) where
  abbrev n : ℕ
  n = length between

  abbrev cell_slot : Slot
  cell_slot = put (Constant r) (d + 1)

  abbrev last : Store
  last = between ++ put (Constant r) (d + 1) ∷ []

  abbrev new : Own
  new = record { rigid = r; slot = n }

  longer : length last ≡ n + 1
  longer = length_push between cell_slot

  at_end : slot_at last n ≡ cell_slot
  at_end = slot_pushed between cell_slot

  at_old : (v : ℕ) → v < n → slot_at last v ≡ slot_at between v
  at_old v l = slot_before between cell_slot v l

  -- and an old one is one still
  still : (t : Rigid) → Contains (constants_of between) t → Contains (constants_of last) t
  still t h = go (stored between t h).variable (stored between t h).is (cases_lt (stored between t h).variable n)
    where
      go : (v : ℕ) → (slot_at between v).cell ≡ Constant t → (v < n) ⊎ (n ≤ v) → Contains (constants_of (between ++ put (Constant r) (d + 1) ∷ [])) t
      go v e (inl l) = constant_there last v t (ap (λ (y : Slot). y.cell) (at_old v l) ∙ e)
      go v e (inr g) = absurd (let x = ap (λ (y : Slot). y.cell) (sym (slot_past between v g)) ∙ e in cc)

  known_now : (t : Rigid) → Contains (constants_of last) t → Contains (constants_of s) t ⊎ Contains (rigids (own ++ new ∷ [])) t
  known_now t h = go (one_of (d + 1) between r t h)
    where
      old : Contains (constants_of s) t ⊎ Contains (rigids own) t → Contains (constants_of s) t ⊎ Contains (rigids (own ++ new ∷ [])) t
      old (inl x) = inl x
      old (inr y) = inr (subst (λ rs. Contains rs t) (sym (rigids_pushed own new)) (Contains-append_left (rigids own) (r ∷ []) t y))

      go : Contains (constants_of between) t ⊎ (t ≡ r) → Contains (constants_of s) t ⊎ Contains (rigids (own ++ new ∷ [])) t
      go (inl x) = old (opened.known t x)
      go (inr e) = inr (subst (λ rs. Contains rs t) (sym (rigids_pushed own new)) (subst (Contains (rigids own ++ r ∷ [])) (sym e) (Contains-push (rigids own) r)))

  constants_now : (t : Rigid) → Contains (constants_of last) t → Contains (constants_of s) t ⊎ (only p t.place ≡ true)
  constants_now t h = go (one_of (d + 1) between r t h)
    where
      go : Contains (constants_of between) t ⊎ (t ≡ r) → Contains (constants_of s) t ⊎ (only p t.place ≡ true)
      go (inl x) = opened.constants t x
      go (inr e) = inr (ap (λ (x : Rigid). only p x.place) e ∙ here)

  live_now : AllByRecursion (λ (o : Own). Live (d + 1) last o.slot) (own ++ new ∷ [])
  live_now =
      all_pushed (λ (o : Own). Live (d + 1) last o.slot) own new
      (all_weaker (λ (o : Own). Live (d + 1) between o.slot) (λ (o : Own). Live (d + 1) last o.slot) own
      (λ o l. record { inside = omega (arith, longer, l.inside); depth = (let x = ap (λ (y : Slot). y.depth) (at_old o.slot l.inside) in omega (arith, x, l.depth)) })
      opened.live)
      (record { inside = omega (arith, longer); depth = (let x = ap (λ (y : Slot). y.depth) at_end in omega (arith, x)) })

  old_now : (e v : ℕ) → e ≤ d → Live e last v → Live e s v
  old_now e v l h = go (which v n)
    where
      go : Which v n → Live e s v
      go (Yes q) = absurd (let x = ap (λ u. (slot_at last u).depth) q ∙ ap (λ (y : Slot). y.depth) at_end in omega (arith, x, l, h.depth))
      go (Not m) =
          let i : v < n = omega (arith, longer, m, h.inside) in
          let x = ap (λ (y : Slot). y.depth) (at_old v i) in
          opened.old e v l (record { inside = i; depth = omega (arith, x, h.depth) })

  back_now : (σ : Values) → Fit σ last → Fit σ s × AllByRecursion (λ (o : Own). σ.types o.slot ≡ variable (σ.constants o.rigid)) (own ++ new ∷ [])
  back_now σ f =
      let b = made_back between (Constant r) (d + 1) σ f in
      let o = opened.back σ b.0 in
      (o.0, all_pushed (λ (o : Own). σ.types o.slot ≡ variable (σ.constants o.rigid)) own new o.1 b.1)

  on_now : (σ : Values) → Fit σ s → Renames (constants_of last) σ.constants → (τ : Values) × Fit τ last × AgreeBelow (length s) σ τ
  on_now σ f names =
      let one = opened.on σ f (renames_fewer (constants_of last) (constants_of between) σ.constants still names) in
      let t = variable (one.0.constants r) in (
        glued n one.0 t,
        made_on between (Constant r) (d + 1) whole (All-nil (λ w. w < n)) one.0 t one.1 refl refl
            (same_renames (constants_of last) σ.constants one.0.constants one.2.constants names),
        record {
          types = λ v l. one.2.types v l ∙ sym (glued_off n one.0 t v (λ e. omega (arith, opened.grows, l, e)));
          constants = one.2.constants;
        },
      )

  opened_now : Opened d p s (own ++ new ∷ []) last
  opened_now = record {
    grows = omega (arith, opened.grows, longer);
    depth = λ v l. (let x = ap (λ (y : Slot). y.depth) (at_old v (omega (arith, opened.grows, l))) in let y = opened.depth v l in omega (arith, x, y));
    constants = constants_now;
    known = known_now;
    live = live_now;
    old = old_now;
    back = back_now;
    on = on_now;
  }

pub opens_one_more : OpensOneMore
opens_one_more d p s between s' own r v whole opened here number made =
    subst (λ m. Opened d p s (own ++ record { rigid = r; slot = m } ∷ []) s') (sym number)
    (subst (Opened d p s (own ++ record { rigid = r; slot = length between } ∷ [])) (sym made) (opened_now d p s between own r whole opened here))
