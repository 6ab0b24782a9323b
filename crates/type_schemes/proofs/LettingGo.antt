-- Constants are let go one after another.
use Rattle.std.proofs.Common.{◌≡◌, ℕ, zero, suc, ◌<◌, List, [], ◌∷◌, length, Bool, true, false, inl, inr, refl, sym, ap, ◌∙◌, subst, arith}
use Rattle.std.specs.Prelude.{◌⊎◌}
use Rattle.std.specs.List.{Contains}
use Rattle.std.proofs.lemmas.List.{length-set}
use Rattle.elm_type.specs.Types.{Rigid}
use Rattle.type_items.specs.Items.{Place}
use Rattle.type_store.specs.Store.{Open, Bound, Constant, Slot, Store, slot_at}
use Rattle.type_store.specs.Solutions.{constants_of}
use Rattle.type_store.specs.Shape.{IsStore}
use Rattle.type_store.specs.Steps.{Leads, Here, Through, is_bound}
use Rattle.type_store.specs.Loosening.{IsLoosened, let_go}
use Rattle.type_store.specs.Laws.{EachChoiceFits}
use Rattle.type_store.proofs.Turns.{Which, Yes, Not, which, slot_same, slot_other}
use Rattle.type_walks.specs.Regions.{only}
use Rattle.type_walks.proofs.Cleaning.{constant_there}
use Rattle.type_schemes.specs.Constants.{Own, rigids, HaveOwn, IsFree, LoosenedAt, Kept, LetGo, LoosenedBut, StillKept, GoneBefore, Loosening}
use Rattle.type_schemes.specs.Laws.{LoosensNone, MayLoosen, LoosensOneMore, LoosensAll}
use Rattle.type_schemes.proofs.Holding.{holds_own}

pub loosens_none : LoosensNone
loosens_none a p body items own s opened walked links after off made walk = record {
  count = refl;
  each = λ v. StillKept refl (λ r e here. go r here (made.known r (walk.later.constants r (constant_there walked v r e))));
}
  where
    go : (r : Rigid) → only p r.place ≡ true → Contains (constants_of s) r ⊎ Contains (rigids own) r → Contains (rigids own) r
    go r here (inl x) = absurd (let y = off r x in cc)
    go r here (inr y) = y

pub loosens_all : LoosensAll
loosens_all d p s s' m = record { count = m.count; each = λ v. go v (m.each v) }
  where
    none : (r : Rigid) → Contains (rigids []) r → ⊥
    none r (k, l, e) = omega arith

    off : (r : Rigid) (v : ℕ) → ((t : Rigid) → (slot_at s v).cell ≡ Constant t → only p t.place ≡ true → Contains (rigids []) t) → (slot_at s v).cell ≡ Constant r
        → only p r.place ≡ false
    off r v h e = tell (only p r.place) refl
      where
        tell : (b : Bool) → only p r.place ≡ b → only p r.place ≡ false
        tell true q = absurd (none r (h r e q))
        tell false q = q

    go : (v : ℕ) → LoosenedBut d p [] s s' v → LoosenedAt d p s s' v
    go v (StillKept q h) = Kept q (λ r e. off r v h e)
    go v (GoneBefore r here cell deep is gone) = LetGo r here cell deep is

module _ (choice_fits : EachChoiceFits) (d : ℕ) (p : Place) (own rest : List Own) (o : Own) (s between : Store) (root : ℕ) (whole : IsStore s) (have : HaveOwn s own)
    (inside : Contains own o) (m : Loosening d p (o ∷ rest) s between) (leads : Leads between o.slot root)
    (ends : is_bound (slot_at between root).cell ≡ false) where
  -- what is bound was so
  bound_before : (v u : ℕ) → (slot_at between v).cell ≡ Bound u → (slot_at s v).cell ≡ Bound u
  bound_before v u e = go (m.each v)
    where
      go : LoosenedBut d p (o ∷ rest) s between v → (slot_at s v).cell ≡ Bound u
      go (StillKept q h) = ap (λ (x : Slot). x.cell) (sym q) ∙ e
      go (GoneBefore r here cell deep is gone) = absurd (let x : Open ≡ Bound u = ap (λ (y : Slot). y.cell) (sym is) ∙ e in cc)

  led_before : (v w : ℕ) → Leads between v w → Leads s v w
  led_before v w (Here x) = Here x
  led_before v w (Through x u y e l) = Through x u y (bound_before x u e) (led_before u y l)

  ended_before : is_bound (slot_at s root).cell ≡ false
  ended_before = go (m.each root)
    where
      go : LoosenedBut d p (o ∷ rest) s between root → is_bound (slot_at s root).cell ≡ false
      go (StillKept q h) = ap (λ (x : Slot). is_bound x.cell) (sym q) ∙ ends
      go (GoneBefore r here cell deep is gone) = ap is_bound cell

  held_before : (slot_at s root).cell ≡ Constant o.rigid
  held_before = holds_own choice_fits s own o root whole have inside (led_before o.slot root leads) ended_before

  is_left : Contains (rigids (o ∷ rest)) o.rigid
  is_left = (0, omega arith, refl)

  kept_still : slot_at between root ≡ slot_at s root
  kept_still = go (m.each root)
    where
      go : LoosenedBut d p (o ∷ rest) s between root → slot_at between root ≡ slot_at s root
      go (StillKept q h) = q
      go (GoneBefore r here cell deep is gone) =
          absurd (let x = sym held_before ∙ cell in let y : o.rigid ≡ r = cc in gone (subst (Contains (rigids (o ∷ rest))) y is_left))

  pub held_still : (slot_at between root).cell ≡ Constant o.rigid
  held_still = ap (λ (x : Slot). x.cell) kept_still ∙ held_before

  module _ (s' : Store) (here : only p o.rigid.place ≡ true) (distinct : Contains (rigids rest) o.rigid → ⊥) (free : IsFree d s o.slot) (loose : IsLoosened between root s')
      (there : root < length between) where
    same_rigid : loose.rigid ≡ o.rigid
    same_rigid = let x = sym loose.was ∙ held_still in cc

    deep : d < (slot_at s root).depth
    deep =
        let held = holds_own choice_fits s own o free.root whole have inside free.leads free.ends in
        subst (λ v. d < (slot_at s v).depth) (whole.once free.root root o.rigid held held_before) free.deep

    now_at : slot_at s' root ≡ let_go (slot_at s root) o.rigid
    now_at =
        ap (λ t. slot_at t root) loose.now
        ∙ (slot_same between root (let_go (slot_at between root) loose.rigid) there
        ∙ (ap (λ x. let_go x loose.rigid) kept_still ∙ ap (let_go (slot_at s root)) same_rigid))

    now_other : (v : ℕ) → (v ≡ root → ⊥) → slot_at s' v ≡ slot_at between v
    now_other v n = ap (λ t. slot_at t v) loose.now ∙ slot_other between root v (let_go (slot_at between root) loose.rigid) n

    fewer : (v : ℕ) (r : Rigid) → (v ≡ root → ⊥) → (slot_at s v).cell ≡ Constant r → Contains (rigids (o ∷ rest)) r → Contains (rigids rest) r
    fewer v r n e (zero, l, q) = absurd (let x : o.rigid ≡ r = q in n (whole.once v root o.rigid (e ∙ ap Constant (sym x)) held_before))
    fewer v r n e (suc k, l, q) = (k, omega arith, q)

    one_more : (r : Rigid) → Contains (rigids rest) r → Contains (rigids (o ∷ rest)) r
    one_more r (k, l, q) = (suc k, omega (arith, l), q)

    pub loosened_more : Loosening d p rest s s'
    loosened_more = record {
      count = ap length loose.now ∙ (length-set between root (let_go (slot_at between root) loose.rigid) ∙ m.count);
      each = λ v. at_each v (which v root);
    }
      where
        other : (v : ℕ) → (v ≡ root → ⊥) → LoosenedBut d p (o ∷ rest) s between v → LoosenedBut d p rest s s' v
        other v n (StillKept q h) = StillKept (now_other v n ∙ q) (λ r e w. fewer v r n e (h r e w))
        other v n (GoneBefore r w cell low is gone) = GoneBefore r w cell low (now_other v n ∙ is) (λ x. gone (one_more r x))

        at_each : (v : ℕ) → Which v root → LoosenedBut d p rest s s' v
        at_each v (Yes e) = subst (LoosenedBut d p rest s s') (sym e) (GoneBefore o.rigid here held_before deep now_at distinct)
        at_each v (Not n) = other v n (m.each v)

pub may_loosen : EachChoiceFits → MayLoosen
may_loosen choice_fits d p own rest o s between root whole have inside m leads ends =
    held_still choice_fits d p own rest o s between root whole have inside m leads ends

pub loosens_one_more : EachChoiceFits → LoosensOneMore
loosens_one_more choice_fits d p own rest o s between s' root whole have inside here distinct free m leads ends loose there =
    loosened_more choice_fits d p own rest o s between root whole have inside m leads ends s' here distinct free loose there
