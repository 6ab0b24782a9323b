-- How walks are put together.
use Rattle.std.proofs.Common.{◌≡◌, ℕ, ◌<◌, List, ◌++◌, Bool, true, false, cond, refl, sym, ap, ◌∙◌, subst, arith}
use Rattle.elm_type.specs.Ground.{is_ground}
use Rattle.type_items.specs.Items.{Item}
use Rattle.type_items.specs.Solutions.{Solves}
use Rattle.type_items.specs.Principal.{unscoped}
use Rattle.type_store.specs.Store.{Store}
use Rattle.type_store.specs.Solutions.{Values, Fit}
use Rattle.type_walks.specs.Regions.{Region, either, Apart}
use Rattle.type_walks.specs.Links.{Types, AreGround, Links, Linked, Live, AreLive, Agree, Carries, Away}
use Rattle.type_walks.specs.Walks.{Around, Earlier, Filled, Onward, Determined, Walk}
use Rattle.type_walks.specs.Laws.{Rests, GoesOn, Widens, Forgets}
use Rattle.type_walks.proofs.Linking.{live_later, later_itself, later_on, agree_itself, agree_back, linked_agree, clean_inside, clean_earlier, away_inside, away_same, left_inside, right_inside, apart_back, solves_both, solves_first, solves_second, unscoped_both}
use Rattle.elm_type.specs.Types.{int_type}

pub rests : Rests
rests a s links = record {
  later = later_itself s;
  live = λ h. h;
  determined = λ e v l live. record { same = λ σ τ f g agree. agree v live };
  back = λ σ f. record { values = σ; fit = f; agree = agree_itself a.depth s σ };
  sound = λ σ f away. record { types = λ r. int_type; ground = λ r. refl; linked = λ all c h. h; solves = λ all c h. tt; kept = λ all c h k. tt };
  complete = λ σ types f g away linked sol. record { values = σ; fit = f; agree = agree_itself a.depth s σ; linked = linked };
}

-- ---- one walk after another

module _ (a : Around) (R Q : Region) (first second : List Item) (s u s' : Store) (before between after : Links)
    (apart : Apart R Q) (live : AreLive a.depth s before) (one : Walk a R first s before u between) (two : Walk a Q second u between s' after) where
  on_determined : (e v : ℕ) → e < a.depth → Live e s' v → Determined e s s' v
  on_determined e v l livev = record {
    same = λ σ τ f g agree. (
        let x = two.back σ f in
        let y = two.back τ g in
        let low = λ (w : ℕ) (h : Live e s w). (
        let up = live_later a.depth e s u w one.later (omega (arith, l)) h in
        sym (x.agree.types w up) ∙ agree w h ∙ y.agree.types w up) in
        let mid = λ (w : ℕ) (h : Live e u w). (
        let up = live_later a.depth e u u w (later_itself u) (omega (arith, l)) h in
        x.agree.types w up ∙ (one.determined e w l h).same x.values y.values x.fit y.fit low ∙ sym (y.agree.types w up)) in
        (two.determined e v l livev).same σ τ f g mid);
  }

  on_agree : (σ τ : Values) → Agree a.depth u σ τ → Agree a.depth s σ τ
  on_agree σ τ h = record {
    types = λ v l. h.types v (live_later a.depth a.depth s u v one.later (omega arith) l);
    constants = h.constants;
  }

  then_agree : (σ τ ρ : Values) → Agree a.depth s σ τ → Agree a.depth s τ ρ → Agree a.depth s σ ρ
  then_agree σ τ ρ h k = record { types = λ v l. h.types v l ∙ k.types v l; constants = λ r. h.constants r ∙ k.constants r }

  on_back : (σ : Values) → Fit σ s' → Earlier a.depth s σ
  on_back σ f =
      let x = two.back σ f in
      let y = one.back x.values x.fit in
      record {
        values = y.values;
        fit = y.fit;
        agree = then_agree σ x.values y.values (on_agree σ x.values x.agree) y.agree;
      }

  module _ (x y : Types) where
    both : Types
    both r = cond (R r) (x r) (y r)

    carries_first : (all : Types) → Carries (either R Q) all both → Carries R all x
    unfolding both
    carries_first all h r e = h r ((left_inside R Q).each r e) ∙ ap (λ b. cond b (x r) (y r)) e

    carries_second : (all : Types) → Carries (either R Q) all both → Carries Q all y
    unfolding both
    carries_second all h r e =
        h r ((right_inside R Q).each r e) ∙ ap (λ b. cond b (x r) (y r)) ((apart_back R Q apart).each r e)

    both_ground : AreGround x → AreGround y → AreGround both
    unfolding both
    both_ground g h r = go (R r)
      where
        go : (b : Bool) → is_ground (cond b (x r) (y r)) ≡ true
        go true = g r
        go false = h r

  on_sound : (σ : Values) → Fit σ s' → Away (either R Q) a.constants σ → Filled a (either R Q) (first ++ second) before s' after σ
  on_sound σ f away =
      let x = two.back σ f in
      let q = two.sound σ f (away_inside Q (either R Q) a.constants σ (right_inside R Q) away) in
      let p = one.sound x.values x.fit (away_same R a.constants σ x.values x.agree.constants (away_inside R (either R Q) a.constants σ (left_inside R Q) away)) in
      let low = λ (all : Types) (h : Linked before σ all). linked_agree a.depth s before σ x.values all live (on_agree σ x.values x.agree) h in
      let mid = λ (all : Types) (c : Carries (either R Q) all (both p.types q.types)) (h : Linked before σ all).
      linked_agree a.depth u between x.values σ all (one.live live) (agree_back a.depth u σ x.values x.agree)
      (p.linked all (carries_first p.types q.types all c) (low all h)) in
      record {
        types = both p.types q.types;
        ground = both_ground p.types q.types p.ground q.ground;
        linked = λ all c h. q.linked all (carries_second p.types q.types all c) (mid all c h);
        solves = λ all c h.
            subst (Solves all) (sym (unscoped_both first second))
            (solves_both all (unscoped first) (unscoped second) (p.solves all (carries_first p.types q.types all c) (low all h))
            (q.solves all (carries_second p.types q.types all c) (mid all c h)));
        kept = λ all c h k.
            solves_both all first second
            (p.kept all (carries_first p.types q.types all c) (low all h)
            (clean_earlier a.depth R u s' σ x.values two.later x.agree (clean_inside a.depth R (either R Q) s' σ (left_inside R Q) k)))
            (q.kept all (carries_second p.types q.types all c) (mid all c h)
            (clean_inside a.depth Q (either R Q) s' σ (right_inside R Q) k));
      }

  on_complete : (σ : Values) (types : Types) → Fit σ s → AreGround types → Away (either R Q) a.constants σ → Linked before σ types
      → Solves types (unscoped (first ++ second)) → Onward a.depth s s' after σ types
  on_complete σ types f g away linked sol =
      let all = subst (Solves types) (unscoped_both first second) sol in
      let x = one.complete σ types f g (away_inside R (either R Q) a.constants σ (left_inside R Q) away) linked (solves_first types (unscoped first) (unscoped second) all) in
      let off = away_same Q a.constants σ x.values x.agree.constants (away_inside Q (either R Q) a.constants σ (right_inside R Q) away) in
      let y = two.complete x.values types x.fit g off x.linked (solves_second types (unscoped first) (unscoped second) all) in
      record {
        values = y.values;
        fit = y.fit;
        agree = then_agree σ x.values y.values x.agree (on_agree x.values y.values y.agree);
        linked = y.linked;
      }

  goes : Walk a (either R Q) (first ++ second) s before s' after
  goes = record {
    later = later_on s u s' one.later two.later;
    live = λ h. two.live (one.live h);
    determined = on_determined;
    back = on_back;
    sound = on_sound;
    complete = on_complete;
  }

pub goes_on : GoesOn
goes_on a R Q first second s u s' before between after apart live one two =
    goes a R Q first second s u s' before between after apart live one two

-- ---- larger regions, and fewer links

pub widens : Widens
widens a R Q items s s' before after i walk = record {
  later = walk.later;
  live = walk.live;
  determined = walk.determined;
  back = walk.back;
  sound = λ σ f away. (
      let x = walk.sound σ f (away_inside R Q a.constants σ i away) in
      record {
        types = x.types;
        ground = x.ground;
        linked = λ all c h. x.linked all (λ r e. c r (i.each r e)) h;
        solves = λ all c h. x.solves all (λ r e. c r (i.each r e)) h;
        kept = λ all c h k. x.kept all (λ r e. c r (i.each r e)) h (clean_inside a.depth R Q s' σ i k);
      });
  complete = λ σ types f g away linked sol. walk.complete σ types f g (away_inside R Q a.constants σ i away) linked sol;
}

pub forgets : Forgets
forgets a R items s s' before after others tells live walk = record {
  later = walk.later;
  live = λ h. live (walk.live h);
  determined = walk.determined;
  back = walk.back;
  sound = λ σ f away. (
      let x = walk.sound σ f away in
      record {
        types = x.types;
        ground = x.ground;
        linked = λ all c h. tells.each σ all (x.linked all c h);
        solves = x.solves;
        kept = x.kept;
      });
  complete = λ σ types f g away linked sol. (
      let x = walk.complete σ types f g away linked sol in
      record { values = x.values; fit = x.fit; agree = x.agree; linked = tells.each x.values types x.linked });
}
