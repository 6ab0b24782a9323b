-- Into an annotated definition: its constants have variables now.
use Rattle.std.proofs.Common.{◌≡◌, ℕ, ◌+◌, List, [], ◌∷◌, ◌++◌, length, Bool, true, false, inl, inr, refl, sym, ap, ◌∙◌, subst, append_assoc, arith}
use Rattle.std.specs.Prelude.{◌⊎◌, zero, suc}
use Rattle.std.specs.List.{AllByRecursion, Contains}
use Rattle.std.proofs.lemmas.List.Elements.{Contains-append_cases}
use Rattle.elm_type.specs.Types.{Rigid, variable}
use Rattle.elm_type.specs.Ground.{value}
use Rattle.type_items.specs.Items.{Place, Wanted, Item}
use Rattle.type_items.specs.Solutions.{Solves}
use Rattle.type_items.specs.Principal.{unscoped}
use Rattle.type_store.specs.Store.{Store}
use Rattle.type_store.specs.Solutions.{Values, Fit, AgreeBelow, Renames, constants_of}
use Rattle.type_walks.specs.Regions.{Region, only, Inside}
use Rattle.type_walks.specs.Links.{Types, AreGround, Links, Linked, Live, AreLive}
use Rattle.type_walks.specs.Walks.{Around, Filled}
use Rattle.type_walks.specs.Progress.{Themselves, Reached, Stands}
use Rattle.type_walks.proofs.Cleaning.{all_both}
use Rattle.type_walks.proofs.Linking.{agree_below, linked_agree}
use Rattle.type_schemes.specs.Constants.{moved, Own, rigids, own_links, within}
use Rattle.type_schemes.proofs.Moving.{only_same, rigid_same}
use Rattle.type_constructs.specs.Passing.{Ready}
use Rattle.type_constructs.specs.Failing.{FailsAt}
use Rattle.type_constructs.specs.Annotated.{Entered, BodyFails}
use Rattle.type_constructs.proofs.Moments.{off_inside, under_inside, apart_less}
use Rattle.type_constructs.proofs.Failing.{more_after}

pub moved_itself : (p : Place) (r : Rigid) → only p r.place ≡ true → moved p r ≡ r
moved_itself p r h = rigid_same (moved p r) r (only_same p r.place h) refl refl refl

pub own_here : (p : Place) (own : List Own) (r : Rigid) → AllByRecursion (λ (o : Own). only p o.rigid.place ≡ true) own → Contains (rigids own) r
    → only p r.place ≡ true
own_here p [] r h (k, l, e) = absurd (omega arith)
own_here p (o ∷ os) r h (zero, l, e) = ap (λ (x : Rigid). only p x.place) (sym e) ∙ h.0
own_here p (o ∷ os) r h (suc k, l, e) = own_here p os r h.1 (k, omega arith, e)

-- the variables of the constants have them
own_linked : (p : Place) (own : List Own) (τ : Values) (all : Types) → Themselves τ → AllByRecursion (λ (o : Own). only p o.rigid.place ≡ true) own
    → AllByRecursion (λ (o : Own). τ.types o.slot ≡ variable (τ.constants o.rigid)) own → Linked (own_links p own) τ all
own_linked p [] τ all own h k = tt
own_linked p (o ∷ os) τ all own h k =
    (k.0 ∙ ap variable (own.each o.rigid ∙ sym (moved_itself p o.rigid h.0)), own_linked p os τ all own h.1 k.1)

own_live : (d : ℕ) (p : Place) (s : Store) (own : List Own) → AllByRecursion (λ (o : Own). Live d s o.slot) own → AreLive d s (own_links p own)
own_live d p s [] h = tt
own_live d p s (o ∷ os) h = (h.0, own_live d p s os h.1)

module _ (a : Around) (p : Place) (body all : Region) (own : List Own) (s opened : Store) (entered : Entered a p body all own s opened) where
  pub live_in : (v : ℕ) → Live a.depth s v → Live (a.depth + 1) opened v
  live_in v l =
      let x = entered.opens.depth v l.inside in
      record { inside = omega (arith, entered.opens.grows, l.inside); depth = omega (arith, x, l.depth) }

  all_in : (links : Links) → AreLive a.depth s links → AreLive (a.depth + 1) opened links
  all_in [] h = tt
  all_in (l ∷ ls) h = (live_in l.0 h.0, all_in ls h.1)

  -- the place of the definition is in none of the regions inside
  pub own_off : (X : Region) → X p ≡ false → (r : Rigid) → Contains (rigids own) r → X r.place ≡ false
  own_off X h r c = subst (λ q. X q ≡ false) (only_same p r.place (own_here p own r entered.owned.here c)) h

  pub outside_in : (X : Region) → X p ≡ false → ((r : Rigid) → Contains a.constants r → X r.place ≡ false)
      → (r : Rigid) → Contains (rigids own ++ a.constants) r → X r.place ≡ false
  outside_in X h k r c = go (Contains-append_cases (rigids own) a.constants r c)
    where
      go : Contains (rigids own) r ⊎ Contains a.constants r → X r.place ≡ false
      go (inl x) = own_off X h r x
      go (inr y) = k r y

  -- a solution of before goes on
  pub record ReachedIn (links : Links) (σ : Values) (types : Types) : Type 0 where
    pub values : Values
    pub fit : Fit values opened
    pub constants : Themselves values
    pub linked : Linked (own_links p own ++ links) values types
    pub agree : AgreeBelow (length s) σ values

  pub reached_in : (links : Links) → AreLive a.depth s links → (σ : Values) (types : Types) → Fit σ s → Themselves σ → Linked links σ types
      → ReachedIn links σ types
  reached_in links live σ types f own_σ linked =
      let named : Renames (constants_of opened) σ.constants =
      record {
        class = λ r. ap (λ (t : Rigid). t.class) (own_σ.each r);
        lacks = λ r. ap (λ (t : Rigid). t.lacks) (own_σ.each r);
        apart = λ r t cr ct e. sym (own_σ.each r) ∙ (e ∙ own_σ.each t);
      } in
      let y = entered.opens.on σ f named in
      let own_y : Themselves y.0 = record { each = λ r. sym (y.2.constants r) ∙ own_σ.each r } in
      let o = entered.opens.back y.0 y.1 in
      record {
        values = y.0;
        fit = y.1;
        constants = own_y;
        linked =
            all_both (λ (l : ℕ × Wanted). y.0.types l.0 ≡ value types l.1) (own_links p own) links
            (own_linked p own y.0 types own_y entered.owned.here o.1)
            (linked_agree a.depth s links σ y.0 types live (agree_below a.depth s σ y.0 y.2) linked);
        agree = y.2;
      }

  module _ (R : Region) (items : List Item) (links : Links) (stands : Stands a R items s links) (off : R p ≡ false) where
    in_sound : (σ : Values) → Fit σ opened → Themselves σ → Filled (within a own) R items [] opened (own_links p own ++ links) σ
    in_sound σ f own_σ =
        let o = entered.opens.back σ f in
        let x = stands.sound σ o.0 own_σ in
        record {
          types = x.types;
          ground = x.ground;
          linked = λ all c h.
              all_both (λ (l : ℕ × Wanted). σ.types l.0 ≡ value all l.1) (own_links p own) links (own_linked p own σ all own_σ entered.owned.here o.1)
              (x.linked all c h);
          solves = x.solves;
          kept = λ all c h clean. x.kept all c h (record { each = λ v l. clean.each v (live_in v l) });
        }

    in_complete : (types : Types) → AreGround types → Solves types (unscoped items) → Reached opened (own_links p own ++ links) types
    in_complete types g sol =
        let x = stands.complete types g sol in
        let y = reached_in links stands.live x.values types x.fit x.constants x.linked in
        record { values = y.values; fit = y.fit; constants = y.constants; linked = y.linked }

    pub stands_in : Stands (within a own) R items opened (own_links p own ++ links)
    stands_in = record {
      live = all_both (λ (l : ℕ × Wanted). Live (a.depth + 1) opened l.0) (own_links p own) links (own_live (a.depth + 1) p opened own entered.opens.live) (all_in links stands.live);
      away = outside_in R off stands.away;
      sound = in_sound;
      complete = in_complete;
    }

  module _ (m : Place) (R X : Region) (items : List Item) (links : Links) (part : Inside X all) (off : X p ≡ false) (ready : Ready m a R all items s links) where
    off_here : R p ≡ false
    off_here = go (R p) refl
      where
        go : (b : Bool) → R p ≡ b → b ≡ false
        go true e = absurd (let x = ready.apart.each p e in let y = entered.region.here in cc)
        go false e = refl

    pub ready_in : Ready m (within a own) R X items opened (own_links p own ++ links)
    ready_in = record {
      stands = stands_in R items links ready.stands off_here;
      sized = ready.sized;
      under = ready.under;
      inside = under_inside m X all part ready.inside;
      apart = apart_less R X all part ready.apart;
      outside = outside_in X off (λ r c. off_inside X all part r.place (ready.outside r c));
      within = entered.known;
    }

pub body_fails : BodyFails
body_fails a p body all items more own s opened s' links bad entered fails = record {
  each = λ m R first ready.
      subst (λ l. FailsAt m l bad s') (append_assoc first items more)
      (more_after m (first ++ items) more bad s'
      (fails.each m R first (ready_in a p body all own s opened entered m R body first links entered.region.inside entered.region.off ready)));
}
