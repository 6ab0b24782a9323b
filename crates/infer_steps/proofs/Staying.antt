-- What stays of a scope in later states.
use Rattle.std.proofs.Common.{◌≡◌, ℕ, ◌<◌, List, [], ◌∷◌, length, Bool, true, false, Option, Some, None, inl, inr, refl, sym}
use Rattle.std.proofs.Common.{ap, ◌∙◌, subst, arith}
use Rattle.std.specs.List.{AllByRecursion, AllZip}
use Rattle.std.specs.Map.{lookup}
use Rattle.std.proofs.lemmas.Bool.{cases_lt}
use Rattle.elm_canon.specs.Names.{same_ref}
use Rattle.elm_type.specs.Types.{variable, Rigid, Kind}
use Rattle.elm_type.specs.Ground.{lacks_all}
use Rattle.type_items.specs.Items.{Place, child, Wanted, Item}
use Rattle.type_items.specs.Scopes.{Entry, Mono, Instance, General}
use Rattle.type_items.specs.Definitions.{outer_types}
use Rattle.type_store.specs.Store.{Constant, Slot, Store, slot_at}
use Rattle.type_store.proofs.Parts.{slot_past}
use Rattle.type_store.specs.Solutions.{Says}
use Rattle.type_store.specs.Laws.{EachChoiceFits}
use Rattle.type_walks.specs.Regions.{Region, below}
use Rattle.type_walks.specs.Links.{Links, Live, AreLive, Later}
use Rattle.type_walks.specs.Laws.{Outside}
use Rattle.type_walks.proofs.Regions.{below_in_span, span_in_below}
use Rattle.type_walks.specs.Walks.{Around, Walk}
use Rattle.type_walks.proofs.Linking.{live_later, all_live_later, later_itself, later_on, agree_itself}
use Rattle.type_walks.proofs.Cleaning.{constant_there, stored}
use Rattle.type_walks.specs.TypeCopiesLaws.{SaysLater}
use Rattle.type_schemes.specs.Constants.{Outer}
use Rattle.type_schemes.specs.Freezing.{ConstantsAround}
use Rattle.type_walks.specs.TypeStepsLaws.{Lacking}
use Rattle.infer_steps.specs.Codes.{Meaning, One, Many, Each, State}
use Rattle.infer_steps.specs.Ready.{MeaningReady, IsReady, Follows}
use Rattle.infer_steps.specs.Means.{MeansEntry, IsAround}
use Rattle.infer_steps.specs.Laws.{FollowsItself, FollowsOn, ReadyLater, MeansLater, SettingLater, SettingLinks, AroundChild, SettingChild}
use Rattle.infer_steps.proofs.Copying.{cells_still, outer_live}
use Rattle.infer_steps.proofs.Shallow.{shallow}

pub follows_itself : FollowsItself
follows_itself code s ready = record {
  place = refl;
  depth = refl;
  whole = ready.whole;
  later = later_itself s.store;
  back = λ σ f. record { values = σ; fit = f; agree = agree_itself s.depth s.store σ };
}

pub follows_on : FollowsOn
follows_on r s t a b = record {
  place = b.place ∙ a.place;
  depth = b.depth ∙ a.depth;
  whole = b.whole;
  later = later_on r.store s.store t.store a.later b.later;
  back = λ σ f. (
      let x = b.back σ f in
      let y = a.back x.values x.fit in
      record {
        values = y.values;
        fit = y.fit;
        agree = record {
          types = λ v l.
              x.agree.types v (live_later s.depth r.depth r.store s.store v a.later (omega (arith, a.depth)) l)
              ∙ y.agree.types v l;
          constants = λ c. x.agree.constants c ∙ y.agree.constants c;
        };
      });
}

module _ (old new : State) (f : Follows old new) where
  live_on : (v : ℕ) → Live old.depth old.store v → Live new.depth new.store v
  live_on v l = live_later new.depth old.depth old.store new.store v f.later (omega (arith, f.depth)) l

  all_live : (vs : List ℕ) → AllByRecursion (Live old.depth old.store) vs → AllByRecursion (Live new.depth new.store) vs
  all_live [] h = tt
  all_live (v ∷ vs) h = (live_on v h.0, all_live vs h.1)

  lacking_on : (vs : List ℕ) (ks : List Kind) → AllByRecursion (Live old.depth old.store) vs → AllZip (λ v (k : Kind). Lacking old.store v k.lacks) vs ks → AllZip (λ v (k : Kind). Lacking new.store v k.lacks) vs ks
  lacking_on [] [] l h = tt
  lacking_on [] (k ∷ ks) l h = absurd h
  lacking_on (v ∷ vs) [] l h = absurd h
  lacking_on (v ∷ vs) (k ∷ ks) l h = (
    record {
      each = λ σ g. (
          let x = f.back σ g in
          ap (lacks_all k.lacks) (x.agree.types v l.0) ∙ h.0.each x.values x.fit);
    },
    lacking_on vs ks l.1 h.1,
  )

  meaning_on : (m : Meaning) → MeaningReady old.depth old.store m → MeaningReady new.depth new.store m
  meaning_on (One v) h = live_on v h
  meaning_on (Many frozen) h = record {
    formed = h.formed;
    live = outer_live new.depth old.depth old.store new.store f.later (omega (arith, f.depth)) frozen h.live;
    copies = record {
      each = λ σ g. (
          let x = f.back σ g in
          let y = h.copies.each x.values x.fit in
          (y.0, cells_still old.depth old.store x.values σ y.0 (λ v l. sym (x.agree.types v l)) frozen h.live y.1));
    };
  }
  meaning_on (Each t) h = record {
    kinds = h.kinds;
    written = h.written;
    live = all_live t.outer h.live;
    lacks = lacking_on t.outer h.kinds h.live h.lacks;
  }

  stored_inside : (v : ℕ) (r : Rigid) → (slot_at old.store v).cell ≡ Constant r → v < length old.store
  stored_inside v r e = elim (cases_lt v (length old.store)) [
    | inl l ↦ l
    | inr h ↦ absurd (let blank = ap (λ (x : Slot). x.cell) (slot_past old.store v h) in let both = sym e ∙ blank in cc)
  ]

  around_on : EachChoiceFits → ConstantsAround old.depth old.store → ConstantsAround new.depth new.store
  around_on choice_fits h = record {
    each = λ w r here. (
        let was = stored old.store r (f.later.constants r (constant_there new.store w r here)) in
        let low = live_on was.variable (record { inside = stored_inside was.variable r was.is; depth = h.each was.variable r was.is }) in
        shallow choice_fits new.store f.whole r w new.depth here was.variable low.depth (λ τ g. (
        let x = f.back τ g in
        let says : x.values.types was.variable ≡ variable (x.values.constants r) =
        subst (Says x.values (x.values.types was.variable)) was.is (x.fit.each was.variable).cell in
        x.agree.types was.variable (record { inside = stored_inside was.variable r was.is; depth = h.each was.variable r was.is })
        ∙ says ∙ ap (λ t. variable t) (sym (x.agree.constants r)))));
  }

pub ready_later : EachChoiceFits → ReadyLater
ready_later choice_fits code old new ready f = record {
  whole = f.whole;
  around = around_on old new f choice_fits ready.around;
  known = ready.known;
  names = λ x m is. meaning_on old new f m (ready.names x m is);
  constants = λ a v is. live_on old new f v (ready.constants a v is);
}

-- ---- what the code's scope stands for

outer_on : (d : ℕ) (s s' : Store) (links : Links) → Later s s' → (ts : List Wanted) → AllByRecursion (Outer d s links) ts → AllByRecursion (Outer d s' links) ts
outer_on d s s' links later [] h = tt
outer_on d s s' links later (t ∷ ts) h = (
  record { slot = h.0.slot; has = h.0.has; live = live_later d d s s' h.0.slot later (omega arith) h.0.live },
  outer_on d s s' links later ts h.1,
)

module _ (says_later : SaysLater) (a : Around) (R : Region) (items : List Item) (s s' : Store) (before after links : Links) (walk : Walk a R items s before s' after)
    (live : AreLive a.depth s links) where
  entry_on : (o : Option Meaning) (e : Option Entry) → ((m : Meaning) → o ≡ Some m → MeaningReady a.depth s m) → MeansEntry a links s o e → MeansEntry a links s' o e
  entry_on None None ready h = tt
  entry_on None (Some e) ready h = absurd h
  entry_on (Some (One v)) None ready h = absurd h
  entry_on (Some (One v)) (Some (Mono t)) ready h = h
  entry_on (Some (One v)) (Some (Instance scheme)) ready h = absurd h
  entry_on (Some (One v)) (Some (General list type)) ready h = absurd h
  entry_on (Some (Many frozen)) None ready h = absurd h
  entry_on (Some (Many frozen)) (Some (Mono t)) ready h = absurd h
  entry_on (Some (Many frozen)) (Some (Instance scheme)) ready h = absurd h
  entry_on (Some (Many frozen)) (Some (General list type)) ready h =
      (says_later a R items s s' before after links frozen list type live (ready (Many frozen) refl).live walk h.0, h.1)
  entry_on (Some (Each t)) None ready h = absurd h
  entry_on (Some (Each t)) (Some (Mono u)) ready h = absurd h
  entry_on (Some (Each t)) (Some (Instance scheme)) ready h = h
  entry_on (Some (Each t)) (Some (General list type)) ready h = absurd h

pub means_later : SaysLater → MeansLater
means_later says_later a R items s s' links before after code scope ready walk m = record {
  live = all_live_later a.depth s s' links walk.later m.live;
  known = m.known;
  names = λ x. entry_on says_later a R items s s' before after links walk m.live (code.names x) (lookup (same_ref x) scope.names) (ready.names x) (m.names x);
  constants = m.constants;
  types = outer_on a.depth s s' links walk.later (outer_types scope) m.types;
  only = m.only;
}

around_later : (a : Around) (old new : State) → Follows old new → IsAround a old → IsAround a new
around_later a old new f h = record {
  depth = h.depth ∙ sym f.depth;
  within = record { each = λ r c. h.within.each r (f.later.constants r c) };
  outside = subst (λ p. Outside a (below p)) (sym f.place) h.outside;
}

pub setting_later : SaysLater → SettingLater
setting_later says_later a R items old new links before after code scope ready f walk set = record {
  around = around_later a old new f set.around;
  live = all_live_later a.depth old.store new.store links f.later set.live;
  named = set.named;
  tells = set.tells;
  means =
      means_later says_later a R items old.store new.store set.named before after code scope
      (subst (λ d. IsReady code d old.store) (sym set.around.depth) ready) walk set.means;
}

pub setting_links : SettingLinks
setting_links a links more code scope s tells live set = record {
  around = set.around;
  live = live;
  named = set.named;
  tells = record { each = λ σ types h. set.tells.each σ types (tells.each σ types h) };
  means = set.means;
}

-- ---- at a child

not_below : (p : Place) (i : ℕ) (r : Place) → below p r ≡ false → below (child p i) r ≡ false
not_below p i r off = go (below (child p i) r) refl
  where
    go : (b : Bool) → below (child p i) r ≡ b → b ≡ false
    go false e = refl
    go true e =
        absurd (let up : below p r ≡ true = (span_in_below p i 1).each r ((below_in_span p i 1 i (omega arith) (omega arith)).each r e) in cc)

pub around_child : AroundChild
around_child a s i h = record {
  depth = h.depth;
  within = h.within;
  outside = λ r c. not_below s.place i r.place (h.outside r c);
}

pub setting_child : SettingChild
setting_child a links code scope s i set = record {
  around = around_child a s i set.around;
  live = set.live;
  named = set.named;
  tells = set.tells;
  means = set.means;
}
