-- The start and the end of a module.
use Rattle.std.proofs.Common.{◌≡◌, ℕ, List, [], ◌∷◌, ◌++◌, Bool, true, false, Some, None, Option, refl, sym, ap, ◌∙◌, subst, arith}
use Rattle.std.specs.Prelude.{◌&&◌, nat_eq}
use Rattle.std.specs.List.{AllByRecursion, Contains}
use Rattle.std.proofs.lemmas.Bool.Decides.{nat_tests}
use Rattle.elm_canon.specs.Tree.{Annotation}
use Rattle.elm_type.specs.Types.{Rigid, Scheme}
use Rattle.elm_type.specs.Schemes.{rename}
use Rattle.type_items.specs.Items.{Place, child, Wanted, Item}
use Rattle.type_items.specs.Scopes.{Entries, Known, one_type}
use Rattle.type_items.specs.Definitions.{Definition, group_types}
use Rattle.type_items.specs.Modules.{known_in, module_items}
use Rattle.type_items.specs.Principal.{IsPrincipal}
use Rattle.type_items.specs.Inferred.{Schemes, HasPrincipal, NameHasScheme, GroupHasSchemes, first_annotation}
use Rattle.type_store.specs.Store.{Store}
use Rattle.type_store.specs.Shape.{IsStore}
use Rattle.type_store.specs.Laws.{EachChoiceFits}
use Rattle.type_walks.specs.Regions.{Region, none, below, either, Apart, Inside}
use Rattle.type_walks.specs.Links.{Links}
use Rattle.type_walks.specs.Walks.{Walk}
use Rattle.type_walks.proofs.Cleaning.{all_both}
use Rattle.type_walks.proofs.Regions.{none_apart}
use Rattle.type_walks.specs.Told.{start}
use Rattle.type_walks.specs.ToldTypesLaws.{TellsPrincipal}
use Rattle.type_walks.proofs.Stopping.{starts}
use Rattle.type_walks.specs.TypeCopiesLaws.{deeper}
use Rattle.type_items.specs.Uniqueness.{RenamedTwice, RenamedPrincipal}
use Rattle.type_constructs.specs.Passing.{Sized, Ready, Passes}
use Rattle.type_constructs.specs.Failing.{FailsAt}
use Rattle.type_constructs.proofs.Refits.{plain_solves}
use Rattle.type_constructs.proofs.Moments.{all_sized, off_inside, apart_less, ready_part, ready_walk}
use Rattle.type_constructs.proofs.Passing.{ready_deeper}
use Rattle.type_constructs.proofs.Escaping.{at_one}
use Rattle.type_constructs.specs.Lasting.{Lasts, Telling, Inferring, IsTold, HasTold, NameHasTold, GroupHasTold}
use Rattle.type_constructs.specs.TypeAnswersLaws.{Refuses, RefusesLater, Begins, GoesOn, TellsGroup, Ends}
use Rattle.type_constructs.proofs.Explaining.{explains_first}
use Rattle.type_constructs.proofs.Lasting.{lasts_principal, lasts_on, alone, lasts_told}

-- ---- the start

below_root : (p : Place) → below p [] ≡ false
below_root [] = refl
below_root (k ∷ p) = refl

and_first : (a b : Bool) → (a && b) ≡ true → a ≡ true
and_first true b h = refl
and_first false b h = h

and_second : (a b : Bool) → (a && b) ≡ true → b ≡ true
and_second true b h = h
and_second false b h = absurd cc

below_is : (p r : Place) → below p r ≡ true → (q : Place) × (r ≡ p ++ q)
below_is [] r h = (r, refl)
below_is (k ∷ p) [] h = absurd cc
below_is (k ∷ p) (j ∷ r) h =
    let one = and_first (nat_eq k j) (below p r) h in
    let e : k ≡ j = grind (arith, nat_tests) in
    let x = below_is p r (and_second (nat_eq k j) (below p r) h) in
    (x.0, ap (λ i. i ∷ r) (sym e) ∙ ap (λ l. k ∷ l) x.1)

no_constant : {A : Type 0} (r : Rigid) → Contains [] r → A
no_constant r (k, l, e) = absurd (omega arith)

pub start_ready : (p : Place) → Ready p start none (below p) [] [] []
start_ready p = record {
  stands = starts;
  sized = all_sized p;
  under = record { root = refl; each = λ r e. absurd (cc) };
  inside = record { root = below_root p; each = below_is p };
  apart = none_apart (below p);
  outside = λ r c. no_constant r c;
  within = record { each = λ r c. c };
}

pub begins : Begins
begins p = record { ready = start_ready p; lasts = tt }

-- ---- what is refused

pub refuses : TellsPrincipal → RenamedTwice → RenamedPrincipal → Refuses
refuses tells twice renamed module_ env p s bad code pos text shape fails ex = record {
  bad = explains_first tells twice renamed p (module_items module_ env p) s bad code pos text shape (fails.each p none [] (start_ready p)) ex;
}

pub refuses_later : TellsPrincipal → RenamedTwice → RenamedPrincipal → RefusesLater
refuses_later tells twice renamed module_ env p R Q first items told u s bad code pos text shape inferring fails ex same = record {
  bad =
      explains_first tells twice renamed p (module_items module_ env p) s bad code pos text shape
      (subst (λ l. FailsAt p l bad s) (sym same) (fails.each p R first inferring.ready)) ex;
}

-- ---- one group after another

module _ (choice_fits : EachChoiceFits) (p : Place) (R Q X Y : Region) (items more : List Item) (s s' : Store) (told : List Telling) (apart : Apart Q X)
    (left : Inside Q Y) (right : Inside X Y) (shape : IsStore s') (inferring : Inferring p R Y items s told) (walk : Walk start Q more s [] s' [])
    (passes : Passes start s [] Q more) where
  sized : Sized p (items ++ more)
  sized = passes.each p R items (ready_part p start R Q Y items s [] left inferring.ready)

  pub next_ready : Ready p start (either R Q) X (items ++ more) s' []
  next_ready = ready_walk p start R Q X Y items more s s' [] [] apart left right inferring.ready walk sized

  all_last : (ts : List Telling) → AllByRecursion (λ (t : Telling). Lasts p R items t.0 t.1) ts
      → AllByRecursion (λ (t : Telling). Lasts p (either R Q) (items ++ more) t.0 t.1) ts
  all_last [] h = tt
  all_last (t ∷ ts) h = (
    lasts_on p R Q items more t.0 t.1 (apart_less R Q Y left inferring.ready.apart)
        (alone choice_fits Q more s s' (off_inside Q Y left [] inferring.ready.inside.root) inferring.ready.within shape walk) h.0,
    all_last ts h.1,
  )

  pub still : AllByRecursion (λ (t : Telling). Lasts p (either R Q) (items ++ more) t.0 t.1) told
  still = all_last told inferring.lasts

  module _ (after : Links) (inner : Walk (deeper start) Q more s [] s' after) where
    inner_ready : Ready p (deeper start) (either R Q) X (items ++ more) s' after
    inner_ready =
        ready_walk p (deeper start) R Q X Y items more s s' [] after apart left right (ready_deeper p start R Y items s [] inferring.ready) inner sized

    pub all_told : (ts : List Telling) → AllByRecursion (IsTold s' after) ts → AllByRecursion (λ (t : Telling). Lasts p (either R Q) (items ++ more) t.0 t.1) ts
    all_told [] h = tt
    all_told (t ∷ ts) h = (
      lasts_told choice_fits (deeper start) (either R Q) p (items ++ more) s' after h.0.variable t.0 t.1 h.0.tells.place h.0.tells.number shape
          inner_ready.within inner_ready.under inner_ready.stands h.0.has h.0.tells.told,
      all_told ts h.1,
    )

pub goes_on : EachChoiceFits → GoesOn
goes_on choice_fits p R Q X Y items more s s' told apart left right shape inferring walk passes = record {
  ready = next_ready choice_fits p R Q X Y items more s s' told apart left right shape inferring walk passes;
  lasts = still choice_fits p R Q X Y items more s s' told apart left right shape inferring walk passes;
}

pub tells_group : EachChoiceFits → TellsGroup
tells_group choice_fits p R Q X Y items more s s' after told new apart left right shape inferring walk inner passes tells = record {
  ready = next_ready choice_fits p R Q X Y items more s s' told apart left right shape inferring walk passes;
  lasts =
      all_both (λ (t : Telling). Lasts p (either R Q) (items ++ more) t.0 t.1) told new
      (still choice_fits p R Q X Y items more s s' told apart left right shape inferring walk passes)
      (all_told choice_fits p R Q X Y items more s s' told apart left right shape inferring walk passes after inner new tells);
}

-- ---- the end

module _ (twice : RenamedTwice) (renamed : RenamedPrincipal) (p : Place) (R : Region) (items : List Item) (told : List Telling)
    (lasts : AllByRecursion (λ (t : Telling). Lasts p R items t.0 t.1) told) (schemes : Schemes) where
  one_principal : (scheme : Option Scheme) (t : Wanted) → HasTold told scheme t → HasPrincipal p items scheme t
  one_principal scheme t h = record {
    scheme = rename h.telling.1;
    is = h.is;
    ordered = twice h.telling.1;
    principal =
        subst (λ u. IsPrincipal p items u (rename h.telling.1)) h.type
        (renamed p items h.telling.0 h.telling.1
        (lasts_principal p R items h.telling.0 h.telling.1 (at_one (λ (t : Telling). Lasts p R items t.0 t.1) told h.telling lasts h.there)));
  }

  of_types : (scheme : Option Scheme) (ts : List Wanted) → AllByRecursion (HasTold told scheme) ts → AllByRecursion (HasPrincipal p items scheme) ts
  of_types scheme [] h = tt
  of_types scheme (t ∷ ts) h = (one_principal scheme t h.0, of_types scheme ts h.1)

  of_names : (names : Entries) → AllByRecursion (NameHasTold told schemes) names → AllByRecursion (NameHasScheme p items schemes) names
  of_names [] h = tt
  of_names (n ∷ ns) h = (of_types (schemes n.0) (one_type n.1) h.0, of_names ns h.1)

  of_group : (known : Known) (q : Place) (o : Option Annotation) (ds : List Definition) → GroupHasTold told schemes known q o ds
      → GroupHasSchemes p items schemes known q o ds
  of_group known q None ds h = of_names (group_types ds known q) h
  of_group known q (Some annotation) ds h = h

  pub of_groups : (known : Known) (gs : List (ℕ × List Definition))
      → AllByRecursion (λ (g : ℕ × List Definition). GroupHasTold told schemes known (child p g.0) (first_annotation g.1) g.1) gs
      → AllByRecursion (λ (g : ℕ × List Definition). GroupHasSchemes p items schemes known (child p g.0) (first_annotation g.1) g.1) gs
  of_groups known [] h = tt
  of_groups known (g ∷ gs) h = (of_group known (child p g.0) (first_annotation g.1) g.1 h.0, of_groups known gs h.1)

pub ends : EachChoiceFits → RenamedTwice → RenamedPrincipal → Ends
ends choice_fits twice renamed module_ env p R Q s told schemes shape inferring names = record {
  typable = record {
    solution =
        plain_solves choice_fits start R (module_items module_ env p) s [] shape inferring.ready.within inferring.ready.under.root inferring.ready.stands;
    small = inferring.ready.sized.small;
  };
  types = of_groups twice renamed p R (module_items module_ env p) told inferring.lasts schemes (known_in module_ env) _ names;
}
