-- Constants that stay in their scope: after the body of an annotated definition the items on scopes are solved, up to the
-- first constant whose variable is no deeper than what is around.
use Rattle.std.proofs.Common.{◌≡◌, ℕ, ◌<◌, ◌≤◌, List, [], ◌∷◌, ◌++◌, length, map, Bool, true, false, inl, inr, refl, sym, ap, ◌∙◌, subst, arith, append_assoc}
use Rattle.std.specs.Prelude.{◌⊎◌, All, ◌&&◌, nat_eq, Option}
use Rattle.std.specs.List.{AllByRecursion, Contains}
use Rattle.std.proofs.lemmas.Bool.{cases_lt}
use Rattle.std.proofs.lemmas.List.{append-nil}
use Rattle.std.proofs.lemmas.List.Elements.{All-nil, Contains-append_cases, Contains-append_right}
use Rattle.elm_base.specs.declared.position.Pos.{Pos}
use Rattle.elm_type.specs.Types.{ElmTypes, Fields, End, Closed, Over, Made, Record, NoType, MoreType, NoField, MoreField, variables, variables_all, variables_fields, end_variables, Rigid, Leaf, Free, Fixed, Scheme, size}
use Rattle.elm_type.specs.Classes.{Ground}
use Rattle.elm_type.specs.Rows.{extend, at_end, substitute_all, substitute_fields}
use Rattle.elm_type.specs.Ground.{leaf_value, value}
use Rattle.type_items.specs.Items.{Place, Wanted, Item, Keeps, Small}
use Rattle.type_items.specs.Solutions.{Avoids, Keep, Solution, Solves}
use Rattle.type_items.specs.Principal.{HasType, unscoped, IsPrincipal}
use Rattle.type_items.specs.Faults.{limit}
use Rattle.type_store.specs.Store.{Constant, Slot, Store, slot_at}
use Rattle.type_store.specs.Solutions.{Values}
use Rattle.type_store.specs.Shape.{IsStore, parts_of}
use Rattle.type_store.specs.Laws.{EachChoiceFits}
use Rattle.type_store.proofs.Parts.{all_with, slot_past}
use Rattle.type_walks.specs.Regions.{Region, none, only, below, either, Inside}
use Rattle.type_walks.specs.Links.{Links, Linked, Live, AreLive, Has}
use Rattle.type_walks.specs.Walks.{Around, Filled, Walk}
use Rattle.type_walks.proofs.Cleaning.{all_both, all_first, all_second, constant_there}
use Rattle.type_walks.proofs.Linking.{all_live_later, linked_agree, solves_both, unscoped_both}
use Rattle.type_walks.proofs.Regions.{only_itself, apart_none, none_inside}
use Rattle.type_walks.proofs.Refitting.{plain}
use Rattle.type_schemes.specs.Constants.{moved, Own, rigids, own_links, within, scope_items, Outer}
use Rattle.type_schemes.proofs.Moving.{below_there}
use Rattle.type_walks.specs.Told.{Told}
use Rattle.type_walks.specs.ToldTypesLaws.{TellsPrincipal}
use Rattle.type_constructs.specs.Failing.{Large, FailsAt}
use Rattle.type_constructs.specs.Passing.{Sized, Ready, Passes, NoSizes}
use Rattle.type_constructs.specs.Annotated.{Entered, IsDeep, IsFixed, AllFixed, AnnotatedPasses, AnnotatedLarge}
use Rattle.type_constructs.proofs.Refits.{all_there, plain_fit, plain_open, plain_filled, plain_clean}
use Rattle.type_constructs.proofs.Moments.{sized_plain, ready_walk}
use Rattle.type_constructs.proofs.Passing.{sized_small}
use Rattle.type_constructs.proofs.Entering.{own_off, ready_in}

-- ---- a walk that keeps the links of before

pub remembers : (a : Around) (Q : Region) (items : List Item) (s s' : Store) (before after : Links) → AreLive a.depth s before
    → Walk a Q items s before s' after → Walk a Q items s before s' (before ++ after)
remembers a Q items s s' before after live walk = record {
  later = walk.later;
  live = λ h. all_both (λ (l : ℕ × Wanted). Live a.depth s' l.0) before after (all_live_later a.depth s s' before walk.later h) (walk.live h);
  determined = walk.determined;
  back = walk.back;
  sound = λ σ f away. (
      let x = walk.sound σ f away in
      record {
        types = x.types;
        ground = x.ground;
        linked = λ all c h. all_both (λ (l : ℕ × Wanted). σ.types l.0 ≡ value all l.1) before after h (x.linked all c h);
        solves = x.solves;
        kept = x.kept;
      });
  complete = λ σ types f g away linked sol. (
      let x = walk.complete σ types f g away linked sol in
      record {
        values = x.values;
        fit = x.fit;
        agree = x.agree;
        linked =
            all_both (λ (l : ℕ × Wanted). x.values.types l.0 ≡ value types l.1) before after
            (linked_agree a.depth s before σ x.values types live x.agree linked) x.linked;
      });
}

-- ---- types without variables

module _ (c d : Place → Ground) where
  fixed_end : (end : End (Leaf Place)) → AllByRecursion IsFixed (end_variables end) → at_end (leaf_value c) end ≡ at_end (leaf_value d) end
  fixed_end Closed h = refl
  fixed_end (Over (Free i)) h = absurd (h.0)
  fixed_end (Over (Fixed r)) h = refl

  mutual
    pub fixed_value : (t : Wanted) → AllByRecursion IsFixed (variables t) → value c t ≡ value d t
    fixed_value (Made h ts) b = ap (Made h) (fixed_all ts b)
    fixed_value (Record fs end) b =
        ap (λ gs. extend gs (at_end (leaf_value c) end)) (fixed_fields fs (all_second IsFixed (end_variables end) (variables_fields fs) b))
        ∙ ap (extend (substitute_fields (leaf_value d) fs)) (fixed_end end (all_first IsFixed (end_variables end) (variables_fields fs) b))

    fixed_all : (ts : ElmTypes (Leaf Place)) → AllByRecursion IsFixed (variables_all ts) → substitute_all (leaf_value c) ts ≡ substitute_all (leaf_value d) ts
    fixed_all NoType b = refl
    fixed_all (MoreType t ts) b =
        ap (λ u. MoreType u (substitute_all (leaf_value c) ts)) (fixed_value t (all_first IsFixed (variables t) (variables_all ts) b))
        ∙ ap (MoreType (value d t)) (fixed_all ts (all_second IsFixed (variables t) (variables_all ts) b))

    fixed_fields : (fs : Fields (Leaf Place)) → AllByRecursion IsFixed (variables_fields fs) → substitute_fields (leaf_value c) fs ≡ substitute_fields (leaf_value d) fs
    fixed_fields NoField b = refl
    fixed_fields (MoreField k t fs) b =
        ap (λ u. MoreField k u (substitute_fields (leaf_value c) fs)) (fixed_value t (all_first IsFixed (variables t) (variables_fields fs) b))
        ∙ ap (MoreField k (value d t)) (fixed_fields fs (all_second IsFixed (variables t) (variables_fields fs) b))

-- its principal type stays where constants have to stay in their scope
pub still_principal : (m : Place) (items keeps : List Item) (t : Wanted) (scheme : Scheme) → unscoped keeps ≡ [] → AllFixed t
    → Solution (items ++ keeps) → IsPrincipal m items t scheme → IsPrincipal m (items ++ keeps) t scheme
still_principal m items keeps t scheme none fixed sol h =
    let same : unscoped (items ++ keeps) ≡ unscoped items = unscoped_both items keeps ∙ (ap (λ l. unscoped items ++ l) none ∙ append-nil (unscoped items)) in
    record {
      formed = h.formed;
      each = λ g. (
        (λ x. (h.each g).0 (subst (λ l. HasType l t g) same x)),
        (λ i. subst (λ l. HasType l t g) (sym same) ((h.each g).1 i)),
      );
      kept = λ g outside i. (
          let x = (h.each g).1 i in
          record { solution = sol; has = fixed_value sol.values x.solution.values t fixed ∙ x.has });
    }

-- ---- places

pub not_below_itself : (p : Place) → below p p ≡ false
not_below_itself [] = refl
not_below_itself (k ∷ p) = second (nat_eq k k) (below p p) (not_below_itself p)
  where
    second : (a b : Bool) → b ≡ false → (a && b) ≡ false
    second true b h = h
    second false b h = refl

no_root : (p : Place) (i : ℕ) (q : Place) → [] ≡ p ++ i ∷ q → ⊥
no_root [] i q e = cc
no_root (k ∷ p) i q e = cc

-- ---- the items on scopes

abbrev pub keeps : Pos → Place → List Wanted → List Own → List Item
keeps pos p outer own = map (λ o. Keeps pos (moved p o.rigid) outer) own

pub keeps_unscoped : (pos : Pos) (p : Place) (outer : List Wanted) (own : List Own) → unscoped (keeps pos p outer own) ≡ []
keeps_unscoped pos p outer [] = refl
keeps_unscoped pos p outer (o ∷ os) = keeps_unscoped pos p outer os

pub keeps_sizes : (pos : Pos) (p : Place) (outer : List Wanted) (own : List Own) → NoSizes (keeps pos p outer own)
keeps_sizes pos p outer [] = tt
keeps_sizes pos p outer (o ∷ os) = (refl, keeps_sizes pos p outer os)

module _ (choice_fits : EachChoiceFits) (a : Around) (p : Place) (body all : Region) (items : List Item) (own : List Own) (outer : List Wanted) (pos : Pos)
    (s opened walked : Store) (links after : Links) (shape : IsStore walked) (entered : Entered a p body all own s opened)
    (outers : AllByRecursion (Outer a.depth s links) outer) (walk : Walk (within a own) body items opened (own_links p own ++ links) walked after)
    (passes : Passes (within a own) opened (own_links p own ++ links) body items)
    (m : Place) (R : Region) (first : List Item) (ready : Ready m a R all first s links) where
  abbrev inner : Around
  inner = within a own

  abbrev before : Links
  before = own_links p own ++ links

  pub entered_ready : Ready m inner R body first opened before
  entered_ready = ready_in a p body all own s opened entered m R body first links entered.region.inside entered.region.off ready

  pub body_sized : Sized m (first ++ items)
  body_sized = passes.each m R first entered_ready

  abbrev full : Walk inner body items opened before walked (before ++ after)
  full = remembers inner body items opened walked before after entered_ready.stands.live walk

  pub same_inside : Inside body body
  same_inside = record { each = λ r e. e }

  abbrev pub region : Region
  region = either R body

  pub done_ready : Ready m inner region none (first ++ items) walked (before ++ after)
  done_ready =
      ready_walk m inner R body none body first items opened walked before (before ++ after) (apart_none body) same_inside (none_inside body)
      entered_ready full body_sized

  -- ---- a solution

  abbrev σ : Values
  σ = (plain_fit choice_fits inner region (first ++ items) walked (before ++ after) shape done_ready.within done_ready.under.root done_ready.stands).values

  abbrev fill : Filled inner region (first ++ items) [] walked (before ++ after) σ
  fill = plain_filled choice_fits inner region (first ++ items) walked (before ++ after) shape done_ready.within done_ready.under.root done_ready.stands

  linked : Linked links σ fill.types
  linked =
      let x = fill.linked fill.types (λ r e. refl) tt in
      all_second (λ (l : ℕ × Wanted). σ.types l.0 ≡ value fill.types l.1) (own_links p own) links
      (all_first (λ (l : ℕ × Wanted). σ.types l.0 ≡ value fill.types l.1) before after x)

  abbrev Good : ℕ → Type 0
  Good v = (slot_at walked v).depth ≤ a.depth

  parts_level : (v : ℕ) → All (λ w. (slot_at walked w).depth ≤ (slot_at walked v).depth) (parts_of (slot_at walked v).cell)
  parts_level v = elim (cases_lt v (length walked)) [
    | inl l ↦ (shape.each v l).levelled
    | inr h ↦ subst (λ (x : Slot). All (λ w. (slot_at walked w).depth ≤ x.depth) (parts_of x.cell)) (sym (slot_past walked v h)) (All-nil (λ w. (slot_at walked w).depth ≤ 0))
  ]

  pub good_parts : (v : ℕ) → Good v → All Good (parts_of (slot_at walked v).cell)
  good_parts v g =
      all_with (λ w. (slot_at walked w).depth ≤ (slot_at walked v).depth) (λ w. (slot_at walked w).depth ≤ (slot_at walked v).depth) Good
      (parts_of (slot_at walked v).cell) (λ w x y. omega (arith, x, g)) (parts_level v) (parts_level v)

  not_root : p ≡ [] → ⊥
  not_root e =
      let x = ap all e in
      let y = entered.region.here in
      let z = ready.inside.root in
      cc

  module _ (o : Own) (there : Contains (rigids own) o.rigid) (deep : IsDeep a.depth walked o) where
    abbrev P : Rigid → Type 0
    P = Avoids (moved p o.rigid)

    avoids_root : (k : _) → P (plain k)
    avoids_root k = record { other = λ e f. not_root (sym e); not_below = λ i q e. no_root p i q e }

    avoids_constant : (v : ℕ) (r : Rigid) → Good v → (slot_at walked v).cell ≡ Constant r → P r
    avoids_constant v r g e = go (Contains-append_cases (rigids own) a.constants r (done_ready.within.each r (constant_there walked v r e)))
      where
        go : Contains (rigids own) r ⊎ Contains a.constants r → P r
        go (inl x) = record {
          other = λ f h. (
              let same : r ≡ o.rigid = entered.named r o.rigid x there h in
              let d = deep.each v (e ∙ ap Constant same) in
              omega (arith, d, g));
          not_below = λ i q f. (
              let y = own_off a p body all own s opened entered (below p) (not_below_itself p) r x in
              let z = ap (below p) f ∙ below_there p i q in
              cc);
        }
        go (inr x) = record {
          other = λ f h. (
              let y = entered.owned.new r x in
              let z = ap (only p) f ∙ only_itself p in
              cc);
          not_below = λ i q f. (
              let y = ready.outside r x in
              let z = ap all f ∙ entered.region.under.each (p ++ i ∷ q) (below_there p i q) in
              cc);
        }

    kept_low : (v : ℕ) → Good v → AllByRecursion P (variables (σ.types v))
    kept_low =
        let fitted = plain_fit choice_fits inner region (first ++ items) walked (before ++ after) shape done_ready.within done_ready.under.root done_ready.stands in
        all_there walked shape Good good_parts σ (λ v g. (fitted.fit.each v).cell) P
        (λ v r g e. subst P (sym (fitted.same r)) (avoids_constant v r g e))
        (λ v g e.
        subst (λ t. AllByRecursion P (variables t))
        (sym (plain_open choice_fits inner region (first ++ items) walked (before ++ after) shape done_ready.within done_ready.under.root done_ready.stands v e))
        (avoids_root (slot_at walked v).kind, tt))

    low : (v : ℕ) → Live a.depth s v → Good v
    low v l =
        let x = entered.opens.depth v l.inside in
        let y = walk.later.depth v (omega (arith, entered.opens.grows, l.inside)) in
        omega (arith, x, y, l.depth)

    kept_outer : (ts : List Wanted) → AllByRecursion (Outer a.depth s links) ts → AllByRecursion (λ t. Keep (moved p o.rigid) (value fill.types t)) ts
    kept_outer [] h = tt
    kept_outer (t ∷ ts) h = (
      subst (λ g. AllByRecursion P (variables g)) (h.0.has.same σ fill.types linked) (kept_low h.0.slot (low h.0.slot h.0.live)),
      kept_outer ts h.1,
    )

    pub kept_one : AllByRecursion (λ t. Keep (moved p o.rigid) (value fill.types t)) outer
    kept_one = kept_outer outer outers

  kept_all : (os : List Own) → AllByRecursion (λ (o : Own). Contains (rigids own) o.rigid) os → AllByRecursion (IsDeep a.depth walked) os
      → Solves fill.types (keeps pos p outer os)
  kept_all [] h k = tt
  kept_all (o ∷ os) h k = (kept_one o h.0 k.0, kept_all os h.1 k.1)

  module _ (os : List Own) (there : AllByRecursion (λ (o : Own). Contains (rigids own) o.rigid) os) (deep : AllByRecursion (IsDeep a.depth walked) os) where
    pub kept_solution : Solution ((first ++ items) ++ keeps pos p outer os)
    kept_solution = record {
      values = fill.types;
      ground = fill.ground;
      solves =
          solves_both fill.types (first ++ items) (keeps pos p outer os)
          (fill.kept fill.types (λ r e. refl) tt
          (plain_clean choice_fits inner region (first ++ items) walked (before ++ after) shape done_ready.within done_ready.under.root done_ready.stands))
          (kept_all os there deep);
    }

    pub kept_sized : Sized m ((first ++ items) ++ keeps pos p outer os)
    kept_sized = sized_plain m (first ++ items) (keeps pos p outer os) (keeps_sizes pos p outer os) body_sized

  own_there : (os : List Own) → AllByRecursion (λ (o : Own). Contains (rigids os) o.rigid) os
  own_there [] = tt
  own_there (o ∷ os) = ((0, omega arith, refl), more_there (rigids os) o.rigid os (own_there os))
    where
      more_there : (rs : List Rigid) (r : Rigid) (os : List Own) → AllByRecursion (λ (o : Own). Contains rs o.rigid) os
          → AllByRecursion (λ (o : Own). Contains (r ∷ rs) o.rigid) os
      more_there rs r [] h = tt
      more_there rs r (o ∷ os) h = (Contains-append_right (r ∷ []) rs o.rigid h.0, more_there rs r os h.1)

  -- ---- the type of the definition

  module _ (tells : TellsPrincipal) (type : Wanted) (v : ℕ) (scheme : Scheme) (place : ℕ → ℕ) (number : ℕ → Option ℕ)
      (deep : AllByRecursion (IsDeep a.depth walked) own) (fixed : AllFixed type) (has : Has after v type) (told : Told walked v scheme place number) where
    abbrev closed : List Item
    closed = (first ++ items) ++ keeps pos p outer own

    has_still : Has (before ++ after) v type
    has_still = record { same = λ τ types h. has.same τ types (all_second (λ (l : ℕ × Wanted). τ.types l.0 ≡ value types l.1) before after h) }

    type_principal : IsPrincipal m closed type scheme
    type_principal =
        still_principal m (first ++ items) (keeps pos p outer own) type scheme (keeps_unscoped pos p outer own) fixed
        (kept_solution own (own_there own) deep)
        (tells inner region m (first ++ items) walked (before ++ after) v type scheme place number shape done_ready.within done_ready.under
        done_ready.stands has_still told)

    whole : closed ++ Small pos type ∷ [] ≡ first ++ (items ++ scope_items pos p own outer type)
    whole =
        append_assoc (first ++ items) (keeps pos p outer own) (Small pos type ∷ [])
        ∙ append_assoc first items (keeps pos p outer own ++ Small pos type ∷ [])

    pub annotated_sized : size scheme.type ≤ limit → Sized m (first ++ (items ++ scope_items pos p own outer type))
    annotated_sized small =
        subst (Sized m) whole
        (sized_small m closed pos type (kept_sized own (own_there own) deep)
        (record { scheme = scheme; principal = type_principal; small = small }))

    pub annotated_stops : limit < size scheme.type → (s' : Store) → FailsAt m (first ++ (items ++ scope_items pos p own outer type)) (Large pos v) s'
    annotated_stops large s' = record {
      before = closed;
      item = Small pos type;
      after = [];
      split = sym whole;
      fine = record { solution = kept_solution own (own_there own) deep; small = (kept_sized own (own_there own) deep).small };
      is = (refl, record { scheme = scheme; principal = type_principal; large = large });
    }

pub annotated_passes : EachChoiceFits → TellsPrincipal → AnnotatedPasses
annotated_passes choice_fits tells a p body all items own outer type pos s opened walked links after v scheme place number shape entered outers walk passes
    deep fixed has told small = record {
      each = λ m R first ready.
          annotated_sized choice_fits a p body all items own outer pos s opened walked links after shape entered outers walk passes m R first ready tells type v
          scheme place number deep fixed has told small;
    }

pub annotated_large : EachChoiceFits → TellsPrincipal → AnnotatedLarge
annotated_large choice_fits tells a p body all items own outer type pos s opened walked s' links after v scheme place number shape entered outers walk passes
    deep fixed has told large = record {
      each = λ m R first ready.
          annotated_stops choice_fits a p body all items own outer pos s opened walked links after shape entered outers walk passes m R first ready tells type v
          scheme place number deep fixed has told large s';
    }
