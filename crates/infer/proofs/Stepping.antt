-- One type group of a module more.
use Rattle.std.proofs.Common.{◌≡◌, ℕ, ◌+◌, List, [], ◌∷◌, ◌++◌, map, length, take, drop, Option, Some, None}
use Rattle.std.proofs.Common.{refl, sym, ap, ◌∙◌, subst, arith}
use Rattle.std.specs.Prelude.{flat_map, slice_get}
use Rattle.std.specs.List.{AllByRecursion, Contains, enumerate_from}
use Rattle.std.proofs.lemmas.List.{append-nil}
use Rattle.std.proofs.lemmas.List.Elements.{Contains-append_left, Contains-append_right}
use Rattle.std.proofs.lemmas.Grind.{flat_map-append}
use Rattle.elm_canon.specs.declared.reference.Ref.{Ref}
use Rattle.elm_canon.specs.Tree.{Annotation, Module, Title}
use Rattle.elm_type.specs.Types.{Scheme}
use Rattle.elm_type.specs.Schemes.{rename}
use Rattle.decl_groups.proofs.Basics.{first_member, later_member}
use Rattle.type_items.specs.Items.{Place, child, at, Item}
use Rattle.type_items.specs.Scopes.{Entry, Entries, Known, Scope}
use Rattle.type_items.specs.Annotations.{annotation_scheme, annotation_type, kind_of, variables_of}
use Rattle.type_items.specs.Definitions.{Definition, group_types, group_items, list_group, list_as}
use Rattle.type_items.specs.Inferred.{first_annotation}
use Rattle.type_items.specs.Modules.{known_in}
use Rattle.type_store.specs.Shape.{IsStore}
use Rattle.type_walks.specs.Regions.{only, below}
use Rattle.type_walks.specs.Links.{Links}
use Rattle.type_walks.specs.Walks.{Walk}
use Rattle.type_walks.proofs.Linking.{right_inside}
use Rattle.type_walks.proofs.Walking.{widens}
use Rattle.type_walks.specs.Told.{start}
use Rattle.type_walks.specs.TypeCopiesLaws.{deeper}
use Rattle.type_constructs.specs.Passing.{Passes}
use Rattle.type_items.proofs.Matching.{all_both}
use Rattle.type_constructs.specs.Lasting.{Telling}
use Rattle.type_constructs.specs.TypeModulesGroups.{groups_of, group_places, ModuleAt}
use Rattle.type_constructs.specs.TypeModulesLaws.{ModuleGoesOn, ModuleTells}
use Rattle.type_constructs.specs.Laws.{ReadIsTold, SchemeIsOrdered}
use Rattle.infer_steps.specs.Codes.{Code, State}
use Rattle.infer_steps.specs.Means.{Setting}
use Rattle.infer_steps.specs.Ready.{IsWritten}
use Rattle.infer_types.specs.Fixing.{numbered, IsAnnotation}
use Rattle.infer_types.specs.Once.{FieldsOnce}
use Rattle.infer_types.proofs.Topmost.{kept_is_scheme, kept_is_written}
use Rattle.infer_order.specs.Order.{IsTitled}
use Rattle.infer_groups.specs.Members.{AreNamed, GroupAt}
use Rattle.infer_groups.proofs.Members.{take_one, take_count}
use Rattle.infer.specs.Modules.{root}
use Rattle.infer.specs.Names.{names_of}
use Rattle.infer.specs.Told.{Typed, NamesTold, IsToldAs, GroupIsTold, written_types}
use Rattle.infer.specs.Middle.{GroupHas, GroupsHave, Middle}
use Rattle.infer.proofs.Lists.{cut, enumerated, mapped, map_append}
use Rattle.infer.proofs.Keeping.{groups_still, group_still}
use Rattle.infer.proofs.Reading.{tellings_of, all_told, all_have, names_same, all_written}
use Rattle.infer.proofs.InferModulesWritten.{written_renamed}

-- ---- definitions with titles

-- it has a title, and its annotation has the fields of each record once
pub record IsFine (d : Definition) : Type 0 where
  pub title : Title
  pub titled : IsTitled title d
  pub once : (a : Annotation) → d.annotation ≡ Some a → FieldsOnce a

entry_names : (ds : List Definition) → AllByRecursion IsFine ds → (known : Known) (q : Place) (n : ℕ)
    → map (λ (e : Ref × Entry). e.0)
    (flat_map (λ (d : ℕ × Definition). d.1.types known (child q d.0) (at (child q d.0))) (enumerate_from n ds))
    ≡ names_of ds
entry_names [] h known q n = refl
entry_names (d ∷ ds) h known q n =
    let rest = flat_map (λ (d : ℕ × Definition). d.1.types known (child q d.0) (at (child q d.0)))
    (enumerate_from (n + 1) ds) in
    subst (λ (x : Definition). map (λ (e : Ref × Entry). e.0) (x.types known (child q n) (at (child q n)) ++ rest)
    ≡ x.names ++ names_of ds) (sym h.0.titled.is)
    (ap (λ l. h.0.title.name ∷ l) (entry_names ds h.1 known q (n + 1)))

once_first_annotation : (g : List Definition) → AllByRecursion IsFine g → (a : Annotation)
    → first_annotation g ≡ Some a → FieldsOnce a
once_first_annotation [] h a e = absurd cc
once_first_annotation (d ∷ ds) h a e = h.0.once a e

-- ---- the type of an annotation

annotation_written : (t : Annotation) → FieldsOnce t → IsWritten (annotation_scheme t).kinds (annotation_scheme t)
annotation_written t once =
    let xs = variables_of t in
    let ks = map (kind_of t) xs in
    let u = annotation_type (numbered xs) t in
    let is : IsAnnotation t xs ks u = record { names = refl; kinds = refl; type = refl; once = once } in
    subst (λ (s : Scheme). IsWritten s.kinds s) (kept_is_scheme t xs ks u is) (kept_is_written t xs ks u is)

all_as : (s : Scheme) → IsWritten s.kinds s → (xs : List Ref)
    → AllByRecursion (λ (t : Typed). IsWritten t.1.kinds t.1) (map (λ (x : Ref). (x, s)) xs)
all_as s w [] = tt
all_as s w (x ∷ xs) = (w, all_as s w xs)

names_as : (s : Scheme) (xs : List Ref) → map (λ (t : Typed). t.0) (map (λ (x : Ref). (x, s)) xs) ≡ xs
names_as s [] = refl
names_as s (x ∷ xs) = ap (λ l. x ∷ l) (names_as s xs)

module _ (told : List Typed) (s : Scheme) where
  each_listed : (xs : List Ref) → ((x : Ref) → Contains xs x → Contains told (x, s))
      → AllByRecursion (λ x. Contains told (x, s)) xs
  each_listed [] h = tt
  each_listed (x ∷ xs) h = (h x (first_member x xs), each_listed xs (λ y c. h y (later_member x y xs c)))

  all_listed : (ds : List Definition) → ((x : Ref) → Contains (names_of ds) x → Contains told (x, s))
      → AllByRecursion (λ (d : Definition). AllByRecursion (λ x. Contains told (x, s)) d.names) ds
  all_listed [] h = tt
  all_listed (d ∷ ds) h = (
    each_listed d.names (λ x c. h x (Contains-append_left d.names (names_of ds) x c)),
    all_listed ds (λ x c. h x (Contains-append_right d.names (names_of ds) x c)),
  )

-- ---- what a group lists

none_items : (g : List Definition) (scope : Scope) (q : Place) → first_annotation g ≡ None
    → (list_group g scope q).items ≡ group_items g scope q
none_items [] scope q e = refl
none_items (d ∷ ds) scope q e = ap (λ o. (list_as o d ds scope q).items) e

known_kept : (g : List Definition) (scope : Scope) (q : Place) → (list_group g scope q).scope.known ≡ scope.known
known_kept [] scope q = refl
known_kept (d ∷ ds) scope q = by d.annotation
  where
    by : (o : Option Annotation) → (list_as o d ds scope q).scope.known ≡ scope.known
    by None = refl
    by (Some a) = refl

-- ---- the step

module _ (goes_on : ModuleGoesOn) (tells : ModuleTells) (read : ReadIsTold) (in_order : SchemeIsOrdered)
    (module_ : Module) (env : Known) (k : ℕ) (g : List Definition) (code after : Code) (old new : State)
    (before told : List Typed) (mid : Middle module_ env k code old before)
    (is : GroupIsTold code after g k old new before told) (at_k : slice_get (groups_of module_) k ≡ Some g)
    (fine : AllByRecursion IsFine g) where
  abbrev q : Place
  q = child root k

  abbrev left : List (List Definition)
  left = drop (k + 1) (groups_of module_)

  abbrev known : Known
  known = known_in module_ env

  abbrev after_scope : Scope
  after_scope = (list_group g mid.scope q).scope

  abbrev the_items : List Item
  the_items = (list_group g mid.scope q).items

  at_group : ModuleAt module_ env root (g ∷ left) k mid.scope old.store mid.tellings
  at_group =
      subst (λ l. ModuleAt module_ env root l k mid.scope old.store mid.tellings) (cut (groups_of module_) k g at_k)
      mid.at

  walked : Walk start (group_places q) the_items old.store [] new.store []
  walked = is.defined.walk start [] mid.scope root mid.setting

  passed : Passes start old.store [] (group_places q) the_items
  passed =
      subst (λ p. Passes start old.store [] (group_places (child p k)) (list_group g mid.scope (child p k)).items)
      mid.place (is.defined.passes start [] mid.scope mid.setting)

  set_after : Setting start [] after after_scope new
  set_after = is.defined.setting start [] mid.scope root mid.setting

  enumerate_more : enumerate_from 0 (take (k + 1) (groups_of module_))
      ≡ enumerate_from 0 (take k (groups_of module_)) ++ (k, g) ∷ []
  enumerate_more =
      ap (enumerate_from 0) (sym (take_one (groups_of module_) k g at_k))
      ∙ (enumerated 0 (take k (groups_of module_)) g
      ∙ (let e : 0 + length (take k (groups_of module_)) ≡ k = omega (arith, take_count (groups_of module_) k g at_k) in
      ap (λ n. enumerate_from 0 (take k (groups_of module_)) ++ (n, g) ∷ []) e))

  all_names : (more : List Typed) → map (λ (t : Typed). t.0) more ≡ names_of g
      → map (λ (t : Typed). t.0) (before ++ more) ≡ flat_map names_of (take (k + 1) (groups_of module_))
  all_names more e =
      map_append (λ (t : Typed). t.0) before more
      ∙ (ap (λ l. l ++ map (λ (t : Typed). t.0) more) mid.names
      ∙ (ap (λ l. flat_map names_of (take k (groups_of module_)) ++ l) (e ∙ sym (append-nil (names_of g)))
      ∙ (sym (flat_map-append names_of (take k (groups_of module_)) (g ∷ []))
      ∙ ap (flat_map names_of) (take_one (groups_of module_) k g at_k))))

  -- with what was told of the group
  with_more : (more : List Typed) (tellings : List Telling)
      → ModuleAt module_ env root left (k + 1) after_scope new.store (mid.tellings ++ tellings)
      → map (λ (t : Typed). t.0) more ≡ names_of g
      → AllByRecursion (λ (t : Typed). IsWritten t.1.kinds t.1) more
      → GroupHas (mid.tellings ++ tellings) (before ++ more) known q (first_annotation g) g
      → Middle module_ env (k + 1) after new (before ++ more)
  with_more more tellings at_next names written has = record {
    scope = after_scope;
    known = known_kept g mid.scope q ∙ mid.known;
    tellings = mid.tellings ++ tellings;
    at = at_next;
    setting = set_after;
    place = is.defined.follows.place ∙ mid.place;
    have =
        subst (GroupsHave (mid.tellings ++ tellings) (before ++ more) known) (sym enumerate_more)
        (all_both (λ (g : ℕ × List Definition). GroupHas (mid.tellings ++ tellings) (before ++ more) known
        (child root g.0)
        (first_annotation g.1) g.1) (enumerate_from 0 (take k (groups_of module_))) ((k, g) ∷ [])
        (groups_still mid.tellings (mid.tellings ++ tellings) before (before ++ more)
        (λ t c. Contains-append_left mid.tellings tellings t c) (λ t c. Contains-append_left before more t c) known
        (enumerate_from 0 (take k (groups_of module_))) mid.have) (has, tt));
    names = all_names more names;
    written = all_both (λ (t : Typed). IsWritten t.1.kinds t.1) before more mid.written written;
  }

  -- a group without annotations
  inferred : (more : List Typed) → first_annotation g ≡ None → NamesTold code g k old new more
      → Middle module_ env (k + 1) after new (before ++ more)
  inferred more none n =
      with_more more new_tellings at_next (names_same read in_order new.store whole links n.names entries more named
      n.each
      ∙ entry_names g fine mid.scope.known q 0)
      (all_written read in_order new.store whole links set_after.around.within n.names more n.each)
      (group_still new_tellings (mid.tellings ++ new_tellings) more (before ++ more)
      (λ t c. Contains-append_right mid.tellings new_tellings t c) (λ t c. Contains-append_right before more t c) known
      q (first_annotation g) g
      (subst (λ o. GroupHas new_tellings more known q o g) (sym none)
      (subst (λ (m : Known). GroupHas new_tellings more m q None g) mid.known
      (all_have read in_order new.store whole links n.names entries more named n.each))))
    where
      at_q : GroupAt start g mid.scope q old.store [] n.names n.inner
      at_q = n.done.each start [] mid.scope q mid.setting

      links : Links
      links = at_q.after

      whole : IsStore new.store
      whole = is.defined.follows.whole

      entries : Entries
      entries = group_types g mid.scope.known q

      named : AreNamed links n.names entries
      named = at_q.named

      new_tellings : List Telling
      new_tellings = tellings_of entries more

      inside : Walk (deeper start) (group_places q) the_items old.store [] new.store links
      inside =
          widens (deeper start) (below q) (group_places q) the_items old.store new.store [] links
          (right_inside (only q) (below q))
          (subst (λ s. Walk (deeper start) (below q) the_items old.store [] s links) (sym n.store)
          (subst (λ l. Walk (deeper start) (below q) l old.store [] n.inner.store links)
          (sym (none_items g mid.scope q none)) at_q.walk))

      at_next : ModuleAt module_ env root left (k + 1) after_scope new.store (mid.tellings ++ new_tellings)
      at_next =
          tells module_ env root g left k mid.scope old.store new.store links mid.tellings new_tellings whole at_group
          walked inside passed (all_told read in_order new.store whole links n.names entries more named n.each)

  -- one with an annotation
  annotated : (a : Annotation) (more : List Typed) → first_annotation g ≡ Some a → more ≡ written_types a g
      → Middle module_ env (k + 1) after new (before ++ more)
  annotated a more some e =
      with_more more [] (subst (ModuleAt module_ env root left (k + 1) after_scope new.store)
      (sym (append-nil mid.tellings))
      (goes_on module_ env root g left k mid.scope old.store new.store mid.tellings is.defined.follows.whole at_group
      walked
      passed))
      (ap (map (λ (t : Typed). t.0)) e ∙ names_as scheme (names_of g))
      (subst (AllByRecursion (λ (t : Typed). IsWritten t.1.kinds t.1)) (sym e)
      (all_as scheme (written_renamed (annotation_scheme a)
      (annotation_written a (once_first_annotation g fine a some))) (names_of g)))
      (subst (λ o. GroupHas (mid.tellings ++ []) (before ++ more) known q o g) (sym some)
      (all_listed (before ++ more) scheme g (λ x c. Contains-append_right before more (x, scheme)
      (subst (λ l. Contains l (x, scheme)) (sym e) (mapped (λ (x : Ref). (x, scheme)) (names_of g) x c)))))
    where
      scheme : Scheme
      scheme = rename (annotation_scheme a)

  pub one_more : Middle module_ env (k + 1) after new told
  one_more =
      subst (Middle module_ env (k + 1) after new) (sym is.added) (by (first_annotation g) refl is.is)
    where
      by : (o : Option Annotation) → first_annotation g ≡ o → IsToldAs o code g k old new is.more
          → Middle module_ env (k + 1) after new (before ++ is.more)
      by None e h = inferred is.more e h
      by (Some a) e h = annotated a is.more e h
