-- The start of a module, its end, and where it stops.
use Rattle.std.proofs.Common.{◌≡◌, ℕ, ◌+◌, List, [], ◌∷◌, ◌++◌, map, length, take, drop, Option, Some, None}
use Rattle.std.proofs.Common.{refl, sym, ap, ◌∙◌, subst, arith}
use Rattle.std.specs.Prelude.{flat_map, slice_get}
use Rattle.std.specs.List.{AllByRecursion, Contains, enumerate_from}
use Rattle.std.specs.Map.{lookup}
use Rattle.std.proofs.lemmas.List.{append-nil}
use Rattle.elm_base.specs.declared.position.Pos.{Pos}
use Rattle.elm_canon.specs.Names.{same_ref}
use Rattle.elm_canon.specs.declared.reference.Ref.{Ref}
use Rattle.elm_canon.specs.Tree.{Annotation, Group, Module}
use Rattle.elm_type.specs.Types.{Name, Scheme}
use Rattle.elm_type.specs.Schemes.{rename}
use Rattle.type_items.specs.Items.{Place, child, Wanted, Item}
use Rattle.type_items.specs.Scopes.{Entries, Known, Scope, one_type}
use Rattle.type_items.specs.Annotations.{annotation_scheme, variables_of}
use Rattle.type_items.specs.Definitions.{Definition, group_types, in_written_order, list_group}
use Rattle.type_items.specs.Definitions.{list_groups}
use Rattle.type_items.specs.Definitions.{asks_around, around_items}
use Rattle.type_items.specs.Inferred.{Schemes, Inferred, first_annotation}
use Rattle.type_items.specs.Modules.{known_in, module_definitions, module_scope, module_items}
use Rattle.type_store.specs.Shape.{IsStore}
use Rattle.type_walks.specs.Regions.{Region, none, only, below, span, either, Inside}
use Rattle.type_walks.specs.Walks.{Walk}
use Rattle.type_walks.proofs.Regions.{child_in_span, below_in_span, either_inside, none_inside, none_apart}
use Rattle.type_walks.specs.Told.{start}
use Rattle.type_constructs.specs.Passing.{Passes}
use Rattle.type_constructs.specs.Failing.{Bad, Fails, FailsAt}
use Rattle.type_constructs.proofs.Failing.{fails_earlier}
use Rattle.type_constructs.specs.Lasting.{Telling, HasTold, NameHasTold, GroupHasTold}
use Rattle.type_constructs.specs.TypeAnswersLaws.{GoesOn}
use Rattle.type_constructs.proofs.Ending.{start_ready}
use Rattle.type_constructs.specs.TypeModulesGroups as modules
use Rattle.type_constructs.specs.TypeModulesGroups.{first_scope, group_places, ModuleAt}
use Rattle.type_constructs.specs.TypeModulesLaws.{ModuleBegins, ModuleEnds}
use Rattle.infer_steps.specs.Codes.{Code, State}
use Rattle.infer_steps.specs.Means.{Setting}
use Rattle.infer_order.specs.Order.{ordered}
use Rattle.infer_groups.specs.Defined.{Defined, DefinitionsStop}
use Rattle.infer_groups.specs.Lets.{listed_names}
use Rattle.infer_groups.proofs.Members.{take_none, take_all}
use Rattle.infer.specs.Modules.{root}
use Rattle.infer.specs.Names.{EachOnce, names_of}
use Rattle.infer.specs.Told.{Typed}
use Rattle.infer.specs.Middle.{HasTelling, NameIsTold, GroupHas, GroupsHave, Starts, Begun, Middle}
use Rattle.infer.proofs.Lists.{cut}
use Rattle.infer.proofs.Once.{groups_once}
use Rattle.infer.proofs.Looking.{found}

-- ---- around a module's definitions there are no annotations

none_asked : (pos : Pos) (xs : List Name) (f : Name → List Item) → ((x : Name) → f x ≡ []) → flat_map f xs ≡ []
none_asked pos [] f h = refl
none_asked pos (x ∷ xs) f h = ap (λ l. l ++ flat_map f xs) (h x) ∙ none_asked pos xs f h

one_asks : (o : Option Annotation) (pos : Pos) → asks_around o pos [] ≡ []
one_asks None pos = refl
one_asks (Some a) pos = none_asked pos (variables_of a) _ (λ x. refl)

none_around : (ds : List Definition) → around_items ds [] ≡ []
none_around [] = refl
none_around (d ∷ ds) = ap (λ l. l ++ around_items ds []) (one_asks d.annotation d.place) ∙ none_around ds

-- ---- the start

module _ (begins : ModuleBegins) (on : GoesOn) (module_ : Module) (env : Known) (gs : List Group) (code after : Code)
    (old new : State) (starts : Starts module_ env gs code old)
    (is : Defined code after (λ q. none) (listed_names (ordered gs)) old new) where
  abbrev scope : Scope
  scope = module_scope module_ env

  at_first : ModuleAt module_ env root (modules.groups_of module_) 0 (first_scope module_ env) [] []
  at_first = begins module_ env root

  abbrev places : Region
  places = span root 0 (length (modules.groups_of module_))

  walked : Walk start none [] [] [] new.store []
  walked =
      subst (λ l. Walk start none l [] [] new.store []) (none_around (ordered gs))
      (subst (λ s. Walk start none (around_items (ordered gs) []) s [] new.store []) starts.store
      (is.walk start [] scope root starts.setting))

  passed : Passes start [] [] none []
  passed =
      subst (λ l. Passes start [] [] none l) (none_around (ordered gs))
      (subst (λ s. Passes start s [] none (around_items (ordered gs) [])) starts.store
      (is.passes start [] scope starts.setting))

  same_order : ordered gs ≡ modules.ordered module_
  same_order = ap in_written_order starts.groups

  pub begun : Begun module_ env gs after new
  begun = record {
    groups = starts.groups;
    at = record {
      region = either at_first.region none;
      items = at_first.items ++ [];
      inferring =
          on root at_first.region none places places at_first.items [] [] new.store [] (none_apart places)
          (none_inside places) (record { each = λ r e. e }) is.follows.whole at_first.inferring walked passed;
      listed =
          at_first.listed
          ∙ ap (λ l. l ++ (list_groups (modules.groups_of module_) (first_scope module_ env) root 0).items)
          (sym (append-nil at_first.items));
    };
    setting =
        subst (λ ds. Setting start [] after (listed_names ds scope root).scope new) same_order
        (is.setting start [] scope root starts.setting);
    place = is.follows.place ∙ starts.place;
  }

module _ (module_ : Module) (env : Known) (gs : List Group) (code : Code) (old new : State) (bad : Bad)
    (starts : Starts module_ env gs code old)
    (stop : DefinitionsStop code (λ q. none) (listed_names (ordered gs)) old new bad) where
  -- where annotations stop
  pub names_stop : FailsAt root (module_items module_ env root) bad new.store
  names_stop =
      let scope = module_scope module_ env in
      let first : Fails start [] [] none (around_items (ordered gs) []) bad new.store =
      subst (λ s. Fails start s [] none (around_items (ordered gs) []) bad new.store) starts.store
      (stop.fails start [] scope starts.setting) in
      let there : Fails start [] [] none (around_items (modules.ordered module_) []) bad new.store =
      subst (λ ds. Fails start [] [] none (around_items ds []) bad new.store) (ap in_written_order starts.groups) first
      in
      let rest = (list_groups (modules.groups_of module_) (first_scope module_ env) root 0).items in
      (fails_earlier start [] [] none (below root) (around_items (modules.ordered module_) []) rest bad new.store
      (none_inside (below root)) there).each root none [] (start_ready root)

-- no group yet

pub none_yet : (module_ : Module) (env : Known) (gs : List Group) (code : Code) (state : State)
    → Begun module_ env gs code state → Middle module_ env 0 code state []
none_yet module_ env gs code state b = record {
  scope = first_scope module_ env;
  known = refl;
  tellings = [];
  at =
      subst (λ l. ModuleAt module_ env root l 0 (first_scope module_ env) state.store [])
      (sym (drop_none (modules.groups_of module_))) b.at;
  setting = b.setting;
  place = b.place;
  have =
      subst (λ l. GroupsHave [] [] (known_in module_ env) (enumerate_from 0 l))
      (sym (take_none (modules.groups_of module_))) tt;
  names = ap (flat_map names_of) (sym (take_none (modules.groups_of module_)));
  written = tt;
}
  where
    drop_none : {X : Type 0} (xs : List X) → drop 0 xs ≡ xs
    drop_none [] = refl
    drop_none (x ∷ xs) = refl

-- ---- where a group stops

module _ (module_ : Module) (env : Known) (k : ℕ) (g : List Definition) (code : Code) (old new : State)
    (told : List Typed) (bad : Bad) (mid : Middle module_ env k code old told)
    (stop : DefinitionsStop code (λ q. group_places (child q k)) (λ scope q. list_group g scope (child q k)) old new
    bad)
    (at_k : slice_get (modules.groups_of module_) k ≡ Some g) where
  abbrev q : Place
  q = child root k

  abbrev left : List (List Definition)
  left = drop (k + 1) (modules.groups_of module_)

  at_group : ModuleAt module_ env root (g ∷ left) k mid.scope old.store mid.tellings
  at_group =
      subst (λ l. ModuleAt module_ env root l k mid.scope old.store mid.tellings)
      (cut (modules.groups_of module_) k g at_k) mid.at

  inside : Inside (group_places q) (span root k (length (g ∷ left)))
  inside =
      either_inside (only q) (below q) (span root k (length (g ∷ left)))
      (child_in_span root k (length (g ∷ left)) k (omega arith) (omega arith))
      (below_in_span root k (length (g ∷ left)) k (omega arith) (omega arith))

  pub group_stops : FailsAt root (module_items module_ env root) bad new.store
  group_stops =
      let items = (list_group g mid.scope q).items in
      let rest = (list_groups left (list_group g mid.scope q).scope root (k + 1)).items in
      let there : Fails start old.store [] (group_places q) items bad new.store =
      subst (λ p. Fails start old.store [] (group_places (child p k)) (list_group g mid.scope (child p k)).items bad
      new.store) mid.place (stop.fails start [] mid.scope mid.setting) in
      subst (λ l. FailsAt root l bad new.store) (sym at_group.listed)
      ((fails_earlier start old.store [] (group_places q) (span root k (length (g ∷ left))) items rest bad new.store
      inside
      there).each root at_group.region at_group.items at_group.inferring.ready)

-- ---- the end

module _ (told : List Typed) (tellings : List Telling) (schemes : Schemes)
    (once : EachOnce (map (λ (t : Typed). t.0) told))
    (is : (x : Ref) → schemes x ≡ lookup (same_ref x) told) where
  finds : (x : Ref) (s : Scheme) → Contains told (x, s) → schemes x ≡ Some s
  finds x s c = is x ∙ found told once x s c

  one_has : (x : Ref) (us : List Wanted) → AllByRecursion (HasTelling tellings told x) us
      → AllByRecursion (HasTold tellings (schemes x)) us
  one_has x [] h = tt
  one_has x (u ∷ us) h = (
    record {
      telling = h.0.telling;
      there = h.0.there;
      type = h.0.type;
      is = finds x (rename h.0.telling.1) h.0.listed;
    },
    one_has x us h.1,
  )

  names_have : (es : Entries) → AllByRecursion (NameIsTold tellings told) es
      → AllByRecursion (NameHasTold tellings schemes) es
  names_have [] h = tt
  names_have (e ∷ es) h = (one_has e.0 (one_type e.1) h.0, names_have es h.1)

  written_have : (s : Scheme) (xs : List Ref) → AllByRecursion (λ x. Contains told (x, s)) xs
      → AllByRecursion (λ x. schemes x ≡ Some s) xs
  written_have s [] h = tt
  written_have s (x ∷ xs) h = (finds x s h.0, written_have s xs h.1)

  definitions_have : (s : Scheme) (ds : List Definition)
      → AllByRecursion (λ (d : Definition). AllByRecursion (λ x. Contains told (x, s)) d.names) ds
      → AllByRecursion (λ (d : Definition). AllByRecursion (λ x. schemes x ≡ Some s) d.names) ds
  definitions_have s [] h = tt
  definitions_have s (d ∷ ds) h = (written_have s d.names h.0, definitions_have s ds h.1)

  group_has : (known : Known) (q : Place) (o : Option Annotation) (ds : List Definition)
      → GroupHas tellings told known q o ds → GroupHasTold tellings schemes known q o ds
  group_has known q None ds h = names_have (group_types ds known q) h
  group_has known q (Some a) ds h = definitions_have (rename (annotation_scheme a)) ds h

  groups_have : (known : Known) (gs : List (ℕ × List Definition)) → GroupsHave tellings told known gs
      → AllByRecursion (λ (g : ℕ × List Definition). GroupHasTold tellings schemes known (child root g.0)
      (first_annotation g.1) g.1) gs
  groups_have known [] h = tt
  groups_have known (g ∷ gs) h =
      (group_has known (child root g.0) (first_annotation g.1) g.1 h.0, groups_have known gs h.1)

drop_all : {X : Type 0} (xs : List X) → drop (length xs) xs ≡ []
drop_all [] = refl
drop_all (x ∷ xs) = drop_all xs

module _ (ends : ModuleEnds) (module_ : Module) (env : Known) (k : ℕ) (code : Code) (state : State) (told : List Typed)
    (schemes : Schemes) (whole : IsStore state.store) (mid : Middle module_ env k code state told)
    (all : length (modules.groups_of module_) ≡ k) (once : EachOnce (names_of (module_definitions module_)))
    (is : (x : Ref) → schemes x ≡ lookup (same_ref x) told) where
  abbrev groups : List (List Definition)
  groups = modules.groups_of module_

  taken : take k groups ≡ groups
  taken = ap (λ n. take n groups) (sym all) ∙ take_all groups

  pub names_once : EachOnce (map (λ (t : Typed). t.0) told)
  names_once =
      subst EachOnce (sym (mid.names ∙ ap (flat_map names_of) taken)) (groups_once (module_definitions module_) once)

  pub all_inferred : Inferred module_ env root schemes
  all_inferred =
      ends module_ env root k mid.scope state.store mid.tellings schemes whole
      (subst (λ l. ModuleAt module_ env root l k mid.scope state.store mid.tellings)
      (ap (λ n. drop n groups) (sym all) ∙ drop_all groups) mid.at)
      (groups_have told mid.tellings schemes names_once is (known_in module_ env) (enumerate_from 0 groups)
      (subst (λ l. GroupsHave mid.tellings told (known_in module_ env) (enumerate_from 0 l)) taken mid.have))
