-- Type groups: their members in turn, definitions with annotations, and the groups of a let in turn.
use Rattle.std.proofs.Common.{◌≡◌, ℕ, zero, suc, ◌+◌, ◌<◌, List, [], ◌∷◌, length, get_or, Option, Some, None}
use Rattle.std.proofs.Common.{Vec, Global}
use Rattle.std.proofs.Common.{refl, sym, ap, ◌∙◌, subst, arith}
use Rattle.std.specs.Prelude.{slice_get, is_some}
use Rattle.std.specs.List.{filter_map}
use Rattle.std.proofs.Math.Path.{fun_ext}
use Rattle.std.proofs.lemmas.List.{length-map}
use Rattle.decl_groups.specs.InOrder.{ordered_groups}
use Rattle.elm_base.specs.declared.position.Pos.{Pos}
use Rattle.elm_canon.specs.Tree.{Annotation, Group, Destructure, groups_of}
use Rattle.type_items.specs.Items.{child, Wanted}
use Rattle.type_items.specs.Definitions.{Definition, type_groups, all_uses, list_as, list_group}
use Rattle.type_items.specs.Definitions.{list_definitions}
use Rattle.type_items.specs.Expressions.{definitions, group_definitions}
use Rattle.type_store.proofs.Solution.{choice_fits}
use Rattle.type_walks.specs.Regions.{none, below}
use Rattle.type_walks.proofs.Saying.{says_later, says_with_more}
use Rattle.type_walks.proofs.Telling.{tells_principal}
use Rattle.type_constructs.specs.Failing.{Bad, Large}
use Rattle.infer_steps.specs.Codes.{Code, State}
use Rattle.infer_steps.specs.Leaving.{without}
use Rattle.infer_steps.specs.Ready.{IsReady}
use Rattle.infer_order.specs.Spots.{at_spot}
use Rattle.infer_order.specs.Order.{ordered, IsDefinition, AreDefinitions, IsOrder}
use Rattle.infer_order.specs.declared.order.Definition.{Definition as Stands}
use Rattle.infer_order.specs.declared.order.Order.{Order}
use Rattle.infer_order.proofs.Zips.{Beside, zip_beside, zip_length}
use Rattle.infer_groups.specs.Defined.{Places, Listing, Defined, DefinitionsStop, IsSmallIn, IsLargeIn, group_places}
use Rattle.infer_groups.specs.Defined.{at_child}
use Rattle.infer_groups.specs.Members.{Named, IsTitledAs, with_named, at_number, MembersDone, GroupDone}
use Rattle.infer_groups.specs.Names.{named_view, named_views}
use Rattle.infer_groups.specs.Lets.{listed_names, DefinedFirst}
use Rattle.infer_groups.specs.Laws.{back_at}
use Rattle.infer_groups.specs.declared.groups.Opened.{Opened}
use Rattle.infer_groups.specs.declared.names.Named.{Named as StoredName}
use Rattle.infer_groups.proofs.Members.{one_more, member_stops, member_large, all_done}
use Rattle.infer_groups.proofs.Turning.{defines_none, defines_one_more, defines_all, stops_at_names, stops_at_group}
use Rattle.infer_groups.specs.Annotated.{inside_of, listed_annotated, AnnotationAsked, AnnotatedDone, BodyStops}
use Rattle.infer_groups.proofs.Opening.{constants_ready}
use Rattle.infer_groups.proofs.Walking.{body_done}
use Rattle.infer_groups.proofs.Clearing.{clear_later, clear_opened}
use Rattle.infer_exprs.specs.Beginning.{AnnotatedOpens}
use Rattle.infer_parts.specs.Steps.{CanWalk, one, Went, Stuck}
use Rattle.infer_parts.proofs.Going.{ready_on, walked_went, stopped_stuck}
use Rattle.infer_parts.proofs.Placing.{moved, can_on}
use Rattle.infer_exprs.specs.Members.{IsTypeGroup}
use Rattle.infer_exprs.specs.Finished.{first_annotation, GroupDefined, GroupStops, InferredStops, AnnotatedDefined}
use Rattle.infer_exprs.specs.Finished.{AnnotatedStops, AnnotatedWalked, InferredWalked, GroupWalked, CanFinish}
use Rattle.infer_exprs.specs.First.{IsAnnotated, IsPattern}
use Rattle.infer_exprs.proofs.Grouping.{some_same}
use Rattle.infer_exprs.proofs.Closed.{inferred_stops}
use Rattle.infer_exprs.proofs.Grouping as grouping
use Rattle.std.proofs.lemmas.Option.{slice_get-map}
use Rattle.std.specs.Prelude.{option_map}

-- ---- members in turn

module _ (gs : List Group) (xs : List Stands) (code : Code) (i k : ℕ) (names : List Named) (old now : State)
    (m : Stands) (few : k < length xs) (here : m ≡ get_or xs k m)
    (done : (g : List Definition) → AreDefinitions gs xs g → MembersDone code g i k names old now)
    (n : Named) (at_n : slice_get names k ≡ Some n) where
  abbrev inner : Code
  inner = with_named names code

  beside : (g : List Definition) → AreDefinitions gs xs g → Beside (IsDefinition gs) m g k
  beside g are = zip_beside (IsDefinition gs) xs g k m are few here

  pub member_next : (x : State) → ((d : Definition) → at_spot gs m.group m.function ≡ Some d
      → Went Wanted inner (one n.1) below (λ s q w. d.list s q w) (at_child now k) x) → IsSmallIn x.store n.1
      → (g : List Definition) → AreDefinitions gs xs g → MembersDone code g i (k + 1) names old (back_at now x)
  member_next x went small g are =
      let b = beside g are in
      let w = went b.other b.related.at in
      one_more choice_fits says_later says_with_more (tells_principal choice_fits) code g i names old k now (done g are)
      b.other n x b.is at_n w.follows (walked_went inner n.1 (λ s q w. b.other.list s q w) (at_child now k) x w) small

  pub member_stuck : (x : State) (bad : Bad) → ((d : Definition) → at_spot gs m.group m.function ≡ Some d
      → Stuck Wanted inner (one n.1) below (λ s q w. d.list s q w) (at_child now k) x bad)
      → (g : List Definition) → AreDefinitions gs xs g → InferredStops code g i old x bad
  member_stuck x bad stuck g are =
      let b = beside g are in
      member_stops choice_fits says_later says_with_more (tells_principal choice_fits) code g i names old k now
      (done g are) b.other n b.is at_n x.store bad x
      (stopped_stuck inner n.1 (λ s q w. b.other.list s q w) (at_child now k) x bad (stuck b.other b.related.at)) refl

  pub member_is_large : (x : State) → ((d : Definition) → at_spot gs m.group m.function ≡ Some d
      → Went Wanted inner (one n.1) below (λ s q w. d.list s q w) (at_child now k) x) → IsLargeIn x.store n.1
      → (g : List Definition) → AreDefinitions gs xs g → InferredStops code g i old x (Large m.place n.1)
  member_is_large x went large g are =
      let b = beside g are in
      let w = went b.other b.related.at in
      subst (λ (p : Pos). InferredStops code g i old x (Large p n.1)) (sym b.related.place)
      (member_large choice_fits says_later says_with_more (tells_principal choice_fits) code g i names old k now
      (done g are) b.other n x b.is at_n w.follows
      (walked_went inner n.1 (λ s q w. b.other.list s q w) (at_child now k) x w) large)

-- so many names as definitions
pub names_count : (gs : List Group) (xs : List Stands) (code : Code) (i k : ℕ) (ns : List StoredName) (old now : State)
    (g : List Definition) → AreDefinitions gs xs g → MembersDone code g i k (named_views ns) old now
    → length ns ≡ length xs
names_count gs xs code i k ns old now g are done =
    let a = zip_length (IsDefinition gs) xs g are in
    let b = zip_length (λ (n : Named) d. IsTitledAs n.0 d) (named_views ns) g done.titled in
    let c = length-map ns named_view in
    omega (arith, a, b, c)

pub name_at : (ns : List StoredName) (k : ℕ) (n : StoredName) → k < length ns → n ≡ get_or ns k n
    → slice_get (named_views ns) k ≡ Some (named_view n)
name_at ns k n few here =
    slice_get-map named_view ns k ∙ ap (option_map named_view) (grouping.at_number ns k n n few here)

pub members_end : (gs : List Group) (xs : List Stands) (code : Code) (i k : ℕ) (names : List Named) (old now : State)
    → length xs ≡ k → ((g : List Definition) → AreDefinitions gs xs g → MembersDone code g i k names old now)
    → (g : List Definition) → AreDefinitions gs xs g → GroupDone code g i names old now
members_end gs xs code i k names old now count done g are =
    let e : k ≡ length g = (let z = zip_length (IsDefinition gs) xs g are in omega (arith, z, count)) in
    all_done choice_fits says_later says_with_more (tells_principal choice_fits) code g i names old now
    (subst (λ j. MembersDone code g i j names old now) e (done g are))

-- ---- a definition with its annotation

module _ (code inner : Code) (pos : Pos) (t : Annotation) (i : ℕ) (vs : List ℕ) (v : ℕ) (old now : State)
    (opens : AnnotatedOpens code inner pos t i vs v old now) where
  pub annotated_can : CanWalk inner now
  annotated_can = record {
    ready =
        subst (λ (c : Code). IsReady c now.depth now.store) (sym opens.is)
        (ready_on (inside_of code t (child old.place i) vs) opens.mid now
        (constants_ready choice_fits code t i vs old opens.mid opens.opens) opens.asked.follows);
    clear = (clear_later opens.mid now (clear_opened code t i vs old opens.mid opens.opens) opens.asked.follows).each;
  }

  now_place : now.place ≡ child old.place i
  now_place = opens.asked.follows.place ∙ opens.opens.place

  module _ (d : Definition) (at : pos ≡ d.place) where
    pub annotated_done : (x back : State)
        → Went Wanted inner (one v) below (λ s q w. d.list s q w) (at_child now 0) x → back ≡ moved x now.place
        → AnnotatedDone code d t i vs v old opens.mid back
    annotated_done x back went is =
        let w = subst (λ (c : Code). Went Wanted c (one v) below (λ s q w. d.list s q w) (at_child now 0) x) opens.is
        went in
        subst (λ (s : State). AnnotatedDone code d t i vs v old opens.mid s)
        (ap (λ q. moved x q) (sym now_place) ∙ sym is)
        (body_done choice_fits says_later says_with_more code d t i vs v old opens.mid now opens.opens
        (subst (λ (p : Pos). AnnotationAsked (inside_of code t (child old.place i) vs) p t v opens.mid now) at
        opens.asked) x w.follows
        (walked_went (inside_of code t (child old.place i) vs) v (λ s q w. d.list s q w) (at_child now 0) x w))

    pub annotated_stuck : BodyStops → (x : State) (bad : Bad)
        → Stuck Wanted inner (one v) below (λ s q w. d.list s q w) (at_child now 0) x bad
        → AnnotatedStops code d t i old x bad
    annotated_stuck stops x bad stuck =
        let s = subst (λ (c : Code). Stuck Wanted c (one v) below (λ s q w. d.list s q w) (at_child now 0) x bad)
        opens.is stuck in
        stops code d t i vs v old opens.mid now x bad opens.opens
        (subst (λ (p : Pos). AnnotationAsked (inside_of code t (child old.place i) vs) p t v opens.mid now) at
        opens.asked)
        (stopped_stuck (inside_of code t (child old.place i) vs) v (λ s q w. d.list s q w) (at_child now 0) x bad s)

annotated_listing : (d : Definition) (rest : List Definition) (t : Annotation) (i : ℕ) → d.annotation ≡ Some t
    → at_number i (listed_annotated d t) ≡ (λ scope q. list_group (d ∷ rest) scope (child q i))
annotated_listing d rest t i e =
    fun_ext (λ scope. fun_ext (λ q. ap (λ o. list_as o d rest scope (child q i)) (sym e)))

module _ (gs : List Group) (group : List Definition) (g j : ℕ) (place : Pos) (t : Annotation)
    (is : IsAnnotated gs group g j place t) (code : Code) (i : ℕ) (old new : State) where
  listing : at_number i (listed_annotated is.definition t) ≡ (λ scope q. list_group group scope (child q i))
  listing =
      annotated_listing is.definition is.rest t i is.annotation
      ∙ ap (λ (l : List Definition). (λ scope q. list_group l scope (child q i))) (sym is.is)

  pub annotated_walked : (after : Code) → after ≡ code → ((d : Definition) → at_spot gs g j ≡ Some d → place ≡ d.place
      → AnnotatedDefined code d t i old new) → AnnotatedWalked code after group i old new
  annotated_walked after same defined = record {
    same = same;
    annotated =
        ap (λ (l : List Definition). is_some (first_annotation l)) is.is ∙ ap is_some is.annotation;
    defined =
        subst (λ (l : Listing). Defined code code (λ q. group_places (child q i)) l old new) listing
        (defined is.definition is.at is.written);
  }

  pub annotated_group_stops : (bad : Bad) → ((d : Definition) → at_spot gs g j ≡ Some d → place ≡ d.place
      → AnnotatedStops code d t i old new bad) → GroupStops code group i old new bad
  annotated_group_stops bad stops =
      subst (λ (l : Listing). DefinitionsStop code (λ q. group_places (child q i)) l old new bad) listing
      (stops is.definition is.at is.written)

-- ---- a pattern with its value

module _ (gs : List Group) (group : List Definition) (g : ℕ) (place : Pos) (is : IsPattern gs group g place) (x : Group)
    (there : slice_get gs g ≡ Some x) (code : Code) (i : ℕ) (old new : State) where
  same_group : group_definitions x ≡ group
  same_group =
      ap group_definitions (sym (some_same (Destructure is.pattern is.value) x (sym is.at ∙ there))) ∙ sym is.is

  no_annotation : first_annotation group ≡ None
  no_annotation = ap first_annotation is.is

  pub pattern_walked : (after : Code) (opened : Opened) → without opened.entered.items after ≡ code
      → GroupDone code (group_definitions x) i (named_views opened.names.items) old new
      → InferredWalked code after group i opened old new
  pattern_walked after opened left done = record {
    left = left;
    inferred = no_annotation;
    done = subst (λ (l : List Definition). GroupDone code l i (named_views opened.names.items) old new) same_group done;
  }

  pub pattern_stops : (bad : Bad) → InferredStops code (group_definitions x) i old new bad
      → GroupStops code group i old new bad
  pattern_stops bad stop =
      inferred_stops code group i old new bad no_annotation
      (subst (λ (l : List Definition). InferredStops code l i old new bad) same_group stop)

-- ---- the type group of a number

pub of_number : (gs : List Group) (k : ℕ) (xs : List Stands) (g : List Definition) → (is : IsTypeGroup gs k xs)
    → slice_get (type_groups (ordered gs)) k ≡ Some g → is.group ≡ g
of_number gs k xs g is at = some_same is.group g (sym is.at ∙ at)

pub record Exists (gs : List Group) (k : ℕ) : Type 0 where
  pub group : List Definition
  pub at : slice_get (type_groups (ordered gs)) k ≡ Some group

some_at : {X : Type 0} (xs : List X) (k : ℕ) → k < length xs → (x : X) × (slice_get xs k ≡ Some x)
some_at [] k l = absurd (omega (arith, l))
some_at (x ∷ xs) zero l = (x, refl)
some_at (x ∷ xs) (suc k) l = some_at xs k (omega (arith, l))

pub groups_count : (gs : List Group) (order : Order) → IsOrder gs order
    → length (type_groups (ordered gs)) ≡ length order.groups.items
groups_count gs order is =
    let a = length-map (ordered_groups (all_uses (ordered gs))) (λ group. filter_map (slice_get (ordered gs)) group) in
    let b = ap length is.groups in
    let c = length-map order.groups.items (λ (v : Vec ℕ Global). v.items) in
    omega (arith, a, b, c)

pub group_of_number : (gs : List Group) (order : Order) (k : ℕ) → IsOrder gs order → k < length order.groups.items
    → Exists gs k
group_of_number gs order k is few =
    let count : length (type_groups (ordered gs)) ≡ length order.groups.items = groups_count gs order is in
    let s = some_at (type_groups (ordered gs)) k (omega (arith, few, count)) in
    record { group = s.0; at = s.1 }

pub can_finish : (code after : Code) (g : List Definition) (i : ℕ) (o : Option Opened) (old new : State)
    → GroupWalked code after g i o old new → CanFinish o new
can_finish code after g i None old new w = tt
can_finish code after g i (Some opened) old new w = w.done.can_close

-- ---- the groups of a let in turn

module _ (gs : List Group) (code : Code) (old : State) where
  abbrev ds : List Definition
  ds = definitions (groups_of gs)

  pub turns_none : (after : Code) (new : State) → Defined code after (λ q. none) (listed_names (ordered gs)) old new
      → DefinedFirst code after (ordered gs) 0 old new
  turns_none after new one = defines_none code after (ordered gs) old new one

  pub turns_next : (now after : Code) (k : ℕ) (g : List Definition) (between new : State)
      → slice_get (type_groups (ordered gs)) k ≡ Some g → DefinedFirst code now (ordered gs) k old between
      → GroupDefined now after g k between new → DefinedFirst code after (ordered gs) (k + 1) old new
  turns_next now after k g between new at first second =
      defines_one_more code now after (ordered gs) g k old between new at first second

  pub turns_end : (after : Code) (k : ℕ) (new : State) (order : Order) → IsOrder gs order
      → k ≡ length order.groups.items → DefinedFirst code after (ordered gs) k old new
      → Defined code after below (list_definitions ds) old new
  turns_end after k new order is end first =
      defines_all code after ds k old new (groups_count gs order is ∙ sym end) first

  pub turns_stop : (now : Code) (k : ℕ) (g : List Definition) (between new : State) (bad : Bad)
      → slice_get (type_groups (ordered gs)) k ≡ Some g → DefinedFirst code now (ordered gs) k old between
      → GroupStops now g k between new bad → DefinitionsStop code below (list_definitions ds) old new bad
  turns_stop now k g between new bad at first stop =
      stops_at_group code now ds g k old between new bad at first stop

  pub names_stop : (new : State) (bad : Bad) → DefinitionsStop code (λ q. none) (listed_names (ordered gs)) old new bad
      → DefinitionsStop code below (list_definitions ds) old new bad
  names_stop new bad stop = stops_at_names code ds old new bad stop

-- inference can go on after definitions at a child
pub can_after : (code after : Code) (places : Places) (list : Listing) (s new : State) → CanWalk code s
    → Defined code after places list s new → CanWalk after new
can_after code after places list s new can d = record {
  ready = d.ready;
  clear = (can_on code s new can d.follows).clear;
}
