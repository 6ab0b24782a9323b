-- The type groups of a module as the program has them.
use Rattle.std.proofs.Common.{◌≡◌, ℕ, zero, suc, ◌<◌, List, [], ◌∷◌, ◌++◌, Option, Some, None, map, length}
use Rattle.std.proofs.Common.{get_or, refl, sym, ap, ◌∙◌, subst, arith, true, false, is_some}
use Rattle.std.specs.Prelude.{slice_get}
use Rattle.std.specs.List.{All, AllByRecursion, filter_map}
use Rattle.std.proofs.lemmas.List.{length-map}
use Rattle.std.proofs.lemmas.Option.{slice_get-get_or}
use Rattle.elm_canon.specs.Tree.{Annotation, Group, Together, Constant, Destructure}
use Rattle.elm_canon.specs.Tree.{Functions, NoFunction, MoreFunction, groups_of}
use Rattle.elm_canon.specs.declared.tree.Title.{Title}
use Rattle.std.specs.Borrow.{Bor}
use Rattle.std.specs.declared.alloc.Global.{Global}
use Rattle.std.specs.declared.vec.Vec.{Vec}
use Rattle.elm_canon.specs.View.{title_view}
use Rattle.decl_groups.specs.Groups.{plain as plain_lists}
use Rattle.type_items.specs.Items.{child}
use Rattle.type_items.specs.Definitions as plain
use Rattle.type_items.specs.Definitions.{all_uses, type_groups, list_as, list_group}
use Rattle.type_items.specs.Inferred.{first_annotation}
use Rattle.type_items.specs.Expressions.{definitions, group_definitions, function_definitions}
use Rattle.type_walks.specs.Regions.{below}
use Rattle.infer_steps.specs.Codes.{Code, State}
use Rattle.infer_exprs.specs.Titles.{AnnotationOnce}
use Rattle.infer_exprs.proofs.Titles.{all_ordered}
use Rattle.infer_groups.specs.Defined.{Defined, Places, Listing, group_places}
use Rattle.decl_groups.specs.InOrder.{ordered_groups}
use Rattle.infer_groups.specs.Members.{at_number, listed_group}
use Rattle.infer_order.specs.Order.{AreDefinitions, IsDefinition, IsOrder, TitleIs, ordered}
use Rattle.infer_order.specs.declared.order.Definition.{Definition}
use Rattle.infer_order.specs.declared.order.Order.{Order}
use Rattle.infer_parts.specs.Formed.{WrittenOnce, FormedGroup, FormedGroups, FormedFunctions}
use Rattle.infer_parts.specs.Steps.{CanWalk}
use Rattle.infer_exprs.specs.Finished.{AnnotatedWalked}
use Rattle.infer.specs.Names.{AllTitled}
use Rattle.infer.specs.Told.{Typed, GroupIsTold, IsToldAs, written_types}
use Rattle.infer.specs.Middle.{AnnotationsOnce}
use Rattle.infer.proofs.Adding.{picked_all}
use Rattle.infer.proofs.Stepping.{IsFine}

-- ---- definitions are fine

fine_one : (gs : List Group) (x : Definition) (d : plain.Definition) → AllTitled gs → IsDefinition gs x d
    → AnnotationOnce d.annotation → IsFine d
fine_one gs x d titled h once = by x.title refl
  where
    by : (o : Option (Bor Title)) → x.title ≡ o → IsFine d
    by None e =
        let a : is_some x.title ≡ true = h.kind ∙ titled.each x.group in
        let b : false ≡ true = sym (ap is_some e) ∙ a in
        absurd cc
    by (Some t) e = record {
      title = title_view t.now;
      titled = subst (λ o. TitleIs o d) e h.title;
      once = λ a is. subst AnnotationOnce is once;
    }

pub all_fine : (gs : List Group) (xs : List Definition) (ds : List plain.Definition) → AllTitled gs
    → AreDefinitions gs xs ds → AnnotationsOnce ds → AllByRecursion IsFine ds
all_fine gs [] [] titled h once = tt
all_fine gs [] (d ∷ ds) titled h once = absurd h
all_fine gs (x ∷ xs) [] titled h once = absurd h
all_fine gs (x ∷ xs) (d ∷ ds) titled h once =
    (fine_one gs x d titled h.0 once.0, all_fine gs xs ds titled h.1 once.1)

-- ---- annotations of formed groups

written_once : (o : Option Annotation) → WrittenOnce o → AnnotationOnce o
written_once None h = tt
written_once (Some a) h = h

functions_once : (fs : Functions) → FormedFunctions fs → AnnotationsOnce (function_definitions fs)
functions_once NoFunction h = tt
functions_once (MoreFunction title qs e fs) h = (written_once title.annotation h.0, functions_once fs h.1.1.1)

group_once : (g : Group) → FormedGroup g → AnnotationsOnce (group_definitions g)
group_once (Together fs) h = functions_once fs h
group_once (Constant title e) h = (written_once title.annotation h.0, tt)
group_once (Destructure q e) h = (tt, tt)

both_once : (ds es : List plain.Definition) → AnnotationsOnce ds → AnnotationsOnce es → AnnotationsOnce (ds ++ es)
both_once [] es h k = k
both_once (d ∷ ds) es h k = (h.0, both_once ds es h.1 k)

groups_once : (gs : List Group) → FormedGroups (groups_of gs) → AnnotationsOnce (definitions (groups_of gs))
groups_once [] h = tt
groups_once (g ∷ gs) h =
    both_once (group_definitions g) (definitions (groups_of gs)) (group_once g h.0) (groups_once gs h.1)

pub formed_once : (gs : List Group) → FormedGroups (groups_of gs) → AnnotationsOnce (ordered gs)
formed_once gs h =
    all_ordered (λ (d : plain.Definition). AnnotationOnce d.annotation) (definitions (groups_of gs)) (groups_once gs h)

-- ---- a type group by its number

pub record GroupAtNumber (gs : List Group) (places : List ℕ) (k : ℕ) : Type 0 where
  pub at : slice_get (type_groups (ordered gs)) k ≡ Some (filter_map (slice_get (ordered gs)) places)

mapped_at : {X Y : Type 0} (f : X → Y) (xs : List X) (k : ℕ) (x : X) → slice_get xs k ≡ Some x
    → slice_get (map f xs) k ≡ Some (f x)
mapped_at f [] k x e = absurd cc
mapped_at f (y ∷ xs) zero x e = let same : y ≡ x = cc in ap (λ z. Some (f z)) same
mapped_at f (y ∷ xs) (suc k) x e = mapped_at f xs k x e

pub group_at : (gs : List Group) (order : Order) (k : ℕ) (places : List ℕ) → IsOrder gs order
    → slice_get (plain_lists order.groups.items) k ≡ Some places → GroupAtNumber gs places k
group_at gs order k places is e = record {
  at =
      mapped_at (λ group. filter_map (slice_get (ordered gs)) group) (ordered_groups (all_uses (ordered gs))) k places
      (ap (λ l. slice_get l k) (sym is.groups) ∙ e);
}

pub count_groups : (gs : List Group) (order : Order) → IsOrder gs order
    → length order.groups.items ≡ length (type_groups (ordered gs))
count_groups gs order is =
    let f : List ℕ → List plain.Definition = λ group. filter_map (slice_get (ordered gs)) group in
    omega (
      arith,
      length-map order.groups.items (λ (v : Vec ℕ Global). v.items),
      ap length is.groups,
      length-map (ordered_groups (all_uses (ordered gs))) f,
    )

all_at : {X : Type 0} (P : X → Type 0) (xs : List X) (k : ℕ) (x : X) → AllByRecursion P xs → slice_get xs k ≡ Some x
    → P x
all_at P [] k x h e = absurd cc
all_at P (y ∷ xs) zero x h e = let same : y ≡ x = cc in subst P same h.0
all_at P (y ∷ xs) (suc k) x h e = all_at P xs k x h.1 e

-- the definitions of the group of a number, by their places
pub record PlacesAt (gs : List Group) (order : Order) (places : List ℕ) (k : ℕ) : Type 0 where
  pub at : slice_get (type_groups (ordered gs)) k ≡ Some (filter_map (slice_get (ordered gs)) places)
  pub inside : All (λ i. i < length order.definitions.items) places

pub places_at : (gs : List Group) (order : Order) (k : ℕ) (v : Vec ℕ Global) → IsOrder gs order
    → k < length order.groups.items → v ≡ get_or order.groups.items k v → PlacesAt gs order v.items k
places_at gs order k v is h e =
    let there : slice_get order.groups.items k ≡ Some v = slice_get-get_or order.groups.items k v h ∙ ap Some (sym e) in
    let places : slice_get (plain_lists order.groups.items) k ≡ Some v.items =
    mapped_at (λ (v : Vec ℕ Global). v.items) order.groups.items k v there in
    record {
      at = (group_at gs order k v.items is places).at;
      inside =
          all_at (All (λ i. i < length order.definitions.items)) (plain_lists order.groups.items) k v.items is.inside
          places;
    }

pub record SomeGroup (gs : List Group) (k : ℕ) : Type 0 where
  pub group : List plain.Definition
  pub at : slice_get (type_groups (ordered gs)) k ≡ Some group

some_at : (gs : List Group) (k : ℕ) (l : List (List plain.Definition)) (n : ℕ) → n < length l
    → slice_get (type_groups (ordered gs)) k ≡ slice_get l n → SomeGroup gs k
some_at gs k [] n h e = absurd (omega (arith, h))
some_at gs k (g ∷ l) zero h e = record { group = g; at = e }
some_at gs k (g ∷ l) (suc n) h e = some_at gs k l n (omega (arith, h)) e

pub some_group : (gs : List Group) (order : Order) (k : ℕ) → IsOrder gs order → k < length order.groups.items
    → SomeGroup gs k
some_group gs order k is h =
    some_at gs k (type_groups (ordered gs)) k (omega (arith, h, count_groups gs order is)) refl

mapped_has : {X Y : Type 0} (f : X → Y) (P : Y → Type 0) (xs : List X) (k : ℕ) (y : Y) → ((x : X) → P (f x))
    → slice_get (map f xs) k ≡ Some y → P y
mapped_has f P [] k y h e = absurd cc
mapped_has f P (x ∷ xs) zero y h e = let same : f x ≡ y = cc in subst P same (h x)
mapped_has f P (x ∷ xs) (suc k) y h e = mapped_has f P xs k y h e

pub group_fine : (gs : List Group) (order : Order) (k : ℕ) (g : List plain.Definition) → IsOrder gs order
    → AllTitled gs → AnnotationsOnce (ordered gs) → slice_get (type_groups (ordered gs)) k ≡ Some g
    → AllByRecursion IsFine g
group_fine gs order k g is titled once at =
    let ds = ordered gs in
    mapped_has (λ group. filter_map (slice_get ds) group) (AllByRecursion IsFine) (ordered_groups (all_uses ds)) k g
    (λ places. picked_all ds IsFine places (all_fine gs order.definitions.items ds titled is.definitions once)) at

-- ---- a walk goes on

pub can_later : (code after : Code) (places : Places) (list : Listing) (old new : State) → CanWalk code old
    → Defined code after places list old new → CanWalk after new
can_later code after places list old new can is = record {
  ready = is.ready;
  clear = λ r h. subst (λ p. below p r.place ≡ false) (sym is.follows.place)
      (can.clear r (is.follows.later.constants r h));
}

-- ---- a group without annotations

pub lists_same : (g : List plain.Definition) (i : ℕ) → first_annotation g ≡ None
    → (λ scope q. list_group g scope (child q i)) ≡ at_number i (listed_group g)
lists_same [] i e = refl
lists_same (d ∷ ds) i e = ap (λ o scope q. list_as o d ds scope (child q i)) e

-- ---- a group that was walked

pub annotated_told : (code after : Code) (g : List plain.Definition) (i : ℕ) (old new : State)
    (before told : List Typed) → AnnotatedWalked code after g i old new
    → ((a : Annotation) → first_annotation g ≡ Some a → told ≡ before ++ written_types a g)
    → GroupIsTold code after g i old new before told
annotated_told code after g i old new before told walked adds = by (first_annotation g) refl
  where
    by : (o : Option Annotation) → first_annotation g ≡ o → GroupIsTold code after g i old new before told
    by None e =
        let none : false ≡ true = sym (ap is_some e) ∙ walked.annotated in
        absurd cc
    by (Some a) e = record {
      defined =
          subst (λ code'. Defined code code' (λ q. group_places (child q i)) (λ scope q. list_group g scope (child q i))
          old new) (sym walked.same) walked.defined;
      more = written_types a g;
      added = adds a e;
      is = subst (λ o. IsToldAs o code g i old new (written_types a g)) (sym e) refl;
    }
