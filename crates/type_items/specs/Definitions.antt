-- Definitions in their type groups: what a group asks at its own place, and what each use of its names asks. (Elm
-- guide: type annotations.)
--
-- A definition with an annotation stands alone and is used at its annotation. Those without one that use each other are
-- a group; only names without an annotation count as uses. Inside the group each name has one type. After it each use
-- of a name lists the items of the whole group once more, at a place of its own. An annotation inside another one may
-- be used before its definition: what it asks of the constants around stands before all groups.
use Rattle.std.specs.Prelude.{ℕ, ◌+◌, List, [], ◌∷◌, ◌++◌, Bool, ◌&&◌, ◌||◌, Option, Some, None, is_none, map, filter}
use Rattle.std.specs.Prelude.{flat_map, nat_eq, nat_lt, slice_get, if◌then◌else◌}
use Rattle.std.specs.List.{filter_map, enumerate_from, list_any}
use Rattle.std.specs.Map.{lookup}
use Rattle.std.specs.Str.{bytes_eq}
use Rattle.elm_base.specs.declared.position.Pos.{Pos}
use Rattle.elm_canon.specs.Names.{same_ref}
use Rattle.elm_canon.specs.declared.reference.Ref.{Ref}
use Rattle.elm_canon.specs.Tree.{Annotation}
use Rattle.elm_canon.specs.Proper.{among}
use Rattle.elm_type.specs.Types.{int_type, variable, Rigid, Fixed, Kind}
use Rattle.decl_groups.specs.InOrder.{ordered_groups}
use Rattle.type_items.specs.Items.{Place, child, Wanted, at, Item, Keeps, Small, copied, kind_items}
use Rattle.type_items.specs.Scopes.{Entry, Instance, General, Known, Entries, Constants, Scope, with_names}
use Rattle.type_items.specs.Scopes.{with_constants, one_types}
use Rattle.type_items.specs.Annotations.{variables_of, kind_of, own_constants, fixed_variable, fixed_type}
use Rattle.type_items.specs.Annotations.{annotation_items, scheme_inside}

-- What is known of a definition: `list` has its items at a place where its type is the one given, and `types` its names
-- with their types there.
pub record Definition : Type 0 where
  pub names : List Ref
  pub place : Pos
  pub annotation : Option Annotation
  pub uses : List Ref
  pub list : Scope → Place → Wanted → List Item
  pub types : Known → Place → Wanted → Entries

-- ---- in written order

abbrev pub stands_before : Pos → Pos → Bool
stands_before a b = nat_lt a.row b.row || (nat_eq a.row b.row && nat_lt a.column b.column)

abbrev pub insert_definition : Definition → List Definition → List Definition
insert_definition d [] = d ∷ []
insert_definition d (e ∷ es) = if stands_before e.place d.place then e ∷ insert_definition d es else d ∷ e ∷ es

abbrev pub in_written_order : List Definition → List Definition
in_written_order [] = []
in_written_order (d ∷ ds) = insert_definition d (in_written_order ds)

-- ---- type groups

-- whether it has no annotation and a name that is used
abbrev pub is_inferred_for : List Ref → Definition → Bool
is_inferred_for used d = is_none d.annotation && list_any (λ x. among x used) d.names

-- the places of the definitions without an annotation that are used
abbrev pub used_places : List Definition → List Ref → List ℕ
used_places ds used = map (λ d. d.0) (filter (λ d. is_inferred_for used d.1) (enumerate_from 0 ds))

abbrev pub all_uses : List Definition → List (List ℕ)
all_uses ds = map (λ d. used_places ds d.uses) ds

-- of definitions in written order: the type groups, each after those that it uses
abbrev pub type_groups : List Definition → List (List Definition)
type_groups ds = map (λ group. filter_map (slice_get ds) group) (ordered_groups (all_uses ds))

-- ---- a group without annotations: definition i stands at child i of the group's place, the variable of its type

abbrev pub group_types : List Definition → Known → Place → Entries
group_types ds known p = flat_map (λ d. d.1.types known (child p d.0) (at (child p d.0))) (enumerate_from 0 ds)

abbrev pub member_items : Scope → Place → ℕ × Definition → List Item
member_items scope p d = d.1.list scope (child p d.0) (at (child p d.0)) ++ Small d.1.place (at (child p d.0)) ∷ []

-- inside it each name has one type
abbrev pub group_items : List Definition → Scope → Place → List Item
group_items ds scope p =
    flat_map (member_items (with_names (group_types ds scope.known p) scope) p) (enumerate_from 0 ds)

abbrev pub first_type : List Wanted → Wanted
first_type [] = int_type
first_type (t ∷ ts) = t

-- the type of a name of the group, which stands at the place
abbrev pub type_in_group : List Definition → Known → Ref → Place → Wanted
type_in_group ds known x p = first_type (one_types (filter (λ n. same_ref x n.0) (group_types ds known p)))

-- a use lists the group's items once more, at its own place
abbrev pub general : List Definition → Scope → Ref → Entry
general ds scope x = General (λ q. copied (group_items ds scope q)) (type_in_group ds scope.known x)

-- the scope after the group
abbrev pub with_group : List Definition → Scope → Scope
with_group ds scope = with_names (map (λ n. (n.0, general ds scope n.0)) (group_types ds scope.known [])) scope

-- ---- a definition with its annotation: its constants stand at its place, and its parts below child 0

-- the types of names around it that have one type, and the variables of annotations around it
abbrev pub outer_types : Scope → List Wanted
outer_types scope = one_types scope.names ++ map (λ r. variable (Fixed r.1)) scope.constants

abbrev pub annotated_items : Definition → Annotation → Scope → Place → List Item
annotated_items d annotation scope p =
    let own = own_constants scope.constants p annotation in
    let inner = with_constants own scope in
    let type = fixed_type inner.constants p annotation in
    annotation_items d.place annotation (fixed_variable inner.constants p)
    ++ (d.list inner (child p 0) type
    ++ (map (λ r. Keeps d.place r.1 (outer_types scope)) own
    ++ Small d.place type ∷ []))

-- ---- groups in turn

-- the items of definitions, and the scope after them
pub record Listed : Type 0 where
  pub items : List Item
  pub scope : Scope

-- a type group is one definition with an annotation, or some without
abbrev pub list_as : Option Annotation → Definition → List Definition → Scope → Place → Listed
list_as None d ds scope p = record { items = group_items (d ∷ ds) scope p; scope = with_group (d ∷ ds) scope }
list_as (Some a) d ds scope p = record { items = annotated_items d a scope p; scope = scope }

abbrev pub list_group : List Definition → Scope → Place → Listed
list_group [] scope p = record { items = []; scope = scope }
list_group (d ∷ ds) scope p = list_as d.annotation d ds scope p

-- from the number i on, each at the child of its number
abbrev pub list_groups : List (List Definition) → Scope → Place → ℕ → Listed
list_groups [] scope p i = record { items = []; scope = scope }
list_groups (g ∷ gs) scope p i =
    let first = list_group g scope (child p i) in
    let rest = list_groups gs first.scope p (i + 1) in
    record { items = first.items ++ rest.items; scope = rest.scope }

abbrev pub entries_as : Option Annotation → Constants → List Ref → Entries
entries_as None around xs = []
entries_as (Some a) around xs = map (λ x. (x, Instance (scheme_inside around a))) xs

-- names with an annotation are in scope from the start
abbrev pub annotated_names : List Definition → Constants → Entries
annotated_names ds around = flat_map (λ d. entries_as d.annotation around d.names) ds

-- what an annotation asks of the constants of annotations around it
abbrev pub constant_items : Pos → Option Rigid → Kind → List Item
constant_items pos None k = []
constant_items pos (Some r) k = kind_items pos (variable (Fixed r)) k

abbrev pub asks_around : Option Annotation → Pos → Constants → List Item
asks_around None pos around = []
asks_around (Some a) pos around =
    flat_map (λ x. constant_items pos (lookup (bytes_eq x) around) (kind_of a x)) (variables_of a)

abbrev pub around_items : List Definition → Constants → List Item
around_items ds around = flat_map (λ d. asks_around d.annotation d.place around) ds

-- annotations are read first, and then the groups
abbrev pub list_definitions : List Definition → Scope → Place → Listed
list_definitions ds scope p =
    let ordered = in_written_order ds in
    let inner = with_names (annotated_names ordered scope.constants) scope in
    let listed = list_groups (type_groups ordered) inner p 0 in
    record { items = around_items ordered scope.constants ++ listed.items; scope = listed.scope }
