-- The definitions of a let, one type group after another, and its body.
use Rattle.std.specs.Prelude.{◌≡◌, ℕ, ◌+◌, List, ◌++◌, length, take, Some, slice_get}
use Rattle.elm_base.specs.declared.position.Pos.{Pos}
use Rattle.elm_canon.specs.Tree.{Groups, Expr, Let}
use Rattle.type_items.specs.Items.{child}
use Rattle.type_items.specs.Scopes.{with_names}
use Rattle.type_items.specs.Definitions.{Definition, in_written_order, type_groups, annotated_names}
use Rattle.type_items.specs.Definitions.{around_items, list_group, list_groups, list_definitions}
use Rattle.type_items.specs.Expressions.{items, definitions}
use Rattle.type_walks.specs.Regions.{none, below, span}
use Rattle.type_constructs.specs.Failing.{Bad}
use Rattle.infer_steps.specs.Codes.{Code, State}
use Rattle.infer_steps.specs.Promises.{Walked, Stopped}
use Rattle.infer_groups.specs.Defined.{Listing, group_places, Defined, DefinitionsStop, at_child, moved}

-- annotations: their names come into scope, after what they ask of the variables around
abbrev pub listed_names : List Definition → Listing
listed_names ordered scope q = record {
  items = around_items ordered scope.constants;
  scope = with_names (annotated_names ordered scope.constants) scope;
}

-- and so many type groups
abbrev pub listed_first : List Definition → ℕ → Listing
listed_first ordered k scope q =
    let first = listed_names ordered scope q in
    let groups = list_groups (take k (type_groups ordered)) first.scope q 0 in
    record { items = first.items ++ groups.items; scope = groups.scope }

-- the annotations and so many type groups of definitions, which are in written order, were walked
abbrev pub DefinedFirst : Code → Code → List Definition → ℕ → State → State → Type 0
DefinedFirst code after ordered k old new = Defined code after (λ q. span q 0 k) (listed_first ordered k) old new

-- no group yet
abbrev pub DefinesNone : Type 0
DefinesNone =
    (code after : Code) (ordered : List Definition) (old new : State)
    → Defined code after (λ q. none) (listed_names ordered) old new → DefinedFirst code after ordered 0 old new

-- one group more
abbrev pub DefinesOneMore : Type 0
DefinesOneMore =
    (code inner after : Code) (ordered g : List Definition) (k : ℕ) (old between new : State)
    → slice_get (type_groups ordered) k ≡ Some g → DefinedFirst code inner ordered k old between
    → Defined inner after (λ q. group_places (child q k)) (λ scope q. list_group g scope (child q k)) between new
    → DefinedFirst code after ordered (k + 1) old new

-- all groups
abbrev pub DefinesAll : Type 0
DefinesAll =
    (code after : Code) (ds : List Definition) (k : ℕ) (old new : State)
    → length (type_groups (in_written_order ds)) ≡ k → DefinedFirst code after (in_written_order ds) k old new
    → Defined code after below (list_definitions ds) old new

-- where they stop
abbrev pub StopsAtNames : Type 0
StopsAtNames =
    (code : Code) (ds : List Definition) (old new : State) (bad : Bad)
    → DefinitionsStop code (λ q. none) (listed_names (in_written_order ds)) old new bad
    → DefinitionsStop code below (list_definitions ds) old new bad

abbrev pub StopsAtGroup : Type 0
StopsAtGroup =
    (code inner : Code) (ds g : List Definition) (k : ℕ) (old between new : State) (bad : Bad)
    → slice_get (type_groups (in_written_order ds)) k ≡ Some g
    → DefinedFirst code inner (in_written_order ds) k old between
    → DefinitionsStop inner (λ q. group_places (child q k)) (λ scope q. list_group g scope (child q k)) between new bad
    → DefinitionsStop code below (list_definitions ds) old new bad

-- ---- a let: its definitions are walked at child 0, and its body at child 1

abbrev pub LetIsWalked : Type 0
LetIsWalked =
    (code inner : Code) (gs : Groups) (e : Expr) (here : Pos) (v : ℕ) (old between last : State)
    → Defined code inner below (list_definitions (definitions gs)) (at_child old 0) between
    → Walked inner v (λ scope q w. items e scope here q w) (moved between (child old.place 1)) last
    → Walked code v (λ scope q w. items (Let gs e) scope here q w) old (moved last old.place)

abbrev pub LetStops : Type 0
LetStops =
    (code : Code) (gs : Groups) (e : Expr) (here : Pos) (v : ℕ) (old new : State) (bad : Bad)
    → DefinitionsStop code below (list_definitions (definitions gs)) (at_child old 0) new bad
    → Stopped code v (λ scope q w. items (Let gs e) scope here q w) old new bad

abbrev pub BodyStops : Type 0
BodyStops =
    (code inner : Code) (gs : Groups) (e : Expr) (here : Pos) (v : ℕ) (old between last : State) (bad : Bad)
    → Defined code inner below (list_definitions (definitions gs)) (at_child old 0) between
    → Stopped inner v (λ scope q w. items e scope here q w) (moved between (child old.place 1)) last bad
    → Stopped code v (λ scope q w. items (Let gs e) scope here q w) old last bad
