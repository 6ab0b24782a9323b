-- A module in the middle of inference: some of its type groups are done, and the others follow in turn.
use Rattle.std.specs.Prelude.{◌≡◌, ℕ, List, [], ◌++◌, length}
use Rattle.elm_canon.specs.Tree.{Module}
use Rattle.type_items.specs.Items.{Place, Item}
use Rattle.type_items.specs.Scopes.{Known, Scope, with_names}
use Rattle.type_items.specs.Definitions.{Definition, in_written_order, type_groups, annotated_names, list_groups}
use Rattle.type_items.specs.Modules.{module_definitions, module_scope, module_items}
use Rattle.type_store.specs.Store.{Store}
use Rattle.type_walks.specs.Regions.{Region, only, below, span, either}
use Rattle.type_constructs.specs.Lasting.{Telling, Inferring}

-- the definitions of a module in written order
abbrev pub ordered : Module → List Definition
ordered module_ = in_written_order (module_definitions module_)

abbrev pub groups_of : Module → List (List Definition)
groups_of module_ = type_groups (ordered module_)

-- names with an annotation are in scope from the start
abbrev pub first_scope : Module → Known → Scope
first_scope module_ env = with_names (annotated_names (ordered module_) []) (module_scope module_ env)

-- the places of a group: its own, and those below
abbrev pub group_places : Place → Region
group_places q = either (only q) (below q)

-- The groups from the number i on are left, in this scope. The store stands for those before them, and these schemes
-- were told of their names.
pub record ModuleAt (module_ : Module) (env : Known) (p : Place) (left : List (List Definition)) (i : ℕ) (scope : Scope)
    (s : Store) (told : List Telling) : Type 0 where
  pub region : Region
  pub items : List Item
  pub inferring : Inferring p region (span p i (length left)) items s told
  pub listed : module_items module_ env p ≡ items ++ (list_groups left scope p i).items
