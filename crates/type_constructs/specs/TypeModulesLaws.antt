-- Inference of a module, one type group after another.
use Rattle.std.specs.Prelude.{ℕ, ◌+◌, List, [], ◌∷◌, ◌++◌}
use Rattle.std.specs.List.{AllByRecursion}
use Rattle.elm_base.specs.declared.position.Pos.{Pos}
use Rattle.elm_base.specs.declared.fault.Code.{Code}
use Rattle.elm_canon.specs.Tree.{Module}
use Rattle.elm_type.specs.Types.{Name}
use Rattle.type_items.specs.Items.{Place, child}
use Rattle.type_items.specs.Scopes.{Known, Scope}
use Rattle.type_items.specs.Definitions.{Definition, list_group}
use Rattle.type_items.specs.Inferred.{Schemes, Inferred, Refused}
use Rattle.type_store.specs.Store.{Store}
use Rattle.type_store.specs.Shape.{IsStore}
use Rattle.type_walks.specs.Links.{Links}
use Rattle.type_walks.specs.Walks.{Walk}
use Rattle.type_walks.specs.Told.{start}
use Rattle.type_walks.specs.TypeCopiesLaws.{deeper}
use Rattle.type_constructs.specs.Passing.{Passes}
use Rattle.type_constructs.specs.Failing.{Bad, Fails}
use Rattle.type_constructs.specs.Texts.{Explains}
use Rattle.type_constructs.specs.Lasting.{Telling, IsTold, ModuleHasTold}
use Rattle.type_constructs.specs.TypeModulesGroups.{groups_of, first_scope, group_places, ModuleAt}

-- at the start all groups are left, and nothing is in the store
abbrev pub ModuleBegins : Type 0
ModuleBegins =
    (module_ : Module) (env : Known) (p : Place)
    → ModuleAt module_ env p (groups_of module_) 0 (first_scope module_ env) [] []

-- a group was walked, of which nothing is told
abbrev pub ModuleGoesOn : Type 0
ModuleGoesOn =
    (module_ : Module) (env : Known) (p : Place) (g : List Definition) (left : List (List Definition)) (i : ℕ)
    (scope : Scope) (s s' : Store) (told : List Telling)
    → IsStore s' → ModuleAt module_ env p (g ∷ left) i scope s told
    → Walk start (group_places (child p i)) (list_group g scope (child p i)).items s [] s' []
    → Passes start s [] (group_places (child p i)) (list_group g scope (child p i)).items
    → ModuleAt module_ env p left (i + 1) (list_group g scope (child p i)).scope s' told

-- a group was walked, inside the definition and outside, and the store tells the schemes of its names
abbrev pub ModuleTells : Type 0
ModuleTells =
    (module_ : Module) (env : Known) (p : Place) (g : List Definition) (left : List (List Definition)) (i : ℕ)
    (scope : Scope) (s s' : Store) (after : Links) (told new : List Telling)
    → IsStore s' → ModuleAt module_ env p (g ∷ left) i scope s told
    → Walk start (group_places (child p i)) (list_group g scope (child p i)).items s [] s' []
    → Walk (deeper start) (group_places (child p i)) (list_group g scope (child p i)).items s [] s' after
    → Passes start s [] (group_places (child p i)) (list_group g scope (child p i)).items
    → AllByRecursion (IsTold s' after) new
    → ModuleAt module_ env p left (i + 1) (list_group g scope (child p i)).scope s' (told ++ new)

-- no group is left
abbrev pub ModuleEnds : Type 0
ModuleEnds =
    (module_ : Module) (env : Known) (p : Place) (i : ℕ) (scope : Scope) (s : Store) (told : List Telling)
    (schemes : Schemes)
    → IsStore s → ModuleAt module_ env p [] i scope s told → ModuleHasTold module_ env p told schemes
    → Inferred module_ env p schemes

-- a group fails, and the store where it stops explains how
abbrev pub ModuleFails : Type 0
ModuleFails =
    (module_ : Module) (env : Known) (p : Place) (g : List Definition) (left : List (List Definition)) (i : ℕ)
    (scope : Scope) (s s' : Store) (told : List Telling) (bad : Bad) (code : Code) (pos : Pos) (text : Name)
    → IsStore s' → ModuleAt module_ env p (g ∷ left) i scope s told
    → Fails start s [] (group_places (child p i)) (list_group g scope (child p i)).items bad s'
    → Explains s' bad code pos text → Refused module_ env p code pos text
