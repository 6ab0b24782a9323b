-- A definition with an annotation, at its own place: its items, and its constants.
use Rattle.std.specs.Prelude.{◌≡◌, List, ◌++◌, map, false}
use Rattle.std.specs.List.{Contains}
use Rattle.elm_canon.specs.Tree.{Annotation}
use Rattle.elm_type.specs.Types.{Rigid}
use Rattle.type_items.specs.Items.{Place, child, Wanted, Item}
use Rattle.type_items.specs.Scopes.{Scope, with_constants}
use Rattle.type_items.specs.Annotations.{own_variables, constant, own_constants, fixed_variable, fixed_type}
use Rattle.type_items.specs.Annotations.{annotation_items}
use Rattle.type_items.specs.Definitions.{Definition}
use Rattle.type_store.specs.Store.{Store}
use Rattle.type_walks.specs.Regions.{Region, only, below, either}
use Rattle.type_walks.specs.Links.{Within}
use Rattle.type_walks.specs.Walks.{Around}
use Rattle.type_schemes.specs.Constants.{Own, rigids, Opened}

-- the scope inside it
abbrev pub inner_scope : Annotation → Scope → Place → Scope
inner_scope annotation scope p = with_constants (own_constants scope.constants p annotation) scope

-- its type
abbrev pub type_inside : Annotation → Scope → Place → Wanted
type_inside annotation scope p = fixed_type (inner_scope annotation scope p).constants p annotation

-- the items of its body, after those of the annotation
abbrev pub body_items : Definition → Annotation → Scope → Place → List Item
body_items d annotation scope p =
    annotation_items d.place annotation (fixed_variable (inner_scope annotation scope p).constants p)
    ++ d.list (inner_scope annotation scope p) (child p 0) (type_inside annotation scope p)

-- the places of its body, and its own
abbrev pub body_places : Place → Region
body_places p = below (child p 0)

abbrev pub all_places : Place → Region
all_places p = either (only p) (below p)

-- Its constants have variables, one each, in order of appearance.
pub record Enters (a : Around) (p : Place) (annotation : Annotation) (scope : Scope) (own : List Own) (s opened : Store)
    : Type 0 where
  pub its : rigids own ≡ map (constant p annotation) (own_variables scope.constants annotation)
  pub new : (r : Rigid) → Contains a.constants r → only p r.place ≡ false
  pub opens : Opened a.depth p s own opened
  pub known : Within (rigids own ++ a.constants) opened
