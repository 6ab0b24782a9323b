-- Type groups that were walked, and what is left of them.
use Rattle.std.specs.Prelude.{◌≡◌, ℕ, List, [], ◌∷◌, Option, Some, None, is_some, true}
use Rattle.elm_canon.specs.Tree.{Annotation}
use Rattle.type_items.specs.Items.{child}
use Rattle.type_items.specs.Definitions.{Definition, list_group}
use Rattle.type_constructs.specs.Failing.{Bad}
use Rattle.infer_steps.specs.Codes.{Code, State}
use Rattle.infer_steps.specs.Leaving.{without}
use Rattle.infer_steps.specs.declared.scope.Entered.{Entered}
use Rattle.infer_groups.specs.Defined.{Defined, DefinitionsStop, group_places}
use Rattle.infer_groups.specs.Members.{listed_group, at_number, CanClose, GroupDone}
use Rattle.infer_groups.specs.Names.{named_views}
use Rattle.infer_groups.specs.Annotated.{listed_annotated}
use Rattle.infer_groups.specs.declared.groups.Opened.{Opened}

-- None: its first definition has no annotation, or there is none
abbrev pub first_annotation : List Definition → Option Annotation
first_annotation [] = None
first_annotation (d ∷ ds) = d.annotation

-- the type group of the number i was walked whole
abbrev pub GroupDefined : Code → Code → List Definition → ℕ → State → State → Type 0
GroupDefined code after g i old new =
    Defined code after (λ q. group_places (child q i)) (λ scope q. list_group g scope (child q i)) old new

-- or it stops
abbrev pub GroupStops : Code → List Definition → ℕ → State → State → Bad → Type 0
GroupStops code g i old new bad =
    DefinitionsStop code (λ q. group_places (child q i)) (λ scope q. list_group g scope (child q i)) old new bad

-- definitions without an annotation are the type group of the number i, and stop
abbrev pub InferredStops : Code → List Definition → ℕ → State → State → Bad → Type 0
InferredStops code g i old new bad =
    DefinitionsStop code (λ q. group_places (child q i)) (at_number i (listed_group g)) old new bad

-- a definition with its annotation is the type group of the number i, and was walked; or it stops
abbrev pub AnnotatedDefined : Code → Definition → Annotation → ℕ → State → State → Type 0
AnnotatedDefined code d t i old new =
    Defined code code (λ q. group_places (child q i)) (at_number i (listed_annotated d t)) old new

abbrev pub AnnotatedStops : Code → Definition → Annotation → ℕ → State → State → Bad → Type 0
AnnotatedStops code d t i old new bad =
    DefinitionsStop code (λ q. group_places (child q i)) (at_number i (listed_annotated d t)) old new bad

-- a type group that has an annotation was walked
pub record AnnotatedWalked (code after : Code) (g : List Definition) (i : ℕ) (old new : State) : Type 0 where
  pub same : after ≡ code
  pub annotated : is_some (first_annotation g) ≡ true
  pub defined : GroupDefined code code g i old new

-- definitions without one were walked, and their names are to become general
pub record InferredWalked (code after : Code) (g : List Definition) (i : ℕ) (opened : Opened) (old new : State)
    : Type 0 where
  pub left : without opened.entered.items after ≡ code
  pub inferred : first_annotation g ≡ None
  pub done : GroupDone code g i (named_views opened.names.items) old new

-- the walk of a type group: what is to be closed, if it is
abbrev pub GroupWalked : Code → Code → List Definition → ℕ → Option Opened → State → State → Type 0
GroupWalked code after g i None old new = AnnotatedWalked code after g i old new
GroupWalked code after g i (Some opened) old new = InferredWalked code after g i opened old new

-- it can be closed
abbrev pub CanFinish : Option Opened → State → Type 0
CanFinish None now = Unit {0}
CanFinish (Some opened) now = CanClose (named_views opened.names.items) now

-- it was closed: what its names stood for before is added to what others stood for
pub record Finished (code after : Code) (g : List Definition) (i : ℕ) (before entered : List Entered)
    (old new : State) : Type 0 where
  pub defined : GroupDefined code after g i old new
  pub left : without entered after ≡ without before code
