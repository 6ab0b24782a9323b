-- What an annotation gives inside its definition, and outside of it.
use Rattle.std.specs.Prelude.{ℕ, List}
use Rattle.elm_base.specs.declared.position.Pos.{Pos}
use Rattle.elm_canon.specs.Tree.{Annotation}
use Rattle.type_items.specs.Items.{child}
use Rattle.type_items.specs.Definitions.{Definition}
use Rattle.type_constructs.specs.Failing.{Bad}
use Rattle.infer_steps.specs.Codes.{Code, State}
use Rattle.infer_groups.specs.Defined.{DefinitionsStop, group_places}
use Rattle.infer_groups.specs.Members.{at_number}
use Rattle.infer_types.specs.Fixing.{Fixes, NotFixed}
use Rattle.infer_groups.specs.Annotated.{inside_of, listed_annotated, ConstantsOpen, AnnotationAsked}

-- an annotation that was fixed was asked
abbrev pub FixedIsAsked : Type 0
FixedIsAsked =
    (inner : Code) (pos : Pos) (annotation : Annotation) (v : ℕ) (mid u : State)
    → Fixes inner pos annotation mid u v → AnnotationAsked inner pos annotation v mid u

-- where the annotation of a definition that was entered fails, the definition stops
abbrev pub FixingStops : Type 0
FixingStops =
    (code : Code) (d : Definition) (annotation : Annotation) (i : ℕ) (vs : List ℕ) (old mid u : State) (bad : Bad)
    → ConstantsOpen code annotation i vs old mid
    → NotFixed (inside_of code annotation (child old.place i) vs) d.place annotation mid u bad
    → DefinitionsStop code (λ q. group_places (child q i)) (at_number i (listed_annotated d annotation)) old u bad
