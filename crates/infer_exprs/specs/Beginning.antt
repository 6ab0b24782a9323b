-- A definition with its annotation, up to its body.
use Rattle.std.specs.Prelude.{◌≡◌, ℕ, List}
use Rattle.elm_base.specs.declared.position.Pos.{Pos}
use Rattle.elm_canon.specs.Tree.{Annotation}
use Rattle.type_items.specs.Items.{child}
use Rattle.infer_steps.specs.Codes.{Code, State}
use Rattle.infer_groups.specs.Annotated.{inside_of, ConstantsOpen, AnnotationAsked}

-- The definition of the number i was entered: its constants have the variables vs, what its annotation asks, written at
-- pos, was asked, and v is a variable of its type. The code's scope is the one inside it.
pub record AnnotatedOpens (code inner : Code) (pos : Pos) (annotation : Annotation) (i : ℕ) (vs : List ℕ) (v : ℕ)
    (old now : State) : Type 0 where
  pub mid : State
  pub opens : ConstantsOpen code annotation i vs old mid
  pub is : inner ≡ inside_of code annotation (child old.place i) vs
  pub asked : AnnotationAsked (inside_of code annotation (child old.place i) vs) pos annotation v mid now
