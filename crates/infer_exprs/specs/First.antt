-- What the first definition of a type group says of the group.
use Rattle.std.specs.Prelude.{◌≡◌, ℕ, List, ◌∷◌, Some, None, slice_get, true}
use Rattle.std.specs.List.{AllByRecursion}
use Rattle.elm_base.specs.declared.position.Pos.{Pos}
use Rattle.elm_canon.specs.Tree.{Annotation, Pattern, Expr, Group, Together, Constant, Destructure}
use Rattle.elm_canon.specs.View.{annotation_view}
use Rattle.type_items.specs.Definitions as plain
use Rattle.type_items.specs.Patterns.{pattern_start}
use Rattle.type_items.specs.Expressions.{nowhere, group_definitions}
use Rattle.infer_order.specs.Spots.{in_group, at_spot, has_titles}
use Rattle.infer_order.specs.declared.order.Definition.{Definition}
use Rattle.infer_exprs.specs.Members.{HasTitle}
use Rattle.infer_exprs.specs.Finished.{first_annotation}
use Rattle.infer_exprs.specs.declared.first.First.{First}
use Rattle.infer_exprs.specs.declared.first.First.TheVariants as first

-- the definition of the number i in a group that is no pattern with its value
pub record HasDefinition (g : Group) (i : ℕ) : Type 0 where
  pub definition : plain.Definition
  pub at : in_group (Some g) i ≡ Some definition
  pub titled : has_titles (Some g) ≡ true

-- it is a pattern with its value, which begins there
abbrev pub StartsAt : Pos → Group → Type 0
StartsAt place (Together fs) = ⊥
StartsAt place (Constant title e) = ⊥
StartsAt place (Destructure p e) = place ≡ pattern_start nowhere p

-- the type group is a definition with this annotation, which stands there
pub record IsAnnotated (gs : List Group) (group : List plain.Definition) (g i : ℕ) (place : Pos) (t : Annotation)
    : Type 0 where
  pub definition : plain.Definition
  pub rest : List plain.Definition
  pub is : group ≡ definition ∷ rest
  pub at : at_spot gs g i ≡ Some definition
  pub titled : has_titles (slice_get gs g) ≡ true
  pub written : place ≡ definition.place
  pub annotation : definition.annotation ≡ Some t

-- it is a pattern with its value, which stands there
pub record IsPattern (gs : List Group) (group : List plain.Definition) (g : ℕ) (place : Pos) : Type 0 where
  pub pattern : Pattern
  pub value : Expr
  pub at : slice_get gs g ≡ Some (Destructure pattern value)
  pub is : group ≡ group_definitions (Destructure pattern value)
  pub starts : place ≡ pattern_start nowhere pattern

-- its definitions have no annotation, and none of them is a pattern with its value
pub record AreInferred (xs : List Definition) (group : List plain.Definition) : Type 0 where
  pub inferred : first_annotation group ≡ None
  pub titled : AllByRecursion HasTitle xs

abbrev pub IsFirst : First → List Group → List Definition → List plain.Definition → Type 0
IsFirst (first.Annotated g i place t) gs xs group = IsAnnotated gs group g i place (annotation_view t.now)
IsFirst (first.Pattern g place) gs xs group = IsPattern gs group g place
IsFirst first.Inferred gs xs group = AreInferred xs group
