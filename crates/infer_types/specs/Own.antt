-- The variables of an annotation that are not those of annotations around.
use Rattle.std.specs.Prelude.{◌≡◌, List, [], ◌∷◌, is_none, map, if◌then◌else◌}
use Rattle.elm_canon.specs.Tree.{Annotation}
use Rattle.elm_type.specs.Types.{Name, Kind}
use Rattle.elm_type.specs.View.{kind_view}
use Rattle.type_items.specs.Scopes.{Constants}
use Rattle.type_items.specs.Annotations.{variables_of, kind_of, own_variables}
use Rattle.type_walks.specs.Links.{Links}
use Rattle.infer_steps.specs.Codes.{Code}
use Rattle.infer_types.specs.Asking.{MeansConstants}
use Rattle.infer_types.specs.declared.own.OwnVariable.{OwnVariable}

abbrev pub own_view : OwnVariable → Name × Kind
own_view o = (o.name, kind_view o.kind)

-- those that have no constant, each with its kind
abbrev pub own_of : Code → List Name → List Kind → List (Name × Kind)
own_of code [] ks = []
own_of code (x ∷ xs) [] = []
own_of code (x ∷ xs) (k ∷ ks) =
    if is_none (code.constants x) then (x, k) ∷ own_of code xs ks else own_of code xs ks

-- where the code's constants are those of annotations around, they are the annotation's own variables
abbrev pub OwnAreOwn : Type 0
OwnAreOwn =
    (code : Code) (links : Links) (around : Constants) (t : Annotation) → MeansConstants code links around
    → own_of code (variables_of t) (map (kind_of t) (variables_of t))
    ≡ map (λ a. (a, kind_of t a)) (own_variables around t)
