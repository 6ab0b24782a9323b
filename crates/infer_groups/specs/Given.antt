-- The constants of a definition, as the program makes them, and what the program keeps of a definition that is open.
use Rattle.std.specs.Prelude.{◌≡◌, ℕ, List, [], ◌∷◌, map}
use Rattle.std.specs.List.{Contains}
use Rattle.elm_canon.specs.Tree.{Annotation}
use Rattle.elm_type.specs.Types.{Name, Rigid, Kind}
use Rattle.type_items.specs.Items.{Place}
use Rattle.type_items.specs.Annotations.{kind_of}
use Rattle.type_items.specs.Definitions.{Definition}
use Rattle.elm_base.specs.declared.position.Pos.{Pos}
use Rattle.infer_steps.specs.Codes.{Code, State, with_constant}
use Rattle.infer_groups.specs.Annotated.{own_names, AnnotatedDone}

-- constants of these names and kinds at the place p
abbrev pub constants_at : Place → List Name → List Kind → List Rigid
constants_at p [] ks = []
constants_at p (x ∷ xs) [] = []
constants_at p (x ∷ xs) (k ∷ ks) =
    record { place = p; name = x; class = k.class; lacks = k.lacks } ∷ constants_at p xs ks

-- these names are variables of annotations; the first one is the innermost
abbrev pub with_slots : List Name → List ℕ → Code → Code
with_slots [] vs code = code
with_slots (x ∷ xs) [] code = code
with_slots (x ∷ xs) (v ∷ vs) code = with_constant x v (with_slots xs vs code)

-- each name once
abbrev pub AreApart : List Name → Type 0
AreApart [] = Unit {0}
AreApart (x ∷ xs) = (Contains xs x → ⊥) × AreApart xs

-- the names and kinds are those of the annotation's own variables
pub record AreOwnOf (code : Code) (annotation : Annotation) (xs : List Name) (ks : List Kind) : Type 0 where
  pub names : xs ≡ own_names code annotation
  pub kinds : ks ≡ map (kind_of annotation) xs

-- a definition whose body was walked, to be closed
pub record CanEnd (position : Pos) (xs : List Name) (vs : List ℕ) (v : ℕ) (now : State) : Type 0 where
  pub code : Code
  pub definition : Definition
  pub annotation : Annotation
  pub number : ℕ
  pub old : State
  pub mid : State
  pub done : AnnotatedDone code definition annotation number vs v old mid now
  pub names : xs ≡ own_names code annotation
  pub at : position ≡ definition.place
