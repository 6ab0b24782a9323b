-- Interfaces and their texts, worked out.
use Rattle.std.specs.Prelude.{◌≡◌, List, [], ◌∷◌, Some, None, codes}
use Rattle.elm_type.specs.Types.{Name, int_type}
use Rattle.elm_canon.specs.Tree.{Annotation, Variable, NamedType, FunctionType, NoAnnotation, MoreAnnotation}
use Rattle.interface.specs.declared.step.Step.{Step}
use Rattle.interface.specs.declared.step.Step.TheVariants as step
use Rattle.interface.specs.Formats.{number_at}
use Rattle.interface.specs.Steps.{steps_of, built_one}
use Rattle.interface.specs.Interface.{Value, Interface, interface_of}
use Rattle.interface.specs.Text.{text_of}

abbrev pub int_value : Name → Value
int_value x = record { name = x; parameters = 0; scheme = record { type = int_type; kinds = [] } }

-- Maybe a -> b
abbrev pub arrow : Annotation
arrow = FunctionType (NamedType (codes "Maybe") (codes "Maybe") (MoreAnnotation (Variable (codes "a")) NoAnnotation)) (Variable (codes "b"))

abbrev pub arrow_steps : List Step
arrow_steps =
    step.Function ∷ step.Part ∷ step.Variable (codes "a") ∷ step.Named (codes "Maybe") (codes "Maybe") ∷ step.Variable (codes "b") ∷ []

pub record Examples : Type 0 where
  -- moving a definition changes no interface
  pub moved : interface_of (int_value (codes "y") ∷ int_value (codes "x") ∷ []) [] [] ≡ interface_of (int_value (codes "x") ∷ int_value (codes "y") ∷ []) [] []
  -- x : Int
  pub one_value : text_of (interface_of (int_value (codes "x") ∷ []) [] [])
      ≡ codes "1 1 120 0 1 0 0 6 66 97 115 105 99 115 3 73 110 116 0 0 0 0 "
  pub steps : steps_of arrow ≡ arrow_steps
  pub rebuilt : built_one arrow_steps ≡ Some arrow
  -- numbers have no leading zeros, and stay below their most
  pub number : number_at 255 (codes "40 7 ") ≡ Some (40, codes "7 ")
  pub leading_zero : number_at 255 (codes "04 ") ≡ None
  pub too_large : number_at 255 (codes "256 ") ≡ None
  pub no_space : number_at 255 (codes "4") ≡ None
