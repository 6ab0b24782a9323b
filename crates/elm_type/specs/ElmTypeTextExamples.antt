-- Texts of types, worked out.
use Rattle.std.specs.Prelude.{◌≡◌, [], ◌∷◌, codes}
use Rattle.elm_type.specs.Types.{ElmType, variable, function, functions, tuple, named, int_type, bool_type, list_type}
use Rattle.elm_type.specs.Types.{Leaf, Fixed}
use Rattle.elm_type.specs.Rows.{closed}
use Rattle.elm_type.specs.Examples.{a, b, c, updated, of_class, row_without, scheme, x, y}
use Rattle.elm_type.specs.declared.class.Class.TheVariants.{Any, Number, CompAppend}
use Rattle.elm_type.specs.Text.{type_text}
use Rattle.std.specs.Prelude.{ℕ}

-- the variable a of an annotation
abbrev rigid_a : ElmType (Leaf ℕ)
rigid_a = variable (Fixed (record { place = []; name = codes "a"; class = Any; lacks = [] }))

pub record Examples : Type 0 where
  pub maybe_in_list : type_text (scheme (named (codes "Maybe") (codes "Maybe") (list_type a ∷ [])) []) ≡ codes "Maybe (List a)"
  pub functions_in_functions : type_text (scheme (function (function a b) (list_type (function b a))) []) ≡ codes "(a -> b) -> List (b -> a)"
  pub of_a_module : type_text (scheme (named (codes "A.B") (codes "T") []) []) ≡ codes "A.B.T"
  pub no_type : type_text (scheme (tuple []) []) ≡ codes "()"
  pub pair_of_types : type_text (scheme (tuple (b ∷ a ∷ [])) []) ≡ codes "( a, b )"
  pub closed_record : type_text (scheme (closed ((y, bool_type) ∷ (x, int_type) ∷ [])) []) ≡ codes "{ x : Int, y : Bool }"
  -- f r = { r | x = r.x + 1 }
  pub update : type_text (scheme (function updated updated) (row_without (x ∷ []) ∷ of_class Number ∷ [])) ≡ codes "{ a | x : number } -> { a | x : number }"
  -- f a b = ( a < b, a ++ b )
  pub both_classes : type_text (scheme (functions (a ∷ a ∷ []) (tuple (bool_type ∷ a ∷ []))) (of_class CompAppend ∷ []))
      ≡ codes "compappend -> compappend -> ( Bool, compappend )"
  pub numbers : type_text (scheme (tuple (b ∷ a ∷ c ∷ [])) (of_class Number ∷ of_class Number ∷ [])) ≡ codes "( number, number1, a )"
  pub beside_a_constant : type_text (scheme (tuple (a ∷ rigid_a ∷ [])) []) ≡ codes "( b, a )"
