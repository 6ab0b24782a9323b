-- How many parameters, branches and functions there are decides their sign.
use Rattle.std.proofs.Common.{◌≡◌, ◌≢◌, List, [], ◌∷◌, length, map, refl, arith}
use Rattle.elm_canon.specs.Tree.{Pattern, patterns_of, branches_of, functions_of}
use Rattle.elm_canon.specs.View.{BranchView, FunctionView}
use Rattle.core_modules.specs.declared.port_faults_sign.Sign.TheVariants as sign
use Rattle.core_modules.specs.declared.port_faults_sign.Form.TheVariants as form
use Rattle.core_modules.specs.PortFaultsSigns.{lambda_sign, case_sign, together_sign, other}

pub one_parameter : {X : Type 0} (f : X → Pattern) (xs : List X) → length xs ≡ 1 →
    lambda_sign (patterns_of (map f xs)) ≡ sign.Form form.Lambda
one_parameter f [] e = absurd (omega arith)
one_parameter f (x ∷ []) e = refl
one_parameter f (x ∷ y ∷ xs) e = absurd (omega arith)

pub other_parameters : {X : Type 0} (f : X → Pattern) (xs : List X) → length xs ≢ 1 →
    lambda_sign (patterns_of (map f xs)) ≡ other
other_parameters f [] e = refl
other_parameters f (x ∷ []) e = absurd (e refl)
other_parameters f (x ∷ y ∷ xs) e = refl

pub two_branches : {X : Type 0} (f : X → BranchView) (xs : List X) → length xs ≡ 2 →
    case_sign (branches_of (map f xs)) ≡ sign.Form form.Two
two_branches f [] e = absurd (omega arith)
two_branches f (x ∷ []) e = absurd (omega arith)
two_branches f (x ∷ y ∷ []) e = refl
two_branches f (x ∷ y ∷ z ∷ xs) e = absurd (omega arith)

pub other_branches : {X : Type 0} (f : X → BranchView) (xs : List X) → length xs ≢ 2 →
    case_sign (branches_of (map f xs)) ≡ other
other_branches f [] e = refl
other_branches f (x ∷ []) e = refl
other_branches f (x ∷ y ∷ []) e = absurd (e refl)
other_branches f (x ∷ y ∷ z ∷ xs) e = refl

pub one_function : {X : Type 0} (f : X → FunctionView) (xs : List X) → length xs ≡ 1 →
    together_sign (functions_of (map f xs)) ≡ sign.Form form.Alone
one_function f [] e = absurd (omega arith)
one_function f (x ∷ []) e = refl
one_function f (x ∷ y ∷ xs) e = absurd (omega arith)

pub other_functions : {X : Type 0} (f : X → FunctionView) (xs : List X) → length xs ≢ 1 →
    together_sign (functions_of (map f xs)) ≡ other
other_functions f [] e = refl
other_functions f (x ∷ []) e = absurd (e refl)
other_functions f (x ∷ y ∷ xs) e = refl
