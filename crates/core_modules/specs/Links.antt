-- The signs before and after an expression with which something is done; for private clauses.
use Rattle.std.specs.Prelude.{List, [], ◌∷◌, ◌++◌}
use Rattle.elm_canon.specs.Tree.{exprs_of}
use Rattle.elm_canon.specs.View as link
use Rattle.elm_canon.specs.View.{LinkView}
use Rattle.core_modules.specs.PortFaultsSigns.{signs, exprs_signs, op_sign, op_ends, other, end}
use Rattle.core_modules.specs.declared.port_faults_sign.Sign.{Sign}
use Rattle.core_modules.specs.declared.port_faults_sign.Sign.TheVariants as sign
use Rattle.core_modules.specs.declared.port_faults_sign.Form.TheVariants as form

abbrev pub before : LinkView → List Sign
before (link.Given f es) = (sign.Form form.Apply ∷ signs f) ++ exprs_signs (exprs_of es)
before (link.Composed f a) = sign.Form form.Apply ∷ signs f
before (link.After o es) = op_sign o ∷ exprs_signs (exprs_of es)
before (link.Before o a) = op_sign o ∷ []
before (link.Decided place c a) = other ∷ signs a

abbrev pub after : LinkView → List Sign
after (link.Given f es) = end ∷ []
after (link.Composed f a) = signs a ++ end ∷ []
after (link.After o es) = op_ends o
after (link.Before o a) = signs a ++ op_ends o
after (link.Decided place c a) = []

-- the last is around all others
abbrev pub before_all : List LinkView → List Sign
before_all [] = []
before_all (l ∷ ls) = before_all ls ++ before l
