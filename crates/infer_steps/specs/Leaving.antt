-- What is left of the code's scope when names go out of it.
use Rattle.std.specs.Prelude.{List, [], ◌∷◌, option_map}
use Rattle.infer_steps.specs.Codes.{Code, stands_for, constant_is}
use Rattle.infer_steps.specs.View.{meaning_view}
use Rattle.infer_steps.specs.declared.scope.Entered.{Entered}
use Rattle.infer_steps.specs.declared.scope.EnteredConstant.{EnteredConstant}

abbrev pub left : Entered → Code → Code
left e code = stands_for e.name (option_map meaning_view e.outer) code

-- without names that were entered, the first of them first
unfoldable pub without : List Entered → Code → Code
without [] code = code
without (e ∷ es) code = left e (without es code)

abbrev pub left_constant : EnteredConstant → Code → Code
left_constant e code = constant_is e.name e.outer code

unfoldable pub without_constant : List EnteredConstant → Code → Code
without_constant [] code = code
without_constant (e ∷ es) code = left_constant e (without_constant es code)
