-- A function has a result: `function_with_result`.
use Rattle.std.proofs.Common.{◌∙◌, arith}
use Rattle.elm_canon.proofs.Views.{type_of_function}
use Rattle.canon_type.proofs.Walks.{function_with_result}
use Rattle.canon_type.proofs.annotation.function_of.Goals as goal

pub returns : goal.returns
returns c = type_of_function c.args.types ∙ function_with_result c.args.types.items (λ none. omega arith)
