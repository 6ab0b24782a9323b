-- One function more: `pushed`.
use Rattle.std.proofs.Common.{refl}
use Rattle.std.proofs.lemmas.Result.{on_ok_weaker}
use Rattle.elm_canon.specs.View.{function_view}
use Rattle.elm_canon.proofs.Views as views
use Rattle.canon_env.proofs.Filtering.{pushed}
use Rattle.canon_expr.proofs.groups.add_function.Goals as goal

pub returns : goal.returns
returns c =
    on_ok_weaker c.put.result
    (λ is. pushed function_view c.args.functions.now.items _ _ _ _ is refl
    (views.function (record { title = c.args.title; parameters = c.args.parameters; body = c.args.body })))
    c.put.ensures
