-- The numbers are those of the parts: `rows_same`.
use Rattle.std.proofs.Common.{map, ◌∙◌}
use Rattle.std.proofs.lemmas.Result.{IfOk-weaker}
use Rattle.project_parts.specs.Modules.{number_of}
use Rattle.project_parts.specs.View.{part_view, number_at}
use Rattle.project_parts.proofs.Rows.{rows_same}
use Rattle.project_parts.proofs.graph.graph_of.Goals as goal

pub returns : goal.returns
returns c =
    let ps = map part_view c.args.parts.now in
    IfOk-weaker c.rows_of.result _ _
    (λ rows h. h ∙ rows_same (number_at c.in_ok-numbers.numbers) (number_of ps) c.in_ok-numbers.ensures ps)
    c.rows_of.ensures
