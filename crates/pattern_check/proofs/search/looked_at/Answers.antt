use Rattle.std.proofs.Common.{◌∙◌, arith}
use Rattle.std.proofs.lemmas.Result.{IfOk-weaker}
use Rattle.pattern_check.specs.Starts.{row_view, rows_view}
use Rattle.pattern_check.proofs.Searching.{bound_found, bound_work, closed_rows}
use Rattle.pattern_check.proofs.search.looked_at.Goals as goal

pub returns-clause-found : goal.returns-clause-found
returns-clause-found c =
    let t = c.args.task in
    IfOk-weaker c.pass.result _ _
    (λ l h. h ∙ bound_found t.bound (row_view t.wanted) (rows_view t.rows.items) (omega arith)
    (closed_rows c.deref.result.now t.rows.items c.some_open.result c.some_open.ensures c.if-some_open.false c.deref.ensures.value)) c.pass.ensures.found

pub returns-clause-light : goal.returns-clause-light
returns-clause-light c =
    let t = c.args.task in
    let w = bound_work t.bound (row_view t.wanted) (rows_view t.rows.items) (omega arith) in
    IfOk-weaker c.pass.result _ _ (λ l h. omega (arith, w, h)) c.pass.ensures.light
