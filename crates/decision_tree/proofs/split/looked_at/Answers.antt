use Rattle.std.proofs.Common.{◌<◌, ap, ◌∙◌, sym, arith, length, Some}
use Rattle.js_emit.specs.Choice.{first_column}
use Rattle.std.proofs.lemmas.Grind.{common_steps}
use Rattle.std.proofs.lemmas.List.{length-map}
use Rattle.decision_tree.specs.Views.{parts_view, row_view, rows_view, paths_view}
use Rattle.decision_tree.specs.Run.{found_view}
use Rattle.decision_tree.proofs.Lists.{map_at}
use Rattle.decision_tree.proofs.Looking.{look_split}
use Rattle.decision_tree.proofs.split.looked_at.Goals as goal

pub returns-in-Some-clause-look : goal.returns-in-Some-clause-look
returns-in-Some-clause-look c = λ subject.
    let m = c.args.matrix.now in
    let row = c.index.result.now in
    let long : 0 < length m.rows.items = grind (arith, common_steps) in
    look_split (paths_view subject m.paths.items) (rows_view m.rows.items) (row_view row)
    (found_view subject m.paths.items c.in-Some.found)
    (omega (arith, long, length-map m.rows.items row_view))
    (map_at row_view m.rows.items 0 row (row_view row) long (sym c.index.ensures))
    (sym (ap (λ zs. first_column (paths_view subject zs) (parts_view row.parts.items)) c.deref.ensures.value)
    ∙ (sym (ap (λ zs. first_column (paths_view subject c.deref.result.now) (parts_view zs)) c.deref-2.ensures.value)
    ∙ (sym (c.in-Some.ensures.found subject)
    ∙ ap (λ zs. Some (found_view subject zs c.in-Some.found)) c.deref.ensures.value)))
