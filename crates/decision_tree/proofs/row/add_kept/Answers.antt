use Rattle.std.proofs.Common.{◌+◌, ◌-◌, ◌++◌, [], ◌∷◌, length, take, drop, ap, ◌∙◌, sym, append-nil}
use Rattle.std.proofs.Common.{option_map}
use Rattle.std.proofs.lemmas.List.{take_rest}
use Rattle.std.proofs.lemmas.Result.{on_ok_weaker}
use Rattle.js_emit.specs.Matrix.{keep}
use Rattle.decision_tree.specs.Placed.{placed}
use Rattle.decision_tree.specs.Views.{inner_view, parts_view, row_of, rows_view}
use Rattle.decision_tree.proofs.Narrowing.{parts_around}
use Rattle.decision_tree.proofs.row.add_kept.Goals as goal

pub returns-in-None : goal.returns-in-None
returns-in-None c =
    sym (append-nil (rows_view c.args.out.now.items))
    ∙ ap (λ o. rows_view c.args.out.now.items
    ++ keep (option_map (placed c.args.column (parts_view c.args.row.now.parts.items)) (option_map inner_view o))
    c.args.row.now.branch [])
    (sym c.in-None.is)

pub returns-in-Some : goal.returns-in-Some
returns-in-Some c =
    let ps = c.args.row.now.parts.items in
    let column = c.args.column in
    on_ok_weaker c.add_row.result
    (λ e.
    e
    ∙ ap (λ zs. rows_view c.args.out.now.items ++ zs)
    (ap (λ zs. row_of c.args.row.now.branch zs ∷ [])
    (parts_around ps (take column c.deref.result.now)
    (take (length c.deref-in-Some.result.now - (column + 1)) (drop (column + 1) c.deref-in-Some.result.now)) column
    (inner_view c.in-Some.inner) (ap (take column) c.deref.ensures.value)
    (take_rest c.deref-in-Some.result.now (column + 1) ∙ ap (drop (column + 1)) c.deref-in-Some.ensures.value))
    ∙ ap (λ o. keep (option_map (placed column (parts_view ps)) (option_map inner_view o)) c.args.row.now.branch [])
    (sym c.in-Some.is)))
    c.add_row.ensures
