use Rattle.std.proofs.Common.{◌++◌, ◌∷◌, [], ap, ◌∙◌, sym, arith}
use Rattle.std.proofs.Common.{option_map}
use Rattle.std.proofs.lemmas.Result.{on_ok_weaker}
use Rattle.decision_tree.specs.Views.{ask_view, inner_view, left_view, parts_view, row_of, rows_view}
use Rattle.decision_tree.proofs.Narrowing.{row_past, row_left}
use Rattle.decision_tree.proofs.row.add_left.Goals as goal

pub returns-then-len-column : goal.returns-then-len-column
returns-then-len-column c =
    on_ok_weaker c.add_row.result
    (λ e.
    e
    ∙ ap (λ zs. rows_view c.args.out.now.items ++ zs)
    (ap (λ zs. row_of c.args.row.now.branch (parts_view zs ++ []) ∷ []) c.deref.ensures.value
    ∙ row_past (left_view c.args.wanted) c.args.row.now.parts.items c.args.column c.args.row.now.branch
    (omega (arith, c.if-len-column.true, c.len.ensures))))
    c.add_row.ensures

pub returns : goal.returns
returns c =
    on_ok_weaker c.add_kept.result
    (λ e.
    e
    ∙ ap (λ zs. rows_view c.args.out.now.items ++ zs)
    (row_left (left_view c.args.wanted) c.args.row.now.parts.items c.args.column c.args.row.now.branch
    c.index.result.now (ask_view c.ask_part.result) (option_map inner_view c.left-kept.result)
    (omega (arith, c.if-len-column.false, c.len.ensures)) (sym c.index.ensures) c.ask_part.ensures c.left-kept.ensures))
    c.add_kept.ensures
