use Rattle.std.proofs.Common.{◌≡◌, ◌+◌, suc, ap, ◌∙◌, arith}
use Rattle.std.proofs.lemmas.Result.{IfOk-weaker}
use Rattle.pattern_check.specs.Flat.{found_in}
use Rattle.pattern_check.specs.Starts.{row_view, rows_view}
use Rattle.pattern_check.specs.Counted.{count_of, total_of}
use Rattle.pattern_check.proofs.check.left_out.Goals as goal

pub returns : goal.returns
returns c =
    let q = row_view c.args.wanted in
    let rows = c.args.rows.now in
    let b : c.in-Some-checked_add.bound ≡ suc (count_of q + total_of (rows_view rows)) =
    omega (arith, c.in-Some.ensures, c.in-Some-checked_add.ensures, c.in_ok-row_count.ensures, c.requires) in
    IfOk-weaker c.search.result _ _
    (λ r h. h ∙ ap (λ z. found_in z q (rows_view c.in_ok-copied.field-0.items)) b
    ∙ ap (λ z. found_in (suc (count_of q + total_of (rows_view rows))) q (rows_view z)) c.in_ok-copied.ensures) c.search.ensures
