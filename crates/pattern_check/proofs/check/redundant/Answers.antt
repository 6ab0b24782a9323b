use Rattle.std.proofs.Common.{[], map, ap, ◌∙◌}
use Rattle.std.proofs.lemmas.Result.{IfOk-weaker}
use Rattle.pattern_check.specs.Starts.{parts_view, rows_view}
use Rattle.pattern_check.specs.Counted.{redundant_list}
use Rattle.pattern_check.proofs.Checked.{redundant_patterns}
use Rattle.pattern_check.proofs.check.redundant.Goals as goal

pub returns : goal.returns
returns c =
    IfOk-weaker c.redundant_rows.result _ _
    (λ places h. h ∙ ap (λ z. redundant_list 0 [] (rows_view z)) c.deref-2.ensures.value
    ∙ ap (redundant_list 0 []) (c.in_ok-rows.ensures ∙ ap (map (λ v. parts_view v.items)) c.deref.ensures.value ∙ c.in_ok-lists.ensures)
    ∙ redundant_patterns (map (λ p. p.now) c.args.patterns.now)) c.redundant_rows.ensures
