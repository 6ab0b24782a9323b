use Rattle.std.proofs.Common.{◌≡◌, ◌∷◌, [], None, map, ap, ◌∙◌}
use Rattle.std.proofs.lemmas.Result.{IfOk-weaker}
use Rattle.pattern_check.specs.Starts.{parts_view, rows_view}
use Rattle.pattern_check.specs.Counted.{left_out_list, patterns_parts}
use Rattle.pattern_check.proofs.check.missing_parts.Goals as goal

pub returns : goal.returns
returns c =
    let e : c.deref-2.result.now ≡ [] = c.deref-2.ensures.value ∙ c.new-none.ensures.items in
    let rows : rows_view c.deref-3.result.now ≡ patterns_parts (map (λ p. p.now) c.args.patterns.now) =
    ap rows_view c.deref-3.ensures.value ∙ c.in_ok-rows.ensures ∙ ap (map (λ v. parts_view v.items)) c.deref.ensures.value ∙ c.in_ok-lists.ensures in
    IfOk-weaker c.left_out.result _ _
    (λ found h. h ∙ ap (λ z. left_out_list (None ∷ parts_view z) (rows_view c.deref-3.result.now)) e
    ∙ ap (left_out_list (None ∷ [])) rows) c.left_out.ensures
