-- One module more: `at_more`.
use Rattle.std.proofs.Common.{[], ◌∷◌, take, get_or, subst, sym, ap, ◌∙◌, arith}
use Rattle.std.proofs.lemmas.List.{take_more}
use Rattle.import_graph.specs.Fold.{values_at}
use Rattle.import_graph.proofs.Values.{at_more}
use Rattle.import_graph.proofs.folding.lay.Goals as goal

pub loop-import-preserved : goal.loop-import-preserved
loop-import-preserved g c = λ i h.
    let values = c.args.values.now in
    let js = c.args.imports.now in
    let k = c.loop-import.import-index in
    subst (g.W.Work.holds c.args.work.now c.lay_one.new.desk i)
    (sym (at_more values (take k js) (get_or js k 0 ∷ [])) ∙ ap (values_at values)
    (sym (take_more js k 0 (omega arith))))
    (c.in_ok-lay_one.ensures i (values_at values (take k js)) (c.loop-import.invariant i h))
