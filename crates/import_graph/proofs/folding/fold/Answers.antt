-- One module more: `made_more`.
use Rattle.std.proofs.Common.{◌≡◌, subst, sym, ◌∙◌, arith}
use Rattle.decl_groups.specs.Groups.{list_at, plain}
use Rattle.import_graph.specs.Fold.{values_at, AreMade}
use Rattle.import_graph.proofs.Values.{made_more, plain_at}
use Rattle.import_graph.proofs.folding.fold.Goals as goal

pub loop-number-preserved : goal.loop-number-preserved
loop-number-preserved g c =
    let Makes = g.W.Work.makes c.args.work.now in
    let graph = plain c.args.graph.now in
    let values = c.loop-number.values.items in
    let n = c.loop-number.number in
    let v = c.in_ok-value.value in
    let row : c.deref-in-loop-number.result.now ≡ list_at graph n =
    c.deref-in-loop-number.ensures.value
    ∙ sym (plain_at c.args.graph.now n c.index-graph-number.result (omega arith) c.index-graph-number.is) in
    let made : Makes n (values_at values (list_at graph n)) v =
    subst (λ js. Makes n (values_at values js) v) row
    (subst (λ vs. Makes n (values_at vs c.deref-in-loop-number.result.now) v) c.deref.ensures.value
    c.in_ok-value.ensures) in
    record {
      each = omega (arith, c.in_ok-push.ensures.len, c.loop-number.invariant.each);
      made = subst (AreMade Makes graph) (sym c.in_ok-push.ensures.items)
          (made_more Makes graph c.requires.ordered values v n c.loop-number.invariant.each c.loop-number.invariant.made
          made);
    }
