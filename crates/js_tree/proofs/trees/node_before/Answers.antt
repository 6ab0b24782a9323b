-- Where trees begin, as nodes come: `trees_more`.
use Rattle.std.proofs.Common.{◌≡◌, ◌<◌, ◌-◌, suc, length, ap, ◌∙◌, sym, arith}
use Rattle.js_tree.specs.Postorder.{apply, trees_at}
use Rattle.js_tree.proofs.Linked.{trees_more}
use Rattle.js_tree.proofs.trees.node_before.Goals as goal

pub returns-clause-some : goal.returns-clause-some
returns-clause-some c =
    let place = c.args.place in
    let ns = c.args.nodes.now in
    let n = c.index-nodes-place.result in
    let inside : place - 1 < length ns = omega arith in
    let next : suc (place - 1) ≡ place = omega arith in
    ap (λ k. trees_at ns k) (sym next) ∙ (trees_more ns (place - 1) n inside ∙ ap (λ m. apply m (trees_at ns (place - 1))) (sym c.index-nodes-place.is))
