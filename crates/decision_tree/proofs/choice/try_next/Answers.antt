use Rattle.std.proofs.Common.{◌<◌, ◌∷◌, length, ap, ◌∙◌, sym, arith}
use Rattle.std.proofs.lemmas.Grind.{common_steps}
use Rattle.std.proofs.lemmas.Result.{on_ok_weaker}
use Rattle.js_tree.specs.Tree.{JConditional}
use Rattle.js_tree.specs.Postorder.{Expression, trees_of}
use Rattle.js_emit.specs.Choice.{test_js}
use Rattle.decision_tree.specs.Views.{test_view, path_view}
use Rattle.decision_tree.specs.Run.{all_done, advanced, chain_js, left_tasks}
use Rattle.decision_tree.proofs.Chains.{at_end, at_last, at_next}
use Rattle.decision_tree.proofs.Doing.{done_all}
use Rattle.decision_tree.proofs.choice.try_next.Goals as goal

pub returns-then-len-chain : goal.returns-then-len-chain
returns-then-len-chain c =
    let subject = c.args.subject in
    let work = c.args.work.now.items in
    let ts = trees_of c.args.trees.now in
    on_ok_weaker c.add_narrowed.result
    (λ e.
    e subject ts
    ∙ ap (λ x. all_done subject work (Expression x ∷ ts))
    (sym (at_end subject c.args.chain (grind (arith, common_steps)))))
    c.add_narrowed.ensures

pub returns-then-is_last : goal.returns-then-is_last
returns-then-is_last c =
    let subject = c.args.subject in
    let work = c.args.work.now.items in
    let ts = trees_of c.args.trees.now in
    let test = c.index-test.result.now in
    let last = c.is_last.ensures.last c.if-is_last.true in
    let inside : c.args.chain.next < length c.args.chain.tests.items = grind (arith, common_steps) in
    on_ok_weaker c.add_narrowed-then-is_last.result
    (λ e.
    e subject ts
    ∙ ap (λ x. all_done subject work (Expression x ∷ ts))
    (sym (at_last subject c.args.chain test inside (sym c.index-test.ensures) last.0 last.1)))
    c.add_narrowed-then-is_last.ensures

pub returns-in-Ok : goal.returns-in-Ok
returns-in-Ok c =
    let subject = c.args.subject in
    let chain = c.args.chain in
    let work = c.args.work.now.items in
    let ts = trees_of c.args.trees.now in
    let test = c.index-test.result.now in
    let tested = test_js (test_view test) (path_view subject chain.path) in
    let after = left_tasks chain c.in-Ok.chosen in
    let inside : chain.next < length chain.tests.items = grind (arith, common_steps) in
    on_ok_weaker c.leave.result
    (λ e.
    ap (λ ws. all_done subject ws (trees_of c.push_next.new.trees)) e
    ∙ (done_all subject work after (trees_of c.push_next.new.trees)
    ∙ ap (all_done subject work)
    (ap (all_done subject after) c.in_ok-push_next.ensures
    ∙ ap (λ x. Expression x ∷ ts)
    (ap (λ x. JConditional tested x (chain_js subject (advanced chain))) (c.in-Ok.ensures subject)
    ∙ sym (at_next subject chain test inside (sym c.index-test.ensures)
    (c.is_last.ensures.other c.if-is_last.false))))))
    c.leave.ensures
