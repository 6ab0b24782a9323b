use Rattle.std.proofs.Common.{◌≡◌, ◌+◌, [], ◌∷◌, length, drop, get_or, sym, ap, ◌∙◌, arith}
use Rattle.std.proofs.lemmas.List.{drop_all, get_or_default}
use Rattle.std.proofs.lemmas.Result.{on_ok_weaker}
use Rattle.js_tree.specs.Tree.{Made, JVar, Continue}
use Rattle.js_tree.specs.Postorder.{Expression, BlockOf, StatementsOf, AssignThen, trees_of, top, statements, statements_then, apply}
use Rattle.js_tree.specs.declared.tree.Node as node
use Rattle.js_tree.specs.declared.tree.Name as name
use Rattle.js_emit.specs.Names.{made_names}
use Rattle.js_emit.specs.Loops.{assigns}
use Rattle.emit_exprs.proofs.Rows.{rest_next}
use Rattle.emit_exprs.specs.Frames.{pairs}
use Rattle.emit_exprs.proofs.EmitFramesSteps.{assign_step, no_assign}
use Rattle.emit_exprs.proofs.emit_frames_turns.end_turn.Goals as goal

pub loop-number-preserved : goal.loop-number-preserved
loop-number-preserved c = λ before ts was.
    let here = c.loop-number.invariant before ts was in
    let b = statements (top (trees_of c.loop-number.trees)) in
    let to = c.in_ok-to.to in
    let i = c.loop-number.number-index in
    let items = c.deref-number-items.result.now in
    let n = get_or items i 0 in
    let next = rest_next items i n (omega arith) (get_or_default items i 0 n (omega arith)) in
    let is : trees_of c.push.new.self ≡ StatementsOf (AssignThen b (Made to) (JVar (Made n))) ∷ ts =
    c.in_ok-push.ensures.trees
    ∙ ap (apply (node.Node.Assign (name.Name.Made to)))
    (c.in_ok-push_made.ensures ∙ ap (λ t. Expression (JVar (Made n)) ∷ t) here.kind) in
    record {
      kind = is ∙ sym (ap (λ t. StatementsOf (statements (top t)) ∷ ts) is);
      grown =
          ap (λ t. statements_then (statements (top t)) (assigns
          (pairs (made_names c.next_made.new.made (length (drop (i + 1) items))) (drop (i + 1) items)))) is
          ∙ assign_step b c.loop-number.variable c.next_made.new.made to n (drop i items) (drop (i + 1) items)
          c.in_ok-to.ensures.number c.in_ok-to.ensures.counted next
          ∙ here.grown;
    }

pub returns : goal.returns
returns c =
    let items = c.deref-number-items.result.now in
    let b = statements (top (trees_of c.loop-number.trees)) in
    let left = drop c.loop-number.number-index items in
    let none : left ≡ [] = drop_all c.loop-number.number-index items (omega (arith, c.loop-number-test.false)) in
    on_ok_weaker c.push-3.result
    (λ is before ts many was.
    let here = c.loop-number.invariant before ts was in
    is ∙ ap (apply node.Node.Ended) (c.in_ok-push-2.ensures.trees ∙ ap (λ t. BlockOf Continue ∷ t) here.kind)
    ∙ ap (λ s. BlockOf s ∷ ts) (no_assign b c.loop-number.variable left none ∙ here.grown
    ∙ ap (λ ns. statements_then before (assigns (pairs (made_names c.first_variable-variable.result (length ns)) ns)))
    c.deref-number-items.ensures.value
    ∙ ap (λ rs. statements_then before (assigns (pairs rs c.args.numbers.now.items)))
    (sym (c.first_variable-variable.ensures (length c.args.numbers.now.items) many))))
    c.push-3.ensures.trees
