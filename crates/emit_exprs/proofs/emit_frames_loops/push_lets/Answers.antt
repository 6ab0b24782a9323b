use Rattle.std.proofs.Common.{◌≡◌, ◌-◌, suc, ◌∷◌, sym, ap, ◌∙◌, arith}
use Rattle.js_tree.specs.Tree.{Made, JVar}
use Rattle.js_tree.specs.Postorder.{Expression, StatementsOf, LetThen, trees_of, top, statements, statements_then, apply}
use Rattle.js_tree.specs.declared.tree.Node as node
use Rattle.js_tree.specs.declared.tree.Name as name
use Rattle.js_emit.specs.Names.{made_names}
use Rattle.js_emit.specs.Loops.{lets}
use Rattle.emit_exprs.proofs.EmitFramesSteps.{let_step}
use Rattle.emit_exprs.proofs.emit_frames_loops.push_lets.Goals as goal

pub loop-left-preserved : goal.loop-left-preserved
loop-left-preserved c = λ before ts was.
    let here = c.loop-left.invariant before ts was in
    let b = statements (top (trees_of c.loop-left.trees)) in
    let from = c.in_ok-from.from in
    let to = c.in_ok-to.to in
    let n = c.loop-left.left in
    let next : n ≡ suc (n - 1) = omega (arith, c.loop-left-test.true) in
    let is : trees_of c.push.new.self ≡ StatementsOf (LetThen b (Made to) (JVar (Made from))) ∷ ts =
    c.in_ok-push.ensures.trees
    ∙ ap (apply (node.Node.Let (name.Name.Made to)))
    (c.in_ok-push_made.ensures ∙ ap (λ t. Expression (JVar (Made from)) ∷ t) here.kind) in
    record {
      kind = is ∙ sym (ap (λ t. StatementsOf (statements (top t)) ∷ ts) is);
      grown = λ s.
          ap (λ t. statements_then (statements (top t)) (lets (made_names c.next_made-in-loop-left.new.made (n - 1))
          (made_names c.next_made.new.made (n - 1)) s)) is
          ∙ let_step b c.loop-left.variable c.loop-left.parameter c.next_made-in-loop-left.new.made c.next_made.new.made
          to from n (n - 1) s c.in_ok-to.ensures.number c.in_ok-from.ensures.number c.in_ok-to.ensures.counted
          c.in_ok-from.ensures.counted next
          ∙ here.grown s;
    }
