use Rattle.std.proofs.Common.{◌≡◌, ◌+◌, length, refl, ap, ◌∙◌, arith}
use Rattle.std.proofs.lemmas.Result.{on_ok_weaker}
use Rattle.elm_canon.specs.View.{patterns_view}
use Rattle.js_tree.specs.Postorder.{NoStatement, trees_of, top, below, statements, statements_then}
use Rattle.emit_exprs.proofs.EmitFramesSteps.{lets_same, turn_same}
use Rattle.emit_exprs.proofs.emit_frames_loops.begin_loop.Goals as goal

pub returns-clause-lets : goal.returns-clause-lets
returns-clause-lets c =
    let n = length c.args.parameters.now.items in
    let d = c.args.made.now in
    let inner = trees_of c.push_lets.new.trees in
    let count : c.len-count.result ≡ n = omega (arith, c.len-count.ensures) in
    let first : c.in_ok-first.first ≡ d = c.in_ok-first.ensures.number in
    let variable : c.in_ok-variable.variable ≡ d + n =
    omega (arith, c.in_ok-variable.ensures.number, c.in_ok-first.ensures.counted, count) in
    on_ok_weaker c.push_turn.result
    (λ g s.
    ap (λ t. statements_then (statements (top (below t))) s) (g.kind NoStatement inner c.in_ok-push-2.ensures.trees)
    ∙ c.in_ok-push_lets.ensures.grown NoStatement _ c.in_ok-push.ensures.trees s
    ∙ lets_same c.in_ok-variable.variable c.in_ok-first.first c.len-count.result (d + n) d n s variable first count)
    c.push_turn.ensures.grown

pub returns-clause-turn : goal.returns-clause-turn
returns-clause-turn c =
    let n = length c.args.parameters.now.items in
    let d = c.args.made.now in
    let inner = trees_of c.push_lets.new.trees in
    let count : c.len-count.result ≡ n = omega (arith, c.len-count.ensures) in
    let variable : c.in_ok-variable.variable ≡ d + n =
    omega (arith, c.in_ok-variable.ensures.number, c.in_ok-first.ensures.counted, count) in
    let made : c.take_made-2.new.made ≡ d + n + n =
    omega (arith, c.in_ok-variable.ensures.counted, c.in_ok-first.ensures.counted, count) in
    on_ok_weaker c.push_turn.result
    (λ g s.
    g.grown NoStatement inner c.in_ok-push-2.ensures.trees s
    ∙ turn_same c.take_made-2.new.made c.in_ok-variable.variable n (d + n + n) (d + n) n
    (patterns_view c.args.parameters.now.items) s made variable refl)
    c.push_turn.ensures.grown
