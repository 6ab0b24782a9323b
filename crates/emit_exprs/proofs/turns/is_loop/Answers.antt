use Rattle.std.proofs.Common.{◌≡◌, length, map, ◌∙◌, arith}
use Rattle.std.proofs.lemmas.List.{length-map}
use Rattle.elm_canon.specs.View.{expr_view, pattern_view}
use Rattle.emit_exprs.proofs.Steps.{looped_some}
use Rattle.emit_exprs.proofs.turns.is_loop.Goals as goal

pub returns-then-len-gt0 : goal.returns-then-len-gt0
returns-then-len-gt0 c =
    let ps = map pattern_view c.args.parameters.now.items in
    let many : c.len-then-len-gt0.result ≡ length ps =
    omega (arith, c.len-then-len-gt0.ensures, length-map c.args.parameters.now.items pattern_view) in
    c.has_turn.ensures
    ∙ looped_some c.args.function.now ps (expr_view c.args.body.now) c.len-then-len-gt0.result many
    (omega (arith, c.len.ensures, c.len-then-len-gt0.ensures, c.if-len-gt0.true))
