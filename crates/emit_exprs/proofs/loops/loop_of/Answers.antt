use Rattle.std.proofs.Common.{◌≡◌, ◌+◌, length, map, ap, ◌∙◌, arith}
use Rattle.std.proofs.lemmas.List.{length-map}
use Rattle.std.proofs.lemmas.Result.{IfOk-weaker}
use Rattle.elm_canon.specs.View.{pattern_view, patterns_view}
use Rattle.elm_canon.specs.Proper.{count_of}
use Rattle.js_emit.specs.Names.{made_names}
use Rattle.js_emit.specs.Loops.{Inside}
use Rattle.emit_exprs.proofs.Steps.{count_of_patterns}
use Rattle.emit_exprs.proofs.loops.loop_of.Goals as goal

pub returns : goal.returns
returns c =
    let ps = c.args.parameters.now.items in
    let n = count_of (patterns_view ps) in
    let f = c.args.function.now in
    let many : n ≡ length ps = count_of_patterns (map pattern_view ps) ∙ length-map ps pattern_view in
    let count : c.len-2.result ≡ n = omega (arith, many, c.len-2.ensures) in
    let first : c.in_ok-first.first ≡ c.args.made + n = omega (arith, c.in_ok-first.ensures, many, c.len.ensures) in
    IfOk-weaker c.inside.result _ _
    (λ l is. is ∙ ap (λ d. Inside f (made_names d c.len-2.result)) first
    ∙ ap (λ k. Inside f (made_names (c.args.made + n) k)) count) c.inside.ensures
