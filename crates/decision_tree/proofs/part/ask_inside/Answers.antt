use Rattle.std.proofs.Common.{◌∙◌, sym, ap, arith}
use Rattle.elm_canon.specs.Tree.{Anything}
use Rattle.elm_canon.specs.View.{pattern_view}
use Rattle.js_emit.specs.Matrix.{ask}
use Rattle.decision_tree.proofs.Lists.{map_at, past_all}
use Rattle.decision_tree.proofs.part.ask_inside.Goals as goal

pub returns-then-len-number : goal.returns-then-len-number
returns-then-len-number c =
    sym (ap ask (past_all pattern_view c.args.patterns.now.items c.args.number Anything (omega (arith, c.len.ensures))))

pub returns : goal.returns
returns c =
    c.ask_pattern.ensures
    ∙ sym (ap ask (map_at pattern_view c.args.patterns.now.items c.args.number c.index.result.now Anything
    (omega (arith, c.len.ensures)) (sym c.index.ensures)))
