use Rattle.std.proofs.Common.{◌∙◌, sym, ap, arith, Bor}
use Rattle.elm_canon.specs.Tree.{Anything}
use Rattle.elm_canon.specs.View.{pattern_view}
use Rattle.elm_canon.specs.declared.tree.Pattern as declared
use Rattle.js_emit.specs.Matrix.{ask}
use Rattle.decision_tree.proofs.Lists.{map_at, past_all}
use Rattle.decision_tree.proofs.part.ask_whole.Goals as goal

pub returns-then-len-number : goal.returns-then-len-number
returns-then-len-number c =
    sym (ap ask (past_all (λ (p : Bor declared.Pattern). pattern_view p.now) c.args.patterns.now.items
    c.args.number Anything (omega (arith, c.len.ensures))))

pub returns : goal.returns
returns c =
    c.ask_pattern.ensures
    ∙ sym (ap ask (map_at (λ (p : Bor declared.Pattern). pattern_view p.now) c.args.patterns.now.items c.args.number
    c.index.result.now Anything
    (omega (arith, c.len.ensures)) (sym c.index.ensures)))
