use Rattle.std.proofs.Common.{sym, ap, arith}
use Rattle.elm_canon.specs.Tree.{Anything}
use Rattle.elm_canon.specs.View.{pattern_view, items_before}
use Rattle.js_emit.specs.Matrix.{ask}
use Rattle.decision_tree.proofs.Lists.{map_from, none_from}
use Rattle.decision_tree.proofs.part.ask_items.Goals as goal

pub returns-then-len-number-clause-none : goal.returns-then-len-number-clause-none
returns-then-len-number-clause-none c = none_from c.args.items.now.items c.args.number (omega (arith, c.len.ensures))

pub returns-clause-some : goal.returns-clause-some
returns-clause-some c =
    sym (ap (λ qs. ask (items_before (pattern_view c.args.rest.now.value) qs))
    (map_from pattern_view c.args.items.now.items c.args.number Anything (omega (arith, c.len.ensures))))
