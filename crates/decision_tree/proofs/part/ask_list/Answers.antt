use Rattle.std.proofs.Common.{sym, ap, map, arith}
use Rattle.elm_canon.specs.Tree.{Anything}
use Rattle.elm_canon.specs.View.{pattern_view, items_before, nil_pattern}
use Rattle.js_emit.specs.Matrix.{ask}
use Rattle.decision_tree.proofs.Lists.{map_from, none_from}
use Rattle.decision_tree.proofs.part.ask_list.Goals as goal

pub returns-then-len-number : goal.returns-then-len-number
returns-then-len-number c =
    sym (ap (λ qs. ask (items_before nil_pattern (map pattern_view qs)))
    (none_from c.args.items.now.items c.args.number (omega (arith, c.len.ensures))))

pub returns : goal.returns
returns c =
    sym (ap (λ qs. ask (items_before nil_pattern qs))
    (map_from pattern_view c.args.items.now.items c.args.number Anything (omega (arith, c.len.ensures))))
