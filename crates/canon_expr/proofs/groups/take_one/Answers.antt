-- One place is written: `map-set`.
use Rattle.std.proofs.Common.{map, ap, ◌∙◌}
use Rattle.std.proofs.Math.ListN.{set}
use Rattle.std.proofs.lemmas.List.{map-set}
use Rattle.canon_expr.specs.Kept.{made_view}
use Rattle.canon_expr.proofs.groups.take_one.Goals as goal

pub returns-then-at-len-clause-left : goal.returns-then-at-len-clause-left
returns-then-at-len-clause-left c =
    map-set made_view c.args.made.now.items c.args.at c.replace.new.dest
    ∙ ap (λ m. set (map made_view c.args.made.now.items) c.args.at (made_view m)) c.replace.ensures.after
