-- One place is written: `map-set`.
use Rattle.std.proofs.Common.{map, ap, ◌∙◌}
use Rattle.std.proofs.Math.ListN.{set}
use Rattle.std.proofs.lemmas.List.{map-set}
use Rattle.canon_module.specs.CanonValuesKept.{item_view}
use Rattle.canon_module.proofs.groups.take_one.Goals as goal

pub returns-then-at-len-clause-left : goal.returns-then-at-len-clause-left
returns-then-at-len-clause-left c =
    map-set item_view c.args.items.now.items c.args.at c.replace.new.dest
    ∙ ap (λ i. set (map item_view c.args.items.now.items) c.args.at (item_view i)) c.replace.ensures.after
