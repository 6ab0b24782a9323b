use Rattle.std.proofs.Common.{◌≡◌, ◌++◌, map, take}
use Rattle.canon_env.specs.Found.{named_by}
use Rattle.canon_env.specs.Shown.{maker_meaning_view}
use Rattle.canon_env.specs.Env.{maker}
use Rattle.canon_env.proofs.listing.push_alternatives.Given as goal

abbrev pub invariant-loop-alternative : goal.invariant-loop-alternative
invariant-loop-alternative l =
    map (named_by maker_meaning_view) l.makers.items
    ≡ map (named_by maker_meaning_view) l.initial.makers.items
    ++ map (maker l.union) (take l.alternative-index l.alternatives)
