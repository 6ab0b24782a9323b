use Rattle.std.proofs.Common.{◌≡◌, [], take}
use Rattle.link.specs.Names.{top_names, noted}
use Rattle.link.proofs.names.once.Given as goal

abbrev pub invariant-loop-name : goal.invariant-loop-name
invariant-loop-name l = l.seen.keys ≡ noted [] (top_names (take l.name-index l.names))
