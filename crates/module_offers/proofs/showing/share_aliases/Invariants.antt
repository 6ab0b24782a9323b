use Rattle.std.proofs.Common.{◌≡◌, take}
use Rattle.canon_env.specs.Shown.{aliases_view}
use Rattle.module_offers.proofs.showing.share_aliases.Given as goal

abbrev pub invariant-loop-alias : goal.invariant-loop-alias
invariant-loop-alias l = aliases_view l.shared.items ≡ aliases_view (take l.alias-index l.aliases)
