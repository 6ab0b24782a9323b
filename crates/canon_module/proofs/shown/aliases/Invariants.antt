use Rattle.std.proofs.Common.{◌≡◌, take}
use Rattle.canon_env.specs.Filter.{filter_type}
use Rattle.canon_env.specs.Shown.{aliases_view}
use Rattle.canon_module.specs.Offers.{aliases_by}
use Rattle.canon_module.proofs.shown.aliases.Given as goal

abbrev pub invariant-loop-alias : goal.invariant-loop-alias
invariant-loop-alias l = aliases_view l.aliases.items ≡ aliases_by (filter_type l.passing) (aliases_view (take l.alias-index l.all))
