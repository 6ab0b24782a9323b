use Rattle.std.proofs.Common.{◌≡◌, take}
use Rattle.std.specs.Prelude.{filter_map}
use Rattle.canon_env.specs.Shown.{aliases_view}
use Rattle.canon_type.specs.CanonAliasesKept.{made_view}
use Rattle.canon_type.proofs.declaring.all_made.Given as goal

abbrev pub invariant-loop-one : goal.invariant-loop-one
invariant-loop-one l = aliases_view l.aliases.items ≡ filter_map made_view (take l.one-index l.made)
