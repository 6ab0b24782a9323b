use Rattle.std.proofs.Common.{◌≡◌, ◌++◌, take}
use Rattle.std.specs.Prelude.{flat_map}
use Rattle.elm_tree.specs.Turns.{tokens_view}
use Rattle.canon_env.specs.Naming.{World, IsWorld}
use Rattle.canon_type.specs.Kept.{aliases_view}
use Rattle.canon_type.specs.DeclaredTypesKept.{alias_faults}
use Rattle.canon_type.proofs.declaring.push_alias_faults.Given as goal

abbrev pub invariant-loop-alias : goal.invariant-loop-alias
invariant-loop-alias l =
    (w : World) → IsWorld l.world w → l.findings.items ≡ l.initial.findings.items
    ++ flat_map (alias_faults w) (aliases_view (tokens_view l.tokens) (take l.alias-index l.alias-items))
