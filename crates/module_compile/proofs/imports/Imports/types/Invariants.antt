use Rattle.std.proofs.Common.{◌≡◌, drop}
use Rattle.elm_type.specs.Types.{Name}
use Rattle.infer_steps.specs.View.{known_view}
use Rattle.module_offers.specs.Offers.{known_by}
use Rattle.module_compile.proofs.Offering.{entries_view}
use Rattle.module_compile.proofs.imports.Imports.types.Given as goal

abbrev pub invariant-loop-k : goal.invariant-loop-k
invariant-loop-k l =
    (m x : Name) → known_view l.known m x ≡ known_by (entries_view (drop l.k l.self.interfaces.entries)) m x
