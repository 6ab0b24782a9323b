use Rattle.std.proofs.Common.{◌≡◌, take}
use Rattle.canon_env.specs.Shown.{unions_view}
use Rattle.module_offers.proofs.showing.share_unions.Given as goal

abbrev pub invariant-loop-union : goal.invariant-loop-union
invariant-loop-union l = unions_view l.shared.items ≡ unions_view (take l.union-index l.unions)
