-- Names that are given in turn: `kept_first`, `no_counter`.
use Rattle.std.proofs.Common.{refl}
use Rattle.elm_type.proofs.Names.{kept_first, no_counter}
use Rattle.elm_type.proofs.naming.give_all.Goals as goal

pub loop-kind-init : goal.loop-kind-init
loop-kind-init c =
    rw c.new-names.ensures.items (record {
      kept = kept_first c.in_ok-used.used _ c.args.constants.now c.in_ok-used.ensures no_counter;
      names = refl;
    })
