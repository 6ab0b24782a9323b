use Rattle.std.proofs.Common.{◌≡◌, map, take}
use Rattle.elm_type.specs.View.{kind_view}
use Rattle.infer_steps.specs.View.{code_of}
use Rattle.infer_types.specs.Own.{own_view, own_of}
use Rattle.infer_types.proofs.own.own_variables.Given as goal

abbrev pub invariant-loop-i : goal.invariant-loop-i
invariant-loop-i l =
    map own_view l.own.items ≡ own_of (code_of l.scope) (take l.i l.names) (take l.i (map kind_view l.kinds))
