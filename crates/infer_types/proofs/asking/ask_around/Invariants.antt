use Rattle.std.proofs.Common.{map, take}
use Rattle.elm_type.specs.View.{kind_view}
use Rattle.infer_steps.specs.View.{here, code_of}
use Rattle.infer_types.specs.Asking.{AsksAround}
use Rattle.infer_types.proofs.asking.ask_around.Given as goal

abbrev pub invariant-loop-i : goal.invariant-loop-i
invariant-loop-i l =
    AsksAround (code_of l.scope) (here l.initial.state) (here l.state) l.position (take l.i l.names)
    (take l.i (map kind_view l.kinds))
