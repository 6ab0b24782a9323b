use Rattle.std.proofs.Common.{map, take}
use Rattle.infer_steps.specs.View.{here, code_of}
use Rattle.infer_exprs.specs.Titles.{titles_of}
use Rattle.infer_exprs.specs.Reading.{reading_view, AreRead}
use Rattle.infer_exprs.proofs.declare.read_all.Given as goal

abbrev pub invariant-loop-definition : goal.invariant-loop-definition
invariant-loop-definition l =
    AreRead (code_of l.scope) (titles_of (take l.definition-index l.definitions)) (map reading_view l.readings.items)
    (here l.initial.state) (here l.state)
