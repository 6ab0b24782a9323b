-- What the desk of a module is made to: `finished`.
use Rattle.std.proofs.Common.{map}
use Rattle.std.proofs.lemmas.Result.{IfOk-weaker}
use Rattle.project_parts.specs.View.{part_view}
use Rattle.elm_make.proofs.Folding.{finished, part_there}
use Rattle.elm_make.proofs.compiler.CompilerWork.finish.Goals as goal

pub returns-in-Some : goal.returns-in-Some
returns-in-Some c =
    let parts = c.args.self.now.parts.now in
    let part = c.in-Some.part.now in
    let there = part_there parts c.args.desk.number part c.in-Some.ensures.lookup.0 c.in-Some.ensures.lookup.1 in
    IfOk-weaker c.made_of.result _ _
    (λ m made. λ i vs h. finished (map part_view parts) c.args.desk i vs (part_view part) m h there (made vs))
    c.made_of.ensures
