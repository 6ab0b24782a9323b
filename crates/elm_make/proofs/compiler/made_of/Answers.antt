-- A desk that is blocked: `made_blocked`. Another one: `made_told`.
use Rattle.project_parts.specs.View.{part_view}
use Rattle.elm_make.proofs.Folding.{made_blocked, made_told}
use Rattle.elm_make.proofs.compiler.made_of.Goals as goal

pub returns-then-blocked : goal.returns-then-blocked
returns-then-blocked c = λ vs. made_blocked (part_view c.args.part.now) c.args.desk.now vs c.if-blocked.true

pub returns : goal.returns
returns c = λ vs.
    made_told (part_view c.args.part.now) c.args.desk.now vs c.in_ok-made.made c.if-blocked.false c.in_ok-made.ensures
