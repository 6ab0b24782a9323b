-- What the name stood for before it can stand for again: `entered_again`.
use Rattle.infer_steps.specs.View.{meaning_view, code_of}
use Rattle.infer_steps.proofs.Scoping.{entered_again}
use Rattle.infer_steps.proofs.scope.Scope.enter.Goals as goal

pub returns-clause-entered : goal.returns-clause-entered
returns-clause-entered c =
    entered_again (code_of c.args.self.now) (code_of c.set.new.self) (record { name = c.in_ok-copy.copy; outer = c.in_ok-outer.outer })
    c.args.name.now (meaning_view c.args.meaning) c.in_ok-copy.ensures c.in_ok-outer.ensures.outer c.in_ok-outer.ensures.scope
