use Rattle.std.proofs.Common.{◌∙◌, Err, map, sym, ap, subst, arith}
use Rattle.infer_steps.specs.View.{here, bad_view, code_of}
use Rattle.infer_steps.specs.declared.bad.InferError.TheVariants as error
use Rattle.infer_types.proofs.Using.{err_same}
use Rattle.infer_exprs.specs.Titles.{titles_of}
use Rattle.infer_exprs.specs.Reading.{reading_view, AreRead}
use Rattle.infer_exprs.proofs.Reading.{none_read}
use Rattle.infer_exprs.proofs.Looping.{once_at, read_next, not_read_at, take_all}
use Rattle.infer_exprs.proofs.declare.read_all.Goals as goal

pub loop-definition-init : goal.loop-definition-init
loop-definition-init c =
    subst (λ l. AreRead (code_of c.args.scope.now) _ (map reading_view l) (here c.args.state.now)
    (here c.args.state.now)) (sym c.new-readings.ensures.items)
    (none_read (code_of c.args.scope.now) (here c.args.state.now) c.requires.ready.whole)

pub read_definition-requires-clause-ready : goal.read_definition-requires-clause-ready
read_definition-requires-clause-ready c =
    c.following_law.ensures.ready (code_of c.args.scope.now) (here c.args.state.now) (here c.loop-definition.state)
    c.requires.ready c.loop-definition.invariant.follows

pub read_definition-requires-clause-once : goal.read_definition-requires-clause-once
read_definition-requires-clause-once c =
    once_at c.args.definitions.now c.loop-definition.definition-index c.definition-item.result (omega arith)
    c.definition-item.is c.requires.once

pub loop-definition-preserved : goal.loop-definition-preserved
loop-definition-preserved c =
    read_next c.args.definitions.now c.loop-definition.definition-index c.definition-item.result (omega arith)
    c.definition-item.is (code_of c.args.scope.now) (map reading_view c.loop-definition.readings.items)
    (here c.args.state.now) (here c.loop-definition.state) (here c.read_definition.new.state)
    c.loop-definition.invariant (map reading_view c.read_definition.new.readings.items)
    (c.in-Ok.ensures.read _ (here c.args.state.now) c.loop-definition.invariant)

pub returns-in-Err-clause-refused : goal.returns-in-Err-clause-refused
returns-in-Err-clause-refused c b e =
    not_read_at c.args.definitions.now c.loop-definition.definition-index c.definition-item.result (omega arith)
    c.definition-item.is (code_of c.args.scope.now) (map reading_view c.loop-definition.readings.items)
    (here c.args.state.now) (here c.loop-definition.state) (here c.read_definition.new.state)
    c.loop-definition.invariant (bad_view b)
    (c.read_definition.ensures.refused b (c.in-Err.is ∙ ap (λ x. Err x) (err_same c.in-Err.error (error.Bad b) e)))

pub returns-clause-read : goal.returns-clause-read
returns-clause-read c =
    subst (λ l. AreRead (code_of c.args.scope.now) (titles_of l) (map reading_view c.loop-definition.readings.items)
    (here c.args.state.now) (here c.loop-definition.state))
    (take_all c.loop-definition.definition-index c.args.definitions.now (omega arith)) c.loop-definition.invariant
