-- What the constructor makes has the wanted type: `begins`.
use Rattle.std.proofs.Common.{◌∙◌}
use Rattle.infer_steps.specs.View.{here, bad_view, known_view}
use Rattle.infer_patterns.proofs.Beginning.{begins, begins_refused, shape_refused}
use Rattle.infer_steps.specs.declared.bad.InferError.TheVariants as error
use Rattle.infer_patterns.proofs.Leaves.{err_again}
use Rattle.infer_patterns.proofs.parts.begin_constructor.Goals as goal

pub returns-in-Ok-same-clause-begins : goal.returns-in-Ok-same-clause-begins
returns-in-Ok-same-clause-begins c =
    begins (known_view c.args.known.now) c.args.position c.args.wanted c.args.union.now c.args.alternative.now
    (here c.args.state.now)
    (here c.infer_shape.new.state) (here c.same.new.state) c.in-Ok.shape.result c.in-Ok.shape.parts.items
    c.in-Ok.ensures.shaped c.in-Ok-same.ensures.asks

pub returns-in-Err-same-clause-refuses : goal.returns-in-Err-same-clause-refuses
returns-in-Err-same-clause-refuses c = λ b e.
    begins_refused (known_view c.args.known.now) c.args.position c.args.wanted c.args.union.now c.args.alternative.now
    (here c.args.state.now)
    (here c.infer_shape.new.state) (here c.same.new.state) c.in-Ok.shape.result c.in-Ok.shape.parts.items
    c.in-Ok.ensures.shaped (bad_view b)
    (c.same.ensures.refuses b (c.in-Err-same.is ∙ err_again c.in-Err-same.error (error.Bad b) e))

pub returns-in-Err-clause-refuses : goal.returns-in-Err-clause-refuses
returns-in-Err-clause-refuses c = λ b e.
    shape_refused (known_view c.args.known.now) c.args.position c.args.wanted c.args.union.now c.args.alternative.now
    (bad_view b) (here c.args.state.now)
    (here c.infer_shape.new.state) (c.infer_shape.ensures.refused b
    (c.in-Err.is ∙ err_again c.in-Err.error (error.Bad b) e))
