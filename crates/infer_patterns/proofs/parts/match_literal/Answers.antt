-- The literal's type is that of the values: `literal_matched`.
use Rattle.infer_steps.specs.View.{bad_view}
use Rattle.infer_patterns.proofs.Leaves.{ok_on, literal_matched, literal_refused}
use Rattle.infer_patterns.proofs.parts.match_literal.Goals as goal

pub returns-clause-matches : goal.returns-clause-matches
returns-clause-matches c =
    ok_on c.same.result c.same.ensures.asks
    (λ asks known. literal_matched known c.args.position c.args.wanted c.args.literal.now _ _ _
    c.in_ok-variable.variable c.in_ok-variable.ensures asks)

pub returns-clause-refuses : goal.returns-clause-refuses
returns-clause-refuses c b e known =
    literal_refused known c.args.position c.args.wanted c.args.literal.now _ _ _ c.in_ok-variable.variable
    c.in_ok-variable.ensures (bad_view b)
    (c.same.ensures.refuses b e)
