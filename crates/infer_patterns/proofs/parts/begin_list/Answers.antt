-- The list has the wanted type: `begins`.
use Rattle.std.proofs.Common.{None, ◌∙◌}
use Rattle.elm_canon.specs.Unions.{ListUnion, nil_alternative}
use Rattle.type_constructs.specs.Patterns.{list_slots}
use Rattle.infer_steps.specs.View.{here, bad_view}
use Rattle.infer_steps.proofs.Stepping.{still_live}
use Rattle.infer_patterns.proofs.Beginning.{begins, begins_refused}
use Rattle.infer_steps.specs.declared.bad.InferError.TheVariants as error
use Rattle.infer_patterns.proofs.Leaves.{err_again}
use Rattle.infer_patterns.proofs.parts.begin_list.Goals as goal

pub same-requires-clause-whole : goal.same-requires-clause-whole
same-requires-clause-whole c = (c.in_ok-made.ensures (λ m x. None) c.args.position nil_alternative).follows.whole

pub same-requires-clause-first : goal.same-requires-clause-first
same-requires-clause-first c = (c.in_ok-made.ensures (λ m x. None) c.args.position nil_alternative).result_live.inside

pub same-requires-clause-second : goal.same-requires-clause-second
same-requires-clause-second c =
    (still_live (here c.args.state.now) (here c.list_shape.new.state) c.args.wanted
    (c.in_ok-made.ensures (λ m x. None) c.args.position nil_alternative).follows
    c.requires.wanted).inside

pub returns-in-Ok-clause-begins : goal.returns-in-Ok-clause-begins
returns-in-Ok-clause-begins c = λ known a.
    begins known c.args.position c.args.wanted ListUnion a (here c.args.state.now) (here c.list_shape.new.state)
    (here c.same.new.state) c.in_ok-made.made.list
    (list_slots a.arity c.in_ok-made.made.item c.in_ok-made.made.list) (c.in_ok-made.ensures known c.args.position a)
    c.in-Ok.ensures.asks

pub returns-in-Err-clause-refuses : goal.returns-in-Err-clause-refuses
returns-in-Err-clause-refuses c = λ b e known a.
    begins_refused known c.args.position c.args.wanted ListUnion a (here c.args.state.now) (here c.list_shape.new.state)
    (here c.same.new.state)
    c.in_ok-made.made.list (list_slots a.arity c.in_ok-made.made.item c.in_ok-made.made.list)
    (c.in_ok-made.ensures known c.args.position a) (bad_view b)
    (c.same.ensures.refuses b (c.in-Err.is ∙ err_again c.in-Err.error (error.Bad b) e))
