use Rattle.std.proofs.lemmas.Result.{on_ok_weaker}
use Rattle.infer_steps.specs.View.{here, bad_view, code_of}
use Rattle.elm_canon.specs.View.{expr_view}
use Rattle.infer_parts.specs.Parts.{listed}
use Rattle.infer_parts.proofs.Going.{walked_went, stopped_stuck}
use Rattle.infer_exprs.proofs.exprs.infer_expr.Goals as goal

pub returns-clause-follows : goal.returns-clause-follows
returns-clause-follows c = on_ok_weaker c.walk.result (λ w. w.follows) c.walk.ensures.walked

pub returns-clause-walked : goal.returns-clause-walked
returns-clause-walked c =
    on_ok_weaker c.walk.result (walked_went (code_of c.args.scope.now) c.args.wanted
    (listed (expr_view c.args.expr.now) c.args.start) (here c.args.state.now) (here c.walk.new.state))
    c.walk.ensures.walked

pub returns-clause-stopped : goal.returns-clause-stopped
returns-clause-stopped c b e =
    stopped_stuck (code_of c.args.scope.now) c.args.wanted (listed (expr_view c.args.expr.now) c.args.start)
    (here c.args.state.now) (here c.walk.new.state) (bad_view b) (c.walk.ensures.stopped b e)
