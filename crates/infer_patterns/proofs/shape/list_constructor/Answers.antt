use Rattle.std.proofs.Common.{sym, subst}
use Rattle.elm_canon.specs.Unions.{ListUnion}
use Rattle.infer_steps.specs.View.{here}
use Rattle.infer_patterns.specs.Shapes.{IsShaped}
use Rattle.infer_patterns.proofs.shape.list_constructor.Goals as goal

pub returns : goal.returns
returns c = λ known pos.
    subst (λ vs. IsShaped known pos ListUnion c.args.alternative.now (here c.args.state.now)
    (here c.list_shape.new.state) c.in_ok-made.made.list vs)
    (sym c.in_ok-parts.ensures) (c.in_ok-made.ensures known pos c.args.alternative.now)
