use Rattle.std.proofs.Common.{ap, ◌∙◌}
use Rattle.std.proofs.lemmas.Result.{on_ok_weaker}
use Rattle.elm_canon.specs.View.{op_view}
use Rattle.js_tree.specs.Postorder.{trees_of}
use Rattle.js_emit.specs.Ends.{ended}
use Rattle.js_emit.proofs.Performed.{performed}
use Rattle.js_emit.proofs.parts.end_op.Goals as goal

pub returns : goal.returns
returns c =
    on_ok_weaker c.end_shape.result
    (λ e before ts counts stands.
    e ∙ (ap (λ s. ended s (op_view c.args.op.now) (trees_of c.args.trees.now)) c.shape_of.ensures
    ∙ performed (op_view c.args.op.now) c.args.count before (trees_of c.args.trees.now) ts counts stands))
    c.end_shape.ensures
