-- A list of its items: `list_shaped`.
use Rattle.infer_steps.specs.View.{here}
use Rattle.infer_patterns.proofs.Shaping.{list_shaped}
use Rattle.infer_patterns.proofs.shape.list_shape.Goals as goal

pub returns : goal.returns
returns c = λ known pos a.
    list_shaped (here c.args.state.now) (here c.open.new.state) (here c.list.new.state) c.in_ok-item.item
    c.in_ok-list.list c.in_ok-item.ensures
    c.in_ok-list.ensures known pos a
