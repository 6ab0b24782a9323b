-- A tuple of its parts: `tuple_shaped`.
use Rattle.std.proofs.Common.{◌∙◌, subst}
use Rattle.elm_type.specs.declared.head.Head.TheVariants as head
use Rattle.infer_steps.specs.View.{here}
use Rattle.infer_steps.specs.Made.{IsMade, OfHead}
use Rattle.infer_patterns.proofs.Shaping.{tuple_shaped}
use Rattle.infer_patterns.proofs.shape.tuple_shape.Goals as goal

pub returns : goal.returns
returns c = λ known pos a.
    tuple_shaped (here c.args.state.now) (here c.open_each.new.state) (here c.built.new.state) c.in_ok-parts.parts.items
    c.in_ok-result.result
    c.in_ok-parts.ensures.made
    (subst (λ ws. IsMade (here c.open_each.new.state) (here c.built.new.state) c.in_ok-result.result
    (OfHead head.Tuple ws))
    (c.in_ok-copy.ensures.items ∙ c.deref.ensures.value) c.in_ok-result.ensures)
    known pos a c.args.count c.in_ok-parts.ensures.number
