use Rattle.std.proofs.Common.{sym, ◌∙◌}
use Rattle.infer_types.proofs.Spines.{is_first, no_first, the_rest}
use Rattle.infer_types.proofs.arrows.first_length.Goals as goal

pub returns-then-begins_arrow : goal.returns-then-begins_arrow
returns-then-begins_arrow c =
    is_first c.args.nodes.now c.type_length.result (sym c.begins_arrow.ensures ∙ c.if-begins_arrow.true)
    (λ a rest is. c.type_length.ensures a rest (the_rest 1 c.args.nodes.now ∙ is))

pub returns-else-begins_arrow : goal.returns-else-begins_arrow
returns-else-begins_arrow c = no_first c.args.nodes.now (sym c.begins_arrow.ensures ∙ c.if-begins_arrow.false)
