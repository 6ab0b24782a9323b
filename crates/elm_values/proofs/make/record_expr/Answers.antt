-- One level of the view.
use Rattle.std.proofs.Common.{map, ap, ◌∙◌}
use Rattle.elm_tree.specs.View.{part_view}
use Rattle.elm_tree.specs.View as seen
use Rattle.elm_values.specs.Stack.{held}
use Rattle.elm_tree.proofs.Views.{record_of_expr}
use Rattle.elm_values.proofs.Making.{record_seen}
use Rattle.elm_values.proofs.make.record_expr.Goals as goal

pub returns : goal.returns
returns c = λ tokens.
    record_of_expr tokens c.args.place c.args.fields.base c.turned.result ∙
    (ap (λ z. seen.record_expr tokens c.args.place c.args.fields.base (map (part_view tokens) z)) c.turned.ensures ∙
    record_seen tokens c.args.place c.args.fields.base (held (part_view tokens) c.args.fields.parts.items))
