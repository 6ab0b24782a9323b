-- The last part is the rest of the list: `items_view`.
use Rattle.std.proofs.Common.{ap, ◌∙◌, arith, map}
use Rattle.elm_canon.specs.View.{pattern_view, items_before}
use Rattle.elm_canon.proofs.Views.{items_pattern}
use Rattle.canon_expr.proofs.Scoping.{none_left}
use Rattle.canon_expr.proofs.CanonPatternForms.{items_view, no_items}
use Rattle.canon_expr.proofs.parts.items.Goals as goal

pub returns-in_ok-new-in-Some : goal.returns-in_ok-new-in-Some
returns-in_ok-new-in-Some c =
    items_pattern c.pop.new.self c.in_ok-new-in-Some.field-0
    ∙ ap (λ r. items_before (pattern_view r) (map pattern_view c.pop.new.self.items)) c.in_ok-new-in-Some.ensures.ok
    ∙ items_view c.args.parts.items c.pop.new.self.items c.in-Some.rest c.in-Some.ensures.items

pub returns-in-None : goal.returns-in-None
returns-in-None c =
    no_items c.args.parts.items
    (none_left c.args.parts.items (omega (arith, c.args.parts.ok.0, c.in-None.ensures.cases.0)))
