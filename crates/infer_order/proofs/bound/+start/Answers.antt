use Rattle.std.proofs.Common.{sym, ap, ◌∙◌, arith}
use Rattle.elm_canon.specs.View.{pattern_view}
use Rattle.elm_canon.proofs.Views as view
use Rattle.type_items.specs.Expressions.{nowhere}
use Rattle.type_items.specs.Patterns.{pattern_start}
use Rattle.infer_order.proofs.Binding.{no_items, items_start}
use Rattle.infer_order.proofs.bound.+start.Goals as goal

pub returns-in-As : goal.returns-in-As
returns-in-As t c =
    c.start.ensures ∙ ap (λ p. pattern_start nowhere (pattern_view p)) c.deref.ensures
    ∙ sym (ap (λ p. pattern_start nowhere (pattern_view p)) c.in-As.is ∙ ap (pattern_start nowhere)
    (view.as_pattern c.in-As.inner c.in-As.field-1))

pub returns-then-len-eq0 : goal.returns-then-len-eq0
returns-then-len-eq0 t c =
    let items = c.in-Items.items in
    let rest = c.in-Items.rest in
    c.start-then-len-eq0.ensures ∙ ap (λ p. pattern_start nowhere (pattern_view p)) c.deref-then-len-eq0.ensures
    ∙ sym (ap (λ p. pattern_start nowhere (pattern_view p)) c.in-Items.is ∙ ap (pattern_start nowhere)
    (view.items_pattern items rest)
    ∙ no_items (pattern_view rest.value) items.items (omega (arith, c.len.ensures, c.if-len-eq0.true, items.ok.0)))

pub returns-else-len-eq0 : goal.returns-else-len-eq0
returns-else-len-eq0 t c =
    let items = c.in-Items.items in
    let rest = c.in-Items.rest in
    sym (ap (λ p. pattern_start nowhere (pattern_view p)) c.in-Items.is ∙ ap (pattern_start nowhere)
    (view.items_pattern items rest)
    ∙ items_start (pattern_view rest.value) items.items (omega (arith, c.len.ensures, c.if-len-eq0.false, items.ok.0)))
