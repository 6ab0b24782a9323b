use Rattle.std.proofs.Common.{sym, ap, ◌∙◌, arith}
use Rattle.elm_canon.specs.View.{pattern_view}
use Rattle.elm_canon.proofs.Views.{items_pattern}
use Rattle.pattern_check.specs.Faults.{place_of}
use Rattle.pattern_check.proofs.Placing.{items_place, no_items}
use Rattle.pattern_check.proofs.sites.+place_of.Goals as goal

pub returns-then-len-eq0 : goal.returns-then-len-eq0
returns-then-len-eq0 t c =
    let here = c.args.here in
    let items = c.in-Items.items in
    let rest = c.in-Items.rest in
    c.place_of.ensures ∙ ap (λ p. place_of here (pattern_view p)) c.deref.ensures
    ∙ sym (ap (λ p. place_of here (pattern_view p)) c.in-Items.is ∙ ap (place_of here) (items_pattern items rest)
    ∙ no_items here (pattern_view rest.value) items.items (omega (arith, c.len.ensures, c.if-len-eq0.true, items.ok.0)))

pub returns-else-len-eq0 : goal.returns-else-len-eq0
returns-else-len-eq0 t c =
    let here = c.args.here in
    let items = c.in-Items.items in
    let rest = c.in-Items.rest in
    sym (ap (λ p. place_of here (pattern_view p)) c.in-Items.is ∙ ap (place_of here) (items_pattern items rest)
    ∙ items_place here (pattern_view rest.value) items.items (omega (arith, c.len.ensures, c.if-len-eq0.false, items.ok.0)))
