use Rattle.std.proofs.Common.{◌≡◌, ap, ◌∙◌, sym, map, arith}
use Rattle.std.proofs.lemmas.Grind.{common_steps}
use Rattle.std.proofs.lemmas.List.{length-map}
use Rattle.elm_canon.specs.View.{pattern_view}
use Rattle.elm_canon.proofs.Views.{items_pattern}
use Rattle.decision_tree.specs.Before.{own_name}
use Rattle.decision_tree.proofs.Binding.{own_rest, own_some}
use Rattle.decision_tree.proofs.parameters.+own.Goals as goal

pub returns-then-len-eq0 : goal.returns-then-len-eq0
returns-then-len-eq0 t c =
    let items = c.in-Items.items in
    let rest = c.in-Items.rest in
    let seen : own_name (pattern_view c.args.pattern.now) ≡ own_name (pattern_view rest.value) =
    ap (λ p. own_name (pattern_view p)) c.in-Items.is
    ∙ (ap own_name (items_pattern items rest)
    ∙ own_rest (pattern_view rest.value) (map pattern_view items.items)
    (omega (arith, length-map items.items pattern_view, c.len.ensures, c.if-len-eq0.true))) in
    grind (arith, common_steps, seen)

pub returns-else-len-eq0 : goal.returns-else-len-eq0
returns-else-len-eq0 t c =
    let items = c.in-Items.items in
    let rest = c.in-Items.rest in
    sym (ap (λ p. own_name (pattern_view p)) c.in-Items.is
    ∙ (ap own_name (items_pattern items rest)
    ∙ own_some (pattern_view rest.value) (map pattern_view items.items)
    (λ h. omega (arith, h, length-map items.items pattern_view, c.len.ensures, c.if-len-eq0.false))))
