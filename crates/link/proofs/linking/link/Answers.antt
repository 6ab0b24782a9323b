-- The entry is the part at its place, and its pieces are those that are reached: `part_at`.
use Rattle.std.proofs.Common.{◌≡◌, map, sym, ap, ◌∙◌, subst}
use Rattle.link.specs.Link.{link, linked_from, linked_by, Unlinked}
use Rattle.link.specs.View.{part_view, placed_view, IfFaults}
use Rattle.link.proofs.Written.{part_at}
use Rattle.link.proofs.linking.link.Goals as goal

pub returns-in-Ok-clause-output : goal.returns-in-Ok-clause-output
unfolding link
returns-in-Ok-clause-output c =
    let parts = map part_view c.args.parts.now in
    let from = part_view c.index-parts-entry.result in
    let o = c.in-Ok.ensures.output in (
      o.0,
      ap (linked_from parts) (part_at part_view c.args.parts.now c.args.entry c.index-parts-entry.result c.requires
          c.index-parts-entry.is)
          ∙ ap (linked_by from) (sym c.in_ok-pieces.ensures ∙ ap (map placed_view) (sym c.deref.ensures.value)) ∙ o.1,
      o.2,
    )

pub returns-clause-faults : goal.returns-clause-faults
unfolding link
returns-clause-faults c =
    let parts = map part_view c.args.parts.now in
    let from = part_view c.index-parts-entry.result in
    subst (λ z. IfFaults c.in-Err.error (λ fs. z ≡ Unlinked fs))
    (sym (ap (linked_from parts) (part_at part_view c.args.parts.now c.args.entry c.index-parts-entry.result
    c.requires c.index-parts-entry.is)
    ∙ ap (linked_by from) (sym c.in_ok-pieces.ensures ∙ ap (map placed_view) (sym c.deref.ensures.value))))
    c.in-Err.ensures.faults
