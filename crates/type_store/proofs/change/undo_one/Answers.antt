use Rattle.std.proofs.Common.{sym, ap, ◌∙◌}
use Rattle.std.proofs.lemmas.List.{map-set}
use Rattle.type_store.specs.Steps.{undo_one}
use Rattle.type_store.specs.View.{change_view, slot_view, store_view}
use Rattle.type_store.proofs.Undoing.{class_written, lack_taken}
use Rattle.type_store.proofs.change.undo_one.Goals as goal

pub returns-then-at-slots : goal.returns-then-at-slots
returns-then-at-slots c =
    map-set slot_view c.args.slots.now c.in-Was.at c.in-Was.before ∙ ap (λ x. undo_one (change_view x) (store_view c.args.slots.now)) (sym c.in-Was.is)

pub returns-then-at-slots-2 : goal.returns-then-at-slots-2
returns-then-at-slots-2 c =
    class_written c.args.slots.now c.in-OfClass.at c.in-OfClass.class c.index-slots-at-then-at-slots-2.result c.if-at-slots-2.true
    ∙ ap (λ x. undo_one (change_view x) (store_view c.args.slots.now)) (sym c.in-OfClass.is)

pub returns-then-at-slots-3 : goal.returns-then-at-slots-3
returns-then-at-slots-3 c =
    lack_taken c.args.slots.now c.in-OneMore.at c.index-slots-at-then-at-slots-3.result c.forget_last.new.names c.if-at-slots-3.true c.forget_last.ensures
    ∙ ap (λ x. undo_one (change_view x) (store_view c.args.slots.now)) (sym c.in-OneMore.is)
