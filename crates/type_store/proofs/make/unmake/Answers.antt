use Rattle.std.proofs.Common.{◌∙◌, ap, sym, take}
use Rattle.std.proofs.lemmas.List.{take-map}
use Rattle.type_store.specs.View.{slot_view, store_view}
use Rattle.type_store.proofs.make.unmake.Goals as goal

pub returns-clause-slots : goal.returns-clause-slots
returns-clause-slots c =
    ap store_view c.truncate.ensures.items ∙ (sym (take-map slot_view c.args.count c.undo_slot_depths.new.slots.items) ∙ ap (take c.args.count) c.undo_slot_depths.ensures.slots)
