use Rattle.std.proofs.Common.{◌++◌, ◌∷◌, [], ap, ◌∙◌}
use Rattle.std.proofs.lemmas.List.{get_or_default}
use Rattle.type_store.proofs.Undoing.{view_set, write_undone}
use Rattle.type_store.specs.declared.change.Change.TheVariants.{Was}
use Rattle.type_store.proofs.change.write.Goals as goal

pub returns-clause-written : goal.returns-clause-written
returns-clause-written c = view_set c.args.slots.now c.args.at c.args.slot c.replace-before.new.dest c.replace-before.ensures.after

pub returns-clause-undone : goal.returns-clause-undone
returns-clause-undone c = write_undone c.args.slots.now c.args.trail.now.items c.push_reserved.new.self.items c.args.at c.replace-before.new.dest c.replace-before.result c.requires
    (c.replace-before.ensures.value ∙ get_or_default c.args.slots.now c.args.at c.index-slots-at.result c.replace-before.result c.requires)
    (c.push_reserved.ensures.items ∙ ap (λ xs. xs ++ Was c.args.at c.replace-before.result ∷ []) c.reserve.ensures.items)
