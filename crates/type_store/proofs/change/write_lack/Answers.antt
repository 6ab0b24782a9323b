use Rattle.std.proofs.Common.{ap, ◌∙◌}
use Rattle.type_store.specs.Steps.{undone}
use Rattle.type_store.specs.View.{store_view, trail_view}
use Rattle.type_store.proofs.Undoing.{lacks_same, lack_written, lack_was}
use Rattle.type_store.proofs.change.write_lack.Goals as goal

pub returns-in_err-push-clause-undone : goal.returns-in_err-push-clause-undone
returns-in_err-push-clause-undone c =
    ap (λ t. undone t (trail_view c.reserve.new.self.items)) (lacks_same c.args.slots.now c.args.at c.index-slots-at.result c.push.new.self c.requires c.in_err-push.ensures.items)
    ∙ ap (λ cs. undone (store_view c.args.slots.now) (trail_view cs)) c.in_ok-reserve.ensures.items

pub returns-clause-written : goal.returns-clause-written
returns-clause-written c = lack_written c.args.slots.now c.args.at c.index-slots-at.result c.push.new.self c.args.name c.requires c.in_ok-push.ensures.items

pub returns-clause-undone : goal.returns-clause-undone
returns-clause-undone c =
    lack_was c.args.slots.now c.args.trail.now.items c.reserve.new.self.items c.push_reserved.new.self.items c.args.at c.index-slots-at.result c.push.new.self c.args.name c.requires
    c.in_ok-push.ensures.items c.in_ok-reserve.ensures.items c.push_reserved.ensures.items
