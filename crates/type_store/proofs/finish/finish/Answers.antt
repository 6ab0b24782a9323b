-- What is left when all asks are done: `fit_on`, `lowered_searchable`, `lowered_ranked`, `lowered_whole`.
use Rattle.type_store.specs.View.{store_view}
use Rattle.type_store.proofs.Whole.{fit_on, lowered_searchable, lowered_ranked, lowered_whole}
use Rattle.type_store.proofs.finish.finish.Goals as goal

pub is_free-requires-clause-searchable : goal.is_free-requires-clause-searchable
is_free-requires-clause-searchable c =
    let r = c.in_ok-level.ensures in
    lowered_searchable (store_view c.args.slots.now) (store_view c.level.new.slots) r.lowered c.requires.settled r.levelled

pub is_free-requires-clause-ranked : goal.is_free-requires-clause-ranked
is_free-requires-clause-ranked c =
    lowered_ranked (store_view c.args.slots.now) (store_view c.level.new.slots) c.in_ok-level.ensures.lowered c.args.changed.now c.requires.ranked

pub returns-clause-whole : goal.returns-clause-whole
returns-clause-whole c e =
    let r = c.in_ok-level.ensures in
    lowered_whole (store_view c.args.slots.now) (store_view c.level.new.slots) r.lowered c.requires.settled r.levelled (c.is_free.ensures.free e)

pub returns-clause-ring : goal.returns-clause-ring
returns-clause-ring c e =
    λ σ f. c.is_free.ensures.ring e σ (fit_on (store_view c.args.slots.now) (store_view c.level.new.slots) c.in_ok-level.ensures.lowered σ f)
