-- What a search without a ring shows, and what one with a ring does: `all_ranked`, `no_ring`.
use Rattle.type_store.specs.View.{store_view}
use Rattle.type_store.proofs.Ranks.{all_ranked}
use Rattle.type_store.proofs.Weights.{no_ring}
use Rattle.type_store.proofs.Searches.{all_marked_done}
use Rattle.type_store.proofs.cycle.CycleSearch.is_free.Goals as goal

pub returns-clause-free : goal.returns-clause-free
returns-clause-free c e =
    let q = c.requires in
    let r = c.search-answer.ensures in
    let x = c.search-answer.new.self in
    all_ranked (store_view c.args.slots.now) c.args.changed.now q.ranked q.searchable x.marks.items x.path.items x.done.items r.walk
    (all_marked_done c.args.slots.now r.walk (r.empty e) c.args.changed.now (r.marked e))

pub returns-clause-ring : goal.returns-clause-ring
returns-clause-ring c e =
    let r = c.search-answer.ensures.ring e in
    λ σ fit. no_ring (store_view c.args.slots.now) c.requires.searchable.cells σ fit r.0 r.1
