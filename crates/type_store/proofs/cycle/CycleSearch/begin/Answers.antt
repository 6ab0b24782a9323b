-- A path begins: `begin_new`.
use Rattle.type_store.proofs.Follow.{same_walk}
use Rattle.type_store.proofs.Searches.{begin_new}
use Rattle.type_store.proofs.cycle.CycleSearch.begin.Goals as goal

pub run-requires-clause-walk : goal.run-requires-clause-walk
run-requires-clause-walk c =
    let q = c.requires in
    let r = c.in_ok-open.ensures in
    same_walk (begin_new c.args.slots.now q.walk q.empty c.args.start q.within c.index.result.now c.index.ensures c.in-New.is) r.marks r.path r.done
