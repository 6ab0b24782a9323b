use Rattle.type_store.proofs.store.Store.open.Goals as goal

pub push-requires-clause-fresh : goal.push-requires-clause-fresh
push-requires-clause-fresh c r e h = absurd (cc)
