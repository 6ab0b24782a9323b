-- Two lists of one length are the same when their names are, one by one.
use Rattle.std.proofs.Common.{refl, arith}
use Rattle.std.proofs.lemmas.List.{same_lists}
use Rattle.type_store.proofs.alike.same_names.Goals as goal

pub returns : goal.returns
returns c = (λ _. same_lists c.args.first.now c.args.second.now c.if-first-second.false (λ k d h. c.loop-index.invariant k d (omega arith)), λ _. refl)
