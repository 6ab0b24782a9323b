use Rattle.type_store.proofs.SameSteps.{did_apart}
use Rattle.type_store.proofs.same.join_roots.Goals as goal

pub returns-in-Apart-clause-no : goal.returns-in-Apart-clause-no
returns-in-Apart-clause-no c done =
    did_apart c.args.slots.now.items c.args.first c.args.second c.index.result.now c.index-2.result.now c.pair_of.result c.requires.below c.requires.inside c.requires.graph c.index.ensures c.index-2.ensures
    c.pair_of.ensures c.in-Apart.is
