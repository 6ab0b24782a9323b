use Rattle.type_store.proofs.Building.{did_built}
use Rattle.type_store.proofs.build.push_built.Goals as goal

pub returns-clause-whole : goal.returns-clause-whole
returns-clause-whole c =
    did_built c.args.slots.now.items c.make.new.slots.items c.args.head c.args.parts.items c.args.depth c.requires.whole c.requires.inside c.in_ok-make.ensures.lowered c.in_ok-make.ensures.levelled
