use Rattle.type_store.proofs.Settling.{did_ready}
use Rattle.type_store.proofs.add.add_ask.Goals as goal

pub add-requires-clause-ready : goal.add-requires-clause-ready
add-requires-clause-ready c =
    did_ready c.args.slots.now.items c.args.ask c.args.tools.now.work.items c.push.new.self.items c.requires.whole c.requires.inside c.in-Ok.ensures.items c.requires.work
