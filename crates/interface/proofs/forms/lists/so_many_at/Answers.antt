-- One value after another: `begins`, `goes_on`, `ends`, `is_done`.
use Rattle.std.proofs.Common.{◌≡◌, ◌-◌, ◌++◌, ◌∷◌, [], ap, ◌∙◌, arith}
use Rattle.interface.specs.Formats.{times}
use Rattle.interface.proofs.Loops.{begins, goes_on, ends, is_done}
use Rattle.interface.proofs.forms.lists.so_many_at.Goals as goal

pub loop-init : goal.loop-init
loop-init g c =
    begins g.T.Entry.format.get (g.T.Entry.views c.new-items.result.items) (c.args.count - 0) c.args.count c.args.input.now.rest.now (ap g.T.Entry.views c.new-items.ensures.items ∙ g.met.T.Entry.none) (omega arith)

pub returns-in-Err : goal.returns-in-Err
returns-in-Err g c =
    ends c.in-Err.error g.T.Entry.format.get (g.T.Entry.views c.loop.items.items) c.args.count c.loop.counter c.loop.input.rest.now (times g.T.Entry.format.get c.args.count c.args.input.now.rest.now) c.loop-test.true c.in-Err.ensures c.loop.invariant

pub loop-preserved : goal.loop-preserved
loop-preserved g c =
    let e : g.T.Entry.views c.push.new.self.items ≡ g.T.Entry.views c.loop.items.items ++ g.T.Entry.view c.in-Ok.item ∷ [] = ap g.T.Entry.views c.in_ok-push-in-Ok.ensures.items ∙ g.met.T.Entry.more c.loop.items.items c.in-Ok.item in
    rw e (goes_on g.T.Entry.format.get (g.T.Entry.views c.loop.items.items) c.args.count c.loop.counter c.loop.input.rest.now (g.T.Entry.view c.in-Ok.item) c.read.new.input.rest.now (times g.T.Entry.format.get c.args.count c.args.input.now.rest.now)
    c.loop-test.true c.in-Ok.ensures c.loop.invariant)

pub returns : goal.returns
returns g c = is_done g.T.Entry.format.get (g.T.Entry.views c.loop.items.items) c.args.count c.loop.counter c.loop.input.rest.now (times g.T.Entry.format.get c.args.count c.args.input.now.rest.now) c.loop-test.false c.loop.invariant
