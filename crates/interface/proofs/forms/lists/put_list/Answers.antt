-- One value after another: `none_put`, `one_put`, `all_put`.
use Rattle.std.proofs.Common.{◌+◌, length, arith}
use Rattle.interface.proofs.Loops.{none_put, one_put, all_put}
use Rattle.interface.proofs.forms.lists.put_list.Goals as goal

pub loop-item-init : goal.loop-item-init
loop-item-init g c =
    let e = g.T.Entry in
    let laws = g.met.T.Entry in
    none_put e.view e.views laws.none laws.more e.format c.args.items.now c.args.out.now.items c.put_count.new.out.items (length c.args.items.now) c.in_ok-put_count.ensures

pub loop-item-preserved : goal.loop-item-preserved
loop-item-preserved g c =
    let e = g.T.Entry in
    let laws = g.met.T.Entry in
    one_put e.view e.views laws.none laws.more e.format c.args.items.now c.loop-item.item-index (c.loop-item.item-index + 1) c.item-item.result c.args.out.now.items c.loop-item.out.items c.put.new.out.items
    (length c.args.items.now) (omega arith) c.loop-item-test.true c.item-item.is c.in_ok-put.ensures c.loop-item.invariant

pub returns : goal.returns
returns g c =
    let e = g.T.Entry in
    let laws = g.met.T.Entry in
    all_put e.view e.views laws.none laws.more e.format c.args.items.now c.loop-item.item-index c.args.out.now.items c.loop-item.out.items c.loop-item-test.false c.loop-item.auto.item-index-end c.loop-item.invariant
