use Rattle.std.proofs.Common.{take, sym, ap, ◌∙◌, arith}
use Rattle.infer_order.specs.Owners.{numbers_of, put_all}
use Rattle.infer_order.proofs.Owning.{put_same, put_all_more, take_next}
use Rattle.infer_order.proofs.order.add_names.Goals as goal

pub loop-name-preserved : goal.loop-name-preserved
loop-name-preserved c y =
    let i = c.loop-name.name-index in
    let x = c.name-item.result in
    let n = c.args.number in
    let old = numbers_of c.args.owners.now in
    let first = take i c.args.names.now in
    c.in_ok-add.ensures y ∙ put_same x n (numbers_of c.loop-name.owners) (put_all first n old) y
    (c.loop-name.invariant y)
    ∙ sym (put_all_more first x n old y)
    ∙ ap (λ l. put_all l n old y) (sym (take_next c.args.names.now i x (omega arith) c.name-item.is))
