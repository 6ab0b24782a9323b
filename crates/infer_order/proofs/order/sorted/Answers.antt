use Rattle.std.proofs.Common.{rules}
use Rattle.std.proofs.lemmas.List.Sorted.{answers_always}
use Rattle.infer_order.specs.Order.{in_place, ordered}
use Rattle.infer_order.proofs.Written.{before, is_order, placed, sorted_spots}
use Rattle.infer_order.proofs.Zips.{zip_images}
use Rattle.infer_order.proofs.order.sorted.Goals as goal

pub returns : goal.returns
returns c gs is =
    zip_images (in_place gs) placed c.sort_by.new.self.items (ordered gs)
    (sorted_spots gs c.args.spots.items c.sort_by.new.self.items
    (c.in_ok-sort_by.ensures.sorted before is_order (answers_always _ _ _ (λ f a r g h. search rules)))
    (c.sort_by.ensures.stable before is_order (answers_always _ _ _ (λ f a r g h. search rules)))
    is)
