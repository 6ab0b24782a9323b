-- In the order of their names, by insertion: `before`, `is_order`, `sort_arranges`.
use Rattle.std.proofs.Common.{rules}
use Rattle.std.proofs.lemmas.List.Sorted.{answers_always}
use Rattle.interface.specs.Interface.{union_view}
use Rattle.interface.proofs.Arranging.{before, is_order, sort_arranges}
use Rattle.interface.proofs.offer.sorted_unions.Goals as goal

pub returns : goal.returns
returns c =
    sort_arranges union_view (λ v. v.name) c.args.unions.items c.sort_by.new.self.items (c.in_ok-sort_by.ensures.sorted (before union_view (λ v. v.name)) (is_order union_view (λ v. v.name)) (answers_always _ _ _ (λ f a r g h. search rules)))
    (c.sort_by.ensures.stable (before union_view (λ v. v.name)) (is_order union_view (λ v. v.name)) (answers_always _ _ _ (λ f a r g h. search rules)))
