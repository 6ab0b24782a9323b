-- A sort and `dedup` leave the same names in ascending order, each once.
use Rattle.std.proofs.Common.{◌≡◌, sym, ◌∙◌, subst}
use Rattle.std.specs.Prelude.{Contains}
use Rattle.std.specs.Str.{bytes_eq}
use Rattle.std.specs.Cmp.Lexicographic.{texts_ties}
use Rattle.std.specs.List.{dedup}
use Rattle.std.proofs.lemmas.Cmp.{nat_list_cmp_total, nat_list_eq_equiv}
use Rattle.std.proofs.lemmas.List.Filters.{dedup_is}
use Rattle.std.proofs.lemmas.List.Kept.{Contains-dedup, Contains-from_dedup, IsStrictlySortedBy-dedup}
use Rattle.std.proofs.lemmas.List.Sorted.{Contains-permutation, IsPermutation-sym}
use Rattle.std.proofs.lemmas.Slice.Eq.{bytes_eq-Decides}
use Rattle.elm_type.specs.Order.{in_order}
use Rattle.elm_type.proofs.Ascending.{ascends, one_order}
use Rattle.elm_type.proofs.Inserted.{in_order_ascends, to_order, from_order}
use Rattle.elm_type.proofs.order.in_order.Goals as goal

pub returns : goal.returns
returns c =
    let names = c.args.names.now in
    let copies = c.in_ok-ordered.ordered.items in
    let sorted = c.sort_unstable.new.self.items in
    let same : copies ≡ names = c.in_ok-ordered.ensures in
    let moved = c.sort_unstable.ensures.permutation in
    let once : c.dedup.new.self.items ≡ dedup bytes_eq sorted =
    dedup_is bytes_eq sorted c.dedup.new.self.items c.dedup.ensures.filtered in
    once
    ∙ one_order (dedup bytes_eq sorted) (in_order names)
    (ascends (dedup bytes_eq sorted)
    (IsStrictlySortedBy-dedup nat_list_cmp_total texts_ties sorted c.sort_unstable.ensures.sorted))
    (in_order_ascends names)
    (λ z h. to_order names z (subst (λ l. Contains l z) same
    (Contains-permutation sorted copies z (IsPermutation-sym copies sorted moved)
    (Contains-from_dedup bytes_eq sorted z h))))
    (λ z h. Contains-dedup nat_list_eq_equiv (λ x y. (bytes_eq-Decides x y).0) sorted z
    (Contains-permutation copies sorted z moved (subst (λ l. Contains l z) (sym same) (from_order names z h))))
