-- A sort and `dedup` leave the same faults, each once: what ties is one fault (`one_finding`).
use Rattle.std.proofs.Common.{◌≡◌, refl, sym, ◌∙◌, subst}
use Rattle.std.specs.Prelude.{Contains}
use Rattle.std.specs.Ordering.{eq_by_cmp}
use Rattle.std.specs.List.{dedup}
use Rattle.std.proofs.lemmas.Result.{IfOk-weaker}
use Rattle.std.proofs.lemmas.List.Filters.{dedup_is}
use Rattle.std.proofs.lemmas.List.Kept.{Contains-dedup, Contains-from_dedup, IsStrictlySortedBy-dedup}
use Rattle.std.proofs.lemmas.List.Sorted.{Contains-permutation, IsPermutation-sym}
use Rattle.std.proofs.lemmas.Cmp.{eq_by_cmp_equiv}
use Rattle.canon_env.specs.Order.{finding_cmp, finding_total, Ascends}
use Rattle.canon_env.proofs.Ordering.{one_finding, ascends}
use Rattle.canon_env.proofs.order.in_order.Goals as goal

pub returns : goal.returns
returns c =
    let E = eq_by_cmp finding_cmp in
    let ranked = c.in_ok-ranked.ranked.items in
    let sorted = c.sort_unstable.new.self.items in
    let same : ranked ≡ c.args.findings.items = c.in_ok-ranked.ensures in
    let moved = c.sort_unstable.ensures.permutation in
    let once : c.dedup.new.self.items ≡ dedup E sorted = dedup_is E sorted c.dedup.new.self.items c.dedup.ensures.filtered in
    IfOk-weaker c.findings_of.result _ _
    (λ v e. record {
      ascends =
          subst Ascends (sym (e ∙ once))
          (ascends (dedup E sorted) (IsStrictlySortedBy-dedup finding_total (λ x y. refl) sorted c.sort_unstable.ensures.sorted));
      members = λ f. (
        λ h. subst (λ l. Contains l f) same
            (Contains-permutation sorted ranked f (IsPermutation-sym ranked sorted moved)
            (Contains-from_dedup E sorted f (subst (λ l. Contains l f) (e ∙ once) h))),
        λ h. subst (λ l. Contains l f) (sym (e ∙ once))
            (Contains-dedup (eq_by_cmp_equiv finding_total) one_finding sorted f
            (Contains-permutation ranked sorted f moved (subst (λ l. Contains l f) (sym same) h))),
      );
    })
    c.findings_of.ensures
