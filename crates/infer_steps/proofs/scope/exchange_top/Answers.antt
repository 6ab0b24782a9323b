use Rattle.std.proofs.Common.{Some, None, sym, ap, ◌∙◌}
use Rattle.std.specs.Prelude.{if◌then◌else◌}
use Rattle.indexmap.specs.IndexMap.{get}
use Rattle.infer_steps.specs.Keys.{same_pair}
use Rattle.infer_steps.proofs.scope.exchange_top.Goals as goal

pub returns-in_ok-outer-in-Some-clause-put : goal.returns-in_ok-outer-in-Some-clause-put
returns-in_ok-outer-in-Some-clause-put g c n =
    let old = get same_pair c.args.names.now n in
    c.in_ok-outer-in-Some.ensures.updates.0 n
    ∙ (ap (λ k. if same_pair k n then Some c.in-Some.new else old)
    (λ i. (c.in_ok-clone.ensures.cases i, c.in_ok-clone-2.ensures.cases i))
    ∙ ap (λ o. if same_pair (c.args.home.now, c.args.name.now) n then o else old) (sym c.in-Some.is))

pub returns-in_ok-outer-in-Some-clause-outer : goal.returns-in_ok-outer-in-Some-clause-outer
returns-in_ok-outer-in-Some-clause-outer g c =
    c.in_ok-outer-in-Some.ensures.old
    ∙ ap (get same_pair c.args.names.now) (λ i. (c.in_ok-clone.ensures.cases i, c.in_ok-clone-2.ensures.cases i))

pub returns-in-None-clause-put : goal.returns-in-None-clause-put
returns-in-None-clause-put g c n =
    let old = get same_pair c.args.names.now n in
    c.swap_remove-outer.ensures.updates.0 n
    ∙ (ap (λ k. if same_pair k n then None else old)
    (λ i. (c.in_ok-clone.ensures.cases i, c.in_ok-clone-2.ensures.cases i))
    ∙ ap (λ o. if same_pair (c.args.home.now, c.args.name.now) n then o else old) (sym c.in-None.is))

pub returns-in-None-clause-outer : goal.returns-in-None-clause-outer
returns-in-None-clause-outer g c =
    c.swap_remove-outer.ensures.value
    ∙ ap (get same_pair c.args.names.now) (λ i. (c.in_ok-clone.ensures.cases i, c.in_ok-clone-2.ensures.cases i))
