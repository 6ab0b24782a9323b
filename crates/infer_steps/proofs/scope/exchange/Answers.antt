use Rattle.std.proofs.Common.{Some, sym, ap, ◌∙◌}
use Rattle.std.specs.Prelude.{if◌then◌else◌}
use Rattle.indexmap.specs.IndexMap.{get}
use Rattle.elm_canon.specs.Names.{same_name}
use Rattle.infer_steps.proofs.scope.exchange.Goals as goal

pub returns-in_ok-outer-in-Some-clause-put : goal.returns-in_ok-outer-in-Some-clause-put
returns-in_ok-outer-in-Some-clause-put g c n =
    let old = get same_name c.args.names.now n in
    c.in_ok-outer-in-Some.ensures.updates.0 n
    ∙ (ap (λ k. if same_name k n then Some c.in-Some.new else old) c.in_ok-key-in-Some.ensures.cases
    ∙ ap (λ o. if same_name c.args.name.now n then o else old) (sym c.in-Some.is))

pub returns-in_ok-outer-in-Some-clause-outer : goal.returns-in_ok-outer-in-Some-clause-outer
returns-in_ok-outer-in-Some-clause-outer g c =
    c.in_ok-outer-in-Some.ensures.old ∙ ap (get same_name c.args.names.now) c.in_ok-key-in-Some.ensures.cases

pub returns-in-None-clause-put : goal.returns-in-None-clause-put
returns-in-None-clause-put g c n =
    c.swap_remove-outer.ensures.updates.0 n
    ∙ ap (λ o. if same_name c.args.name.now n then o else get same_name c.args.names.now n) (sym c.in-None.is)

pub returns-in-None-clause-outer : goal.returns-in-None-clause-outer
returns-in-None-clause-outer g c = c.swap_remove-outer.ensures.value
