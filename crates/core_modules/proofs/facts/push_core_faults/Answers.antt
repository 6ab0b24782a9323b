-- One part after another.
use Rattle.std.proofs.Common.{◌≡◌, ◌++◌, ap, ◌∙◌, subst, append_assoc}
use Rattle.std.specs.Prelude.{flat_map, OnOk}
use Rattle.elm_canon.specs.View.{module_view}
use Rattle.core_modules.specs.Facts.{core_faults, union_faults, bare_faults, declared_faults}
use Rattle.core_modules.specs.Table.{union_rows, bare_rows}
use Rattle.core_modules.proofs.facts.push_core_faults.Goals as goal

pub returns : goal.returns
unfolding core_faults
returns c =
    let m = module_view c.args.module.now in
    let old = c.args.findings.now.items in
    let us = flat_map (union_faults m) union_rows in
    let ts = flat_map (bare_faults m) bare_rows in
    let ds = flat_map declared_faults m.declarations in
    let first : c.push_unions.new.findings.items ≡ old ++ us = c.in_ok-push_unions.ensures in
    let second : c.push_types.new.findings.items ≡ c.push_unions.new.findings.items ++ ts =
    c.in_ok-push_types.ensures in
    subst (λ fs. OnOk c.push_module_declared.result (c.push_module_declared.new.findings.items ≡ fs))
    (ap (λ fs. fs ++ ds) (second ∙ ap (λ fs. fs ++ ts) first ∙ append_assoc old us ts)
    ∙ append_assoc old (us ++ ts) ds) c.push_module_declared.ensures
