-- Kinds in turn: `none_chosen`, `chosen_next`, `none_at`.
use Rattle.std.proofs.Common.{◌+◌, ◌<◌, ◌≤◌, ◌∙◌, Err, [], length, map, take, sym, ap, subst, arith}
use Rattle.std.proofs.lemmas.List.{length-map}
use Rattle.elm_type.specs.View.{kind_view}
use Rattle.infer_steps.specs.View.{here, bad_view}
use Rattle.infer_steps.specs.declared.bad.InferError.TheVariants as error
use Rattle.infer_types.specs.Instances.{AreOfKinds}
use Rattle.infer_types.proofs.Choosing.{none_chosen, chosen_next, none_at, at_view, take_all}
use Rattle.infer_types.proofs.Using.{err_same}
use Rattle.infer_types.proofs.instances.of_kinds.Goals as goal

pub loop-kind-init : goal.loop-kind-init
loop-kind-init c =
    subst (λ vs. AreOfKinds c.args.position [] (here c.args.state.now) (here c.args.state.now) vs)
    (sym c.new-variables.ensures.items)
    (none_chosen c.args.position (here c.args.state.now) c.requires)

pub of_kind-requires : goal.of_kind-requires
of_kind-requires c = c.loop-kind.invariant.follows.whole

pub loop-kind-preserved : goal.loop-kind-preserved
loop-kind-preserved c =
    (let old = here c.args.state.now in
    let ks = map kind_view c.args.kinds.now in
    let l : c.loop-kind.kind-index < length ks = omega
    (arith, c.loop-kind-test.true, length-map c.args.kinds.now kind_view) in
    subst (λ vs. AreOfKinds c.args.position (take (c.loop-kind.kind-index + 1) ks) old (here c.of_kind.new.state) vs)
    (sym c.in_ok-add-in-Ok.ensures)
    (chosen_next old (here c.loop-kind.state) (here c.of_kind.new.state) c.args.position ks c.loop-kind.kind-index
    (kind_view c.kind-item.result) c.loop-kind.variables.items
    c.in-Ok.variable l (at_view kind_view c.args.kinds.now c.loop-kind.kind-index c.kind-item.result c.kind-item.is)
    c.loop-kind.invariant c.in-Ok.ensures.made))

pub returns-clause-made : goal.returns-clause-made
returns-clause-made c =
    (let ks = map kind_view c.args.kinds.now in
    let l : length ks ≤ c.loop-kind.kind-index = omega
    (arith, c.loop-kind-test.false, length-map c.args.kinds.now kind_view) in
    subst (λ ls. AreOfKinds c.args.position ls (here c.args.state.now) (here c.loop-kind.state)
    c.loop-kind.variables.items) (take_all c.loop-kind.kind-index ks l)
    c.loop-kind.invariant)

pub returns-in-Err-clause-refused : goal.returns-in-Err-clause-refused
returns-in-Err-clause-refused c b e =
    (let ks = map kind_view c.args.kinds.now in
    let l : c.loop-kind.kind-index < length ks = omega
    (arith, c.loop-kind-test.true, length-map c.args.kinds.now kind_view) in
    none_at (here c.args.state.now) (here c.loop-kind.state) (here c.of_kind.new.state) c.args.position ks
    c.loop-kind.kind-index (kind_view c.kind-item.result)
    c.loop-kind.variables.items (bad_view b) l
    (at_view kind_view c.args.kinds.now c.loop-kind.kind-index c.kind-item.result c.kind-item.is) c.loop-kind.invariant
    (c.of_kind.ensures.refused b (c.in-Err.is ∙ ap (λ x. Err x) (err_same c.in-Err.error (error.Bad b) e))))
