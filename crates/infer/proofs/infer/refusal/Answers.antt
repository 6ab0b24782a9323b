use Rattle.std.proofs.Common.{List, length, sym, subst}
use Rattle.std.proofs.lemmas.Result.{IfOk-weaker}
use Rattle.type_constructs.specs.Texts.{Explains}
use Rattle.type_items.specs.Faults.{FirstBad}
use Rattle.type_items.specs.Items.{Item}
use Rattle.type_constructs.specs.Failing.{FailsAt}
use Rattle.infer_steps.specs.View.{bad_view}
use Rattle.infer.specs.Inside.{IsInside}
use Rattle.infer.specs.declared.explain.Said.{Said}
use Rattle.infer.specs.Modules.{root}
use Rattle.infer.proofs.Reopened.{more, fails_on}
use Rattle.infer.proofs.infer.refusal.Goals as goal

pub explain-requires-clause-inside : goal.explain-requires-clause-inside
explain-requires-clause-inside c =
    let s = c.args.state.now.store in
    let bad = bad_view c.args.bad.now in
    subst (λ t. IsInside (length t) bad) (sym c.in_ok-open.ensures.made)
    (c.stop_law.ensures root c.requires.items bad (more s 0) (fails_on s 0 root c.requires.items bad c.requires.fails))

pub returns : goal.returns
returns c =
    let s = c.args.state.now.store in
    let t = c.open.new.self in
    let bad = bad_view c.args.bad.now in
    IfOk-weaker c.explain.result
    (λ (said : Said). Explains t bad said.code said.position said.text.items)
    (λ (said : Said). (items : List Item) → FailsAt root items bad s → FirstBad root items said.code said.position said.text.items)
    (λ said ex items fails. c.refusal_law.ensures.explains root items t bad said.code said.position said.text.items
    c.in_ok-open.ensures.whole
    (subst (FailsAt root items bad) (sym c.in_ok-open.ensures.made) (fails_on s 0 root items bad fails)) ex) c.explain.ensures
