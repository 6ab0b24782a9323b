-- A local name comes first: `grows_use`, and else `grows_one`.
use Rattle.std.proofs.Common.{◌≡◌, Some, None, sym, ap, ◌∙◌, refl}
use Rattle.elm_tree.specs.View.{long_view}
use Rattle.elm_tree.specs.Turns.{tokens_view}
use Rattle.elm_canon.specs.declared.reference.Ref.TheVariants.{Local}
use Rattle.canon_env.specs.Naming.{value_found}
use Rattle.canon_env.specs.Sites.{ValueUse, Elsewhere, value_faults, local_or}
use Rattle.canon_expr.specs.Longs.{bound_at}
use Rattle.canon_expr.specs.Scope.{locals_of}
use Rattle.canon_expr.specs.Logs.{value_ref}
use Rattle.canon_expr.proofs.Growing.{grows_use, grows_one, local_faults, local_used, elsewhere_faults, elsewhere_unused}
use Rattle.canon_expr.proofs.values.value_use.Goals as goal

pub returns-in_ok-put-in-Some-clause-meaning : goal.returns-in_ok-put-in-Some-clause-meaning
returns-in_ok-put-in-Some-clause-meaning c = λ w h.
    let x = long_view (tokens_view c.args.tokens.now) c.args.word in
    ap (λ n. Some (Local n)) c.in_ok-long.ensures.name
    ∙ sym (ap (λ o. value_ref x (local_or o (value_found w x)))
    (sym (c.bound_at.ensures x c.in_ok-long.ensures) ∙ c.in-Some.is))

pub returns-in_ok-put-in-Some-clause-log : goal.returns-in_ok-put-in-Some-clause-log
returns-in_ok-put-in-Some-clause-log c = λ w h.
    let x = long_view (tokens_view c.args.tokens.now) c.args.word in
    let locals = locals_of c.args.scope.now in
    let is : bound_at locals x ≡ Some c.in-Some.place =
    sym (c.bound_at.ensures x c.in_ok-long.ensures) ∙ c.in-Some.is in
    grows_use (ValueUse locals x) c.in-Some.place (local_faults w locals x c.in-Some.place is)
    (local_used w locals x c.in-Some.place is) refl c.in_ok-put-in-Some.ensures

pub returns-in_ok-meaning-in-None-clause-meaning : goal.returns-in_ok-meaning-in-None-clause-meaning
returns-in_ok-meaning-in-None-clause-meaning c = λ w h.
    let x = long_view (tokens_view c.args.tokens.now) c.args.word in
    c.in_ok-meaning-in-None.ensures.meaning w h
    ∙ sym (ap (λ o. value_ref x (local_or o (value_found w x)))
    (sym (c.bound_at.ensures x c.in_ok-long.ensures) ∙ c.in-None.is))

pub returns-in_ok-meaning-in-None-clause-log : goal.returns-in_ok-meaning-in-None-clause-log
returns-in_ok-meaning-in-None-clause-log c = λ w h.
    let x = long_view (tokens_view c.args.tokens.now) c.args.word in
    let locals = locals_of c.args.scope.now in
    let is : bound_at locals x ≡ None = sym (c.bound_at.ensures x c.in_ok-long.ensures) ∙ c.in-None.is in
    grows_one (ValueUse locals x) (value_faults x (Elsewhere (value_found w x))) (elsewhere_faults w locals x is)
    (elsewhere_unused w locals x is) (c.in_ok-meaning-in-None.ensures.findings w h) c.in_ok-meaning-in-None.ensures.uses
