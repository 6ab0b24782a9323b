-- A record over what has none of its fields: `fields_matched`.
use Rattle.std.proofs.Common.{◌≡◌, length, Some, ap, ◌∙◌, subst, arith}
use Rattle.elm_canon.specs.Tree.{FieldsOf}
use Rattle.type_constructs.specs.Patterns.{bound_before}
use Rattle.infer_steps.specs.View.{here, bad_view}
use Rattle.infer_steps.specs.Made.{IsMade}
use Rattle.infer_steps.specs.Records.{OfRecord}
use Rattle.infer_patterns.specs.Matches.{MatchesPattern}
use Rattle.infer_patterns.specs.View.{in_scope}
use Rattle.infer_patterns.proofs.Leaves.{fields_lacking, fields_matched, fields_refused, adds_fields}
use Rattle.infer_patterns.proofs.parts.match_fields.Goals as goal

pub returns-in-Err-clause-refuses : goal.returns-in-Err-clause-refuses
returns-in-Err-clause-refuses c = λ b e known.
    fields_lacking known c.args.position c.args.wanted c.args.names.now (here c.args.state.now) (here c.open.new.state)
    c.in_ok-rest.rest c.in_ok-rest.ensures
    (here c.lacks_each.new.state) (bad_view b) (c.lacks_each.ensures.refuses b (c.in-Err.is ∙ e))

pub returns-in-Err-same-clause-refuses : goal.returns-in-Err-same-clause-refuses
returns-in-Err-same-clause-refuses c = λ b e known.
    let vs = c.in_ok-fields.fields.items in
    let count : length vs ≡ length c.args.names.now = omega (arith, c.in_ok-fields.ensures.number) in
    let made : IsMade (here c.open_each.new.state) (here c.record.new.state) c.in_ok-variable.variable
    (OfRecord c.args.names.now vs (Some c.in_ok-rest.rest)) =
    subst (λ ws. IsMade (here c.open_each.new.state) (here c.record.new.state) c.in_ok-variable.variable
    (OfRecord c.args.names.now ws (Some c.in_ok-rest.rest)))
    c.deref.ensures.value c.in_ok-variable.ensures in
    fields_refused known c.args.position c.args.wanted c.args.names.now (here c.args.state.now) (here c.open.new.state)
    c.in_ok-rest.rest c.in_ok-rest.ensures
    (here c.lacks_each.new.state) c.in-Ok.ensures.asks (here c.open_each.new.state) (here c.record.new.state) vs
    c.in_ok-variable.variable
    c.in_ok-fields.ensures.made count made (here c.same.new.state) (bad_view b)
    (c.same.ensures.refuses b (c.in-Err-same.is ∙ e))

pub returns-clause-matches : goal.returns-clause-matches
returns-clause-matches c = λ known.
    let vs = c.in_ok-fields.fields.items in
    let count : length vs ≡ length c.args.names.now = omega (arith, c.in_ok-fields.ensures.number) in
    let made : IsMade (here c.open_each.new.state) (here c.record.new.state) c.in_ok-variable.variable
    (OfRecord c.args.names.now vs (Some c.in_ok-rest.rest)) =
    subst (λ ws. IsMade (here c.open_each.new.state) (here c.record.new.state) c.in_ok-variable.variable
    (OfRecord c.args.names.now ws (Some c.in_ok-rest.rest)))
    c.deref.ensures.value c.in_ok-variable.ensures in
    adds_fields {P = λ own. MatchesPattern known c.args.position c.args.wanted (FieldsOf c.args.names.now) own
    (here c.args.state.now) (here c.same.new.state)}
    c.args.names.now vs (in_scope c.args.bound.now.items) (in_scope c.bind_each.new.bound.items)
    (c.in_ok-bind_each.ensures ∙ ap (λ ws. bound_before c.args.names.now ws (in_scope c.args.bound.now.items))
    c.deref-2.ensures.value)
    (fields_matched known c.args.position c.args.wanted c.args.names.now (here c.args.state.now) (here c.open.new.state)
    c.in_ok-rest.rest c.in_ok-rest.ensures
    (here c.lacks_each.new.state) c.in-Ok.ensures.asks (here c.open_each.new.state) (here c.record.new.state) vs
    c.in_ok-variable.variable
    c.in_ok-fields.ensures.made count made (here c.same.new.state) c.in-Ok-same.ensures.asks)
