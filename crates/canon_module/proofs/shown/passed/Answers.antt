-- What passes is what is exposed: `shown_through`.
use Rattle.std.proofs.Common.{◌++◌, ap, ◌∙◌}
use Rattle.std.specs.List.{filter}
use Rattle.canon_env.specs.Filter.{filter_value, filter_type, filter_makers}
use Rattle.canon_env.specs.Shown.{shown_view, unions_view, aliases_view}
use Rattle.canon_module.specs.Offers.{unions_by, aliases_by}
use Rattle.canon_module.proofs.Offering.{shown_through}
use Rattle.canon_module.proofs.shown.passed.Goals as goal

pub returns : goal.returns
returns c = λ e h.
    let f = c.args.passing.now in
    let given = unions_view c.args.given.now in
    let by = unions_by (filter_type f) (filter_makers f) in
    shown_through f e given (shown_view c.args.all.now) c.in_ok-values.values.items
    (unions_view c.push_unions-2.new.unions.items) (aliases_view c.in_ok-aliases.aliases.items) h
    (c.in_ok-values.ensures ∙ ap (filter (filter_value f)) c.deref-2.ensures.value)
    (c.in_ok-push_unions-2.ensures
    ∙ ap (λ z. z ++ by (unions_view c.deref.result.now))
    (c.in_ok-push_unions.ensures ∙ ap (λ z. unions_view z ++ by given) c.new-unions.ensures.items)
    ∙ ap (λ z. by given ++ by (unions_view z)) c.deref.ensures.value)
    (c.in_ok-aliases.ensures ∙ ap (λ z. aliases_by (filter_type f) (aliases_view z)) c.deref-3.ensures.value)
