-- All definitions: `each_bound`.
use Rattle.std.proofs.Common.{map, sym, ap, ◌∙◌, arith}
use Rattle.elm_tree.specs.View.{definition_view}
use Rattle.elm_tree.specs.Turns.{tokens_view}
use Rattle.canon_expr.proofs.Steps.{take_all}
use Rattle.canon_expr.specs.Binding.{bound_by, binder_of}
use Rattle.canon_expr.proofs.Listing.{each_bound}
use Rattle.canon_expr.proofs.binders.Binders.of.Goals as goal

pub returns-clause-binds : goal.returns-clause-binds
returns-clause-binds c = λ place.
    let view = definition_view (tokens_view c.args.tokens.now) in
    c.loop-number.invariant place
    ∙ ap (λ ds. binder_of (map bound_by (map view ds)) place)
    (take_all c.loop-number.number c.args.definitions.now (omega (arith, c.in_ok-count.ensures.count)))
    ∙ ap (λ each. binder_of each place) (sym (each_bound (map view c.args.definitions.now)))
