-- The name is bound at its word, and what it was before can be bound again: `bound`, `bound_again`.
use Rattle.std.proofs.Common.{◌≡◌, Some, if◌then◌else◌, ap, ◌∙◌}
use Rattle.indexmap.specs.IndexMap.{get}
use Rattle.elm_tree.specs.View.{word_view}
use Rattle.elm_tree.specs.Turns.{tokens_view}
use Rattle.elm_canon.specs.Names.{same_name}
use Rattle.canon_env.specs.Imports.{name_of}
use Rattle.canon_expr.specs.Scope.{locals_of}
use Rattle.canon_expr.proofs.Scoping.{bound, bound_again}
use Rattle.canon_expr.proofs.scope.Scope.enter_one.Goals as goal

pub returns-clause-names : goal.returns-clause-names
unfolding locals_of
returns-clause-names c =
    let w = word_view (tokens_view c.args.tokens.now) c.args.word in
    let place : c.place_at.result ≡ w.place =
    λ i. record { row = c.place_at.ensures.row i; column = c.place_at.ensures.column i } in
    bound (locals_of c.args.self.now) _ w
    (λ n. c.in_ok-outer.ensures.updates.0 n
    ∙ ap (λ k. if same_name k n then Some c.place_at.result else get same_name c.args.self.now.places n)
    (c.in_ok-clone.ensures.cases ∙ c.in_ok-name.ensures)
    ∙ ap (λ p. if same_name (name_of w) n then Some p else get same_name c.args.self.now.places n) place)

pub returns-clause-entered : goal.returns-clause-entered
unfolding locals_of
returns-clause-entered c =
    bound_again (locals_of c.args.self.now) _ (record { name = c.in_ok-name.name; outer = c.in_ok-outer.outer })
    c.place_at.result
    (λ n. c.in_ok-outer.ensures.updates.0 n
    ∙ ap (λ k. if same_name k n then Some c.place_at.result else get same_name c.args.self.now.places n) c.in_ok-clone.ensures.cases)
    (c.in_ok-outer.ensures.old ∙ ap (get same_name c.args.self.now.places) c.in_ok-clone.ensures.cases)
