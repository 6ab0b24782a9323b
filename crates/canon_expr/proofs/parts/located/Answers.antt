-- The place is that of the word: `located_pattern`.
use Rattle.std.proofs.Common.{◌≡◌, ap, ◌∙◌}
use Rattle.elm_tree.specs.View.{place_view}
use Rattle.elm_tree.specs.Turns.{tokens_view}
use Rattle.elm_canon.specs.Tree.{LocatedPattern}
use Rattle.elm_canon.specs.View.{pattern_view}
use Rattle.elm_canon.proofs.Views.{located_pattern}
use Rattle.canon_expr.proofs.parts.located.Goals as goal

pub returns : goal.returns
returns c =
    let place : c.place_at.result ≡ place_view (tokens_view c.args.tokens.now) c.args.first =
    λ i. record { row = c.place_at.ensures.row i; column = c.place_at.ensures.column i } in
    located_pattern c.place_at.result c.in_ok-new.field-0
    ∙ ap (λ p. LocatedPattern p (pattern_view c.in_ok-new.field-0.value)) place
    ∙ ap (λ p. LocatedPattern (place_view (tokens_view c.args.tokens.now) c.args.first) (pattern_view p)) c.in_ok-new.ensures.ok
