-- The pattern is the literal: `exact_pattern`.
use Rattle.std.proofs.Common.{ap, ◌∙◌}
use Rattle.std.proofs.lemmas.Result.{IfOk-weaker}
use Rattle.elm_tree.specs.View.{place_view}
use Rattle.elm_tree.specs.Turns.{tokens_view}
use Rattle.elm_canon.specs.Tree as canon
use Rattle.elm_canon.proofs.Views.{exact_pattern}
use Rattle.canon_expr.proofs.literal.negative.Goals as goal

pub returns : goal.returns
returns c =
    IfOk-weaker c.located.result _ _
    (λ p e w. e ∙ ap (canon.LocatedPattern (place_view (tokens_view c.args.tokens.now) c.args.sign))
    (exact_pattern c.negative_at.result ∙ ap canon.Exactly c.negative_at.ensures))
    c.located.ensures
