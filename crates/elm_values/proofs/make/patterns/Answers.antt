-- The chain takes the items from the first on.
use Rattle.std.proofs.Common.{◌≡◌, map, reverse, ap, ◌∙◌, rules}
use Rattle.std.proofs.lemmas.Result.{IfOk-weaker}
use Rattle.elm_tree.specs.View.{patterns_view}
use Rattle.std.specs.Result.{IfOk}
use Rattle.elm_values.specs.declared.value.Begun.{Begun}
use Rattle.elm_values.proofs.Making.{patterns_seen}
use Rattle.elm_values.proofs.make.patterns.Goals as goal

pub returns : goal.returns
returns c =
    let e : IfOk c.collect.result (λ made. made.items ≡ map (λ (b : Begun). b.pattern) (reverse c.args.list.items)) =
    search rules in
    IfOk-weaker c.collect.result _ _
    (λ made q tokens. ap (patterns_view tokens) q ∙ patterns_seen tokens (reverse c.args.list.items)) e
