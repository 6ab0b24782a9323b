-- One more.
use Rattle.std.proofs.Common.{◌++◌, ◌∷◌, [], None, arith, sym, ap, ◌∙◌}
use Rattle.std.specs.Prelude.{replicate}
use Rattle.std.proofs.lemmas.Grind.{replicate_next}
use Rattle.canon_type.proofs.expanding.none_made.Goals as goal

pub loop-preserved : goal.loop-preserved
loop-preserved c =
    c.in_ok-push.ensures.items ∙ ap (λ l. l ++ None ∷ []) c.loop.invariant ∙ sym (replicate_next c.loop.counter None)

pub returns : goal.returns
returns c = c.loop.invariant ∙ ap (λ n. replicate n None) (omega arith)
