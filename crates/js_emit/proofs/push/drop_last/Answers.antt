use Rattle.std.proofs.Common.{◌≡◌, suc, List, [], ◌∷◌, ◌++◌, take, length, length-append, refl, sym, ap, ◌∙◌, arith}
use Rattle.std.proofs.lemmas.List.{take-take, take_at}
use Rattle.js_tree.specs.declared.tree.Node.{Node}
use Rattle.js_emit.proofs.push.drop_last.Goals as goal

one_less : (old new : List Node) (n : Node) → old ≡ new ++ n ∷ [] → length old ≡ suc (length new)
one_less old new n is = ap length is ∙ (length-append new (n ∷ []) ∙ omega arith)

shorter : (whole old new : List Node) (n : Node) → old ≡ take (length old) whole → old ≡ new ++ n ∷ []
    → new ≡ take (length new) whole
shorter whole old new n kept is =
    sym (sym (take-take (length new) (length old) whole (omega (arith, one_less old new n is)))
    ∙ (ap (take (length new)) (sym kept) ∙ (ap (take (length new)) is ∙ take_at new (n ∷ []) (length new) refl)))

pub loop-trees-preserved-in-Some : goal.loop-trees-preserved-in-Some
loop-trees-preserved-in-Some c = record {
  begun = omega (arith, one_less c.loop-trees.trees c.pop.new.self c.in-Some.node c.in-Some.ensures.some, c.loop-trees-test.true);
  kept = shorter c.args.trees.now c.loop-trees.trees c.pop.new.self c.in-Some.node c.loop-trees.invariant.kept c.in-Some.ensures.some;
}
