use Rattle.std.proofs.Common.{◌+◌, ◌-◌, ◌∷◌, ap, ◌∙◌, refl, arith}
use Rattle.std.proofs.lemmas.Result.{on_ok_weaker}
use Rattle.js_tree.specs.Postorder.{BlockOf, trees_of, apply}
use Rattle.js_tree.specs.declared.tree.Node as node
use Rattle.js_emit.specs.Names.{made_names}
use Rattle.js_emit.specs.Operators.{arrows_of}
use Rattle.js_emit.specs.Open.{opens}
use Rattle.js_emit.proofs.MadeArrows.{arrow_step, returned}
use Rattle.js_emit.proofs.arrows.end_made.Goals as goal

pub loop-left-preserved : goal.loop-left-preserved
loop-left-preserved c =
    let first = c.args.first in
    let count = c.args.count in
    let left = c.loop-left.left in
    let more = c.loop-left-test.true in
    let within = c.loop-left.invariant.within in
    let number = c.loop-left.invariant.number in
    record {
      some = omega (arith, more);
      within = omega (arith, within);
      number = omega (arith, number, more);
      block = λ s ts h.
          let stands = c.loop-left.invariant.block s ts h
          ∙ ap (λ x. BlockOf (arrows_of (made_names x (count - left)) s) ∷ opens left ts) (omega (arith, more)) in
          c.in_ok-push.ensures.trees
          ∙ (ap (apply node.Node.Return)
          (arrow_step (first + (left - 1)) (count - left) (count - (left - 1)) left (left - 1) (c.loop-left.number - 1) s
          (trees_of c.loop-left.trees) (trees_of c.end_one.new.trees) ts (omega (arith, more)) (omega (arith, more, within))
          (omega (arith, number, more)) stands c.in_ok-end_one.ensures)
          ∙ ap (λ b. BlockOf b ∷ opens (left - 1) ts)
          (returned (first + (left - 1)) (count - (left - 1)) (count - left) s (omega (arith, more, within))));
    }

pub returns : goal.returns
returns c =
    let count = c.args.count in
    let left = c.loop-left.left in
    let some = c.loop-left.invariant.some in
    let last = c.loop-left-test.false in
    let within = c.loop-left.invariant.within in
    on_ok_weaker c.end_one-2.result
    (λ e s ts h.
    arrow_step c.args.first (count - left) count left 0 c.args.first s (trees_of c.loop-left.trees)
    (trees_of c.end_one-2.new.trees) ts (omega (arith, some, last)) (omega (arith, some, last, within)) refl
    (c.loop-left.invariant.block s ts h
    ∙ ap (λ x. BlockOf (arrows_of (made_names x (count - left)) s) ∷ opens left ts) (omega (arith, some, last))) e)
    c.end_one-2.ensures
