use Rattle.std.proofs.Common.{◌≡◌, ◌∷◌, [], ◌++◌, length, take, ap, ◌∙◌, sym, arith, length-append}
use Rattle.std.proofs.lemmas.Grind.{common_steps}
use Rattle.std.proofs.lemmas.List.{take-append-le}
use Rattle.js_tree.specs.Tree.{JVar, Made}
use Rattle.js_tree.specs.Postorder.{trees_of, statements, top}
use Rattle.decision_tree.proofs.Binding.{back_to, part_step, item_step}
use Rattle.decision_tree.proofs.bound.+bound.Goals as goal

pub push_parts-loop-number-preserved : goal.push_parts-loop-number-preserved
push_parts-loop-number-preserved t c =
    let i = c.loop-number.number in
    let x = c.index-parts-number.result in
    let inv = c.loop-number.invariant in
    let bound = c.in_ok-push_at.ensures.bound in
    let root = JVar (Made c.args.subject) in
    record {
      kind = grind (arith, common_steps);
      bound =
          part_step root (statements (top (trees_of c.loop-number.trees))) (statements (top (trees_of c.push_at.new.trees)))
          c.args.parts.now i x c.args.path.now.items c.push.new.self.items (omega arith) (sym c.index-parts-number.is)
          (c.in_ok-push.ensures.items ∙ ap (λ zs. zs ++ i ∷ []) inv.back)
          (ap (λ ts. statements (top ts)) bound)
          ∙ inv.bound;
      back =
          back_to c.args.path.now.items c.push.new.self.items c.push_at.new.path.items c.truncate.new.self.items i
          c.len-depth.result (grind (arith, common_steps)) (c.in_ok-push.ensures.items ∙ ap (λ zs. zs ++ i ∷ []) inv.back)
          c.in_ok-push_at.ensures.back c.truncate.ensures.items;
    }

pub push_items-loop-item-preserved : goal.push_items-loop-item-preserved
push_items-loop-item-preserved t c =
    let i = c.loop-item.item-index in
    let x = c.item-item.result in
    let inv = c.loop-item.invariant in
    let front = c.loop-item.path.items in
    let whole = c.args.path.now.items in
    let root = JVar (Made c.args.subject) in
    let back : c.truncate.new.self.items ≡ front =
    back_to front c.push.new.self.items c.push_at.new.path.items c.truncate.new.self.items 0
    c.len-depth.result (grind (arith, common_steps)) c.in_ok-push.ensures.items c.in_ok-push_at.ensures.back
    c.truncate.ensures.items in
    let after : c.push-in-loop-item.new.self.items ≡ front ++ 1 ∷ [] =
    c.in_ok-push-2.ensures.items ∙ ap (λ zs. zs ++ 1 ∷ []) back in
    record {
      kind = grind (arith, common_steps);
      bound = λ rest.
          item_step root (statements (top (trees_of c.loop-item.trees))) (statements (top (trees_of c.push_at.new.trees)))
          c.args.items.now i x rest front c.push.new.self.items c.push-in-loop-item.new.self.items (omega arith)
          (sym c.item-item.is) c.in_ok-push.ensures.items after
          (ap (λ ts. statements (top ts)) c.in_ok-push_at.ensures.bound)
          ∙ inv.bound rest;
      longer = omega (arith, inv.longer, ap length after, length-append front (1 ∷ []));
      kept = ap (take (length whole)) after ∙ (take-append-le (length whole) front (1 ∷ []) inv.longer ∙ inv.kept);
    }
