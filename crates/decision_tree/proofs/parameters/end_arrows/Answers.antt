use Rattle.std.proofs.Common.{◌≡◌, ◌+◌, ◌-◌, ◌<◌, ◌∷◌, map, take, drop, length, get_or, ap, ◌∙◌, sym, arith}
use Rattle.std.proofs.lemmas.Result.{on_ok_weaker}
use Rattle.std.proofs.lemmas.List.{length-map}
use Rattle.elm_canon.specs.Tree.{patterns_of}
use Rattle.elm_canon.specs.View.{pattern_view}
use Rattle.js_tree.specs.Postorder.{Expression, BlockOf, trees_of, apply}
use Rattle.js_tree.specs.declared.tree.Node as node
use Rattle.js_emit.specs.Names.{now}
use Rattle.js_emit.specs.Patterns.{made_one, made_for, parameter, arrows}
use Rattle.decision_tree.specs.Opened.{opened, arrow_ended}
use Rattle.decision_tree.proofs.Ending.{seen_at, end_step, made_last, returned}
use Rattle.decision_tree.proofs.parameters.end_arrows.Goals as goal

pub overflow_sub-number : goal.overflow_sub-number
overflow_sub-number c =
    let qs = map pattern_view c.args.parameters.now in
    let left = c.loop-left.left in
    let x = c.index-parameters-left.result in
    let more = c.loop-left-test.true in
    let within = c.loop-left.invariant.within in
    let number = c.loop-left.invariant.number in
    let size = length-map c.args.parameters.now pattern_view in
    let last : made_for (patterns_of (take (left - 1 + 1) qs)) ≡ made_for (patterns_of (take (left - 1) qs)) + made_one (pattern_view x) =
    made_last qs (left - 1) (pattern_view x) (omega (arith, size, within, more))
    (seen_at c.args.parameters.now (left - 1) x (sym c.index-parameters-left.is)) in
    let at : left ≡ left - 1 + 1 = omega (arith, more) in
    let whole : made_for (patterns_of (take left qs)) ≡ made_for (patterns_of (take (left - 1 + 1) qs)) =
    ap (λ n. made_for (patterns_of (take n qs))) at in
    omega (arith, c.made_one-number.ensures.counted, number, last, whole)

pub loop-left-preserved : goal.loop-left-preserved
loop-left-preserved c =
    let qs = map pattern_view c.args.parameters.now in
    let first = c.args.first in
    let left = c.loop-left.left in
    let x = c.index-parameters-left.result in
    let p = pattern_view x in
    let more = c.loop-left-test.true in
    let within = c.loop-left.invariant.within in
    let number = c.loop-left.invariant.number in
    let size = length-map c.args.parameters.now pattern_view in
    let below : left - 1 < length qs = omega (arith, size, within, more) in
    let is-at : get_or qs (left - 1) p ≡ p = seen_at c.args.parameters.now (left - 1) x (sym c.index-parameters-left.is) in
    let last : made_for (patterns_of (take (left - 1 + 1) qs)) ≡ made_for (patterns_of (take (left - 1) qs)) + made_one p =
    made_last qs (left - 1) p below is-at in
    let at : left ≡ left - 1 + 1 = omega (arith, more) in
    let whole : made_for (patterns_of (take left qs)) ≡ made_for (patterns_of (take (left - 1 + 1) qs)) =
    ap (λ n. made_for (patterns_of (take n qs))) at in
    let next : c.loop-left.number - c.made_one-number.result ≡ first + made_for (patterns_of (take (left - 1) qs)) =
    omega (arith, c.made_one-number.ensures.counted, number, last, whole) in
    record {
      some = omega (arith, more);
      within = omega (arith, within);
      number = next;
      block = λ s ts h.
          c.in_ok-push.ensures.trees
          ∙ (ap (apply node.Node.Return)
          (end_step first qs (left - 1) p s (trees_of c.loop-left.trees) (trees_of c.end_one.new.trees) ts below is-at
          (c.loop-left.invariant.block s ts h
          ∙ ap (λ n. BlockOf (arrows (first + made_for (patterns_of (take n qs))) (patterns_of (drop n qs)) s)
          ∷ opened first (patterns_of (take n qs)) ts) at)
          (c.in_ok-end_one.ensures ∙ ap (λ n. arrow_ended (parameter n p) (trees_of c.loop-left.trees)) next))
          ∙ ap (λ b. BlockOf b ∷ opened first (patterns_of (take (left - 1) qs)) ts)
          (returned (first + made_for (patterns_of (take (left - 1) qs))) (left - 1) qs p s below));
    }

pub returns : goal.returns
returns c =
    let qs = map pattern_view c.args.parameters.now in
    let first = c.args.first in
    let left = c.loop-left.left in
    let x = c.index-parameters-0.result in
    let p = pattern_view x in
    let some = c.loop-left.invariant.some in
    let last = c.loop-left-test.false in
    let size = length-map c.args.parameters.now pattern_view in
    let at : left ≡ 0 + 1 = omega (arith, some, last) in
    let none : first ≡ first + made_for (patterns_of (take 0 qs)) = omega arith in
    on_ok_weaker c.end_one-2.result
    (λ e s ts h.
    end_step first qs 0 p s (trees_of c.loop-left.trees) (trees_of c.end_one-2.new.trees) ts
    (omega (arith, size, c.requires.some)) (seen_at c.args.parameters.now 0 x (sym c.index-parameters-0.is))
    (c.loop-left.invariant.block s ts h
    ∙ ap (λ n. BlockOf (arrows (first + made_for (patterns_of (take n qs))) (patterns_of (drop n qs)) s)
    ∷ opened first (patterns_of (take n qs)) ts) at)
    (e ∙ ap (λ n. arrow_ended (parameter n p) (trees_of c.loop-left.trees)) none)
    ∙ ap (λ n. Expression (now (arrows n (patterns_of qs) s)) ∷ ts) (sym none))
    c.end_one-2.ensures
