use Rattle.std.proofs.Common.{◌≡◌, ◌+◌, ◌∷◌, drop, sym, ap, ◌∙◌, arith}
use Rattle.js_tree.specs.Tree.{JProperty}
use Rattle.js_tree.specs.Postorder.{Expression, expression, top, below, trees_of}
use Rattle.emit_exprs.specs.Frames.{properties}
use Rattle.emit_exprs.proofs.Rows.{rest_next}
use Rattle.emit_exprs.proofs.functions.push_properties.Goals as goal

pub loop-name-preserved : goal.loop-name-preserved
loop-name-preserved c = λ x ts was.
    let here = c.loop-name.invariant x ts was in
    let i = c.loop-name.name-index in
    let items = c.deref-name-items.result.now in
    let k = c.name-item.result in
    let y = expression (top (trees_of c.loop-name.trees)) in
    let is : trees_of c.push_property.new.trees ≡ Expression (JProperty y k) ∷ ts =
    c.in_ok-push_property.ensures ∙ ap (λ t. Expression (JProperty y k) ∷ below t) here.kind in
    record {
      kind = is ∙ sym (ap (λ t. Expression (expression (top t)) ∷ ts) is);
      value =
          ap (λ t. properties (expression (top t)) (drop (i + 1) items)) is
          ∙ sym (ap (properties y) (rest_next items i k (omega arith) c.name-item.is)) ∙ here.value;
    }
