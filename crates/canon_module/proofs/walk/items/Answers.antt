-- One declaration more: `next_item`.
use Rattle.std.proofs.Common.{◌++◌, map, take, drop, length, refl, sym, ap, ◌∙◌, arith, ◌+◌}
use Rattle.std.specs.Prelude.{option_map}
use Rattle.std.specs.List.{flat_map}
use Rattle.std.proofs.Math.ListN.{drop_of_length-le}
use Rattle.std.proofs.lemmas.List.{append-nil, length_push}
use Rattle.elm_tree.specs.View.{declaration_view}
use Rattle.elm_tree.specs.Turns.{tokens_view}
use Rattle.elm_canon.specs.View.{annotation_view}
use Rattle.canon_env.proofs.Filtering.{pushed}
use Rattle.canon_expr.proofs.Steps.{flat_next, take_all, after_both}
use Rattle.canon_module.specs.Items.{items_of}
use Rattle.canon_module.specs.CanonValuesFaults.{declaration_faults}
use Rattle.canon_module.specs.CanonValuesKept.{item_view}
use Rattle.canon_module.proofs.Meaning.{next_item}
use Rattle.canon_module.proofs.walk.items.Goals as goal

pub loop-number-preserved : goal.loop-number-preserved
loop-number-preserved c =
    let view = declaration_view (tokens_view c.args.tokens.now) in
    let ds = c.args.declarations.now in
    let i = c.loop-number.number in
    let d = c.at-declaration.result in
    let old = c.loop-number.items.items in
    let before = option_map annotation_view c.loop-number.before in
    let after = option_map annotation_view c.item.new.before in
    record {
      count =
          omega (arith, c.loop-number.invariant.count, ap length c.in_ok-put.ensures, length_push old c.in_ok-item.item);
      meaning = λ w is named.
          ap (λ l. l ++ items_of w after (map view (drop (i + 1) ds)))
          (pushed item_view old _ _ (map item_view old) _ c.in_ok-put.ensures refl refl)
          ∙ next_item w view ds i d before after (map item_view old) _ (omega arith) c.at-declaration.ensures
          (c.in_ok-item.ensures.meaning w is named) (c.in_ok-item.ensures.before w is)
          ∙ c.loop-number.invariant.meaning w is named;
      faults = λ w is.
          after_both c.loop-number.log.findings.items c.item.new.log.findings.items c.args.log.now.findings.items
          (flat_map (declaration_faults w) (map view (take i ds))) (declaration_faults w (view d))
          (flat_map (declaration_faults w) (map view (take (i + 1) ds)))
          (c.loop-number.invariant.faults w is) (c.in_ok-item.ensures.faults w is)
          (flat_next (declaration_faults w) view ds i d (omega arith) c.at-declaration.ensures);
    }

pub returns-clause-meaning : goal.returns-clause-meaning
returns-clause-meaning c = λ w is named.
    let view = declaration_view (tokens_view c.args.tokens.now) in
    let ds = c.args.declarations.now in
    let items = map item_view c.loop-number.items.items in
    let before = option_map annotation_view c.loop-number.before in
    let none = drop_of_length-le ds {i = c.loop-number.number} (omega arith) in
    sym (append-nil items)
    ∙ ap (λ l. items ++ items_of w before (map view l)) (sym none)
    ∙ c.loop-number.invariant.meaning w is named

pub returns-clause-faults : goal.returns-clause-faults
returns-clause-faults c = λ w is.
    let view = declaration_view (tokens_view c.args.tokens.now) in
    let ds = c.args.declarations.now in
    c.loop-number.invariant.faults w is
    ∙ ap (λ l. c.args.log.now.findings.items ++ flat_map (declaration_faults w) (map view l))
    (take_all c.loop-number.number ds (omega arith))
