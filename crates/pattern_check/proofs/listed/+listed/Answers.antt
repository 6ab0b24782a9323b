use Rattle.std.proofs.Common.{◌≡◌, ◌++◌, ◌∷◌, None, Some, length, sym, ap, ◌∙◌, arith}
use Rattle.elm_canon.specs.Unions.{TupleUnion, tuple_alternative}
use Rattle.pattern_check.specs.Shapes.{Constructor}
use Rattle.pattern_check.specs.Starts.{parts_view}
use Rattle.pattern_check.specs.Listed.{pattern_parts, all_parts, item_parts}
use Rattle.pattern_check.proofs.Listing.{pushed, in_turn, anything_parts, named_parts, fields_parts, as_parts}
use Rattle.pattern_check.proofs.Listing.{located_parts, exact_parts, construct_parts, tuple_parts, list_parts, rest_parts}
use Rattle.pattern_check.proofs.listed.+listed.Goals as goal

pub add_pattern-returns-in_ok-push-in-Anything : goal.add_pattern-returns-in_ok-push-in-Anything
add_pattern-returns-in_ok-push-in-Anything t c =
    pushed _ _ None c.in_ok-push-in-Anything.ensures.items
    ∙ ap (λ z. parts_view c.args.parts.now.items ++ z) (sym (ap pattern_parts c.in-Anything.is ∙ anything_parts))

pub add_pattern-returns-in_ok-push-in-Named : goal.add_pattern-returns-in_ok-push-in-Named
add_pattern-returns-in_ok-push-in-Named t c =
    pushed _ _ None c.in_ok-push-in-Named.ensures.items
    ∙ ap (λ z. parts_view c.args.parts.now.items ++ z) (sym (ap pattern_parts c.in-Named.is ∙ named_parts _))

pub add_pattern-returns-in_ok-push-in-Fields : goal.add_pattern-returns-in_ok-push-in-Fields
add_pattern-returns-in_ok-push-in-Fields t c =
    pushed _ _ None c.in_ok-push-in-Fields.ensures.items
    ∙ ap (λ z. parts_view c.args.parts.now.items ++ z) (sym (ap pattern_parts c.in-Fields.is ∙ fields_parts _))

pub add_pattern-returns-in_ok-push-in-Exactly : goal.add_pattern-returns-in_ok-push-in-Exactly
add_pattern-returns-in_ok-push-in-Exactly t c =
    pushed _ _ _ c.in_ok-push-in-Exactly.ensures.items
    ∙ ap (λ z. parts_view c.args.parts.now.items ++ z) (sym (ap pattern_parts c.in-Exactly.is ∙ exact_parts _))

pub add_pattern-returns-in_ok-add_pattern-in-As : goal.add_pattern-returns-in_ok-add_pattern-in-As
add_pattern-returns-in_ok-add_pattern-in-As t c =
    c.in_ok-add_pattern-in-As.ensures
    ∙ ap (λ z. parts_view c.args.parts.now.items ++ z)
    (ap pattern_parts c.deref.ensures ∙ sym (ap pattern_parts c.in-As.is ∙ as_parts _ _))

pub add_pattern-returns-in_ok-add_pattern-in-Located :
    goal.add_pattern-returns-in_ok-add_pattern-in-Located
add_pattern-returns-in_ok-add_pattern-in-Located t c =
    c.in_ok-add_pattern-in-Located.ensures
    ∙ ap (λ z. parts_view c.args.parts.now.items ++ z)
    (ap pattern_parts c.deref-in-Located.ensures ∙ sym (ap pattern_parts c.in-Located.is ∙ located_parts _ _))

pub add_pattern-returns-in_ok-add_patterns-in-Construct :
    goal.add_pattern-returns-in_ok-add_patterns-in-Construct
add_pattern-returns-in_ok-add_patterns-in-Construct t c =
    in_turn _ _ _ _ _ _ (pushed _ _ _ c.in_ok-push-in-Construct.ensures.items) (c.in_ok-add_patterns-in-Construct.ensures)
    (ap pattern_parts c.in-Construct.is ∙ construct_parts _ _ _ ∙ ap (λ z. Some (Constructor c.in-Construct.union c.in-Construct.alternative) ∷ all_parts z) (sym c.deref-in-Construct.ensures.value))

pub add_pattern-returns-in_ok-add_patterns-in-Tuple :
    goal.add_pattern-returns-in_ok-add_patterns-in-Tuple
add_pattern-returns-in_ok-add_patterns-in-Tuple t c =
    let len : c.len.result ≡ length c.in-Tuple.fields.items = omega (arith, c.len.ensures, c.in-Tuple.fields.ok.0) in
    in_turn _ _ _ _ _ _ (pushed _ _ _ c.in_ok-push-in-Tuple.ensures.items) c.in_ok-add_patterns-in-Tuple.ensures
    (ap pattern_parts c.in-Tuple.is ∙ tuple_parts c.in-Tuple.fields
    ∙ ap (λ n. Some (Constructor (TupleUnion n) (tuple_alternative n)) ∷ all_parts c.in-Tuple.fields.items) (sym len)
    ∙ ap (λ z. Some (Constructor (TupleUnion c.len.result) (tuple_alternative c.len.result)) ∷ all_parts z) (sym c.deref-in-Tuple.ensures.value))

pub add_pattern-returns-in_ok-push-in-List : goal.add_pattern-returns-in_ok-push-in-List
add_pattern-returns-in_ok-push-in-List t c =
    in_turn _ _ _ _ _ _ (c.in_ok-add_items-in-List.ensures ∙ ap (λ z. parts_view c.args.parts.now.items ++ item_parts z) c.deref-in-List.ensures.value)
    (pushed _ _ _ c.in_ok-push-in-List.ensures.items) (ap pattern_parts c.in-List.is ∙ list_parts c.in-List.items)

pub add_pattern-returns-in_ok-add_pattern-in-Items :
    goal.add_pattern-returns-in_ok-add_pattern-in-Items
add_pattern-returns-in_ok-add_pattern-in-Items t c =
    in_turn _ _ _ _ _ _ (c.in_ok-add_items-in-Items.ensures ∙ ap (λ z. parts_view c.args.parts.now.items ++ item_parts z) c.deref-in-Items.ensures.value)
    (c.in_ok-add_pattern-in-Items.ensures ∙ ap (λ z. parts_view c.add_items-in-Items.new.parts.items ++ pattern_parts z) c.deref-in-Items-2.ensures)
    (ap pattern_parts c.in-Items.is ∙ rest_parts c.in-Items.items c.in-Items.rest)
