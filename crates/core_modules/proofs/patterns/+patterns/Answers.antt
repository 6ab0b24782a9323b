-- What each form of a pattern is spelled as is what its parts are: one law of the view a form, and one part more in a
-- list.
use Rattle.std.proofs.Common.{◌∷◌, take, map, sym, arith, append-nil, append_assoc}
use Rattle.std.proofs.lemmas.List.{flat_map_more}
use Rattle.elm_canon.specs.View.{pattern_view, nil_pattern}
use Rattle.elm_canon.proofs.Views as view
use Rattle.canon_env.proofs.Filtering.{map_next}
use Rattle.core_modules.specs.declared.port_faults_sign.Sign.{Sign}
use Rattle.core_modules.specs.PortFaultsSigns.{pattern_signs, other}
use Rattle.core_modules.proofs.Adding.{patterns_next, items_signs}
use Rattle.core_modules.proofs.patterns.+patterns.Goals as goal

pub push_pattern-returns-in-Anything : goal.push_pattern-returns-in-Anything
push_pattern-returns-in-Anything t c =
    simp (c.in-Anything.is, view.anything_pattern) c.push_form.ensures

pub push_pattern-returns-in-Named : goal.push_pattern-returns-in-Named
push_pattern-returns-in-Named t c =
    simp (c.in-Named.is, view.named_pattern c.in-Named.name) c.push_named.ensures

pub push_pattern-returns-in_ok-push_form-in-As : goal.push_pattern-returns-in_ok-push_form-in-As
push_pattern-returns-in_ok-push_form-in-As t c =
    simp (c.in-As.is, view.as_pattern c.in-As.inner c.in-As.field-1)
    (simp (c.in_ok-push_form-in-As.ensures, append_assoc) at c.push_boxed.ensures)

pub push_pattern-returns-in-Exactly : goal.push_pattern-returns-in-Exactly
push_pattern-returns-in-Exactly t c =
    simp (c.in-Exactly.is, view.exact_pattern c.in-Exactly.field-0) c.push_form-in-Exactly.ensures

pub push_pattern-returns-in_ok-push_patterns-in-Construct : goal.push_pattern-returns-in_ok-push_patterns-in-Construct
push_pattern-returns-in_ok-push_patterns-in-Construct t c =
    simp (
      c.in-Construct.is,
      view.construct_pattern c.in-Construct.union c.in-Construct.constructor c.in-Construct.fields,
    )
    (simp (
      c.in_ok-push_patterns-in-Construct.ensures,
      c.in_ok-push_taken-in-Construct.ensures,
      append_assoc,
    ) at c.push_ends.ensures)

pub push_pattern-returns-in_ok-push_form-in-Tuple : goal.push_pattern-returns-in_ok-push_form-in-Tuple
push_pattern-returns-in_ok-push_form-in-Tuple t c =
    simp (c.in-Tuple.is, view.pattern_of_tuple c.in-Tuple.parts, append-nil {A = Sign})
    (simp (
      c.in_ok-push_form-in-Tuple.ensures,
      append_assoc,
    ) at c.push_patterns-in-Tuple.ensures)

pub push_pattern-returns-in_ok-push_items-in-List : goal.push_pattern-returns-in_ok-push_items-in-List
push_pattern-returns-in_ok-push_items-in-List t c =
    simp (
      c.in-List.is,
      view.list_pattern c.in-List.items,
      sym (items_signs (map pattern_view c.in-List.items.items) nil_pattern),
    )
    (simp (c.in_ok-push_items-in-List.ensures, append_assoc) at c.push_form-in-List.ensures)

pub push_pattern-returns-in_ok-push_items-in-Items : goal.push_pattern-returns-in_ok-push_items-in-Items
push_pattern-returns-in_ok-push_items-in-Items t c =
    simp (
      c.in-Items.is,
      view.items_pattern c.in-Items.items c.in-Items.rest,
      sym (items_signs (map pattern_view c.in-Items.items.items) (pattern_view c.in-Items.rest.value)),
    )
    (simp (
      c.in_ok-push_items-in-Items.ensures,
      append_assoc,
    ) at c.push_boxed-in-Items.ensures)

pub push_pattern-returns-in-Fields : goal.push_pattern-returns-in-Fields
push_pattern-returns-in-Fields t c =
    simp (c.in-Fields.is, view.fields_pattern c.in-Fields.field-0) c.push_form-in-Fields.ensures

pub push_pattern-returns-in-Located : goal.push_pattern-returns-in-Located
push_pattern-returns-in-Located t c =
    simp (c.in-Located.is, view.located_pattern c.in-Located.field-0 c.in-Located.inner) c.push_boxed-in-Located.ensures

pub push_boxed-returns : goal.push_boxed-returns
push_boxed-returns t c = simp c.deref.ensures at c.push_pattern.ensures

pub push_patterns-loop-place-preserved : goal.push_patterns-loop-place-preserved
push_patterns-loop-place-preserved t c =
    let i = c.loop-place.place in
    let x = c.index.result.now in
    let before = map pattern_view (take i c.args.patterns.now.items) in
    let next = map_next pattern_view c.args.patterns.now.items i x (omega arith) c.index.ensures in
    simp (
      c.in_ok-push_pattern.ensures,
      c.loop-place.invariant,
      next,
      sym (patterns_next before (pattern_view x)),
      append_assoc,
    )

pub push_items-loop-place-preserved : goal.push_items-loop-place-preserved
push_items-loop-place-preserved t c =
    let i = c.loop-place.place in
    let x = c.index.result.now in
    let before = map pattern_view (take i c.args.patterns.now.items) in
    let next = map_next pattern_view c.args.patterns.now.items i x (omega arith) c.index.ensures in
    simp (
      c.in_ok-push_pattern.ensures,
      c.in_ok-push_form.ensures,
      c.loop-place.invariant,
      next,
      sym (flat_map_more (λ p. other ∷ pattern_signs p) c.args.signs.now.items before (pattern_view x)),
      append_assoc,
    )
