-- The names of each form are those of its parts: one law of the view a form.
use Rattle.std.proofs.Common.{◌≡◌, [], ◌∷◌, ◌++◌, take, map, OnOk, sym, ap, ◌∙◌, arith, subst, append-nil}
use Rattle.elm_canon.specs.Tree.{patterns_of}
use Rattle.elm_canon.specs.View.{pattern_view, patterns_view}
use Rattle.elm_canon.proofs.Views as view
use Rattle.elm_canon.specs.Proper.{locals, bound_by, all_bound_by}
use Rattle.infer_order.proofs.Binding.{patterns_next, bound_of_items, bound_of_list}
use Rattle.infer_order.proofs.Using.{also}
use Rattle.infer_order.proofs.Owning.{map_next}
use Rattle.infer_order.proofs.bound.+patterns.Goals as goal

pub push_bound-returns-in-Anything : goal.push_bound-returns-in-Anything
push_bound-returns-in-Anything t c =
    sym (append-nil c.args.names.now.items) ∙ ap (λ us. c.args.names.now.items ++ us)
    (sym (ap (λ p. bound_by (pattern_view p)) c.in-Anything.is ∙ ap bound_by view.anything_pattern))

pub push_bound-returns-in-Exactly : goal.push_bound-returns-in-Exactly
push_bound-returns-in-Exactly t c =
    sym (append-nil c.args.names.now.items) ∙ ap (λ us. c.args.names.now.items ++ us)
    (sym (ap (λ p. bound_by (pattern_view p)) c.in-Exactly.is ∙ ap bound_by (view.exact_pattern c.in-Exactly.field-0)))

pub push_bound-returns-in-Named : goal.push_bound-returns-in-Named
push_bound-returns-in-Named t c =
    subst (λ z. OnOk c.push_local.result (c.push_local.new.names.items ≡ z))
    (ap (λ us. c.args.names.now.items ++ us)
    (sym (ap (λ p. bound_by (pattern_view p)) c.in-Named.is ∙ ap bound_by (view.named_pattern c.in-Named.name))))
    c.push_local.ensures

pub push_bound-returns-in_ok-push_bound-in-As : goal.push_bound-returns-in_ok-push_bound-in-As
push_bound-returns-in_ok-push_bound-in-As t c =
    subst (λ z. OnOk c.push_local-in-As.result (c.push_local-in-As.new.names.items ≡ z))
    (also c.args.names.now.items c.push_bound.new.names.items (bound_by (pattern_view c.deref.result.now))
    (locals (c.in-As.name ∷ []))
    (bound_by (pattern_view c.args.pattern.now)) c.in_ok-push_bound-in-As.ensures
    (ap (λ z. bound_by (pattern_view z) ++ locals (c.in-As.name ∷ [])) c.deref.ensures
    ∙ sym (ap (λ p. bound_by (pattern_view p)) c.in-As.is ∙ ap bound_by (view.as_pattern c.in-As.inner c.in-As.name))))
    c.push_local-in-As.ensures

pub push_bound-returns-in-Construct : goal.push_bound-returns-in-Construct
push_bound-returns-in-Construct t c =
    subst (λ z. OnOk c.push_each.result (c.push_each.new.names.items ≡ z))
    (ap (λ us. c.args.names.now.items ++ us)
    (ap (λ l. all_bound_by (patterns_view l)) c.deref-in-Construct.ensures.value
    ∙ sym (ap (λ p. bound_by (pattern_view p)) c.in-Construct.is ∙ ap bound_by
    (view.construct_pattern c.in-Construct.field-0 c.in-Construct.field-1 c.in-Construct.parts))))
    c.push_each.ensures

pub push_bound-returns-in-Tuple : goal.push_bound-returns-in-Tuple
push_bound-returns-in-Tuple t c =
    subst (λ z. OnOk c.push_each-in-Tuple.result (c.push_each-in-Tuple.new.names.items ≡ z))
    (ap (λ us. c.args.names.now.items ++ us) (ap (λ l. all_bound_by (patterns_view l)) c.deref-in-Tuple.ensures.value
    ∙ sym (ap (λ p. bound_by (pattern_view p)) c.in-Tuple.is ∙ ap bound_by (view.pattern_of_tuple c.in-Tuple.parts))))
    c.push_each-in-Tuple.ensures

pub push_bound-returns-in-List : goal.push_bound-returns-in-List
push_bound-returns-in-List t c =
    subst (λ z. OnOk c.push_each-in-List.result (c.push_each-in-List.new.names.items ≡ z))
    (ap (λ us. c.args.names.now.items ++ us) (ap (λ l. all_bound_by (patterns_view l)) c.deref-in-List.ensures.value
    ∙ sym (ap (λ p. bound_by (pattern_view p)) c.in-List.is ∙ ap bound_by (view.list_pattern c.in-List.items) ∙
    bound_of_list (map pattern_view c.in-List.items.items))))
    c.push_each-in-List.ensures

pub push_bound-returns-in_ok-push_each-in-Items : goal.push_bound-returns-in_ok-push_each-in-Items
push_bound-returns-in_ok-push_each-in-Items t c =
    subst (λ z. OnOk c.push_bound-in-Items.result (c.push_bound-in-Items.new.names.items ≡ z))
    (also c.args.names.now.items c.push_each-in-Items.new.names.items
    (all_bound_by (patterns_view c.deref-in-Items.result.now)) (bound_by (pattern_view c.deref-in-Items-2.result.now))
    (bound_by (pattern_view c.args.pattern.now)) c.in_ok-push_each-in-Items.ensures
    (ap (λ z. all_bound_by (patterns_view z) ++ bound_by (pattern_view c.deref-in-Items-2.result.now))
    c.deref-in-Items.ensures.value
    ∙ ap (λ z. all_bound_by (patterns_view c.in-Items.items.items) ++ bound_by (pattern_view z))
    c.deref-in-Items-2.ensures
    ∙ sym (ap (λ p. bound_by (pattern_view p)) c.in-Items.is ∙ ap bound_by
    (view.items_pattern c.in-Items.items c.in-Items.rest)
    ∙ bound_of_items (pattern_view c.in-Items.rest.value) (map pattern_view c.in-Items.items.items))))
    c.push_bound-in-Items.ensures

pub push_bound-returns-in-Fields : goal.push_bound-returns-in-Fields
push_bound-returns-in-Fields t c =
    subst (λ z. OnOk c.push_locals.result (c.push_locals.new.names.items ≡ z))
    (ap (λ us. c.args.names.now.items ++ us) (ap locals c.deref-in-Fields.ensures.value
    ∙ sym (ap (λ p. bound_by (pattern_view p)) c.in-Fields.is ∙ ap bound_by (view.fields_pattern c.in-Fields.fields))))
    c.push_locals.ensures

pub push_bound-returns-in-Located : goal.push_bound-returns-in-Located
push_bound-returns-in-Located t c =
    subst (λ z. OnOk c.push_bound-in-Located.result (c.push_bound-in-Located.new.names.items ≡ z))
    (ap (λ us. c.args.names.now.items ++ us) (ap (λ p. bound_by (pattern_view p)) c.deref-in-Located.ensures
    ∙ sym (ap (λ p. bound_by (pattern_view p)) c.in-Located.is ∙ ap bound_by
    (view.located_pattern c.in-Located.field-0 c.in-Located.inner))))
    c.push_bound-in-Located.ensures

pub push_each-loop-pattern-preserved : goal.push_each-loop-pattern-preserved
push_each-loop-pattern-preserved t c =
    let i = c.loop-pattern.pattern-index in
    let x = c.pattern-item.result in
    let first = map pattern_view (take i c.args.patterns.now) in
    patterns_next c.args.names.now.items first (pattern_view x) c.loop-pattern.names.items c.push_bound.new.names.items
    c.loop-pattern.invariant c.in_ok-push_bound.ensures
    ∙ ap (λ l. c.args.names.now.items ++ all_bound_by (patterns_of l))
    (sym (map_next pattern_view c.args.patterns.now i x (omega arith) c.pattern-item.is))
