-- What each form adds: one law of the view and one of what is emitted a form, and one part more in a list.
use Rattle.std.proofs.Common.{◌≡◌, ◌≤◌, ℕ, suc, ◌+◌, ◌-◌, List, [], ◌∷◌, ◌++◌, ◌<◌, true, false, length, map, take, drop}
use Rattle.std.proofs.Common.{refl, sym, ap, ◌∙◌, arith, subst, length-append, append-nil, Result, Ok, OnOk}
use Rattle.std.proofs.lemmas.List.{length-map, length-take, map-append, nil_from_length, drop_all}
use Rattle.std.proofs.lemmas.Result.{on_ok_weaker, IfOk-weaker}
use Rattle.elm_canon.specs.Tree.{Expr, exprs_of, branches_of, groups_of, functions_of}
use Rattle.elm_canon.specs.View.{expr_view, pattern_view, patterns_view, op_view, link_view, branch_view, group_view}
use Rattle.elm_canon.specs.View.{function_view, title_view, accessed, linked, done}
use Rattle.elm_canon.specs.Tree as plain
use Rattle.elm_canon.specs.View as chained
use Rattle.elm_canon.proofs.Views as view
use Rattle.js_tree.specs.Tree.{Made, JVar, JArrow, JCall, JProperty, Const, Return}
use Rattle.js_tree.specs.Postorder.{Tree, Expression, BlockOf, StatementsOf, NoStatement, ConstThen, NoItem, Item, apply}
use Rattle.js_tree.specs.Postorder.{trees_of, top, below, statements, statements_then, Before}
use Rattle.js_tree.specs.Postorder as output
use Rattle.elm_canon.specs.Proper.{count_of, count_exprs}
use Rattle.emit_exprs.proofs.Forms.{link_seen}
use Rattle.emit_exprs.proofs.Steps.{count_of_patterns, count_of_exprs, linked_last}
use Rattle.js_emit.specs.Open.{opens}
use Rattle.decision_tree.specs.Opened.{opened}
use Rattle.js_emit.specs.Loops.{goes_round}
use Rattle.js_emit.specs.Made.{loop_of}
use Rattle.js_tree.specs.declared.tree.Node as node
use Rattle.js_tree.specs.declared.tree.Name as name
use Rattle.js_emit.specs.Names.{js_name, now}
use Rattle.js_emit.specs.Patterns.{made_for, consts, arrows}
use Rattle.js_emit.specs.Operators.{perform_js}
use Rattle.js_emit.specs.Loops.{Outside, variables}
use Rattle.js_emit.specs.Made.{is_loop, made_in, made_all, made_round, made_choice, made_branches, made_groups, made_group}
use Rattle.js_emit.specs.Made.{made_functions}
use Rattle.js_emit.specs.Emit.{emit, values, calls, chosen, bodies, numbered, groups, group, functions, go_round}
use Rattle.emit_exprs.specs.Turns.{loop_view}
use Rattle.emit_exprs.proofs.Rows.{seen_next, seen_all, drop_next}
use Rattle.js_emit.specs.Parts.{with_parts, count_items}
use Rattle.emit_exprs.specs.Frames.{has_constant, pairs, test, tested}
use Rattle.emit_exprs.specs.Chains.{turn_before, turn_after, turns_by}
use Rattle.emit_exprs.specs.Chains.{value, placed, before, before_all, made_before, made_before_all, function_at, made_by}
use Rattle.emit_exprs.proofs.Lists.{made_all_next, calls_next, values_next, count_values, placed_whole, made_round_next}
use Rattle.emit_exprs.proofs.Lists.{made_groups_next, groups_next, made_functions_next, functions_next, made_branches_next}
use Rattle.emit_exprs.proofs.Lists.{bodies_next, branch_at, count_bodies, tested_next}
use Rattle.emit_exprs.proofs.Done.{access_value, access_made, access_returns, access_same, call_returns, call_same, call_turns, call_rounds}
use Rattle.emit_exprs.proofs.Done.{Adds, AddsMade, given_made, composed_made, after_made, before_made, given_done}
use Rattle.emit_exprs.proofs.Done.{composed_done, after_done, after_whole, before_done, decided_done, rest_split}
use Rattle.emit_exprs.proofs.Done.{made_assoc, made_whole, made_more, made_joined}
use Rattle.emit_exprs.proofs.Turning.{turn_step, turn_arguments, turn_made, turn_count, link_returns, link_same, pairs_none}
use Rattle.emit_exprs.proofs.Turning.{round_count, made_round_append, finish_simple, finish_composed}
use Rattle.emit_exprs.proofs.Blocks.{grown_more, grown_same, const_grown, let_block, no_block, no_made, case_whole}
use Rattle.emit_exprs.proofs.Blocks.{function_loops, function_returns, made_loops, made_returns, loop_whole, made_anywhere}
use Rattle.emit_exprs.proofs.Kept.{always, shown, counts, shown_block, counts_block, conditional, conditional_block}
use Rattle.emit_exprs.proofs.Kept.{after_links, after_count, both_ok, arrows_return}
use Rattle.emit_exprs.proofs.exprs.+emission.Goals as goal

-- ---- where an expression is wanted

pub push_value-returns-in-Literal : goal.push_value-returns-in-Literal
push_value-returns-in-Literal t c =
    let law = view.literal c.in-Literal.literal in
    record {
      emitted = shown c.push_literal.result c.args.made.now _ _ c.in-Literal.is law c.push_literal.ensures;
      counted =
          counts c.push_literal.result c.args.made.now _ c.in-Literal.is law
          (always c.push_literal.result (omega arith));
    }

pub push_value-returns-in-Name : goal.push_value-returns-in-Name
push_value-returns-in-Name t c =
    let law = view.name c.in-Name.name in
    record {
      emitted = shown c.push_name.result c.args.made.now _ _ c.in-Name.is law c.push_name.ensures;
      counted = counts c.push_name.result c.args.made.now _ c.in-Name.is law (always c.push_name.result (omega arith));
    }

pub push_value-returns-in_ok-number-in-Accessor : goal.push_value-returns-in_ok-number-in-Accessor
push_value-returns-in_ok-number-in-Accessor t c =
    let law = view.accessor c.in-Accessor.field in
    let k = c.in-Accessor.field in
    let t0 = trees_of c.args.trees.now in
    record {
      emitted =
          shown c.push_accessor.result c.args.made.now _ _ c.in-Accessor.is law
          (on_ok_weaker c.push_accessor.result
          (λ h. h ∙ ap (λ n. Expression (JArrow (Made n) (Return (JProperty (JVar (Made n)) k))) ∷ t0) c.in_ok-number-in-Accessor.ensures.number)
          c.push_accessor.ensures);
      counted =
          counts c.push_accessor.result c.args.made.now _ c.in-Accessor.is law
          (always c.push_accessor.result (omega (arith, c.in_ok-number-in-Accessor.ensures.counted)));
    }

pub push_value-returns-in-Lambda : goal.push_value-returns-in-Lambda
push_value-returns-in-Lambda t c =
    let law = view.lambda c.in-Lambda.parameters c.in-Lambda.body in
    let d = c.args.made.now in
    let t0 = trees_of c.args.trees.now in
    let ps = patterns_view c.in-Lambda.parameters.items in
    record {
      emitted =
          shown c.push_arrows.result d _ _ c.in-Lambda.is law
          (on_ok_weaker c.push_arrows.result
          (λ h. h ∙ ap (λ b. Expression (now (arrows d ps (emit (d + made_for ps) Outside (expr_view b)))) ∷ t0) c.deref.ensures)
          c.push_arrows.ensures.emitted);
      counted =
          counts c.push_arrows.result d _ c.in-Lambda.is law
          (on_ok_weaker c.push_arrows.result
          (λ h. h ∙ ap (λ b. d + (made_for ps + made_in Outside (expr_view b))) c.deref.ensures)
          c.push_arrows.ensures.counted);
    }

pub push_value-returns-in_ok-push_value-in-Apply : goal.push_value-returns-in_ok-push_value-in-Apply
push_value-returns-in_ok-push_value-in-Apply t c =
    let law = view.apply c.in-Apply.callee c.in-Apply.arguments in
    let d = c.args.made.now in
    let t0 = trees_of c.args.trees.now in
    let f = expr_view c.in-Apply.callee.value in
    let es = exprs_of (map expr_view c.in-Apply.arguments.items) in
    let first : trees_of c.push_value.new.trees ≡ Expression (value d f) ∷ t0 =
    c.in_ok-push_value-in-Apply.ensures.emitted ∙ ap (λ e. Expression (value d (expr_view e)) ∷ t0) c.deref-in-Apply.ensures in
    let next : c.push_value.new.made ≡ d + made_in Outside f =
    c.in_ok-push_value-in-Apply.ensures.counted ∙ ap (λ e. d + made_in Outside (expr_view e)) c.deref-in-Apply.ensures in
    record {
      emitted =
          shown c.push_calls.result d _ _ c.in-Apply.is law
          (on_ok_weaker c.push_calls.result
          (λ h. h (value d f) t0 first ∙ ap (λ n. Expression (calls n (value d f) es) ∷ t0) next)
          c.push_calls.ensures.emitted);
      counted =
          counts c.push_calls.result d _ c.in-Apply.is law
          (on_ok_weaker c.push_calls.result (λ h. omega (arith, h, next)) c.push_calls.ensures.counted);
    }

pub push_value-returns-in_ok-push_parts-in-Strict : goal.push_value-returns-in_ok-push_parts-in-Strict
push_value-returns-in_ok-push_parts-in-Strict t c =
    let law = view.strict c.in-Strict.op c.in-Strict.parts in
    let d = c.args.made.now in
    let t0 = trees_of c.args.trees.now in
    let op = op_view c.in-Strict.op in
    let items = map expr_view c.in-Strict.parts.items in
    let xs = values d (exprs_of items) in
    let many : count_items (placed NoItem xs) ≡ c.len-count.result =
    omega (arith, count_values NoItem d items, length-map c.in-Strict.parts.items expr_view, c.len-count.ensures) in
    record {
      emitted =
          shown c.end_op.result d _ _ c.in-Strict.is law
          (on_ok_weaker c.end_op.result
          (λ h. h (placed NoItem xs) t0 many c.in_ok-push_parts-in-Strict.ensures.emitted
          ∙ ap (λ ys. Expression (perform_js op ys) ∷ t0) (placed_whole xs))
          c.end_op.ensures);
      counted =
          counts c.end_op.result d _ c.in-Strict.is law (always c.end_op.result c.in_ok-push_parts-in-Strict.ensures.counted);
    }

pub push_value-returns-in_ok-push_value-in-Access : goal.push_value-returns-in_ok-push_value-in-Access
push_value-returns-in_ok-push_value-in-Access t c =
    let law = view.access c.in-Access.inner c.in-Access.fields in
    let d = c.args.made.now in
    let t0 = trees_of c.args.trees.now in
    let e = expr_view c.in-Access.inner.value in
    let ks = c.in-Access.fields.items in
    let first : trees_of c.push_value-in-Access.new.trees ≡ Expression (value d e) ∷ t0 =
    c.in_ok-push_value-in-Access.ensures.emitted
    ∙ ap (λ e. Expression (value d (expr_view e)) ∷ t0) c.deref-in-Access.ensures in
    let next : c.push_value-in-Access.new.made ≡ d + made_in Outside e =
    c.in_ok-push_value-in-Access.ensures.counted ∙ ap (λ e. d + made_in Outside (expr_view e)) c.deref-in-Access.ensures in
    record {
      emitted =
          shown c.push_properties.result d _ _ c.in-Access.is law
          (on_ok_weaker c.push_properties.result
          (λ h. h (value d e) t0 first ∙ ap (λ x. Expression x ∷ t0) (sym (access_value d e ks)))
          c.push_properties.ensures);
      counted =
          counts c.push_properties.result d _ c.in-Access.is law
          (always c.push_properties.result (next ∙ ap (λ n. d + n) (sym (access_made e ks))));
    }

pub push_value-returns-in_ok-push_value-in-If-3 : goal.push_value-returns-in_ok-push_value-in-If-3
push_value-returns-in_ok-push_value-in-If-3 t c =
    let law = view.conditional c.in-If.condition c.in-If.yes c.in-If.no in
    let d = c.args.made.now in
    let t0 = trees_of c.args.trees.now in
    let x = expr_view c.in-If.condition.value in
    let a = expr_view c.in-If.yes.value in
    let b = expr_view c.in-If.no.value in
    let t1 = trees_of c.push_value-in-If.new.trees in
    let t2 = trees_of c.push_value-in-If-2.new.trees in
    let m1 = c.push_value-in-If.new.made in
    let m2 = c.push_value-in-If-2.new.made in
    let h1 : t1 ≡ Expression (value d x) ∷ t0 =
    c.in_ok-push_value-in-If.ensures.emitted ∙ ap (λ e. Expression (value d (expr_view e)) ∷ t0) c.deref-in-If.ensures in
    let h2 : t2 ≡ Expression (value m1 a) ∷ t1 =
    c.in_ok-push_value-in-If-2.ensures.emitted ∙ ap (λ e. Expression (value m1 (expr_view e)) ∷ t1) c.deref-in-If-2.ensures in
    let h3 : trees_of c.push_value-in-If-3.new.trees ≡ Expression (value m2 b) ∷ t2 =
    c.in_ok-push_value-in-If-3.ensures.emitted ∙ ap (λ e. Expression (value m2 (expr_view e)) ∷ t2) c.deref-in-If-3.ensures in
    let k1 : m1 ≡ d + made_in Outside x =
    c.in_ok-push_value-in-If.ensures.counted ∙ ap (λ e. d + made_in Outside (expr_view e)) c.deref-in-If.ensures in
    let k2 : m2 ≡ m1 + made_in Outside a =
    c.in_ok-push_value-in-If-2.ensures.counted ∙ ap (λ e. m1 + made_in Outside (expr_view e)) c.deref-in-If-2.ensures in
    let k3 : c.push_value-in-If-3.new.made ≡ m2 + made_in Outside b =
    c.in_ok-push_value-in-If-3.ensures.counted ∙ ap (λ e. m2 + made_in Outside (expr_view e)) c.deref-in-If-3.ensures in
    record {
      emitted =
          shown c.push.result d _ _ c.in-If.is law
          (on_ok_weaker c.push.result (conditional x a b d m1 m2 t0 t1 t2 _ _ h1 h2 h3 k1 k2) c.push.ensures.trees);
      counted = counts c.push.result d _ c.in-If.is law (always c.push.result (omega (arith, k1, k2, k3)));
    }

pub push_value-returns-in_ok-push_value-in-Chain : goal.push_value-returns-in_ok-push_value-in-Chain
push_value-returns-in_ok-push_value-in-Chain t c =
    let law = view.chain c.in-Chain.first c.in-Chain.links in
    let d = c.args.made.now in
    let t0 = trees_of c.args.trees.now in
    let e = expr_view c.in-Chain.first.value in
    let items = c.in-Chain.links.items in
    let ls = map link_view items in
    let t1 = trees_of c.push_before_all.new.trees in
    let m1 = c.push_before_all.new.made in
    let h1 : t1 ≡ before_all d ls t0 =
    c.in_ok-push_before_all-in-Chain.ensures.emitted ∙ ap (λ x. before_all d (map link_view x) t0) c.deref-in-Chain.ensures.value in
    let k1 : m1 ≡ d + made_before_all ls =
    c.in_ok-push_before_all-in-Chain.ensures.counted ∙ ap (λ x. d + made_before_all (map link_view x)) c.deref-in-Chain.ensures.value in
    let h2 : trees_of c.push_value-in-Chain.new.trees ≡ Expression (value (d + made_before_all ls) e) ∷ before_all d ls t0 =
    c.in_ok-push_value-in-Chain.ensures.emitted
    ∙ ap (λ x. Expression (value m1 (expr_view x)) ∷ t1) c.deref-in-Chain-2.ensures
    ∙ ap (λ n. Expression (value n e) ∷ t1) k1 ∙ ap (λ u. Expression (value (d + made_before_all ls) e) ∷ u) h1 in
    let k2 : c.push_value-in-Chain.new.made ≡ d + made_before_all ls + made_in Outside e =
    c.in_ok-push_value-in-Chain.ensures.counted ∙ ap (λ x. m1 + made_in Outside (expr_view x)) c.deref-in-Chain-2.ensures
    ∙ ap (λ n. n + made_in Outside e) k1 in
    let same = c.deref-in-Chain-3.ensures.value in
    record {
      emitted =
          shown c.push_after_all.result d _ _ c.in-Chain.is law
          (after_links c.push_after_all.result items same d e t0 _ _ h2 k2 c.push_after_all.ensures.emitted);
      counted =
          counts c.push_after_all.result d _ c.in-Chain.is law
          (after_count c.push_after_all.result items same d e _ _ k2 c.push_after_all.ensures.counted);
    }

pub push_value-returns-in_ok-push-in-Let : goal.push_value-returns-in_ok-push-in-Let
push_value-returns-in_ok-push-in-Let t c =
    let law = view.let_in c.in-Let.definitions c.in-Let.body in
    let d = c.args.made.now in
    let t0 = trees_of c.args.trees.now in
    let gs = groups_of (map group_view c.in-Let.definitions.items) in
    let e = expr_view c.in-Let.body.value in
    let m = c.push_groups.new.made in
    let t1 = trees_of c.push_groups.new.trees in
    let b = statements (top t1) in
    let some : has_constant gs ≡ true = sym c.has_constant.ensures ∙ c.if-has_constant.true in
    let s = emit (d + made_groups gs) Outside e in
    let body : trees_of c.push_block.new.trees ≡ BlockOf s ∷ StatementsOf b ∷ t0 =
    c.in_ok-push_block-in-Let.ensures.emitted ∙ ap (λ x. BlockOf (emit m Outside (expr_view x)) ∷ t1) c.deref-then-has_constant.ensures
    ∙ ap (λ n. BlockOf (emit n Outside e) ∷ t1) c.in_ok-push_groups-in-Let.ensures.counted
    ∙ ap (λ u. BlockOf s ∷ u) c.in_ok-push_groups-in-Let.ensures.kind in
    let made : c.push_block.new.made ≡ m + made_in Outside e =
    c.in_ok-push_block-in-Let.ensures.counted ∙ ap (λ x. m + made_in Outside (expr_view x)) c.deref-then-has_constant.ensures in
    record {
      emitted =
          shown c.push-then-has_constant-2.result d _ _ c.in-Let.is law
          (on_ok_weaker c.push-then-has_constant-2.result
          (λ is. is ∙ ap (apply node.Node.Block) (c.in_ok-push-in-Let.ensures.trees ∙ ap (apply node.Node.Ended) body
          ∙ ap (λ x. BlockOf x ∷ t0) (c.in_ok-push_groups-in-Let.ensures.emitted s))
          ∙ ap (λ x. Expression x ∷ t0) (sym (let_block d gs s some)))
          c.push-then-has_constant-2.ensures.trees);
      counted =
          counts c.push-then-has_constant-2.result d _ c.in-Let.is law
          (always c.push-then-has_constant-2.result (omega (arith, made, c.in_ok-push_groups-in-Let.ensures.counted)));
    }

pub push_value-returns-else-has_constant : goal.push_value-returns-else-has_constant
push_value-returns-else-has_constant t c =
    let law = view.let_in c.in-Let.definitions c.in-Let.body in
    let d = c.args.made.now in
    let t0 = trees_of c.args.trees.now in
    let gs = groups_of (map group_view c.in-Let.definitions.items) in
    let e = expr_view c.in-Let.body.value in
    let none : has_constant gs ≡ false = sym c.has_constant.ensures ∙ c.if-has_constant.false in
    let zero : made_groups gs ≡ 0 = no_made gs none in
    let start : d ≡ d + made_groups gs = omega (arith, zero) in
    let more : made_in Outside e ≡ 0 + made_in Outside e = omega arith in
    record {
      emitted =
          shown c.push_value-else-has_constant.result d _ _ c.in-Let.is law
          (on_ok_weaker c.push_value-else-has_constant.result
          (λ h. h ∙ ap (λ b. Expression (value d (expr_view b)) ∷ t0) c.deref-else-has_constant.ensures
          ∙ ap (λ n. Expression (value n e) ∷ t0) start
          ∙ ap (λ s. Expression (now s) ∷ t0) (sym (no_block d gs (emit (d + made_groups gs) Outside e) none)))
          c.push_value-else-has_constant.ensures.emitted);
      counted =
          counts c.push_value-else-has_constant.result d _ c.in-Let.is law
          (on_ok_weaker c.push_value-else-has_constant.result
          (λ h. h ∙ ap (λ b. d + made_in Outside (expr_view b)) c.deref-else-has_constant.ensures
          ∙ ap (λ n. d + n) more ∙ ap (λ n. d + (n + made_in Outside e)) (sym zero))
          c.push_value-else-has_constant.ensures.counted);
    }

pub push_value-returns-in_ok-push_choice_of-in-Case : goal.push_value-returns-in_ok-push_choice_of-in-Case
push_value-returns-in_ok-push_choice_of-in-Case t c =
    let law = view.case_of c.in-Case.subject c.in-Case.branches in
    let d = c.args.made.now in
    let t0 = trees_of c.args.trees.now in
    let e = expr_view c.in-Case.subject.value in
    let bs = branches_of (map branch_view c.in-Case.branches.items) in
    let number = c.in_ok-number-in-Case.number in
    let m0 = c.begin_constant.new.made in
    let m1 = c.push_value-in-Case.new.made in
    let was : trees_of c.push_value-in-Case.new.trees ≡ Expression (value m0 e) ∷ StatementsOf NoStatement ∷ t0 =
    c.in_ok-push_value-in-Case.ensures.emitted
    ∙ ap (λ x. Expression (value m0 (expr_view x)) ∷ trees_of c.begin_constant.new.trees) c.deref-in-Case.ensures
    ∙ ap (λ u. Expression (value m0 e) ∷ u) c.in_ok-number-in-Case.ensures.begun in
    let made : m1 ≡ m0 + made_in Outside e =
    c.in_ok-push_value-in-Case.ensures.counted ∙ ap (λ x. m0 + made_in Outside (expr_view x)) c.deref-in-Case.ensures in
    record {
      emitted =
          shown c.push-in-Case.result d _ _ c.in-Case.is law
          (on_ok_weaker c.push-in-Case.result
          (λ is. is ∙ ap (apply node.Node.Block) (c.in_ok-push_choice_of-in-Case.ensures.emitted (value m0 e) NoStatement t0 was
          ∙ ap (λ s. BlockOf s ∷ t0) (case_whole d number m0 m1 (m1 + made_choice bs) Outside e bs
          c.in_ok-number-in-Case.ensures.number c.in_ok-number-in-Case.ensures.counted made refl)))
          c.push-in-Case.ensures.trees);
      counted =
          counts c.push-in-Case.result d _ c.in-Case.is law
          (always c.push-in-Case.result (omega (arith, c.in_ok-number-in-Case.ensures.counted, made, c.in_ok-push_choice_of-in-Case.ensures.counted)));
    }

pub push_value-returns-in-Located : goal.push_value-returns-in-Located
push_value-returns-in-Located t c =
    let law = view.located c.in-Located.field-0 c.in-Located.inner in
    let d = c.args.made.now in
    let t0 = trees_of c.args.trees.now in
    record {
      emitted =
          shown c.push_value-in-Located.result d _ _ c.in-Located.is law
          (on_ok_weaker c.push_value-in-Located.result
          (λ h. h ∙ ap (λ e. Expression (value d (expr_view e)) ∷ t0) c.deref-in-Located.ensures)
          c.push_value-in-Located.ensures.emitted);
      counted =
          counts c.push_value-in-Located.result d _ c.in-Located.is law
          (on_ok_weaker c.push_value-in-Located.result
          (λ h. h ∙ ap (λ e. d + made_in Outside (expr_view e)) c.deref-in-Located.ensures)
          c.push_value-in-Located.ensures.counted);
    }

-- ---- lists of parts

pub push_calls-loop-argument-preserved : goal.push_calls-loop-argument-preserved
push_calls-loop-argument-preserved t c =
    let items = c.deref-argument-items.result.now in
    let i = c.loop-argument.argument-index in
    let e = c.argument-item.result in
    let d = c.args.made.now in
    let es = map expr_view (take i items) in
    let next = seen_next expr_view items i e (omega arith) c.argument-item.is in
    let here = c.loop-argument.invariant in
    record {
      emitted = λ f ts was.
          c.in_ok-push.ensures.trees
          ∙ ap (apply node.Node.Call) (c.in_ok-push_value.ensures.emitted
          ∙ ap (λ u. Expression (value c.loop-argument.made (expr_view e)) ∷ u) (here.emitted f ts was))
          ∙ ap (λ n. Expression (JCall (calls d f (exprs_of es)) (value n (expr_view e))) ∷ ts) here.counted
          ∙ ap (λ x. Expression x ∷ ts) (sym (calls_next d f es (expr_view e)) ∙ ap (λ l. calls d f (exprs_of l)) (sym next));
      counted =
          let all : made_all (exprs_of (map expr_view (take (i + 1) items))) ≡ made_all (exprs_of es) + made_in Outside (expr_view e) =
          ap (λ l. made_all (exprs_of l)) next ∙ made_all_next es (expr_view e) in
          omega (arith, c.in_ok-push_value.ensures.counted, here.counted, all);
    }

pub push_calls-returns : goal.push_calls-returns
push_calls-returns t c =
    let items = c.deref-argument-items.result.now in
    let d = c.args.made.now in
    let all : take c.loop-argument.argument-index items ≡ c.args.arguments.now.items =
    seen_all c.loop-argument.argument-index items (omega arith) ∙ c.deref-argument-items.ensures.value in
    let here = c.loop-argument.invariant in
    record {
      emitted = λ f ts was.
          here.emitted f ts was ∙ ap (λ l. Expression (calls d f (exprs_of (map expr_view l))) ∷ ts) all;
      counted = here.counted ∙ ap (λ l. d + made_all (exprs_of (map expr_view l))) all;
    }

-- ---- definitions

pub push_groups-loop-definition-preserved : goal.push_groups-loop-definition-preserved
push_groups-loop-definition-preserved t c =
    let items = c.deref-definition-items.result.now in
    let i = c.loop-definition.definition-index in
    let g = c.definition-item.result in
    let d = c.args.made.now in
    let gs = map group_view (take i items) in
    let next = seen_next group_view items i g (omega arith) c.definition-item.is in
    let here = c.loop-definition.invariant in
    record {
      grown =
          grown_same
          (λ s. ap (λ n. groups d (groups_of gs) (group n (group_view g) s)) here.counted
          ∙ sym (groups_next d gs (group_view g) s) ∙ ap (λ l. groups d (groups_of l) s) (sym next))
          (grown_more here.grown c.in_ok-push_group.ensures.grown);
      counted =
          let all : made_groups (groups_of (map group_view (take (i + 1) items))) ≡ made_groups (groups_of gs) + made_group (group_view g) =
          ap (λ l. made_groups (groups_of l)) next ∙ made_groups_next gs (group_view g) in
          omega (arith, c.in_ok-push_group.ensures.counted, here.counted, all);
    }

pub push_groups-returns : goal.push_groups-returns
push_groups-returns t c =
    let items = c.deref-definition-items.result.now in
    let d = c.args.made.now in
    let t0 = trees_of c.args.trees.now in
    let all : groups_of (map group_view (take c.loop-definition.definition-index items)) ≡ groups_of (map group_view c.args.definitions.now.items) =
    ap (λ l. groups_of (map group_view l))
    (seen_all c.loop-definition.definition-index items (omega arith) ∙ c.deref-definition-items.ensures.value) in
    let here = c.loop-definition.invariant in
    record {
      kind = here.grown.kind NoStatement t0 refl;
      emitted = λ s. here.grown.grown NoStatement t0 refl s ∙ ap (λ g. groups d g s) all;
      counted = here.counted ∙ ap (λ g. d + made_groups g) all;
    }

pub push_group-loop-function-preserved : goal.push_group-loop-function-preserved
push_group-loop-function-preserved t c =
    let items = c.deref-function-items.result.now in
    let i = c.loop-function.function-index in
    let g = c.function-item.result in
    let d = c.args.made.now in
    let m = c.loop-function.made in
    let fs = map function_view (take i items) in
    let x = function_view g in
    let next = seen_next function_view items i g (omega arith) c.function-item.is in
    let here = c.loop-function.invariant in
    let named : output.name_view c.in_ok-js_name-in-Together.field-0 ≡ js_name x.0.name =
    c.in_ok-js_name-in-Together.ensures ∙ ap (λ v. js_name v.0.name) (sym (view.function g)) in
    record {
      grown =
          grown_same
          (λ s. ap (λ n. functions d (functions_of fs) (Const n (function_at m x) s)) named
          ∙ ap (λ n. functions d (functions_of fs) (Const (js_name x.0.name) (function_at n x) s)) here.counted
          ∙ sym (functions_next d fs x s) ∙ ap (λ l. functions d (functions_of l) s) (sym next))
          (grown_more here.grown (const_grown (trees_of c.loop-function.trees) _ (output.name_view c.in_ok-js_name-in-Together.field-0) (function_at m x)
          (λ before ts was. c.in_ok-push-in-Together.ensures.trees
          ∙ ap (apply (node.Node.Const c.in_ok-js_name-in-Together.field-0)) (c.in_ok-push_function-in-Together.ensures.emitted
          ∙ ap (λ u. Expression (function_at m x) ∷ u) was))));
      counted =
          let all : made_functions (functions_of (map function_view (take (i + 1) items))) ≡ made_functions (functions_of fs) + made_by x =
          ap (λ l. made_functions (functions_of l)) next ∙ made_functions_next fs x in
          omega (arith, c.in_ok-push_function-in-Together.ensures.counted, here.counted, all);
    }

-- ---- choices

pub push_choice_of-returns : goal.push_choice_of-returns
push_choice_of-returns t c =
    let d = c.args.made.now in
    let place = loop_view c.args.place.now in
    let items = c.args.branches.now.items in
    let bs = branches_of (map branch_view items) in
    let i = Made c.args.subject in
    let j = c.in_ok-choice.choice in
    let m2 = c.begin_choice.new.made in
    let ss = bodies m2 place i bs in
    let many : length ss ≡ length items =
    count_bodies m2 place i (map branch_view items) ∙ length-map items branch_view in
    record {
      emitted =
          on_ok_weaker c.push-2.result
          (λ is x before ts was.
          let kept = c.in_ok-push.ensures.trees ∙ ap (apply (node.Node.Const (name.Name.Made c.args.subject))) was in
          is ∙ ap (apply node.Node.Ended) (c.in_ok-push_branches.ensures.emitted
          ∙ ap (λ u. BlockOf (numbered (Made j) 0 ss) ∷ u) (c.in_ok-choice.ensures.kind (ConstThen before i x) ts kept))
          ∙ ap (λ s. BlockOf s ∷ ts) (c.in_ok-choice.ensures.chosen ss many (ConstThen before i x) ts kept
          ∙ ap (λ n. statements_then before (Const i x (chosen d i bs (bodies n place i bs)))) c.in_ok-choice.ensures.counted))
          c.push-2.ensures.trees;
      counted =
          always c.push-2.result (omega (arith, c.in_ok-choice.ensures.counted, c.in_ok-push_branches.ensures.counted));
    }

pub push_branches-loop-index-preserved : goal.push_branches-loop-index-preserved
push_branches-loop-index-preserved t c =
    let d = c.args.made.now in
    let t0 = trees_of c.args.trees.now in
    let place = loop_view c.args.place.now in
    let subject = Made c.args.subject in
    let j = Made c.args.choice in
    let others = c.in-Some.others.now in
    let i = c.loop-index.index in
    let item = c.index-others-index.result in
    let b = branch_view item in
    let m = c.loop-index.made in
    let here = c.loop-index.invariant in
    let bs = map branch_view (take i others) in
    let next = seen_next branch_view others i item (omega arith) c.index-others-index.is in
    let ss = bodies d place subject (branches_of bs) in
    let s = branch_at (d + made_branches place (branches_of bs)) place subject b in
    let few : length ss ≡ i =
    omega (arith, count_bodies d place subject bs, length-map (take i others) branch_view, length-take i others) in
    let step : tested j 0 (bodies d place subject (branches_of (map branch_view (take (i + 1) others)))) t0
    ≡ BlockOf s ∷ Expression (test j (0 + length ss)) ∷ tested j 0 ss t0 =
    ap (λ l. tested j 0 (bodies d place subject (branches_of l)) t0) next
    ∙ ap (λ l. tested j 0 l t0) (bodies_next d place subject bs b) ∙ tested_next j 0 ss s t0 in
    let number : i ≡ 0 + length ss = omega (arith, few) in
    record {
      emitted =
          c.in_ok-push_branch.ensures.emitted
          ∙ ap (λ n. BlockOf (branch_at n place subject b) ∷ trees_of c.push_test.new.trees) here.counted
          ∙ ap (λ u. BlockOf s ∷ u) (c.in_ok-push_test.ensures ∙ ap (λ n. Expression (test j n) ∷ trees_of c.loop-index.trees) number
          ∙ ap (λ u. Expression (test j (0 + length ss)) ∷ u) here.emitted)
          ∙ sym step;
      counted =
          let all : made_branches place (branches_of (map branch_view (take (i + 1) others))) ≡ made_branches place (branches_of bs) + made_in place b.1 =
          ap (λ l. made_branches place (branches_of l)) next ∙ made_branches_next place bs b in
          omega (arith, c.in_ok-push_branch.ensures.counted, here.counted, all);
    }

pub push_branches-returns : goal.push_branches-returns
push_branches-returns t c =
    let d = c.args.made.now in
    let t0 = trees_of c.args.trees.now in
    let place = loop_view c.args.place.now in
    let subject = Made c.args.subject in
    let j = Made c.args.choice in
    let others = c.in-Some.others.now in
    let last = c.in-Some.last.now in
    let b = branch_view last in
    let m = c.loop-index.made in
    let here = c.loop-index.invariant in
    let all : take c.loop-index.index others ≡ others = seen_all c.loop-index.index others (omega arith) in
    let bs = map branch_view others in
    let ss = bodies d place subject (branches_of bs) in
    let s = branch_at (d + made_branches place (branches_of bs)) place subject b in
    let made : m ≡ d + made_branches place (branches_of bs) =
    here.counted ∙ ap (λ l. d + made_branches place (branches_of (map branch_view l))) all in
    let before : trees_of c.loop-index.trees ≡ tested j 0 ss t0 =
    here.emitted ∙ ap (λ l. tested j 0 (bodies d place subject (branches_of (map branch_view l))) t0) all in
    let whole : map branch_view c.args.branches.now.items ≡ bs ++ b ∷ [] =
    ap (map branch_view) (sym c.deref.ensures.value ∙ c.in-Some.ensures.cases.0) ∙ map-append branch_view others (last ∷ []) in
    let count : length ss ≡ length others =
    count_bodies d place subject bs ∙ length-map others branch_view in
    let ended : trees_of c.push_branch-2.new.trees ≡ BlockOf s ∷ tested j 0 ss t0 =
    c.in_ok-push_branch-2.ensures.emitted ∙ ap (λ n. BlockOf (branch_at n place subject b) ∷ trees_of c.loop-index.trees) made
    ∙ ap (λ u. BlockOf s ∷ u) before in
    record {
      emitted =
          on_ok_weaker c.end_tests.result
          (λ h. h j 0 ss s t0 count ended
          ∙ ap (λ l. BlockOf (numbered j 0 l) ∷ t0) (sym (bodies_next d place subject bs b))
          ∙ ap (λ l. BlockOf (numbered j 0 (bodies d place subject (branches_of l))) ∷ t0) (sym whole))
          c.end_tests.ensures;
      counted =
          let total : c.push_branch-2.new.made ≡ d + (made_branches place (branches_of bs) + made_in place b.1) =
          omega (arith, c.in_ok-push_branch-2.ensures.counted, made) in
          always c.end_tests.result
          (total ∙ ap (λ n. d + n) (sym (ap (λ l. made_branches place (branches_of l)) whole ∙ made_branches_next place bs b)));
    }

pub push_branch-returns : goal.push_branch-returns
push_branch-returns t c =
    let d = c.args.made.now in
    let t0 = trees_of c.args.trees.now in
    let place = loop_view c.args.place.now in
    let b = c.args.branch.now in
    let i = Made c.args.subject in
    let e = expr_view c.deref.result.now in
    let law = view.branch b ∙ ap (λ x. (pattern_view b.pattern, expr_view x)) (sym c.deref.ensures) in
    let kept : trees_of c.push_consts.new.trees ≡ StatementsOf (statements (top (trees_of c.push_consts.new.trees))) ∷ t0 =
    c.in_ok-push_consts.ensures.kind
    ∙ ap (λ u. StatementsOf (statements (top (trees_of c.push_consts.new.trees))) ∷ below u) c.in_ok-push.ensures.trees in
    let begins : statements (top (trees_of c.push.new.self)) ≡ NoStatement =
    ap (λ u. statements (top u)) c.in_ok-push.ensures.trees in
    record {
      emitted =
          on_ok_weaker c.push-2.result
          (λ is. is ∙ ap (apply node.Node.Ended) (c.in_ok-push_block.ensures.emitted ∙ ap (λ u. BlockOf (emit d place e) ∷ u) kept)
          ∙ ap (λ s. BlockOf s ∷ t0) (c.in_ok-push_consts.ensures.consts (emit d place e)
          ∙ ap (λ x. statements_then x (consts (pattern_view b.pattern) (JVar i) (emit d place e))) begins)
          ∙ ap (λ v. BlockOf (consts v.0 (JVar i) (emit d place v.1)) ∷ t0) (sym law))
          c.push-2.ensures.trees;
      counted =
          always c.push-2.result
          (c.in_ok-push_block.ensures.counted ∙ ap (λ v. d + made_in place v.1) (sym law));
    }

-- ---- functions

pub push_arrows-returns-then-len-eq0 : goal.push_arrows-returns-then-len-eq0
push_arrows-returns-then-len-eq0 t c =
    let d = c.args.made.now in
    let t0 = trees_of c.args.trees.now in
    let items = c.args.parameters.now.items in
    let e = expr_view c.args.body.now in
    let none : items ≡ [] = nil_from_length items (omega (arith, c.len.ensures, c.if-len-eq0.true)) in
    let z : d ≡ d + 0 = omega arith in
    let more : made_in Outside e ≡ 0 + made_in Outside e = omega arith in
    record {
      emitted =
          on_ok_weaker c.push_value.result
          (λ h. h ∙ ap (λ n. Expression (value n e) ∷ t0) z
          ∙ ap (λ q. Expression (now (arrows d (patterns_view q) (emit (d + made_for (patterns_view q)) Outside e))) ∷ t0) (sym none))
          c.push_value.ensures.emitted;
      counted =
          on_ok_weaker c.push_value.result
          (λ h. h ∙ ap (λ n. d + n) more ∙ ap (λ q. d + (made_for (patterns_view q) + made_in Outside e)) (sym none)) c.push_value.ensures.counted;
    }

pub push_function-returns-else-is_loop : goal.push_function-returns-else-is_loop
push_function-returns-else-is_loop t c =
    let d = c.args.made.now in
    let t0 = trees_of c.args.trees.now in
    let g = c.args.function.now in
    let f = g.title.name in
    let ps = patterns_view g.parameters.items in
    let e = expr_view g.body.value in
    let no : is_loop f ps e ≡ false =
    ap (λ x. is_loop f ps (expr_view x)) (sym c.deref.ensures) ∙ sym c.is_loop.ensures ∙ c.if-is_loop.false in
    record {
      emitted =
          on_ok_weaker c.push_arrows.result
          (λ h. h
          ∙ ap (λ x. Expression (now (arrows d ps (emit (d + made_for ps) Outside (expr_view x)))) ∷ t0)
          c.deref-else-is_loop.ensures
          ∙ ap (λ s. Expression (now s) ∷ t0) (sym (function_returns d f ps e no))
          ∙ ap (λ v. Expression (function_at d v) ∷ t0) (sym (view.function g)))
          c.push_arrows.ensures.emitted;
      counted =
          on_ok_weaker c.push_arrows.result
          (λ h. h ∙ ap (λ x. d + (made_for ps + made_in Outside (expr_view x))) c.deref-else-is_loop.ensures
          ∙ ap (λ n. d + n) (sym (made_returns f ps e no)) ∙ ap (λ v. d + made_by v) (sym (view.function g)))
          c.push_arrows.ensures.counted;
    }

pub push_function-returns-in_ok-push_block : goal.push_function-returns-in_ok-push_block
push_function-returns-in_ok-push_block t c =
    let d = c.args.made.now in
    let t0 = trees_of c.args.trees.now in
    let g = c.args.function.now in
    let f = g.title.name in
    let ps = patterns_view g.parameters.items in
    let e = expr_view g.body.value in
    let n = length g.parameters.items in
    let place = loop_view c.in_ok-place.place in
    let m1 = c.begin_loop.new.made in
    let t1 = trees_of c.begin_loop.new.trees in
    let inner = statements (top t1) in
    let outer = statements (top (below t1)) in
    let yes : is_loop f ps e ≡ true =
    ap (λ x. is_loop f ps (expr_view x)) (sym c.deref.ensures) ∙ sym c.is_loop.ensures ∙ c.if-is_loop.true in
    let many : n ≡ count_of ps =
    sym (count_of_patterns (map pattern_view g.parameters.items) ∙ length-map g.parameters.items pattern_view) in
    let at : place ≡ loop_of d f ps = c.in_ok-place.ensures in
    let count : c.len.result ≡ n = omega (arith, c.len.ensures) in
    let body : trees_of c.push_block.new.trees
    ≡ BlockOf (emit m1 place e) ∷ StatementsOf inner ∷ StatementsOf outer ∷ opens c.len.result t0 =
    c.in_ok-push_block.ensures.emitted
    ∙ ap (λ x. BlockOf (emit m1 place (expr_view x)) ∷ t1) c.deref-then-is_loop.ensures
    ∙ ap (λ u. BlockOf (emit m1 place e) ∷ u) c.in_ok-begin_loop.ensures.begun
    ∙ ap (λ k. BlockOf (emit m1 place e) ∷ StatementsOf inner ∷ StatementsOf outer ∷ opens k t0) (sym count) in
    let made : made_in place e ≡ made_in (loop_of 0 f ps) e = ap (λ p. made_in p e) at ∙ made_anywhere d f ps e in
    record {
      emitted =
          on_ok_weaker c.end_loop.result
          (λ h. h inner outer (emit m1 place e) t0 body
          ∙ ap (λ x. Expression x ∷ t0) (loop_whole d n d c.len.result m1 f ps e place inner outer many refl count at
          c.in_ok-begin_loop.ensures.counted c.in_ok-begin_loop.ensures.turn c.in_ok-begin_loop.ensures.lets)
          ∙ ap (λ s. Expression (now s) ∷ t0) (sym (function_loops d f ps e yes))
          ∙ ap (λ v. Expression (function_at d v) ∷ t0) (sym (view.function g)))
          c.end_loop.ensures;
      counted =
          let all : c.push_block.new.made ≡ d + (count_of ps + count_of ps + (made_for ps + made_in (loop_of 0 f ps) e)) =
          omega (
            arith,
            c.in_ok-push_block.ensures.counted,
            c.in_ok-begin_loop.ensures.counted,
            many,
            made,
            ap (λ x. made_in place (expr_view x)) c.deref-then-is_loop.ensures,
          ) in
          always c.end_loop.result
          (all ∙ ap (λ k. d + k) (sym (made_loops f ps e yes)) ∙ ap (λ v. d + made_by v) (sym (view.function g)));
    }

-- ---- one thing that is done

pub push_before-returns-in_ok-push_value-in-Given : goal.push_before-returns-in_ok-push_value-in-Given
push_before-returns-in_ok-push_value-in-Given t c =
    let d = c.args.made.now in
    let t0 = trees_of c.args.trees.now in
    let law = view.given c.in-Given.callee c.in-Given.arguments
    ∙ ap (λ x. chained.Given (expr_view x) (map expr_view c.in-Given.arguments.items)) (sym c.deref.ensures) in
    let f = expr_view c.deref.result.now in
    let es = exprs_of (map expr_view c.in-Given.arguments.items) in
    let next = c.in_ok-push_value-in-Given.ensures.counted in
    record {
      emitted =
          on_ok_weaker c.push_calls.result
          (λ h. h (value d f) t0 c.in_ok-push_value-in-Given.ensures.emitted
          ∙ ap (λ n. Expression (calls n (value d f) es) ∷ t0) next
          ∙ link_seen (λ l. before d l t0) c.in-Given.is law)
          c.push_calls.ensures.emitted;
      counted =
          on_ok_weaker c.push_calls.result
          (λ h. let z : c.push_calls.new.made ≡ d + (made_in Outside f + made_all es) = omega (arith, h, next) in
          z ∙ link_seen (λ l. d + made_before l) c.in-Given.is law)
          c.push_calls.ensures.counted;
    }

pub push_before-returns-in-Composed : goal.push_before-returns-in-Composed
push_before-returns-in-Composed t c =
    let d = c.args.made.now in
    let t0 = trees_of c.args.trees.now in
    let t1 = trees_of c.push_value-in-Composed.new.trees in
    let l = link_view c.args.link.now in
    let law = view.composed c.in-Composed.callee c.in-Composed.field-1
    ∙ ap (λ x. chained.Composed (expr_view x) (expr_view c.in-Composed.field-1.value))
    (sym c.deref-in-Composed.ensures) in
    let f = expr_view c.deref-in-Composed.result.now in
    let starts : Expression (value d f) ∷ t0 ≡ before d l t0 = link_seen (λ l. before d l t0) c.in-Composed.is law in
    let sums : d + made_in Outside f ≡ d + made_before l = link_seen (λ l. d + made_before l) c.in-Composed.is law in
    record {
      emitted =
          subst (λ z. OnOk c.push_value-in-Composed.result (t1 ≡ z)) starts c.push_value-in-Composed.ensures.emitted;
      counted =
          subst (λ z. OnOk c.push_value-in-Composed.result (c.push_value-in-Composed.new.made ≡ z)) sums
          c.push_value-in-Composed.ensures.counted;
    }

pub push_before-returns-in-After : goal.push_before-returns-in-After
push_before-returns-in-After t c =
    let d = c.args.made.now in
    let t0 = trees_of c.args.trees.now in
    let l = link_view c.args.link.now in
    let law = view.part_after c.in-After.op c.in-After.parts in
    let op = op_view c.in-After.op in
    let items = map expr_view c.in-After.parts.items in
    let xs = placed NoItem (values d (exprs_of items)) in
    let many : c.len.result + 1 ≡ suc (length items) =
    omega (arith, length-map c.in-After.parts.items expr_view, c.len.ensures) in
    let starts : with_parts op (suc (length items)) xs t0 ≡ before d l t0 = link_seen (λ l. before d l t0) c.in-After.is law in
    let sums : d + made_all (exprs_of items) ≡ d + made_before l = link_seen (λ l. d + made_before l) c.in-After.is law in
    record {
      emitted =
          subst (λ z. OnOk c.push_parts.result (trees_of c.push_parts.new.trees ≡ z))
          (ap (λ n. with_parts op n xs t0) many ∙ starts) c.push_parts.ensures.emitted;
      counted =
          subst (λ z. OnOk c.push_parts.result (c.push_parts.new.made ≡ z)) sums c.push_parts.ensures.counted;
    }

pub push_before-returns-in-Before : goal.push_before-returns-in-Before
push_before-returns-in-Before t c =
    let d = c.args.made.now in
    let t0 = trees_of c.args.trees.now in
    let l = link_view c.args.link.now in
    let law = view.part_before c.in-Before.op c.in-Before.field-1 in
    let op = op_view c.in-Before.op in
    let starts : with_parts op 2 NoItem t0 ≡ before d l t0 = link_seen (λ l. before d l t0) c.in-Before.is law in
    let sums : d + 0 ≡ d + made_before l = link_seen (λ l. d + made_before l) c.in-Before.is law in
    let none : d ≡ d + 0 = omega arith in
    record {
      emitted =
          subst (λ z. OnOk c.begin_op.result (trees_of c.begin_op.new.trees ≡ z)) starts c.begin_op.ensures;
      counted = always c.begin_op.result (none ∙ sums);
    }

pub push_before-returns-in-Decided : goal.push_before-returns-in-Decided
push_before-returns-in-Decided t c =
    let d = c.args.made.now in
    let t0 = trees_of c.args.trees.now in
    let t1 = trees_of c.push_value-in-Decided.new.trees in
    let l = link_view c.args.link.now in
    let law = view.decided c.in-Decided.field-0 c.in-Decided.field-1 c.in-Decided.left
    ∙ ap (λ x. chained.Decided c.in-Decided.field-0 c.in-Decided.field-1 (expr_view x))
    (sym c.deref-in-Decided.ensures) in
    let f = expr_view c.deref-in-Decided.result.now in
    let starts : Expression (value d f) ∷ t0 ≡ before d l t0 = link_seen (λ l. before d l t0) c.in-Decided.is law in
    let sums : d + made_in Outside f ≡ d + made_before l = link_seen (λ l. d + made_before l) c.in-Decided.is law in
    record {
      emitted =
          subst (λ z. OnOk c.push_value-in-Decided.result (t1 ≡ z)) starts c.push_value-in-Decided.ensures.emitted;
      counted =
          subst (λ z. OnOk c.push_value-in-Decided.result (c.push_value-in-Decided.new.made ≡ z)) sums
          c.push_value-in-Decided.ensures.counted;
    }

pub push_after-returns-in-Given : goal.push_after-returns-in-Given
push_after-returns-in-Given t c =
    let m = c.args.made.now in
    let t0 = trees_of c.args.trees.now in
    let law = view.given c.in-Given.field-0 c.in-Given.field-1 in
    let f = expr_view c.in-Given.field-0.value in
    let es = map expr_view c.in-Given.field-1.items in
    let whole = link_seen (λ l. l) c.in-Given.is law in
    record {
      emitted =
          on_ok_weaker c.push.result
          (λ is. subst (λ l. Adds l t0 (trees_of c.push.new.self) m) whole
          (λ d e ts was h. given_done d f es e ts t0 (trees_of c.push.new.self) was is))
          c.push.ensures.trees;
      counted =
          always c.push.result
          (subst (λ l. AddsMade l m m) whole (λ d e h. h ∙ made_whole d _ _ _ (given_made f es e)));
    }

pub push_after-returns-in_ok-push_value-in-Composed : goal.push_after-returns-in_ok-push_value-in-Composed
push_after-returns-in_ok-push_value-in-Composed t c =
    let m = c.args.made.now in
    let t0 = trees_of c.args.trees.now in
    let law = view.composed c.in-Composed.field-0 c.in-Composed.argument
    ∙ ap (λ x. chained.Composed (expr_view c.in-Composed.field-0.value) (expr_view x)) (sym c.deref.ensures) in
    let f = expr_view c.in-Composed.field-0.value in
    let a = expr_view c.deref.result.now in
    let whole = link_seen (λ l. l) c.in-Composed.is law in
    let last = trees_of c.push-in-Composed-2.new.self in
    let m2 = c.push_value.new.made in
    let more = c.in_ok-push_value-in-Composed.ensures.counted in
    record {
      emitted =
          on_ok_weaker c.push-in-Composed-2.result
          (λ is. subst (λ l. Adds l t0 last m) whole
          (λ d e ts was h. composed_done d m f a e ts t0 (trees_of c.push-in-Composed.new.self)
          (trees_of c.push_value.new.trees) last was h c.in_ok-push-in-Composed.ensures.trees
          c.in_ok-push_value-in-Composed.ensures.emitted is))
          c.push-in-Composed-2.ensures.trees;
      counted =
          always c.push-in-Composed-2.result
          (subst (λ l. AddsMade l m m2) whole (λ d e h. made_more d m m2 _ _ _ _ (composed_made f a e) h more));
    }

pub push_after-returns-in_ok-add_part-in-After : goal.push_after-returns-in_ok-add_part-in-After
push_after-returns-in_ok-add_part-in-After t c =
    let m = c.args.made.now in
    let t0 = trees_of c.args.trees.now in
    let law = view.part_after c.in-After.op c.in-After.parts in
    let op = op_view c.in-After.op in
    let es = map expr_view c.in-After.parts.items in
    let whole = link_seen (λ l. l) c.in-After.is law in
    let last = trees_of c.end_op.new.trees in
    let index = c.len-index.result in
    let many : index ≡ length es = omega (arith, length-map c.in-After.parts.items expr_view, c.len-index.ensures) in
    let count : index + 1 ≡ suc (length es) = omega (arith, many) in
    record {
      emitted =
          on_ok_weaker c.end_op.result
          (λ is. subst (λ l. Adds l t0 last m) whole
          (λ d e ts was h.
          let xs = placed NoItem (values d (exprs_of es)) in
          let x = value (d + made_all (exprs_of es)) e in
          let n1 : count_items xs ≡ index = omega (arith, count_values NoItem d es, many) in
          let n2 : count_items (Item xs x) ≡ index + 1 = omega (arith, n1) in
          is (Item xs x) ts n2 (c.in_ok-add_part-in-After.ensures xs x ts n1 (after_done d op es e ts t0 was (index + 1) count))
          ∙ after_whole d op es e ts))
          c.end_op.ensures;
      counted =
          always c.end_op.result
          (subst (λ l. AddsMade l m m) whole (λ d e h. h ∙ made_whole d _ _ _ (after_made op es e)));
    }

pub push_after-returns-in_ok-add_part-in-Before-2 : goal.push_after-returns-in_ok-add_part-in-Before-2
push_after-returns-in_ok-add_part-in-Before-2 t c =
    let m = c.args.made.now in
    let t0 = trees_of c.args.trees.now in
    let law = view.part_before c.in-Before.op c.in-Before.part
    ∙ ap (λ x. chained.Before (op_view c.in-Before.op) (expr_view x)) (sym c.deref-in-Before.ensures) in
    let op = op_view c.in-Before.op in
    let a = expr_view c.deref-in-Before.result.now in
    let whole = link_seen (λ l. l) c.in-Before.is law in
    let last = trees_of c.end_op-in-Before.new.trees in
    let m2 = c.push_value-in-Before.new.made in
    let more = c.in_ok-push_value-in-Before.ensures.counted in
    record {
      emitted =
          on_ok_weaker c.end_op-in-Before.result
          (λ is. subst (λ l. Adds l t0 last m) whole
          (λ d e ts was h.
          let x = value (d + 0) e in
          let y = value m a in
          is (Item (Item NoItem x) y) ts refl (c.in_ok-add_part-in-Before-2.ensures (Item NoItem x) y ts refl
          (c.in_ok-push_value-in-Before.ensures.emitted ∙ ap (λ u. Expression y ∷ u)
          (c.in_ok-add_part-in-Before.ensures NoItem x ts refl was)))
          ∙ before_done d m op a e ts h))
          c.end_op-in-Before.ensures;
      counted =
          always c.end_op-in-Before.result
          (subst (λ l. AddsMade l m m2) whole (λ d e h. made_more d m m2 _ _ _ _ (before_made op a e) h more));
    }

pub push_after-returns-in-Decided : goal.push_after-returns-in-Decided
push_after-returns-in-Decided t c =
    let m = c.args.made.now in
    let t0 = trees_of c.args.trees.now in
    let law = view.decided c.in-Decided.field-0 c.in-Decided.connective c.in-Decided.field-2 in
    let a = expr_view c.in-Decided.field-2.value in
    let whole = link_seen (λ l. l) c.in-Decided.is law in
    let last = trees_of c.push-in-Decided.new.self in
    record {
      emitted =
          on_ok_weaker c.push-in-Decided.result
          (λ is. subst (λ l. Adds l t0 last m) whole
          (λ d e ts was h. decided_done d c.in-Decided.field-0 c.in-Decided.connective c.js_connective.result a e ts t0
          last was c.js_connective.ensures is))
          c.push-in-Decided.ensures.trees;
      counted =
          always c.push-in-Decided.result (subst (λ l. AddsMade l m m) whole (λ d e h. made_joined d m (made_in Outside a) (made_in Outside e) h));
    }

pub push_before_all-loop-left-preserved : goal.push_before_all-loop-left-preserved
push_before_all-loop-left-preserved t c =
    let links = c.args.links.now in
    let d = c.args.made.now in
    let t0 = trees_of c.args.trees.now in
    let left = c.loop-left.left in
    let link = c.index-links-left.result in
    let here = c.loop-left.invariant in
    let rest = map link_view (drop left links) in
    let l = link_view link in
    let one : left - 1 + 1 ≡ left = omega (arith, c.loop-left-test.true) in
    let next : map link_view (drop (left - 1) links) ≡ l ∷ rest =
    drop_next link_view links (left - 1) link (omega (arith, c.loop-left-test.true, here.few)) c.index-links-left.is
    ∙ ap (λ n. l ∷ map link_view (drop n links)) one in
    let all : made_before_all (map link_view (drop (left - 1) links)) ≡ made_before_all rest + made_before l =
    ap made_before_all next in
    record {
      few = omega (arith, here.few);
      emitted =
          c.in_ok-push_before.ensures.emitted ∙ ap (λ n. before n l (trees_of c.loop-left.trees)) here.counted
          ∙ ap (before (d + made_before_all rest) l) here.emitted ∙ sym (ap (λ ls. before_all d ls t0) next);
      counted = omega (arith, c.in_ok-push_before.ensures.counted, here.counted, all);
    }

pub push_after_all-loop-link-preserved : goal.push_after_all-loop-link-preserved
push_after_all-loop-link-preserved t c =
    let links = c.args.links.now in
    let i = c.loop-link.link-index in
    let link = c.link-item.result in
    let l = link_view link in
    let here = c.loop-link.invariant in
    let rest = map link_view (drop (i + 1) links) in
    let seen = map link_view (take i links) in
    let split = drop_next link_view links i link (omega arith) c.link-item.is in
    let next = seen_next link_view links i link (omega arith) c.link-item.is in
    let made = λ (d : ℕ) (e : Expr) (h : c.args.made.now ≡ d + made_before_all (map link_view links) + made_in Outside e).
    here.counted d e h ∙ ap (λ r. d + made_before_all r + made_in Outside (linked e seen)) split
    ∙ ap (λ n. n + made_in Outside (linked e seen)) (made_assoc d l rest) in
    record {
      emitted = λ d e ts was h.
          c.in_ok-push_after.ensures.emitted (d + made_before_all rest) (linked e seen) (before_all d rest ts)
          (rest_split d (linked e seen) l rest (map link_view (drop i links)) ts (trees_of c.loop-link.trees) split
          (here.emitted d e ts was h))
          (made d e h)
          ∙ ap (λ y. Expression (value (d + made_before_all rest) y) ∷ before_all d rest ts)
          (sym (ap (linked e) next ∙ linked_last e seen l));
      counted = λ d e h.
          c.in_ok-push_after.ensures.counted (d + made_before_all rest) (linked e seen) (made d e h)
          ∙ ap (λ y. d + made_before_all rest + made_in Outside y) (sym (ap (linked e) next ∙ linked_last e seen l));
    }

pub push_after_all-returns : goal.push_after_all-returns
push_after_all-returns t c =
    let links = c.args.links.now in
    let i = c.loop-link.link-index in
    let here = c.loop-link.invariant in
    let all : take i links ≡ links = seen_all i links (omega arith) in
    let none : drop i links ≡ [] = drop_all i links (omega arith) in
    record {
      emitted = λ d e ts was h.
          let z : d + 0 ≡ d = omega arith in
          here.emitted d e ts was h
          ∙ ap (λ r. Expression (value (d + made_before_all (map link_view r)) (linked e (map link_view (take i links))))
          ∷ before_all d (map link_view r) ts) none
          ∙ ap (λ n. Expression (value n (linked e (map link_view (take i links)))) ∷ ts) z
          ∙ ap (λ ls. Expression (value d (linked e (map link_view ls))) ∷ ts) all;
      counted = λ d e h.
          let z : d + 0 ≡ d = omega arith in
          here.counted d e h
          ∙ ap (λ r. d + made_before_all (map link_view r) + made_in Outside (linked e (map link_view (take i links)))) none
          ∙ ap (λ n. n + made_in Outside (linked e (map link_view (take i links)))) z
          ∙ ap (λ ls. d + made_in Outside (linked e (map link_view ls))) all;
    }

pub push_parts-loop-index-preserved : goal.push_parts-loop-index-preserved
push_parts-loop-index-preserved t c =
    let d = c.args.made.now in
    let t0 = trees_of c.args.trees.now in
    let op = op_view c.args.op.now in
    let i = c.loop-index.index in
    let item = c.part-item.result in
    let e = expr_view item in
    let items = c.deref-part-items.result.now in
    let same = c.deref-part-items.ensures.value in
    let es = map expr_view (take i c.args.parts.now.items) in
    let m = c.loop-index.made in
    let here = c.loop-index.invariant in
    let next : map expr_view (take (i + 1) c.args.parts.now.items) ≡ es ++ e ∷ [] =
    ap (λ l. map expr_view (take (i + 1) l)) (sym same)
    ∙ seen_next expr_view items i item (omega arith) c.part-item.is ∙ ap (λ l. map expr_view (take i l) ++ e ∷ []) same in
    let xs = placed NoItem (values d (exprs_of es)) in
    let few : length es ≡ i =
    omega (arith, length-map (take i c.args.parts.now.items) expr_view, length-take i c.args.parts.now.items, ap length same) in
    let many : count_items xs ≡ i = omega (arith, count_values NoItem d es, few) in
    record {
      emitted =
          c.in_ok-add_part.ensures xs (value m e) t0 many
          (c.in_ok-push_value.ensures.emitted ∙ ap (λ u. Expression (value m e) ∷ u) here.emitted)
          ∙ ap (λ n. with_parts op c.args.count (Item xs (value n e)) t0) here.counted
          ∙ ap (λ b. with_parts op c.args.count b t0) (sym (values_next NoItem d es e))
          ∙ ap (λ l. with_parts op c.args.count (placed NoItem (values d (exprs_of l))) t0) (sym next);
      counted =
          let all : made_all (exprs_of (map expr_view (take (i + 1) c.args.parts.now.items))) ≡ made_all (exprs_of es) + made_in Outside e =
          ap (λ l. made_all (exprs_of l)) next ∙ made_all_next es e in
          omega (arith, c.in_ok-push_value.ensures.counted, here.counted, all);
    }

pub push_parts-returns : goal.push_parts-returns
push_parts-returns t c =
    let d = c.args.made.now in
    let t0 = trees_of c.args.trees.now in
    let op = op_view c.args.op.now in
    let items = c.args.parts.now.items in
    let here = c.loop-index.invariant in
    let all : take c.loop-index.index items ≡ items =
    seen_all c.loop-index.index items (omega (arith, ap length c.deref-part-items.ensures.value)) in
    record {
      emitted =
          here.emitted
          ∙ ap (λ l. with_parts op c.args.count (placed NoItem (values d (exprs_of (map expr_view l)))) t0) all;
      counted = here.counted ∙ ap (λ l. d + made_all (exprs_of (map expr_view l))) all;
    }

pub push_constants-loop-argument-preserved : goal.push_constants-loop-argument-preserved
push_constants-loop-argument-preserved t c =
    let items = c.deref-argument-items.result.now in
    let i = c.loop-argument.argument-index in
    let item = c.argument-item.result in
    let e = expr_view item in
    let here = c.loop-argument.invariant in
    let b = statements (top (trees_of c.loop-argument.trees)) in
    let m = c.loop-argument.made in
    let number = c.in_ok-number.number in
    let m1 = c.next_made.new.made in
    let m2 = c.push_value.new.made in
    let n = c.loop-argument.numbers.items in
    let n2 = c.keep_value.new.numbers.items in
    let split = drop_next expr_view items i item (omega arith) c.argument-item.is in
    let next = seen_next expr_view items i item (omega arith) c.argument-item.is in
    let kept = λ (before : Before) (ts : List Tree) (was : trees_of c.args.trees.now ≡ StatementsOf before ∷ ts).
    c.in_ok-keep_value.ensures.constant (value m1 e) b ts
    (c.in_ok-push_value.ensures.emitted ∙ ap (λ u. Expression (value m1 e) ∷ u) (here.kind before ts was)) in
    record {
      kind = λ before ts was.
          kept before ts was ∙ sym (ap (λ u. StatementsOf (statements (top u)) ∷ ts) (kept before ts was));
      emitted = λ rs rest before ts few was.
          let left = exprs_of (map expr_view (drop (i + 1) items) ++ rest) in
          let lt : length n < length rs = omega (arith, few, here.numbers) in
          ap (λ u. statements_then (statements (top u)) (go_round m2 left (drop (length n2) rs) (pairs rs n2))) (kept before ts was)
          ∙ turn_step b m number m1 m2 e left rs n n2 lt c.in_ok-number.ensures.number c.in_ok-number.ensures.counted
          c.in_ok-push_value.ensures.counted c.in_ok-keep_value.ensures.numbers
          ∙ sym (ap (λ l. statements_then b (go_round m (exprs_of (l ++ rest)) (drop (length n) rs) (pairs rs n))) split)
          ∙ here.emitted rs rest before ts few was;
      counted =
          let all : made_round (exprs_of (map expr_view (take (i + 1) items)))
          ≡ made_round (exprs_of (map expr_view (take i items))) + suc (made_in Outside e) =
          ap (λ l. made_round (exprs_of l)) next ∙ made_round_next (map expr_view (take i items)) e in
          omega (arith, c.in_ok-number.ensures.counted, c.in_ok-push_value.ensures.counted, here.counted, all);
      numbers =
          let one : length n2 ≡ length n + 1 =
          ap length c.in_ok-keep_value.ensures.numbers ∙ length-append n (number ∷ []) in
          omega (arith, one, here.numbers);
    }

pub push_constants-returns : goal.push_constants-returns
push_constants-returns t c =
    let items = c.deref-argument-items.result.now in
    let i = c.loop-argument.argument-index in
    let here = c.loop-argument.invariant in
    let same = c.deref-argument-items.ensures.value in
    let all : take i items ≡ c.args.arguments.now.items = seen_all i items (omega arith) ∙ same in
    let none : drop i items ≡ [] = drop_all i items (omega arith) in
    let b = statements (top (trees_of c.loop-argument.trees)) in
    let m = c.loop-argument.made in
    let n = c.loop-argument.numbers.items in
    record {
      kind = here.kind;
      emitted = λ rs rest before ts few was.
          sym (ap (λ l. statements_then b (go_round m (exprs_of (map expr_view l ++ rest)) (drop (length n) rs) (pairs rs n))) none)
          ∙ here.emitted rs rest before ts (subst (λ l. length c.args.numbers.now.items + length l ≤ length rs) (sym same) few) was
          ∙ ap (λ l. statements_then before (go_round c.args.made.now (exprs_of (map expr_view l ++ rest))
          (drop (length c.args.numbers.now.items) rs) (pairs rs c.args.numbers.now.items))) same;
      counted = here.counted ∙ ap (λ l. c.args.made.now + made_round (exprs_of (map expr_view l))) all;
      numbers =
          let many : length items ≡ length c.args.arguments.now.items = ap length same in
          omega (arith, here.numbers, many);
    }

pub begin_turn-returns-in_ok-push_constants-in-Given-clause-emitted : goal.begin_turn-returns-in_ok-push_constants-in-Given-clause-emitted
begin_turn-returns-in_ok-push_constants-in-Given-clause-emitted t c =
    let d = c.args.made.now in
    let t0 = trees_of c.args.trees.now in
    let l = link_view c.args.link.now in
    let law = view.given c.in-Given.field-0 c.in-Given.arguments in
    let items = c.in-Given.arguments.items in
    let es = map expr_view items in
    let n0 = c.args.numbers.now.items in
    let n1 = c.push_constants.new.numbers.items in
    let b = statements (top (trees_of c.push_constants.new.trees)) in
    let before : turn_before l ≡ es = sym (link_seen turn_before c.in-Given.is law) in
    let after : turn_after l ≡ [] = sym (link_seen turn_after c.in-Given.is law) in
    IfOk-weaker c.next_made.result _ _
    (λ n is rs y few.
    let few2 : length n0 + length items ≤ length rs = omega (arith, few, ap length before, length-map items expr_view) in
    ap (λ k. statements_then b (go_round k (exprs_of (y ∷ turn_after l)) (drop (length n1) rs) (pairs rs n1))) is
    ∙ ap (λ q. statements_then b (go_round c.push_constants.new.made (exprs_of (y ∷ q)) (drop (length n1) rs) (pairs rs n1))) after
    ∙ c.in_ok-push_constants-in-Given.ensures.emitted rs (y ∷ []) NoStatement t0 few2 c.in_ok-push.ensures.trees
    ∙ ap (λ q. go_round d (exprs_of (es ++ y ∷ q)) (drop (length n0) rs) (pairs rs n0)) (sym after)
    ∙ ap (λ q. go_round d (exprs_of (q ++ y ∷ turn_after l)) (drop (length n0) rs) (pairs rs n0)) (sym before))
    c.next_made.ensures.number

pub begin_turn-returns-in_ok-push_constants-in-Given-clause-number : goal.begin_turn-returns-in_ok-push_constants-in-Given-clause-number
begin_turn-returns-in_ok-push_constants-in-Given-clause-number t c =
    let d = c.args.made.now in
    let law = view.given c.in-Given.field-0 c.in-Given.arguments in
    let before = sym (link_seen turn_before c.in-Given.is law) in
    IfOk-weaker c.next_made.result _ _
    (λ n is. is ∙ c.in_ok-push_constants-in-Given.ensures.counted ∙ ap (λ b. d + made_round (exprs_of b)) (sym before))
    c.next_made.ensures.number

pub begin_turn-returns-in_ok-push_constants-in-Given-clause-numbers : goal.begin_turn-returns-in_ok-push_constants-in-Given-clause-numbers
begin_turn-returns-in_ok-push_constants-in-Given-clause-numbers t c =
    let law = view.given c.in-Given.field-0 c.in-Given.arguments in
    let items = c.in-Given.arguments.items in
    let before : turn_before (link_view c.args.link.now) ≡ map expr_view items = sym (link_seen turn_before c.in-Given.is law) in
    always c.next_made.result
    (omega (arith, c.in_ok-push_constants-in-Given.ensures.numbers, ap length before, length-map items expr_view))

pub begin_turn-returns-in-Composed-clause-emitted : goal.begin_turn-returns-in-Composed-clause-emitted
begin_turn-returns-in-Composed-clause-emitted t c =
    let d = c.args.made.now in
    let l = link_view c.args.link.now in
    let ns = c.args.numbers.now.items in
    let before : turn_before l ≡ [] = sym (link_seen turn_before c.in-Composed.is (view.composed c.in-Composed.field-0 c.in-Composed.field-1)) in
    IfOk-weaker c.next_made-in-Composed.result _ _
    (λ n is rs y few.
    ap (λ u. statements_then (statements (top u)) (go_round n (exprs_of (y ∷ turn_after l)) (drop (length ns) rs) (pairs rs ns)))
    c.in_ok-push.ensures.trees
    ∙ ap (λ k. go_round k (exprs_of (y ∷ turn_after l)) (drop (length ns) rs) (pairs rs ns)) is
    ∙ ap (λ b. go_round d (exprs_of (b ++ y ∷ turn_after l)) (drop (length ns) rs) (pairs rs ns)) (sym before))
    c.next_made-in-Composed.ensures.number

pub begin_turn-returns-in-Composed-clause-number : goal.begin_turn-returns-in-Composed-clause-number
begin_turn-returns-in-Composed-clause-number t c =
    let d = c.args.made.now in
    let before : turn_before (link_view c.args.link.now) ≡ [] = sym (link_seen turn_before c.in-Composed.is (view.composed c.in-Composed.field-0 c.in-Composed.field-1)) in
    let none : d ≡ d + 0 = omega arith in
    IfOk-weaker c.next_made-in-Composed.result _ _
    (λ n is. is ∙ none ∙ ap (λ b. d + made_round (exprs_of b)) (sym before)) c.next_made-in-Composed.ensures.number

pub begin_turn-returns-in-Composed-clause-numbers : goal.begin_turn-returns-in-Composed-clause-numbers
begin_turn-returns-in-Composed-clause-numbers t c =
    let ns = c.args.numbers.now.items in
    let before : turn_before (link_view c.args.link.now) ≡ [] = sym (link_seen turn_before c.in-Composed.is (view.composed c.in-Composed.field-0 c.in-Composed.field-1)) in
    let none : length ns ≡ length ns + 0 = omega arith in
    always c.next_made-in-Composed.result (none ∙ ap (λ b. length ns + length b) (sym before))

pub begin_turn-returns-in-After-clause-emitted : goal.begin_turn-returns-in-After-clause-emitted
begin_turn-returns-in-After-clause-emitted t c =
    let d = c.args.made.now in
    let l = link_view c.args.link.now in
    let ns = c.args.numbers.now.items in
    let before : turn_before l ≡ [] = sym (link_seen turn_before c.in-After.is (view.part_after c.in-After.field-0 c.in-After.field-1)) in
    IfOk-weaker c.next_made-in-After.result _ _
    (λ n is rs y few.
    ap (λ u. statements_then (statements (top u)) (go_round n (exprs_of (y ∷ turn_after l)) (drop (length ns) rs) (pairs rs ns)))
    c.in_ok-push.ensures.trees
    ∙ ap (λ k. go_round k (exprs_of (y ∷ turn_after l)) (drop (length ns) rs) (pairs rs ns)) is
    ∙ ap (λ b. go_round d (exprs_of (b ++ y ∷ turn_after l)) (drop (length ns) rs) (pairs rs ns)) (sym before))
    c.next_made-in-After.ensures.number

pub begin_turn-returns-in-After-clause-number : goal.begin_turn-returns-in-After-clause-number
begin_turn-returns-in-After-clause-number t c =
    let d = c.args.made.now in
    let before : turn_before (link_view c.args.link.now) ≡ [] = sym (link_seen turn_before c.in-After.is (view.part_after c.in-After.field-0 c.in-After.field-1)) in
    let none : d ≡ d + 0 = omega arith in
    IfOk-weaker c.next_made-in-After.result _ _
    (λ n is. is ∙ none ∙ ap (λ b. d + made_round (exprs_of b)) (sym before)) c.next_made-in-After.ensures.number

pub begin_turn-returns-in-After-clause-numbers : goal.begin_turn-returns-in-After-clause-numbers
begin_turn-returns-in-After-clause-numbers t c =
    let ns = c.args.numbers.now.items in
    let before : turn_before (link_view c.args.link.now) ≡ [] = sym (link_seen turn_before c.in-After.is (view.part_after c.in-After.field-0 c.in-After.field-1)) in
    let none : length ns ≡ length ns + 0 = omega arith in
    always c.next_made-in-After.result (none ∙ ap (λ b. length ns + length b) (sym before))

pub begin_turn-returns-in-Before-clause-emitted : goal.begin_turn-returns-in-Before-clause-emitted
begin_turn-returns-in-Before-clause-emitted t c =
    let d = c.args.made.now in
    let l = link_view c.args.link.now in
    let ns = c.args.numbers.now.items in
    let before : turn_before l ≡ [] = sym (link_seen turn_before c.in-Before.is (view.part_before c.in-Before.field-0 c.in-Before.field-1)) in
    IfOk-weaker c.next_made-in-Before.result _ _
    (λ n is rs y few.
    ap (λ u. statements_then (statements (top u)) (go_round n (exprs_of (y ∷ turn_after l)) (drop (length ns) rs) (pairs rs ns)))
    c.in_ok-push.ensures.trees
    ∙ ap (λ k. go_round k (exprs_of (y ∷ turn_after l)) (drop (length ns) rs) (pairs rs ns)) is
    ∙ ap (λ b. go_round d (exprs_of (b ++ y ∷ turn_after l)) (drop (length ns) rs) (pairs rs ns)) (sym before))
    c.next_made-in-Before.ensures.number

pub begin_turn-returns-in-Before-clause-number : goal.begin_turn-returns-in-Before-clause-number
begin_turn-returns-in-Before-clause-number t c =
    let d = c.args.made.now in
    let before : turn_before (link_view c.args.link.now) ≡ [] = sym (link_seen turn_before c.in-Before.is (view.part_before c.in-Before.field-0 c.in-Before.field-1)) in
    let none : d ≡ d + 0 = omega arith in
    IfOk-weaker c.next_made-in-Before.result _ _
    (λ n is. is ∙ none ∙ ap (λ b. d + made_round (exprs_of b)) (sym before)) c.next_made-in-Before.ensures.number

pub begin_turn-returns-in-Before-clause-numbers : goal.begin_turn-returns-in-Before-clause-numbers
begin_turn-returns-in-Before-clause-numbers t c =
    let ns = c.args.numbers.now.items in
    let before : turn_before (link_view c.args.link.now) ≡ [] = sym (link_seen turn_before c.in-Before.is (view.part_before c.in-Before.field-0 c.in-Before.field-1)) in
    let none : length ns ≡ length ns + 0 = omega arith in
    always c.next_made-in-Before.result (none ∙ ap (λ b. length ns + length b) (sym before))

pub begin_turn-returns-in-Decided-clause-emitted : goal.begin_turn-returns-in-Decided-clause-emitted
begin_turn-returns-in-Decided-clause-emitted t c =
    let d = c.args.made.now in
    let l = link_view c.args.link.now in
    let ns = c.args.numbers.now.items in
    let before : turn_before l ≡ [] = sym (link_seen turn_before c.in-Decided.is (view.decided c.in-Decided.field-0 c.in-Decided.field-1 c.in-Decided.field-2)) in
    IfOk-weaker c.next_made-in-Decided.result _ _
    (λ n is rs y few.
    ap (λ u. statements_then (statements (top u)) (go_round n (exprs_of (y ∷ turn_after l)) (drop (length ns) rs) (pairs rs ns)))
    c.in_ok-push.ensures.trees
    ∙ ap (λ k. go_round k (exprs_of (y ∷ turn_after l)) (drop (length ns) rs) (pairs rs ns)) is
    ∙ ap (λ b. go_round d (exprs_of (b ++ y ∷ turn_after l)) (drop (length ns) rs) (pairs rs ns)) (sym before))
    c.next_made-in-Decided.ensures.number

pub begin_turn-returns-in-Decided-clause-number : goal.begin_turn-returns-in-Decided-clause-number
begin_turn-returns-in-Decided-clause-number t c =
    let d = c.args.made.now in
    let before : turn_before (link_view c.args.link.now) ≡ [] = sym (link_seen turn_before c.in-Decided.is (view.decided c.in-Decided.field-0 c.in-Decided.field-1 c.in-Decided.field-2)) in
    let none : d ≡ d + 0 = omega arith in
    IfOk-weaker c.next_made-in-Decided.result _ _
    (λ n is. is ∙ none ∙ ap (λ b. d + made_round (exprs_of b)) (sym before)) c.next_made-in-Decided.ensures.number

pub begin_turn-returns-in-Decided-clause-numbers : goal.begin_turn-returns-in-Decided-clause-numbers
begin_turn-returns-in-Decided-clause-numbers t c =
    let ns = c.args.numbers.now.items in
    let before : turn_before (link_view c.args.link.now) ≡ [] = sym (link_seen turn_before c.in-Decided.is (view.decided c.in-Decided.field-0 c.in-Decided.field-1 c.in-Decided.field-2)) in
    let none : length ns ≡ length ns + 0 = omega arith in
    always c.next_made-in-Decided.result (none ∙ ap (λ b. length ns + length b) (sym before))

pub finish_turn-returns-in-Given : goal.finish_turn-returns-in-Given
finish_turn-returns-in-Given t c =
    let m = c.args.made.now in
    let l = link_view c.args.link.now in
    let after : turn_after l ≡ [] = sym (link_seen turn_after c.in-Given.is (view.given c.in-Given.field-0 c.in-Given.field-1)) in
    let none : m ≡ m + 0 = omega arith in
    record {
      emitted =
          on_ok_weaker c.end_turn-in-Given.result
          (finish_simple l c.args.number m c.args.numbers.now.items c.keep_value.new.numbers.items
          (variables (loop_view c.args.place.now)) (trees_of c.args.trees.now) (trees_of c.keep_value.new.trees)
          (trees_of c.end_turn-in-Given.new.trees) after c.in_ok-keep_value.ensures.numbers c.in_ok-keep_value.ensures.constant)
          c.end_turn-in-Given.ensures;
      counted = always c.end_turn-in-Given.result (none ∙ ap (λ q. m + made_round (exprs_of q)) (sym after));
    }

pub finish_turn-returns-in-After : goal.finish_turn-returns-in-After
finish_turn-returns-in-After t c =
    let m = c.args.made.now in
    let l = link_view c.args.link.now in
    let after : turn_after l ≡ [] = sym (link_seen turn_after c.in-After.is (view.part_after c.in-After.field-0 c.in-After.field-1)) in
    let none : m ≡ m + 0 = omega arith in
    record {
      emitted =
          on_ok_weaker c.end_turn-in-After.result
          (finish_simple l c.args.number m c.args.numbers.now.items c.keep_value.new.numbers.items
          (variables (loop_view c.args.place.now)) (trees_of c.args.trees.now) (trees_of c.keep_value.new.trees)
          (trees_of c.end_turn-in-After.new.trees) after c.in_ok-keep_value.ensures.numbers c.in_ok-keep_value.ensures.constant)
          c.end_turn-in-After.ensures;
      counted = always c.end_turn-in-After.result (none ∙ ap (λ q. m + made_round (exprs_of q)) (sym after));
    }

pub finish_turn-returns-in-Before : goal.finish_turn-returns-in-Before
finish_turn-returns-in-Before t c =
    let m = c.args.made.now in
    let l = link_view c.args.link.now in
    let after : turn_after l ≡ [] = sym (link_seen turn_after c.in-Before.is (view.part_before c.in-Before.field-0 c.in-Before.field-1)) in
    let none : m ≡ m + 0 = omega arith in
    record {
      emitted =
          on_ok_weaker c.end_turn-in-Before.result
          (finish_simple l c.args.number m c.args.numbers.now.items c.keep_value.new.numbers.items
          (variables (loop_view c.args.place.now)) (trees_of c.args.trees.now) (trees_of c.keep_value.new.trees)
          (trees_of c.end_turn-in-Before.new.trees) after c.in_ok-keep_value.ensures.numbers c.in_ok-keep_value.ensures.constant)
          c.end_turn-in-Before.ensures;
      counted = always c.end_turn-in-Before.result (none ∙ ap (λ q. m + made_round (exprs_of q)) (sym after));
    }

pub finish_turn-returns-in-Decided : goal.finish_turn-returns-in-Decided
finish_turn-returns-in-Decided t c =
    let m = c.args.made.now in
    let l = link_view c.args.link.now in
    let after : turn_after l ≡ [] = sym (link_seen turn_after c.in-Decided.is (view.decided c.in-Decided.field-0 c.in-Decided.field-1 c.in-Decided.field-2)) in
    let none : m ≡ m + 0 = omega arith in
    record {
      emitted =
          on_ok_weaker c.end_turn-in-Decided.result
          (finish_simple l c.args.number m c.args.numbers.now.items c.keep_value.new.numbers.items
          (variables (loop_view c.args.place.now)) (trees_of c.args.trees.now) (trees_of c.keep_value.new.trees)
          (trees_of c.end_turn-in-Decided.new.trees) after c.in_ok-keep_value.ensures.numbers c.in_ok-keep_value.ensures.constant)
          c.end_turn-in-Decided.ensures;
      counted = always c.end_turn-in-Decided.result (none ∙ ap (λ q. m + made_round (exprs_of q)) (sym after));
    }

pub finish_turn-returns-in_ok-keep_value-in-Composed : goal.finish_turn-returns-in_ok-keep_value-in-Composed
finish_turn-returns-in_ok-keep_value-in-Composed t c =
    let m = c.args.made.now in
    let l = link_view c.args.link.now in
    let a = expr_view c.deref.result.now in
    let after : turn_after l ≡ a ∷ [] =
    sym (link_seen turn_after c.in-Composed.is (view.composed c.in-Composed.field-0 c.in-Composed.argument
    ∙ ap (λ x. chained.Composed (expr_view c.in-Composed.field-0.value) (expr_view x)) (sym c.deref.ensures))) in
    record {
      emitted =
          on_ok_weaker c.end_turn.result
          (finish_composed l a c.args.number m c.in_ok-next-in-Composed.next c.next_made.new.made c.args.numbers.now.items
          c.keep_value.new.numbers.items c.keep_value-in-Composed.new.numbers.items (variables (loop_view c.args.place.now))
          (trees_of c.args.trees.now) (trees_of c.keep_value.new.trees) (trees_of c.push_value.new.trees)
          (trees_of c.keep_value-in-Composed.new.trees) (trees_of c.end_turn.new.trees) after
          c.in_ok-keep_value.ensures.numbers c.in_ok-next-in-Composed.ensures.number c.in_ok-next-in-Composed.ensures.counted
          c.in_ok-keep_value-in-Composed.ensures.numbers c.in_ok-keep_value.ensures.constant
          c.in_ok-push_value-in-Composed.ensures.emitted c.in_ok-keep_value-in-Composed.ensures.constant)
          c.end_turn.ensures;
      counted =
          let all : c.push_value.new.made ≡ m + suc (made_in Outside a + 0) =
          omega (arith, c.in_ok-push_value-in-Composed.ensures.counted, c.in_ok-next-in-Composed.ensures.counted) in
          always c.end_turn.result (all ∙ ap (λ q. m + made_round (exprs_of q)) (sym after));
    }

pub push_group-returns-after-loop-function : goal.push_group-returns-after-loop-function
push_group-returns-after-loop-function t c =
    let items = c.deref-function-items.result.now in
    let d = c.args.made.now in
    let all : take c.loop-function.function-index items ≡ c.in-Together.functions.items =
    seen_all c.loop-function.function-index items (omega arith) ∙ c.deref-function-items.ensures.value in
    let here = c.loop-function.invariant in
    let whole = ap group_view c.in-Together.is ∙ view.together c.in-Together.functions in
    record {
      grown =
          grown_same
          (λ s. ap (λ l. functions d (functions_of (map function_view l)) s) all ∙ ap (λ g. group d g s) (sym whole)) here.grown;
      counted =
          here.counted ∙ ap (λ l. d + made_functions (functions_of (map function_view l))) all
          ∙ ap (λ g. d + made_group g) (sym whole);
    }

pub push_group-returns-in_ok-js_name-in-Constant : goal.push_group-returns-in_ok-js_name-in-Constant
push_group-returns-in_ok-js_name-in-Constant t c =
    let d = c.args.made.now in
    let t0 = trees_of c.args.trees.now in
    let e = expr_view c.deref.result.now in
    let whole = ap group_view c.in-Constant.is ∙ view.constant c.in-Constant.title c.in-Constant.value
    ∙ ap (λ x. plain.Constant (title_view c.in-Constant.title) (expr_view x)) (sym c.deref.ensures) in
    let x = output.name_view c.in_ok-js_name-in-Constant.field-0 in
    let named : x ≡ js_name c.in-Constant.title.name = c.in_ok-js_name-in-Constant.ensures in
    record {
      grown =
          on_ok_weaker c.push-in-Constant.result
          (λ is. grown_same (λ s. ap (λ n. Const n (value d e) s) named ∙ ap (λ g. group d g s) (sym whole))
          (const_grown t0 (trees_of c.push-in-Constant.new.self) x (value d e)
          (λ before ts was. is ∙ ap (apply (node.Node.Const c.in_ok-js_name-in-Constant.field-0))
          (c.in_ok-push_value-in-Constant.ensures.emitted ∙ ap (λ u. Expression (value d e) ∷ u) was))))
          c.push-in-Constant.ensures.trees;
      counted =
          always c.push-in-Constant.result
          (c.in_ok-push_value-in-Constant.ensures.counted ∙ ap (λ g. d + made_group g) (sym whole));
    }

pub push_group-returns-in_ok-push-in-Destructure : goal.push_group-returns-in_ok-push-in-Destructure
push_group-returns-in_ok-push-in-Destructure t c =
    let d = c.args.made.now in
    let t0 = trees_of c.args.trees.now in
    let p = pattern_view c.in-Destructure.pattern in
    let e = expr_view c.deref-in-Destructure.result.now in
    let whole = ap group_view c.in-Destructure.is ∙ view.destructure c.in-Destructure.pattern c.in-Destructure.value
    ∙ ap (λ x. plain.Destructure (pattern_view c.in-Destructure.pattern) (expr_view x))
    (sym c.deref-in-Destructure.ensures) in
    let number = c.in_ok-number-in-Destructure.number in
    let m1 = c.next_made.new.made in
    let t2 = trees_of c.push-in-Destructure.new.self in
    let kept = λ (before : Before) (ts : List Tree) (was : t0 ≡ StatementsOf before ∷ ts).
    c.in_ok-push-in-Destructure.ensures.trees
    ∙ ap (apply (node.Node.Const (name.Name.Made number))) (c.in_ok-push_value-in-Destructure.ensures.emitted
    ∙ ap (λ u. Expression (value m1 e) ∷ u) was) in
    record {
      grown =
          both_ok c.push_consts.result
          (λ kind more. grown_same
          (λ s. ap (λ n. Const (Made n) (value m1 e) (consts p (JVar (Made n)) s)) c.in_ok-number-in-Destructure.ensures.number
          ∙ ap (λ n. Const (Made d) (value n e) (consts p (JVar (Made d)) s)) c.in_ok-number-in-Destructure.ensures.counted
          ∙ ap (λ g. group d g s) (sym whole))
          (record {
            kind = λ before ts was.
                kind ∙ ap (λ u. StatementsOf (statements (top (trees_of c.push_consts.new.trees))) ∷ below u) (kept before ts was);
            grown = λ before ts was s.
                more s ∙ ap (λ u. statements_then (statements (top u)) (consts p (JVar (Made number)) s)) (kept before ts was);
          }))
          c.push_consts.ensures.kind c.push_consts.ensures.consts;
      counted =
          let all : c.push_value-in-Destructure.new.made ≡ d + suc (made_in Outside e) =
          omega (arith, c.in_ok-push_value-in-Destructure.ensures.counted, c.in_ok-number-in-Destructure.ensures.counted) in
          always c.push_consts.result (all ∙ ap (λ g. d + made_group g) (sym whole));
    }

-- ---- in return position

pub push_block-returns-in_ok-push_literal-in-Literal : goal.push_block-returns-in_ok-push_literal-in-Literal
push_block-returns-in_ok-push_literal-in-Literal t c =
    let law = view.literal c.in-Literal.literal in
    let d = c.args.made.now in
    let place = loop_view c.args.place.now in
    record {
      emitted =
          shown_block c.push.result d place _ _ c.in-Literal.is law
          (on_ok_weaker c.push.result (λ is. is ∙ ap (apply node.Node.Return) c.in_ok-push_literal-in-Literal.ensures) c.push.ensures.trees);
      counted = counts_block c.push.result d _ place c.in-Literal.is law (always c.push.result (omega arith));
    }

pub push_block-returns-in_ok-push_name-in-Name : goal.push_block-returns-in_ok-push_name-in-Name
push_block-returns-in_ok-push_name-in-Name t c =
    let law = view.name c.in-Name.name in
    let d = c.args.made.now in
    let place = loop_view c.args.place.now in
    record {
      emitted =
          shown_block c.push-in-Name.result d place _ _ c.in-Name.is law
          (on_ok_weaker c.push-in-Name.result (λ is. is ∙ ap (apply node.Node.Return) c.in_ok-push_name-in-Name.ensures)
          c.push-in-Name.ensures.trees);
      counted = counts_block c.push-in-Name.result d _ place c.in-Name.is law (always c.push-in-Name.result (omega arith));
    }

pub push_block-returns-in_ok-push_accessor-in-Accessor : goal.push_block-returns-in_ok-push_accessor-in-Accessor
push_block-returns-in_ok-push_accessor-in-Accessor t c =
    let law = view.accessor c.in-Accessor.field in
    let k = c.in-Accessor.field in
    let d = c.args.made.now in
    let t0 = trees_of c.args.trees.now in
    let place = loop_view c.args.place.now in
    record {
      emitted =
          shown_block c.push-in-Accessor.result d place _ _ c.in-Accessor.is law
          (on_ok_weaker c.push-in-Accessor.result
          (λ is. is ∙ ap (apply node.Node.Return) c.in_ok-push_accessor-in-Accessor.ensures
          ∙ ap (λ n. BlockOf (Return (JArrow (Made n) (Return (JProperty (JVar (Made n)) k)))) ∷ t0) c.in_ok-number-in-Accessor.ensures.number)
          c.push-in-Accessor.ensures.trees);
      counted =
          counts_block c.push-in-Accessor.result d _ place c.in-Accessor.is law
          (always c.push-in-Accessor.result (omega (arith, c.in_ok-number-in-Accessor.ensures.counted)));
    }

pub push_block-returns-then-len-eq0 : goal.push_block-returns-then-len-eq0
push_block-returns-then-len-eq0 t c =
    let law = view.lambda c.in-Lambda.parameters c.in-Lambda.body in
    let d = c.args.made.now in
    let t0 = trees_of c.args.trees.now in
    let place = loop_view c.args.place.now in
    let e = expr_view c.in-Lambda.body.value in
    let items = c.in-Lambda.parameters.items in
    let none : items ≡ [] = nil_from_length items (omega (arith, c.len.ensures, c.if-len-eq0.true)) in
    let z : d ≡ d + 0 = omega arith in
    let k : made_in Outside e ≡ 0 + made_in Outside e = omega arith in
    record {
      emitted =
          shown_block c.push_block.result d place _ _ c.in-Lambda.is law
          (on_ok_weaker c.push_block.result
          (λ h. h ∙ ap (λ b. BlockOf (emit d Outside (expr_view b)) ∷ t0) c.deref.ensures
          ∙ ap (λ n. BlockOf (emit n Outside e) ∷ t0) z
          ∙ ap (λ q. BlockOf (arrows d (patterns_view q) (emit (d + made_for (patterns_view q)) Outside e)) ∷ t0) (sym none))
          c.push_block.ensures.emitted);
      counted =
          counts_block c.push_block.result d _ place c.in-Lambda.is law
          (on_ok_weaker c.push_block.result
          (λ h. h ∙ ap (λ b. d + made_in Outside (expr_view b)) c.deref.ensures ∙ ap (λ n. d + n) k
          ∙ ap (λ q. d + (made_for (patterns_view q) + made_in Outside e)) (sym none))
          c.push_block.ensures.counted);
    }

pub push_block-returns-in_ok-push_arrows-in-Lambda : goal.push_block-returns-in_ok-push_arrows-in-Lambda
push_block-returns-in_ok-push_arrows-in-Lambda t c =
    let law = view.lambda c.in-Lambda.parameters c.in-Lambda.body in
    let d = c.args.made.now in
    let t0 = trees_of c.args.trees.now in
    let place = loop_view c.args.place.now in
    let e = expr_view c.in-Lambda.body.value in
    let items = c.in-Lambda.parameters.items in
    let ps = patterns_view items in
    let s = emit (d + made_for ps) Outside e in
    let made : c.push_arrows.new.made ≡ d + (made_for ps + made_in Outside e) =
    c.in_ok-push_arrows-in-Lambda.ensures.counted ∙ ap (λ b. d + (made_for ps + made_in Outside (expr_view b))) c.deref-else-len-eq0.ensures in
    record {
      emitted =
          shown_block c.push-else-len-eq0.result d place _ _ c.in-Lambda.is law
          (on_ok_weaker c.push-else-len-eq0.result
          (λ is. is ∙ ap (apply node.Node.Return) (c.in_ok-push_arrows-in-Lambda.ensures.emitted
          ∙ ap (λ b. Expression (now (arrows d ps (emit (d + made_for ps) Outside (expr_view b)))) ∷ t0) c.deref-else-len-eq0.ensures)
          ∙ ap (λ x. BlockOf x ∷ t0) (arrows_return d items s c.len.result (omega (arith, c.len.ensures)) c.if-len-eq0.false))
          c.push-else-len-eq0.ensures.trees);
      counted = counts_block c.push-else-len-eq0.result d _ place c.in-Lambda.is law (always c.push-else-len-eq0.result made);
    }

pub push_block-returns-in_ok-push_constants-in-Apply : goal.push_block-returns-in_ok-push_constants-in-Apply
push_block-returns-in_ok-push_constants-in-Apply t c =
    let law = view.apply c.in-Apply.callee c.in-Apply.arguments in
    let d = c.args.made.now in
    let t0 = trees_of c.args.trees.now in
    let place = loop_view c.args.place.now in
    let rs = variables place in
    let f = expr_view c.in-Apply.callee.value in
    let items = c.in-Apply.arguments.items in
    let es = map expr_view items in
    let n0 = c.new-numbers.result.items in
    let n1 = c.push_constants.new.numbers.items in
    let b = statements (top (trees_of c.push_constants.new.trees)) in
    let many : count_exprs (exprs_of es) ≡ c.len-in-Apply.result =
    omega (arith, count_of_exprs es, length-map items expr_view, c.len-in-Apply.ensures) in
    let yes : goes_round place f (exprs_of es) ≡ true =
    ap (λ e. goes_round place (expr_view e) (exprs_of es)) (sym c.deref-in-Apply.ensures)
    ∙ sym (c.goes_round.ensures (exprs_of es) many) ∙ c.if-goes_round.true in
    let all : count_exprs (exprs_of es) ≡ length rs = round_count place f (exprs_of es) yes in
    let empty : n0 ≡ [] = c.new-numbers.ensures.items in
    let zero : length n0 ≡ 0 = ap length empty in
    let few : length n0 + length items ≤ length rs = omega (arith, zero, all, count_of_exprs es, length-map items expr_view) in
    let full : length n1 ≡ length rs =
    omega (arith, c.in_ok-push_constants-in-Apply.ensures.numbers, zero, all, count_of_exprs es, length-map items expr_view) in
    let begun = c.in_ok-push-in-Apply.ensures.trees in
    let made : c.push_constants.new.made ≡ d + made_round (exprs_of es) = c.in_ok-push_constants-in-Apply.ensures.counted in
    record {
      emitted =
          shown_block c.end_turn.result d place _ _ c.in-Apply.is law
          (on_ok_weaker c.end_turn.result
          (λ h. h b t0 full (c.in_ok-push_constants-in-Apply.ensures.kind NoStatement t0 begun)
          ∙ ap (λ s. BlockOf s ∷ t0) (c.in_ok-push_constants-in-Apply.ensures.emitted rs [] NoStatement t0 few begun
          ∙ ap (λ l. go_round d (exprs_of l) (drop (length n0) rs) (pairs rs n0)) (append-nil es)
          ∙ ap (λ n. go_round d (exprs_of es) (drop (length n) rs) (pairs rs n)) empty
          ∙ ap (go_round d (exprs_of es) rs) (pairs_none rs)
          ∙ sym (call_turns d place f (exprs_of es) yes)))
          c.end_turn.ensures);
      counted =
          counts_block c.end_turn.result d _ place c.in-Apply.is law
          (always c.end_turn.result (made ∙ ap (λ n. d + n) (sym (call_rounds place f (exprs_of es) yes))));
    }

pub push_block-returns-in_ok-push_calls-in-Apply : goal.push_block-returns-in_ok-push_calls-in-Apply
push_block-returns-in_ok-push_calls-in-Apply t c =
    let law = view.apply c.in-Apply.callee c.in-Apply.arguments in
    let d = c.args.made.now in
    let t0 = trees_of c.args.trees.now in
    let place = loop_view c.args.place.now in
    let f = expr_view c.in-Apply.callee.value in
    let es = exprs_of (map expr_view c.in-Apply.arguments.items) in
    let many : count_exprs es ≡ c.len-in-Apply.result =
    omega (arith, count_of_exprs (map expr_view c.in-Apply.arguments.items), length-map c.in-Apply.arguments.items expr_view, c.len-in-Apply.ensures) in
    let no : goes_round place f es ≡ false =
    ap (λ e. goes_round place (expr_view e) es) (sym c.deref-in-Apply.ensures) ∙ sym (c.goes_round.ensures es many) ∙ c.if-goes_round.false in
    let first : trees_of c.push_value.new.trees ≡ Expression (value d f) ∷ t0 =
    c.in_ok-push_value-in-Apply.ensures.emitted ∙ ap (λ e. Expression (value d (expr_view e)) ∷ t0) c.deref-else-goes_round.ensures in
    let next : c.push_value.new.made ≡ d + made_in Outside f =
    c.in_ok-push_value-in-Apply.ensures.counted ∙ ap (λ e. d + made_in Outside (expr_view e)) c.deref-else-goes_round.ensures in
    record {
      emitted =
          shown_block c.push-else-goes_round.result d place _ _ c.in-Apply.is law
          (on_ok_weaker c.push-else-goes_round.result
          (λ is. is ∙ ap (apply node.Node.Return) (c.in_ok-push_calls-in-Apply.ensures.emitted (value d f) t0 first)
          ∙ ap (λ n. BlockOf (Return (calls n (value d f) es)) ∷ t0) next
          ∙ ap (λ s. BlockOf s ∷ t0) (sym (call_returns d place f es no)))
          c.push-else-goes_round.ensures.trees);
      counted =
          let all : c.push_calls.new.made ≡ d + (made_in Outside f + made_all es) = omega (arith, c.in_ok-push_calls-in-Apply.ensures.counted, next) in
          counts_block c.push-else-goes_round.result d _ place c.in-Apply.is law
          (always c.push-else-goes_round.result (all ∙ ap (λ n. d + n) (sym (call_same place f es no))));
    }

pub push_block-returns-in_ok-end_op-in-Strict : goal.push_block-returns-in_ok-end_op-in-Strict
push_block-returns-in_ok-end_op-in-Strict t c =
    let law = view.strict c.in-Strict.op c.in-Strict.parts in
    let d = c.args.made.now in
    let t0 = trees_of c.args.trees.now in
    let place = loop_view c.args.place.now in
    let op = op_view c.in-Strict.op in
    let items = map expr_view c.in-Strict.parts.items in
    let xs = values d (exprs_of items) in
    let many : count_items (placed NoItem xs) ≡ c.len-count.result =
    omega (arith, count_values NoItem d items, length-map c.in-Strict.parts.items expr_view, c.len-count.ensures) in
    record {
      emitted =
          shown_block c.push-in-Strict.result d place _ _ c.in-Strict.is law
          (on_ok_weaker c.push-in-Strict.result
          (λ is. is ∙ ap (apply node.Node.Return) (c.in_ok-end_op-in-Strict.ensures (placed NoItem xs) t0 many c.in_ok-push_parts-in-Strict.ensures.emitted)
          ∙ ap (λ ys. BlockOf (Return (perform_js op ys)) ∷ t0) (placed_whole xs))
          c.push-in-Strict.ensures.trees);
      counted =
          counts_block c.push-in-Strict.result d _ place c.in-Strict.is law
          (always c.push-in-Strict.result c.in_ok-push_parts-in-Strict.ensures.counted);
    }

pub push_block-returns-then-len-eq0-2 : goal.push_block-returns-then-len-eq0-2
push_block-returns-then-len-eq0-2 t c =
    let law = view.access c.in-Access.inner c.in-Access.fields in
    let d = c.args.made.now in
    let t0 = trees_of c.args.trees.now in
    let place = loop_view c.args.place.now in
    let e = expr_view c.in-Access.inner.value in
    let none : c.in-Access.fields.items ≡ [] = nil_from_length c.in-Access.fields.items (omega (arith, c.len-in-Access.ensures, c.if-len-eq0-2.true)) in
    record {
      emitted =
          shown_block c.push_block-then-len-eq0-2.result d place _ _ c.in-Access.is law
          (on_ok_weaker c.push_block-then-len-eq0-2.result
          (λ h. h ∙ ap (λ b. BlockOf (emit d place (expr_view b)) ∷ t0) c.deref-then-len-eq0-2.ensures
          ∙ ap (λ ks. BlockOf (emit d place (accessed e ks)) ∷ t0) (sym none))
          c.push_block-then-len-eq0-2.ensures.emitted);
      counted =
          counts_block c.push_block-then-len-eq0-2.result d _ place c.in-Access.is law
          (on_ok_weaker c.push_block-then-len-eq0-2.result
          (λ h. h ∙ ap (λ b. d + made_in place (expr_view b)) c.deref-then-len-eq0-2.ensures
          ∙ ap (λ ks. d + made_in place (accessed e ks)) (sym none))
          c.push_block-then-len-eq0-2.ensures.counted);
    }

pub push_block-returns-in_ok-push_properties-in-Access : goal.push_block-returns-in_ok-push_properties-in-Access
push_block-returns-in_ok-push_properties-in-Access t c =
    let law = view.access c.in-Access.inner c.in-Access.fields in
    let d = c.args.made.now in
    let t0 = trees_of c.args.trees.now in
    let place = loop_view c.args.place.now in
    let e = expr_view c.in-Access.inner.value in
    let ks = c.in-Access.fields.items in
    let many : c.len-in-Access.result ≡ length ks = omega (arith, c.len-in-Access.ensures) in
    let first : trees_of c.push_value-else-len-eq0-2.new.trees ≡ Expression (value d e) ∷ t0 =
    c.in_ok-push_value-in-Access.ensures.emitted ∙ ap (λ b. Expression (value d (expr_view b)) ∷ t0) c.deref-else-len-eq0-2.ensures in
    let next : c.push_value-else-len-eq0-2.new.made ≡ d + made_in Outside e =
    c.in_ok-push_value-in-Access.ensures.counted ∙ ap (λ b. d + made_in Outside (expr_view b)) c.deref-else-len-eq0-2.ensures in
    record {
      emitted =
          shown_block c.push-else-len-eq0-2.result d place _ _ c.in-Access.is law
          (on_ok_weaker c.push-else-len-eq0-2.result
          (λ is. is ∙ ap (apply node.Node.Return) (c.in_ok-push_properties-in-Access.ensures (value d e) t0 first)
          ∙ ap (λ x. BlockOf (Return x) ∷ t0) (sym (access_value d e ks))
          ∙ ap (λ s. BlockOf s ∷ t0) (sym (access_returns d place e ks c.len-in-Access.result many c.if-len-eq0-2.false)))
          c.push-else-len-eq0-2.ensures.trees);
      counted =
          counts_block c.push-else-len-eq0-2.result d _ place c.in-Access.is law
          (always c.push-else-len-eq0-2.result (next ∙ ap (λ n. d + n) (sym (access_made e ks))
          ∙ ap (λ n. d + n) (sym (access_same place e ks c.len-in-Access.result many c.if-len-eq0-2.false))));
    }

pub push_block-returns-in_ok-push_block-in-If-2 : goal.push_block-returns-in_ok-push_block-in-If-2
push_block-returns-in_ok-push_block-in-If-2 t c =
    let law = view.conditional c.in-If.condition c.in-If.yes c.in-If.no in
    let d = c.args.made.now in
    let t0 = trees_of c.args.trees.now in
    let place = loop_view c.args.place.now in
    let x = expr_view c.in-If.condition.value in
    let a = expr_view c.in-If.yes.value in
    let b = expr_view c.in-If.no.value in
    let t1 = trees_of c.push_value-in-If.new.trees in
    let t2 = trees_of c.push_block-in-If.new.trees in
    let m1 = c.push_value-in-If.new.made in
    let m2 = c.push_block-in-If.new.made in
    let h1 : t1 ≡ Expression (value d x) ∷ t0 =
    c.in_ok-push_value-in-If.ensures.emitted ∙ ap (λ e. Expression (value d (expr_view e)) ∷ t0) c.deref-in-If.ensures in
    let h2 : t2 ≡ BlockOf (emit m1 place a) ∷ t1 =
    c.in_ok-push_block-in-If.ensures.emitted ∙ ap (λ e. BlockOf (emit m1 place (expr_view e)) ∷ t1) c.deref-in-If-2.ensures in
    let h3 : trees_of c.push_block-in-If-2.new.trees ≡ BlockOf (emit m2 place b) ∷ t2 =
    c.in_ok-push_block-in-If-2.ensures.emitted ∙ ap (λ e. BlockOf (emit m2 place (expr_view e)) ∷ t2) c.deref-in-If-3.ensures in
    let k1 : m1 ≡ d + made_in Outside x =
    c.in_ok-push_value-in-If.ensures.counted ∙ ap (λ e. d + made_in Outside (expr_view e)) c.deref-in-If.ensures in
    let k2 : m2 ≡ m1 + made_in place a =
    c.in_ok-push_block-in-If.ensures.counted ∙ ap (λ e. m1 + made_in place (expr_view e)) c.deref-in-If-2.ensures in
    let k3 : c.push_block-in-If-2.new.made ≡ m2 + made_in place b =
    c.in_ok-push_block-in-If-2.ensures.counted ∙ ap (λ e. m2 + made_in place (expr_view e)) c.deref-in-If-3.ensures in
    record {
      emitted =
          shown_block c.push-in-If.result d place _ _ c.in-If.is law
          (on_ok_weaker c.push-in-If.result (conditional_block x a b place d m1 m2 t0 t1 t2 _ _ h1 h2 h3 k1 k2) c.push-in-If.ensures.trees);
      counted = counts_block c.push-in-If.result d _ place c.in-If.is law (always c.push-in-If.result (omega (arith, k1, k2, k3)));
    }

pub push_block-returns-in-None : goal.push_block-returns-in-None
push_block-returns-in-None t c =
    let law = view.chain c.in-Chain.first c.in-Chain.links in
    let d = c.args.made.now in
    let t0 = trees_of c.args.trees.now in
    let place = loop_view c.args.place.now in
    let e = expr_view c.in-Chain.first.value in
    let none : c.in-Chain.links.items ≡ [] =
    sym c.deref-in-Chain.ensures.value ∙ nil_from_length c.deref-in-Chain.result.now c.in-None.ensures.cases in
    record {
      emitted =
          shown_block c.push_block-in-None.result d place _ _ c.in-Chain.is law
          (on_ok_weaker c.push_block-in-None.result
          (λ h. h ∙ ap (λ b. BlockOf (emit d place (expr_view b)) ∷ t0) c.deref-in-None.ensures
          ∙ ap (λ ls. BlockOf (emit d place (linked e (map link_view ls))) ∷ t0) (sym none))
          c.push_block-in-None.ensures.emitted);
      counted =
          counts_block c.push_block-in-None.result d _ place c.in-Chain.is law
          (on_ok_weaker c.push_block-in-None.result
          (λ h. h ∙ ap (λ b. d + made_in place (expr_view b)) c.deref-in-None.ensures
          ∙ ap (λ ls. d + made_in place (linked e (map link_view ls))) (sym none))
          c.push_block-in-None.ensures.counted);
    }

pub push_block-returns-in_ok-push_after_all-in-Some : goal.push_block-returns-in_ok-push_after_all-in-Some
push_block-returns-in_ok-push_after_all-in-Some t c =
    let law = view.chain c.in-Chain.first c.in-Chain.links in
    let d = c.args.made.now in
    let t0 = trees_of c.args.trees.now in
    let place = loop_view c.args.place.now in
    let rs = variables place in
    let e = expr_view c.in-Chain.first.value in
    let ls = map link_view c.in-Chain.links.items in
    let others = c.in-Some.others.now in
    let front = map link_view others in
    let last = link_view c.in-Some.last.now in
    let y = linked e front in
    let yes : turns_by place last y ≡ true = sym (c.goes_round_by.ensures y) ∙ c.if-goes_round_by.true in
    let whole : linked e ls ≡ done last y =
    ap (linked e) (ap (map link_view) (sym c.deref-in-Chain.ensures.value ∙ c.in-Some.ensures.cases.0)
    ∙ map-append link_view others (c.in-Some.last.now ∷ [])) ∙ linked_last e front last in
    let n0 = c.new-numbers-then-goes_round_by.result.items in
    let n1 = c.begin_turn.new.numbers.items in
    let number = c.in_ok-number-in-Some.number in
    let t1 = trees_of c.begin_turn.new.trees in
    let b = statements (top t1) in
    let p = suc number in
    let start : c.begin_turn.new.made ≡ p = c.in_ok-number-in-Some.ensures.counted in
    let t2 = trees_of c.push_before_all.new.trees in
    let m2 = c.push_before_all.new.made in
    let h1 : t2 ≡ before_all p front t1 =
    c.in_ok-push_before_all-in-Some.ensures.emitted ∙ ap (λ n. before_all n front t1) start in
    let k1 : m2 ≡ p + made_before_all front =
    c.in_ok-push_before_all-in-Some.ensures.counted ∙ ap (λ n. n + made_before_all front) start in
    let h2 : trees_of c.push_value-then-goes_round_by.new.trees ≡ Expression (value (p + made_before_all front) e) ∷ before_all p front t1 =
    c.in_ok-push_value-in-Some.ensures.emitted ∙ ap (λ x. Expression (value m2 (expr_view x)) ∷ t2) c.deref-then-goes_round_by.ensures
    ∙ ap (λ n. Expression (value n e) ∷ t2) k1 ∙ ap (λ u. Expression (value (p + made_before_all front) e) ∷ u) h1 in
    let k2 : c.push_value-then-goes_round_by.new.made ≡ p + made_before_all front + made_in Outside e =
    c.in_ok-push_value-in-Some.ensures.counted ∙ ap (λ x. m2 + made_in Outside (expr_view x)) c.deref-then-goes_round_by.ensures
    ∙ ap (λ n. n + made_in Outside e) k1 in
    let h3 : trees_of c.push_after_all.new.trees ≡ Expression (value p y) ∷ StatementsOf b ∷ t0 =
    c.in_ok-push_after_all-in-Some.ensures.emitted p e t1 h2 k2
    ∙ ap (λ u. Expression (value p y) ∷ u) c.in_ok-number-in-Some.ensures.kind in
    let k3 : c.push_after_all.new.made ≡ p + made_in Outside y = c.in_ok-push_after_all-in-Some.ensures.counted p e k2 in
    let empty : n0 ≡ [] = c.new-numbers-then-goes_round_by.ensures.items in
    let zero : length n0 ≡ 0 = ap length empty in
    let all : length (turn_before last) + suc (length (turn_after last)) ≡ length rs = turn_count last place y yes in
    let few : length n0 + length (turn_before last) ≤ length rs = omega (arith, zero, all) in
    let many : length n1 + suc (length (turn_after last)) ≡ length rs =
    omega (arith, c.in_ok-number-in-Some.ensures.numbers, zero, all) in
    let args = exprs_of (turn_before last ++ y ∷ turn_after last) in
    record {
      emitted =
          shown_block c.finish_turn.result d place _ _ c.in-Chain.is law
          (on_ok_weaker c.finish_turn.result
          (λ h. h y b t0 many h3 k3
          ∙ ap (λ s. BlockOf s ∷ t0) (c.in_ok-number-in-Some.ensures.emitted rs y few
          ∙ ap (λ n. go_round d args (drop (length n) rs) (pairs rs n)) empty ∙ ap (go_round d args rs) (pairs_none rs)
          ∙ sym (turn_arguments last place d y yes))
          ∙ ap (λ x. BlockOf (emit d place x) ∷ t0) (sym whole))
          c.finish_turn.ensures.emitted);
      counted =
          counts_block c.finish_turn.result d _ place c.in-Chain.is law
          (on_ok_weaker c.finish_turn.result
          (λ h. let total : c.finish_turn.new.made ≡ d + made_round args =
          omega (
            arith,
            h,
            k3,
            c.in_ok-number-in-Some.ensures.number,
            made_round_append (turn_before last) (y ∷ turn_after last),
          ) in
          total ∙ ap (λ n. d + n) (sym (turn_made last place y yes)) ∙ ap (λ x. d + made_in place x) (sym whole))
          c.finish_turn.ensures.counted);
    }

pub push_block-returns-in_ok-push_after_all-in-Some-2 : goal.push_block-returns-in_ok-push_after_all-in-Some-2
push_block-returns-in_ok-push_after_all-in-Some-2 t c =
    let law = view.chain c.in-Chain.first c.in-Chain.links in
    let d = c.args.made.now in
    let t0 = trees_of c.args.trees.now in
    let place = loop_view c.args.place.now in
    let e = expr_view c.in-Chain.first.value in
    let items = c.in-Chain.links.items in
    let ls = map link_view items in
    let others = c.in-Some.others.now in
    let last = link_view c.in-Some.last.now in
    let y = linked e (map link_view others) in
    let no : turns_by place last y ≡ false = sym (c.goes_round_by.ensures y) ∙ c.if-goes_round_by.false in
    let whole : linked e ls ≡ done last y =
    ap (linked e) (ap (map link_view) (sym c.deref-in-Chain.ensures.value ∙ c.in-Some.ensures.cases.0)
    ∙ map-append link_view others (c.in-Some.last.now ∷ [])) ∙ linked_last e (map link_view others) last in
    let t1 = trees_of c.push_before_all-else-goes_round_by.new.trees in
    let m1 = c.push_before_all-else-goes_round_by.new.made in
    let h1 : t1 ≡ before_all d ls t0 =
    c.in_ok-push_before_all-in-Some-2.ensures.emitted
    ∙ ap (λ x. before_all d (map link_view x) t0) c.deref-else-goes_round_by.ensures.value in
    let k1 : m1 ≡ d + made_before_all ls =
    c.in_ok-push_before_all-in-Some-2.ensures.counted
    ∙ ap (λ x. d + made_before_all (map link_view x)) c.deref-else-goes_round_by.ensures.value in
    let h2 : trees_of c.push_value-else-goes_round_by.new.trees ≡ Expression (value (d + made_before_all ls) e) ∷ before_all d ls t0 =
    c.in_ok-push_value-in-Some-2.ensures.emitted
    ∙ ap (λ x. Expression (value m1 (expr_view x)) ∷ t1) c.deref-else-goes_round_by-2.ensures
    ∙ ap (λ n. Expression (value n e) ∷ t1) k1 ∙ ap (λ u. Expression (value (d + made_before_all ls) e) ∷ u) h1 in
    let k2 : c.push_value-else-goes_round_by.new.made ≡ d + made_before_all ls + made_in Outside e =
    c.in_ok-push_value-in-Some-2.ensures.counted
    ∙ ap (λ x. m1 + made_in Outside (expr_view x)) c.deref-else-goes_round_by-2.ensures ∙ ap (λ n. n + made_in Outside e) k1 in
    let same = c.deref-else-goes_round_by-3.ensures.value in
    let fine : Result ℕ ℕ = Ok 0 in
    let h3 : trees_of c.push_after_all-else-goes_round_by.new.trees ≡ Expression (value d (linked e ls)) ∷ t0 =
    after_links fine items same d e t0 _ _ h2 k2 c.in_ok-push_after_all-in-Some-2.ensures.emitted in
    let k3 : c.push_after_all-else-goes_round_by.new.made ≡ d + made_in Outside (linked e ls) =
    after_count fine items same d e _ _ k2 c.in_ok-push_after_all-in-Some-2.ensures.counted in
    record {
      emitted =
          shown_block c.push-else-goes_round_by.result d place _ _ c.in-Chain.is law
          (on_ok_weaker c.push-else-goes_round_by.result
          (λ is. is ∙ ap (apply node.Node.Return) h3 ∙ ap (λ x. BlockOf (Return (value d x)) ∷ t0) whole
          ∙ ap (λ s. BlockOf s ∷ t0) (sym (link_returns last place d y no))
          ∙ ap (λ x. BlockOf (emit d place x) ∷ t0) (sym whole))
          c.push-else-goes_round_by.ensures.trees);
      counted =
          counts_block c.push-else-goes_round_by.result d _ place c.in-Chain.is law
          (always c.push-else-goes_round_by.result
          (k3 ∙ ap (λ x. d + made_in Outside x) whole ∙ ap (λ n. d + n) (sym (link_same last place y no))
          ∙ ap (λ x. d + made_in place x) (sym whole)));
    }

pub push_block-returns-in_ok-push_block-in-Let : goal.push_block-returns-in_ok-push_block-in-Let
push_block-returns-in_ok-push_block-in-Let t c =
    let law = view.let_in c.in-Let.definitions c.in-Let.body in
    let d = c.args.made.now in
    let t0 = trees_of c.args.trees.now in
    let place = loop_view c.args.place.now in
    let gs = groups_of (map group_view c.in-Let.definitions.items) in
    let e = expr_view c.in-Let.body.value in
    let m = c.push_groups.new.made in
    let t1 = trees_of c.push_groups.new.trees in
    let b = statements (top t1) in
    let s = emit (d + made_groups gs) place e in
    let body : trees_of c.push_block-in-Let.new.trees ≡ BlockOf s ∷ StatementsOf b ∷ t0 =
    c.in_ok-push_block-in-Let.ensures.emitted ∙ ap (λ x. BlockOf (emit m place (expr_view x)) ∷ t1) c.deref-in-Let.ensures
    ∙ ap (λ n. BlockOf (emit n place e) ∷ t1) c.in_ok-push_groups-in-Let.ensures.counted
    ∙ ap (λ u. BlockOf s ∷ u) c.in_ok-push_groups-in-Let.ensures.kind in
    let made : c.push_block-in-Let.new.made ≡ m + made_in place e =
    c.in_ok-push_block-in-Let.ensures.counted ∙ ap (λ x. m + made_in place (expr_view x)) c.deref-in-Let.ensures in
    record {
      emitted =
          shown_block c.push-in-Let.result d place _ _ c.in-Let.is law
          (on_ok_weaker c.push-in-Let.result
          (λ is. is ∙ ap (apply node.Node.Ended) body ∙ ap (λ x. BlockOf x ∷ t0) (c.in_ok-push_groups-in-Let.ensures.emitted s))
          c.push-in-Let.ensures.trees);
      counted =
          counts_block c.push-in-Let.result d _ place c.in-Let.is law
          (always c.push-in-Let.result (omega (arith, made, c.in_ok-push_groups-in-Let.ensures.counted)));
    }

pub push_block-returns-in_ok-push_value-in-Case : goal.push_block-returns-in_ok-push_value-in-Case
push_block-returns-in_ok-push_value-in-Case t c =
    let law = view.case_of c.in-Case.subject c.in-Case.branches in
    let d = c.args.made.now in
    let t0 = trees_of c.args.trees.now in
    let place = loop_view c.args.place.now in
    let e = expr_view c.in-Case.subject.value in
    let bs = branches_of (map branch_view c.in-Case.branches.items) in
    let number = c.in_ok-number-in-Case.number in
    let m0 = c.begin_constant.new.made in
    let m1 = c.push_value-in-Case.new.made in
    let was : trees_of c.push_value-in-Case.new.trees ≡ Expression (value m0 e) ∷ StatementsOf NoStatement ∷ t0 =
    c.in_ok-push_value-in-Case.ensures.emitted
    ∙ ap (λ x. Expression (value m0 (expr_view x)) ∷ trees_of c.begin_constant.new.trees) c.deref-in-Case.ensures
    ∙ ap (λ u. Expression (value m0 e) ∷ u) c.in_ok-number-in-Case.ensures.begun in
    let made : m1 ≡ m0 + made_in Outside e =
    c.in_ok-push_value-in-Case.ensures.counted ∙ ap (λ x. m0 + made_in Outside (expr_view x)) c.deref-in-Case.ensures in
    record {
      emitted =
          shown_block c.push_choice_of.result d place _ _ c.in-Case.is law
          (on_ok_weaker c.push_choice_of.result
          (λ h. h (value m0 e) NoStatement t0 was
          ∙ ap (λ s. BlockOf s ∷ t0) (case_whole d number m0 m1 (m1 + made_choice bs) place e bs
          c.in_ok-number-in-Case.ensures.number c.in_ok-number-in-Case.ensures.counted made refl))
          c.push_choice_of.ensures.emitted);
      counted =
          counts_block c.push_choice_of.result d _ place c.in-Case.is law
          (on_ok_weaker c.push_choice_of.result (λ h. omega (arith, c.in_ok-number-in-Case.ensures.counted, made, h))
          c.push_choice_of.ensures.counted);
    }

pub push_block-returns-in-Located : goal.push_block-returns-in-Located
push_block-returns-in-Located t c =
    let law = view.located c.in-Located.field-0 c.in-Located.inner in
    let d = c.args.made.now in
    let t0 = trees_of c.args.trees.now in
    let place = loop_view c.args.place.now in
    record {
      emitted =
          shown_block c.push_block-in-Located.result d place _ _ c.in-Located.is law
          (on_ok_weaker c.push_block-in-Located.result
          (λ h. h ∙ ap (λ e. BlockOf (emit d place (expr_view e)) ∷ t0) c.deref-in-Located.ensures)
          c.push_block-in-Located.ensures.emitted);
      counted =
          counts_block c.push_block-in-Located.result d _ place c.in-Located.is law
          (on_ok_weaker c.push_block-in-Located.result
          (λ h. h ∙ ap (λ e. d + made_in place (expr_view e)) c.deref-in-Located.ensures)
          c.push_block-in-Located.ensures.counted);
    }

-- ---- functions

pub push_arrows-returns : goal.push_arrows-returns
push_arrows-returns t c =
    let d = c.args.made.now in
    let t0 = trees_of c.args.trees.now in
    let items = c.args.parameters.now.items in
    let ps = patterns_view items in
    let e = expr_view c.args.body.now in
    let m1 = c.begin_arrows.new.made in
    let same : c.deref.result.now ≡ items = c.deref.ensures.value in
    let last : c.deref-2.result.now ≡ items = c.deref-2.ensures.value in
    let made : m1 ≡ d + made_for ps = c.in_ok-begin_arrows.ensures.counted ∙ ap (λ q. d + made_for (patterns_view q)) same in
    let body : trees_of c.push_block.new.trees ≡ BlockOf (emit m1 Outside e) ∷ opened d (patterns_view c.deref-2.result.now) t0 =
    c.in_ok-push_block.ensures.emitted ∙ ap (λ u. BlockOf (emit m1 Outside e) ∷ u) (c.in_ok-begin_arrows.ensures.opened
    ∙ ap (λ q. opened d (patterns_view q) t0) (same ∙ sym last)) in
    record {
      emitted =
          on_ok_weaker c.end_arrows.result
          (λ h. h (emit m1 Outside e) t0 body
          ∙ ap (λ q. Expression (now (arrows d (patterns_view q) (emit m1 Outside e))) ∷ t0) last
          ∙ ap (λ n. Expression (now (arrows d ps (emit n Outside e))) ∷ t0) made)
          c.end_arrows.ensures;
      counted = always c.end_arrows.result (omega (arith, c.in_ok-push_block.ensures.counted, made));
    }
