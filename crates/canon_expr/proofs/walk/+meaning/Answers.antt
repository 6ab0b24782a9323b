-- What an expression means, by what its parts mean, and the sites in turn.
use Rattle.std.proofs.Common.{◌≡◌, ◌+◌, ◌<◌, ◌++◌, ◌∷◌, [], Some, None, length, map, take, ap, sym, refl, ◌∙◌, arith, subst, append_assoc}
use Rattle.std.specs.Prelude.{option_map}
use Rattle.std.specs.List.{All, flat_map, filter_map}
use Rattle.std.proofs.lemmas.List.{length-map, map-append}
use Rattle.std.proofs.lemmas.Result.{IfOk-weaker, on_ok_weaker}
use Rattle.decl_groups.specs.Groups.{plain}
use Rattle.elm_tree.specs.Tree as tree
use Rattle.elm_tree.specs.View as tree_view
use Rattle.elm_tree.specs.View.{token_view, place_view, words_view, word_view, fields_view, patterns_view, record_expr}
use Rattle.elm_tree.specs.Words.{expr_of}
use Rattle.elm_tree.specs.Turns.{tokens_view}
use Rattle.elm_tree.proofs.Views as views
use Rattle.elm_canon.specs.Tree as canon
use Rattle.elm_canon.specs.View.{expr_view, branch_view, annotation_view}
use Rattle.elm_canon.proofs.Views as canon_views
use Rattle.canon_env.proofs.Filtering.{pushed, map_next, map_map_next}
use Rattle.canon_env.specs.Locals.{with_names}
use Rattle.canon_env.specs.Patterns.{words_of, words_of_all, pattern_of, patterns_of, pattern_sites, list_sites}
use Rattle.canon_env.specs.Patterns.{binding_sites}
use Rattle.canon_expr.specs.Scope.{locals_of, without}
use Rattle.canon_expr.proofs.Growing.{grows_more}
use Rattle.canon_expr.proofs.Meaning.{grows_at, on_ok}
use Rattle.canon_expr.proofs.Steps.{flat_next, take_all}
use Rattle.canon_expr.specs.Callees.{finished}
use Rattle.canon_expr.specs.Calls.{callee_view}
use Rattle.canon_expr.specs.Chains.{operand_view}
use Rattle.canon_expr.specs.Binding.{bound_by, bound_by_each, bound_in, used_definition, uses_among, defined_in, is_function}
use Rattle.canon_expr.specs.Blocks.{groups_in, joined_sites, reaching_sites}
use Rattle.canon_expr.specs.Kept.{Binds, made_view}
use Rattle.canon_expr.proofs.Listing.{each_bound}
use Rattle.canon_expr.specs.Exprs.{expr_sites, meant, definition_sites, made_by}
use Rattle.canon_expr.specs.Exprs.{definitions_sites, made_in, annotation_of, at, meant_parts, part_sites, part_words}
use Rattle.canon_expr.specs.Records.{base_values, base_sites, record_op}
use Rattle.canon_env.specs.Imports.{name_of}
use Rattle.canon_env.specs.Sites.{FieldsTogether}
use Rattle.canon_expr.proofs.Lists.{each_meant, each_sites, parts_meant, parts_sites, part_meant, one_part_sites}
use Rattle.canon_expr.proofs.Lists.{operands_mean, operands_sites, operand, operand_sites, branches_mean, branches_sites}
use Rattle.canon_expr.proofs.Lists.{branch_meant, one_branch_sites, each_definition, annotated, annotated_next, made_next}
use Rattle.canon_expr.proofs.Lists.{joined_next, uses_are, one_more}
use Rattle.canon_expr.proofs.Places.{stays, enters, here, block_grows}
use Rattle.canon_expr.proofs.Constructs as construct
use Rattle.canon_expr.proofs.walk.+meaning.Goals as goal

-- ---- lists

pub meant_each-loop-one-preserved : goal.meant_each-loop-one-preserved
meant_each-loop-one-preserved t c =
    let view = tree_view.expr_view (tokens_view c.args.tokens.now) in
    let written = c.args.written.now in
    let i = c.loop-one.one-index in
    let e = c.one-item.result in
    record {
      meaning = λ w locals s.
          one_more c.in_ok-push_meaning.ensures (c.loop-one.invariant.meaning w locals s)
          (c.in_ok-meaning.ensures.meaning w locals (stays s c.loop-one.invariant.scope))
          ∙ sym (map_map_next (meant w locals) view written i e (omega arith) c.one-item.is);
      log = λ w locals s.
          grows_at _ _ (flat_next (expr_sites w locals) view written i e (omega arith) c.one-item.is)
          (grows_more (c.loop-one.invariant.log w locals s)
          (c.in_ok-meaning.ensures.log w locals (stays s c.loop-one.invariant.scope)));
      scope = c.in_ok-meaning.ensures.scope ∙ c.loop-one.invariant.scope;
    }

pub meant_each-returns : goal.meant_each-returns
meant_each-returns t c =
    let view = tree_view.expr_view (tokens_view c.args.tokens.now) in
    let written = c.args.written.now in
    let all = take_all c.loop-one.one-index written (omega arith) in
    record {
      meaning = λ w locals s.
          c.loop-one.invariant.meaning w locals s ∙ ap (λ es. map (meant w locals) (map view es)) all
          ∙ sym (each_meant w locals (map view written));
      log = λ w locals s.
          grows_at _ _
          (each_sites w locals (map view written) ∙ ap (λ es. flat_map (expr_sites w locals) (map view es)) (sym all))
          (c.loop-one.invariant.log w locals s);
      scope = c.loop-one.invariant.scope;
    }

pub meant_parts-loop-field-preserved : goal.meant_parts-loop-field-preserved
meant_parts-loop-field-preserved t c =
    let tokens = tokens_view c.args.tokens.now in
    let view = tree_view.part_view tokens in
    let fields = c.args.fields.now in
    let i = c.loop-field.field-index in
    let p = c.field-item.result in
    record {
      meaning = λ w locals s.
          one_more c.in_ok-push_meaning.ensures (c.loop-field.invariant.meaning w locals s)
          (c.in_ok-meaning.ensures.meaning w locals (stays s c.loop-field.invariant.scope)
          ∙ sym (ap (part_meant w locals) (views.part_of tokens p)))
          ∙ append_assoc (map expr_view c.args.before.items) (map (part_meant w locals) (map view (take i fields)))
          (part_meant w locals (view p) ∷ [])
          ∙ ap (λ r. map expr_view c.args.before.items ++ r)
          (sym (map_map_next (part_meant w locals) view fields i p (omega arith) c.field-item.is));
      log = λ w locals s.
          grows_at _ _ (flat_next (one_part_sites w locals) view fields i p (omega arith) c.field-item.is)
          (grows_more (c.loop-field.invariant.log w locals s)
          (grows_at _ _ (ap (one_part_sites w locals) (views.part_of tokens p))
          (c.in_ok-meaning.ensures.log w locals (stays s c.loop-field.invariant.scope))));
      scope = c.in_ok-meaning.ensures.scope ∙ c.loop-field.invariant.scope;
    }

pub meant_parts-returns : goal.meant_parts-returns
meant_parts-returns t c =
    let view = tree_view.part_view (tokens_view c.args.tokens.now) in
    let fields = c.args.fields.now in
    let all = take_all c.loop-field.field-index fields (omega arith) in
    record {
      meaning = λ w locals s.
          c.loop-field.invariant.meaning w locals s
          ∙ ap (λ r. map expr_view c.args.before.items ++ r)
          (ap (λ ps. map (part_meant w locals) (map view ps)) all ∙ sym (parts_meant w locals (map view fields)));
      log = λ w locals s.
          grows_at _ _
          (parts_sites w locals (map view fields) ∙ ap (λ ps. flat_map (one_part_sites w locals) (map view ps)) (sym all))
          (c.loop-field.invariant.log w locals s);
      scope = c.loop-field.invariant.scope;
    }

pub operands-loop-part-preserved : goal.operands-loop-part-preserved
operands-loop-part-preserved t c =
    let tokens = tokens_view c.args.tokens.now in
    let view = tree_view.part_view tokens in
    let parts = c.args.parts.now in
    let i = c.loop-part.part-index in
    let p = c.part-item.result in
    record {
      meaning = λ w locals s.
          one_more (c.in_ok-push_operand.ensures tokens) (c.loop-part.invariant.meaning w locals s)
          (ap (λ f. (word_view tokens p.word, f))
          (c.in_ok-callee.ensures.meaning w locals (stays s c.loop-part.invariant.scope))
          ∙ sym (ap (operand w locals) (views.part_of tokens p)))
          ∙ sym (map_map_next (operand w locals) view parts i p (omega arith) c.part-item.is);
      log = λ w locals s.
          grows_at _ _ (flat_next (operand_sites w locals) view parts i p (omega arith) c.part-item.is)
          (grows_more (c.loop-part.invariant.log w locals s)
          (grows_at _ _ (ap (operand_sites w locals) (views.part_of tokens p))
          (grows_more (c.in_ok-note_operator.ensures w)
          (c.in_ok-callee.ensures.log w locals (stays s c.loop-part.invariant.scope)))));
      scope = c.in_ok-callee.ensures.scope ∙ c.loop-part.invariant.scope;
    }

pub operands-returns : goal.operands-returns
operands-returns t c =
    let tokens = tokens_view c.args.tokens.now in
    let view = tree_view.part_view tokens in
    let parts = c.args.parts.now in
    let all = take_all c.loop-part.part-index parts (omega arith) in
    record {
      meaning = λ w locals s.
          c.loop-part.invariant.meaning w locals s ∙ ap (λ ps. map (operand w locals) (map view ps)) all
          ∙ sym (operands_mean w locals (map view parts));
      log = λ w locals s.
          grows_at _ _
          (operands_sites w locals (map view parts) ∙ ap (λ ps. flat_map (operand_sites w locals) (map view ps)) (sym all))
          (c.loop-part.invariant.log w locals s);
      scope = c.loop-part.invariant.scope;
    }

pub meant_branches-loop-branch-preserved : goal.meant_branches-loop-branch-preserved
meant_branches-loop-branch-preserved t c =
    let tokens = tokens_view c.args.tokens.now in
    let view = tree_view.branch_view tokens in
    let branches = c.args.branches.now in
    let i = c.loop-branch.branch-index in
    let b = c.branch-item.result in
    let p = tree_view.pattern_view tokens b.pattern in
    let e = tree_view.expr_view tokens b.body in
    let bound : words_view tokens c.deref.result.now ≡ words_of p =
    ap (words_view tokens) c.deref.ensures.value ∙ c.in_ok-pattern.ensures.words in
    record {
      meaning = λ w locals s.
          let here = stays s c.loop-branch.invariant.scope in
          one_more c.in_ok-push_branch.ensures (c.loop-branch.invariant.meaning w locals s)
          (ap (λ q. (q, expr_view c.in_ok-body.body.value)) (c.in_ok-pattern.ensures.meaning w s.is_world)
          ∙ ap (λ r. (pattern_of w p, r))
          (c.in_ok-body.ensures.meaning w locals here ∙ ap (λ ws. meant w (with_names ws locals) e) bound)
          ∙ sym (ap (branch_meant w locals) (views.branch_of tokens b)))
          ∙ sym (map_map_next (branch_meant w locals) view branches i b (omega arith) c.branch-item.is);
      log = λ w locals s.
          let place = stays s c.loop-branch.invariant.scope in
          grows_at _ _ (flat_next (one_branch_sites w locals) view branches i b (omega arith) c.branch-item.is)
          (grows_more (c.loop-branch.invariant.log w locals s)
          (grows_at _ _ (ap (one_branch_sites w locals) (views.branch_of tokens b))
          (grows_more (here (λ ls. pattern_sites ls p) place (c.in_ok-pattern.ensures.log w s.is_world))
          (grows_at _ _ (ap (λ ws. expr_sites w (with_names ws locals) e) (sym bound))
          (c.in_ok-body.ensures.log w locals place)))));
      scope = c.in_ok-body.ensures.scope ∙ c.loop-branch.invariant.scope;
    }

pub meant_branches-returns : goal.meant_branches-returns
meant_branches-returns t c =
    let tokens = tokens_view c.args.tokens.now in
    let view = tree_view.branch_view tokens in
    let branches = c.args.branches.now in
    let all = take_all c.loop-branch.branch-index branches (omega arith) in
    record {
      meaning = λ w locals s.
          ap canon.branches_of
          (c.loop-branch.invariant.meaning w locals s ∙ ap (λ bs. map (branch_meant w locals) (map view bs)) all)
          ∙ sym (branches_mean w locals (map view branches));
      log = λ w locals s.
          grows_at _ _
          (branches_sites w locals (map view branches)
          ∙ ap (λ bs. flat_map (one_branch_sites w locals) (map view bs)) (sym all))
          (c.loop-branch.invariant.log w locals s);
      scope = c.loop-branch.invariant.scope;
    }

-- ---- a callee finished, and more names in scope

pub meant-returns : goal.meant-returns
meant-returns t c = record {
  meaning =
      IfOk-weaker c.finish.result _ _
      (λ e is w locals s. is ∙ ap finished (c.in_ok-callee.ensures.meaning w locals s)) c.finish.ensures;
  log = on_ok c.finish.result c.in_ok-callee.ensures.log;
  scope = on_ok c.finish.result c.in_ok-callee.ensures.scope;
}

pub scoped-returns : goal.scoped-returns
scoped-returns t c =
    let tokens = tokens_view c.args.tokens.now in
    let ws = words_view tokens c.args.words.now in
    record {
      meaning = λ w locals s. c.in_ok-meaning.ensures.meaning w (with_names ws locals) (enters ws s c.in_ok-entered.ensures.names);
      log = λ w locals s. c.in_ok-meaning.ensures.log w (with_names ws locals) (enters ws s c.in_ok-entered.ensures.names);
      scope =
          c.in_ok-leave.ensures ∙ ap (without c.in_ok-entered.entered.items) c.in_ok-meaning.ensures.scope
          ∙ c.in_ok-entered.ensures.entered;
    }

-- ---- definitions

pub defined-loop-definition-preserved : goal.defined-loop-definition-preserved
defined-loop-definition-preserved t c =
    let tokens = tokens_view c.args.tokens.now in
    let view = tree_view.definition_view tokens in
    let ds = c.args.definitions.now in
    let i = c.loop-definition.definition-index in
    let d = c.definition-item.result in
    let before = map view (take i ds) in
    let each = bound_by_each (tree.definitions_of (map view ds)) in
    let next : map view (take (i + 1) ds) ≡ before ++ view d ∷ [] =
    map_next view ds i d (omega arith) c.definition-item.is in
    record {
      uses = λ w locals s.
          let sites = definition_sites w locals in
          c.in_ok-add.ensures.uses each w c.loop-definition.log (sites (view d)) c.loop-definition.invariant.binds
          (sym c.loop-definition.log.uses.ok.0 ∙ sym c.len-start.ensures)
          (c.in_ok-made.ensures.log w locals (stays s c.loop-definition.invariant.scope))
          ∙ ap (λ us. us ++ filter_map (used_definition w each) (sites (view d)) ∷ [])
          (c.loop-definition.invariant.uses w locals s)
          ∙ sym (ap (uses_among w each) (map_map_next sites view ds i d (omega arith) c.definition-item.is)
          ∙ map-append (filter_map (used_definition w each)) (map sites before) (sites (view d) ∷ []));
      made = λ w locals s.
          pushed made_view c.loop-definition.gathered.made.items _ c.in_ok-made.made
          (made_in w locals None (tree.definitions_of before)) (made_by w locals (annotated w locals None before) (view d))
          c.in_ok-add.ensures.made (c.loop-definition.invariant.made w locals s)
          (c.in_ok-made.ensures.meaning w locals (stays s c.loop-definition.invariant.scope)
          ∙ ap (λ a. made_by w locals a (view d)) (c.loop-definition.invariant.before w locals s))
          ∙ sym (ap (λ es. made_in w locals None (tree.definitions_of es)) next ∙ made_next w locals None before (view d));
      before = λ w locals s.
          ap (option_map annotation_view) c.in_ok-add.ensures.before
          ∙ c.in_ok-made.ensures.before w locals (stays s c.loop-definition.invariant.scope)
          ∙ sym (ap (annotated w locals None) next ∙ annotated_next w locals None before (view d));
      log = λ w locals s.
          let sites = definition_sites w locals in
          grows_at _ _
          (ap joined_sites (map_map_next sites view ds i d (omega arith) c.definition-item.is)
          ∙ joined_next (map sites before) (sites (view d)))
          (grows_more (c.loop-definition.invariant.log w locals s)
          (c.in_ok-made.ensures.log w locals (stays s c.loop-definition.invariant.scope)));
      scope = c.in_ok-made.ensures.scope ∙ c.loop-definition.invariant.scope;
      binds = subst (λ b. Binds b each) (sym c.in_ok-add.ensures.binders) c.loop-definition.invariant.binds;
      within = c.in_ok-add.ensures.within each c.loop-definition.invariant.binds c.loop-definition.invariant.within;
      count = omega (arith, c.in_ok-add.ensures.count, c.loop-definition.invariant.count);
      few = c.loop-definition.invariant.few;
    }

pub defined-finish-requires : goal.defined-finish-requires
defined-finish-requires t c =
    let view = tree_view.definition_view (tokens_view c.args.tokens.now) in
    let ds = c.args.definitions.now in
    let here = c.loop-definition.invariant in
    let uses = c.loop-definition.gathered.uses.items in
    let many : length uses ≡ length ds = omega (arith, here.count) in
    let each : length (bound_by_each (tree.definitions_of (map view ds))) ≡ length uses =
    ap length (each_bound (map view ds)) ∙ length-map (map view ds) bound_by ∙ length-map ds view ∙ sym many in
    record {
      count = omega (arith, many, here.few);
      places = subst (λ n. All (λ row. All (λ j. j < n) row.items) uses) each here.within;
      all = many;
    }

pub defined-returns : goal.defined-returns
defined-returns t c =
    let view = tree_view.definition_view (tokens_view c.args.tokens.now) in
    let ds = c.args.definitions.now in
    let vs = map view ds in
    let whole = tree.definitions_of vs in
    let each = bound_by_each whole in
    let all = take_all c.loop-definition.definition-index ds (omega arith) in
    let here = c.loop-definition.invariant in
    let gathered = c.loop-definition.gathered in
    record {
      meaning =
          IfOk-weaker c.finish.result _ _
          (λ gs is w locals s.
          is
          ∙ ap (λ us. groups_in us (map made_view gathered.made.items))
          (uses_are w locals each view ds c.loop-definition.definition-index (plain gathered.uses.items) all (here.uses w locals s))
          ∙ ap (groups_in (uses_among w each (definitions_sites w locals whole)))
          (here.made w locals s ∙ ap (λ es. made_in w locals None (tree.definitions_of (map view es))) all))
          c.finish.ensures.groups;
      log =
          on_ok_weaker c.finish.result
          (λ g w locals s.
          grows_more
          (grows_at _ _
          (ap joined_sites
          (each_definition w locals vs ∙ ap (λ es. map (definition_sites w locals) (map view es)) (sym all)))
          (here.log w locals s))
          (grows_at _ _
          (ap (λ us. reaching_sites us (defined_in whole))
          (sym
          (uses_are w locals each view ds c.loop-definition.definition-index (plain gathered.uses.items) all (here.uses w locals s))))
          (g w)))
          c.finish.ensures.log;
      scope = on_ok c.finish.result here.scope;
    }

pub one_definition-returns-in_ok-annotate-in-Annotate : goal.one_definition-returns-in_ok-annotate-in-Annotate
one_definition-returns-in_ok-annotate-in-Annotate t c =
    let tokens = tokens_view c.args.tokens.now in
    let view = tree_view.definition_view tokens in
    let whole = ap view c.in-Annotate.is ∙ views.annotate_definition tokens _ _ in
    record {
      meaning = λ w locals s. ap (made_by w locals (option_map annotation_view c.args.before.now)) (sym whole);
      log = λ w locals s. grows_at _ _ (ap (definition_sites w locals) whole) (c.in_ok-annotate-in-Annotate.ensures.log w s.is_world);
      scope = refl;
      before = λ w locals s. c.in_ok-annotate-in-Annotate.ensures.meaning w s.is_world ∙ sym (ap (annotation_of w) whole);
    }

pub one_definition-returns-in_ok-value-in-Define : goal.one_definition-returns-in_ok-value-in-Define
one_definition-returns-in_ok-value-in-Define t c =
    let tokens = tokens_view c.args.tokens.now in
    let view = tree_view.definition_view tokens in
    let x = word_view tokens c.in-Define.name in
    let ps = patterns_view tokens c.in-Define.parameters.items in
    let e = tree_view.expr_view tokens c.in-Define.body in
    let whole : view c.args.definition.now ≡ tree.Define x ps e =
    ap view c.in-Define.is ∙ views.define_definition tokens c.in-Define.name c.in-Define.parameters c.in-Define.body in
    let written = ap (patterns_view tokens) c.deref.ensures.value in
    let words = ap (words_view tokens) c.deref-in-Define.ensures.value ∙ c.in_ok-patterns-in-Define.ensures.words ∙ ap words_of_all written in
    record {
      meaning =
          IfOk-weaker c.defined_by.result _ _
          (λ m is w locals s.
          construct.define_means w locals x ps e _ _ _ _ _ _ _ whole is
          refl
          (ap (λ qs. is_function qs e) (ap (patterns_view tokens) c.deref-in-Define-2.ensures.value))
          (c.in_ok-patterns-in-Define.ensures.meaning w s.is_world ∙ ap (patterns_of w) written)
          (c.in_ok-value-in-Define.ensures.meaning w locals s ∙ ap (λ ws. meant w (with_names ws locals) e) words))
          c.defined_by.ensures.meaning;
      log =
          on_ok c.defined_by.result
          (λ w locals s. grows_at _ _ (ap (definition_sites w locals) whole)
          (grows_more
          (grows_at _ _ (ap (list_sites locals) (sym written))
          (here (λ ls. list_sites ls (patterns_view tokens c.deref.result.now)) s
          (c.in_ok-patterns-in-Define.ensures.log w s.is_world)))
          (grows_at _ _ (ap (λ ws. expr_sites w (with_names ws locals) e) (sym words))
          (c.in_ok-value-in-Define.ensures.log w locals s))));
      scope = on_ok c.defined_by.result c.in_ok-value-in-Define.ensures.scope;
      before =
          on_ok_weaker c.defined_by.result
          (λ none w locals s. ap (option_map annotation_view) none ∙ sym (ap (annotation_of w) whole))
          c.defined_by.ensures.before;
    }

pub one_definition-returns-in_ok-value-in-Destructure : goal.one_definition-returns-in_ok-value-in-Destructure
one_definition-returns-in_ok-value-in-Destructure t c =
    let tokens = tokens_view c.args.tokens.now in
    let view = tree_view.definition_view tokens in
    let p = tree_view.pattern_view tokens c.in-Destructure.left in
    let e = tree_view.expr_view tokens c.in-Destructure.body in
    let whole : view c.args.definition.now ≡ tree.Destructure p e =
    ap view c.in-Destructure.is ∙ views.destructure_definition tokens c.in-Destructure.left c.in-Destructure.body in
    record {
      meaning = λ w locals s.
          construct.destructure_means w locals p e _ _ _ _ _ whole c.parts_of.ensures
          (c.in_ok-parts-in-Destructure.ensures.meaning w s.is_world)
          (c.in_ok-value-in-Destructure.ensures.meaning w locals s);
      log = λ w locals s. grows_at _ _ (ap (definition_sites w locals) whole)
          (grows_more (c.in_ok-parts-in-Destructure.ensures.log w s.is_world)
          (c.in_ok-value-in-Destructure.ensures.log w locals s));
      scope = c.in_ok-value-in-Destructure.ensures.scope;
      before = λ w locals s. ap (option_map annotation_view) c.forget.ensures ∙ sym (ap (annotation_of w) whole);
    }

-- ---- constructs

pub callee-returns-in-OneWord : goal.callee-returns-in-OneWord
callee-returns-in-OneWord t c =
    let tokens = tokens_view c.args.tokens.now in
    let view = tree_view.expr_view tokens in
    let e = expr_of (token_view tokens c.in-OneWord.word) in
    let whole : view c.args.written.now ≡ e = ap view c.in-OneWord.is ∙ views.word_expr tokens c.in-OneWord.word in
    record {
      meaning =
          IfOk-weaker c.one_word.result _ _
          (λ r is w locals s. construct.word_means w locals _ e _ _ whole (is w s.is_world) s.in_scope)
          c.one_word.ensures.meaning;
      log =
          on_ok_weaker c.one_word.result
          (λ g w locals s. grows_at _ _ (ap (expr_sites w locals) whole) (here (λ ls. expr_sites w ls e) s (g w s.is_world)))
          c.one_word.ensures.log;
      scope = on_ok c.one_word.result refl;
    }

pub callee-returns-in_ok-inner-in-Negative : goal.callee-returns-in_ok-inner-in-Negative
callee-returns-in_ok-inner-in-Negative t c =
    let tokens = tokens_view c.args.tokens.now in
    let view = tree_view.expr_view tokens in
    let place = place_view tokens c.in-Negative.sign in
    let e = view c.deref.result.now in
    let whole : view c.args.written.now ≡ tree.Negate place e =
    ap view c.in-Negative.is ∙ views.negative_expr tokens c.in-Negative.sign c.in-Negative.inner
    ∙ ap (λ q. tree.Negate place (view q)) (sym c.deref.ensures) in
    record {
      meaning =
          IfOk-weaker c.negated.result _ _
          (λ r is w locals s. construct.negative_means w locals place _ e _ _ whole is
          (c.in_ok-inner-in-Negative.ensures.meaning w locals s))
          c.negated.ensures;
      log =
          on_ok c.negated.result
          (λ w locals s. grows_at _ _ (ap (expr_sites w locals) whole) (c.in_ok-inner-in-Negative.ensures.log w locals s));
      scope = on_ok c.negated.result c.in_ok-inner-in-Negative.ensures.scope;
    }

pub callee-returns-in_ok-arguments-in-Apply : goal.callee-returns-in_ok-arguments-in-Apply
callee-returns-in_ok-arguments-in-Apply t c =
    let tokens = tokens_view c.args.tokens.now in
    let view = tree_view.expr_view tokens in
    let f = view c.deref-in-Apply.result.now in
    let es = tree.exprs_of (map view c.deref-in-Apply-2.result.now) in
    let whole : view c.args.written.now ≡ tree.Apply f es =
    ap view c.in-Apply.is ∙ views.apply_expr tokens c.in-Apply.function c.in-Apply.arguments
    ∙ ap (λ q. tree.Apply (view q) (tree.exprs_of (map view c.in-Apply.arguments.items))) (sym c.deref-in-Apply.ensures)
    ∙ ap (λ qs. tree.Apply f (tree.exprs_of (map view qs))) (sym c.deref-in-Apply-2.ensures.value) in
    let first = c.in_ok-function-in-Apply.ensures in
    let more = c.in_ok-arguments-in-Apply.ensures in
    record {
      meaning =
          IfOk-weaker c.applied.result _ _
          (λ r is w locals s. construct.apply_means w locals _ f es _ _ _ whole is
          (ap callee_view c.in_ok-function-in-Apply-2.ensures ∙ first.meaning w locals s)
          (more.meaning w locals (stays s first.scope)))
          c.applied.ensures;
      log =
          on_ok c.applied.result
          (λ w locals s. grows_at _ _ (ap (expr_sites w locals) whole)
          (grows_more (first.log w locals s) (more.log w locals (stays s first.scope))));
      scope = on_ok c.applied.result (more.scope ∙ first.scope);
    }

pub callee-returns-in_ok-operands-in-Chain : goal.callee-returns-in_ok-operands-in-Chain
callee-returns-in_ok-operands-in-Chain t c =
    let tokens = tokens_view c.args.tokens.now in
    let view = tree_view.expr_view tokens in
    let e = view c.deref-in-Chain.result.now in
    let ps = tree.parts_of (map (tree_view.part_view tokens) c.deref-in-Chain-2.result.now) in
    let whole : view c.args.written.now ≡ tree.Chain e ps =
    ap view c.in-Chain.is ∙ views.chain_expr tokens c.in-Chain.first c.in-Chain.parts
    ∙ ap (λ q. tree.Chain (view q) (tree.parts_of (map (tree_view.part_view tokens) c.in-Chain.parts.items)))
    (sym c.deref-in-Chain.ensures)
    ∙ ap (λ qs. tree.Chain e (tree.parts_of (map (tree_view.part_view tokens) qs))) (sym c.deref-in-Chain-2.ensures.value) in
    let first = c.in_ok-first-in-Chain.ensures in
    let more = c.in_ok-operands-in-Chain.ensures in
    record {
      meaning =
          IfOk-weaker c.chain.result _ _
          (λ r is w locals s. construct.chain_means w locals _ e ps _ _ _ whole is
          (ap callee_view c.in_ok-first-in-Chain-2.ensures ∙ first.meaning w locals s)
          (more.meaning w locals (stays s first.scope)))
          c.chain.ensures;
      log =
          on_ok c.chain.result
          (λ w locals s. grows_at _ _ (ap (expr_sites w locals) whole)
          (grows_more (first.log w locals s) (more.log w locals (stays s first.scope))));
      scope = on_ok c.chain.result (more.scope ∙ first.scope);
    }

pub callee-returns-in_ok-items-in-List : goal.callee-returns-in_ok-items-in-List
callee-returns-in_ok-items-in-List t c =
    let tokens = tokens_view c.args.tokens.now in
    let view = tree_view.expr_view tokens in
    let place = place_view tokens c.in-List.first in
    let es = tree.exprs_of (map view c.deref-in-List.result.now) in
    let whole : view c.args.written.now ≡ tree.ListOf place es =
    ap view c.in-List.is ∙ views.list_expr tokens c.in-List.first c.in-List.items
    ∙ ap (λ qs. tree.ListOf place (tree.exprs_of (map view qs))) (sym c.deref-in-List.ensures.value) in
    let all = c.in_ok-items-in-List.ensures in
    record {
      meaning =
          IfOk-weaker c.strict_at.result _ _
          (λ r is w locals s. construct.list_means w locals place _ es _ _ whole is (all.meaning w locals s))
          c.strict_at.ensures;
      log = on_ok c.strict_at.result (λ w locals s. grows_at _ _ (ap (expr_sites w locals) whole) (all.log w locals s));
      scope = on_ok c.strict_at.result all.scope;
    }

pub callee-returns-in_ok-parts-in-Tuple : goal.callee-returns-in_ok-parts-in-Tuple
callee-returns-in_ok-parts-in-Tuple t c =
    let tokens = tokens_view c.args.tokens.now in
    let view = tree_view.expr_view tokens in
    let place = place_view tokens c.in-Tuple.first in
    let es = tree.exprs_of (map view c.deref-in-Tuple.result.now) in
    let whole : view c.args.written.now ≡ tree.TupleOf place es =
    ap view c.in-Tuple.is ∙ views.tuple_expr tokens c.in-Tuple.first c.in-Tuple.parts
    ∙ ap (λ qs. tree.TupleOf place (tree.exprs_of (map view qs))) (sym c.deref-in-Tuple.ensures.value) in
    let all = c.in_ok-parts-in-Tuple.ensures in
    record {
      meaning =
          IfOk-weaker c.strict_at-in-Tuple.result _ _
          (λ r is w locals s. construct.tuple_means w locals place _ es _ _ whole is (all.meaning w locals s))
          c.strict_at-in-Tuple.ensures;
      log =
          on_ok c.strict_at-in-Tuple.result
          (λ w locals s. grows_at _ _ (ap (expr_sites w locals) whole) (all.log w locals s));
      scope = on_ok c.strict_at-in-Tuple.result all.scope;
    }

pub callee-returns-in_ok-values-in-Record-2 : goal.callee-returns-in_ok-values-in-Record-2
callee-returns-in_ok-values-in-Record-2 t c =
    let tokens = tokens_view c.args.tokens.now in
    let view = tree_view.expr_view tokens in
    let fields = tree_view.part_view tokens in
    let first = c.in-Record.first in
    let base = c.in-Record.base in
    let ps = map fields c.in-Record.fields.items in
    let whole : view c.args.written.now ≡ record_expr tokens first base ps =
    ap view c.in-Record.is ∙ views.record_of_expr tokens first base c.in-Record.fields in
    let walked = ap (λ xs. tree.parts_of (map fields xs)) c.deref-in-Record.ensures.value in
    let named = ap (λ xs. part_words (tree.parts_of (map fields xs))) c.deref-in-Record-2.ensures.value in
    let before = c.in_ok-values-in-Record.ensures in
    let more = c.in_ok-values-in-Record-2.ensures in
    record {
      meaning =
          IfOk-weaker c.record_of.result _ _
          (λ r is w locals s. construct.record_means w locals tokens first base ps _ _ _ whole
          (is
          ∙ ap (λ xs. at (place_view tokens first) (canon.Strict (record_op (option_map (word_view tokens) base)
          (map name_of xs)) (canon.exprs_of (map expr_view c.in_ok-values-in-Record-2.values.items)))) named)
          (more.meaning w locals s
          ∙ ap (λ vs. vs ++ meant_parts w locals (tree.parts_of (map fields c.deref-in-Record.result.now)))
          (before.meaning w s.is_world ∙ ap (λ ls. base_values w ls (option_map (word_view tokens) base)) s.in_scope)
          ∙ ap (λ qs. base_values w locals (option_map (word_view tokens) base) ++ meant_parts w locals qs) walked))
          c.record_of.ensures.meaning;
      log =
          on_ok_weaker c.record_of.result
          (λ g w locals s. grows_at _ _
          (ap (expr_sites w locals) whole ∙ construct.record_sites w locals tokens first base ps)
          (grows_more
          (grows_more
          (here (λ ls. base_sites ls (option_map (word_view tokens) base)) s (before.log w s.is_world))
          (grows_at _ _ (ap (part_sites w locals) (sym walked)) (more.log w locals s)))
          (grows_at _ _ (ap (λ xs. FieldsTogether xs ∷ []) (sym named)) (g w))))
          c.record_of.ensures.log;
      scope = on_ok c.record_of.result more.scope;
    }

pub callee-returns-in_ok-inner-in-Access : goal.callee-returns-in_ok-inner-in-Access
callee-returns-in_ok-inner-in-Access t c =
    let tokens = tokens_view c.args.tokens.now in
    let view = tree_view.expr_view tokens in
    let place = place_view tokens c.in-Access.first in
    let e = view c.deref-in-Access.result.now in
    let xs = fields_view tokens c.deref-in-Access-2.result.now in
    let whole : view c.args.written.now ≡ tree.Access place e xs =
    ap view c.in-Access.is ∙ views.access_expr tokens c.in-Access.first c.in-Access.inner c.in-Access.fields
    ∙ ap (λ q. tree.Access place (view q) (fields_view tokens c.in-Access.fields.items)) (sym c.deref-in-Access.ensures)
    ∙ ap (λ qs. tree.Access place e (fields_view tokens qs)) (sym c.deref-in-Access-2.ensures.value) in
    let inner = c.in_ok-inner-in-Access.ensures in
    record {
      meaning =
          IfOk-weaker c.accessed.result _ _
          (λ r is w locals s. construct.access_means w locals place _ e xs _ _ whole is (inner.meaning w locals s))
          c.accessed.ensures;
      log = on_ok c.accessed.result (λ w locals s. grows_at _ _ (ap (expr_sites w locals) whole) (inner.log w locals s));
      scope = on_ok c.accessed.result inner.scope;
    }

pub callee-returns-in_ok-no-in-If : goal.callee-returns-in_ok-no-in-If
callee-returns-in_ok-no-in-If t c =
    let tokens = tokens_view c.args.tokens.now in
    let view = tree_view.expr_view tokens in
    let e = view c.deref-in-If.result.now in
    let a = view c.deref-in-If-2.result.now in
    let b = view c.deref-in-If-3.result.now in
    let whole : view c.args.written.now ≡ tree.If e a b =
    ap view c.in-If.is ∙ views.if_expr tokens c.in-If.condition c.in-If.yes c.in-If.no
    ∙ ap (λ q. tree.If (view q) (view c.in-If.yes.value) (view c.in-If.no.value)) (sym c.deref-in-If.ensures)
    ∙ ap (λ q. tree.If e (view q) (view c.in-If.no.value)) (sym c.deref-in-If-2.ensures)
    ∙ ap (λ q. tree.If e a (view q)) (sym c.deref-in-If-3.ensures) in
    let condition = c.in_ok-condition-in-If.ensures in
    let yes = c.in_ok-yes-in-If.ensures in
    let no = c.in_ok-no-in-If.ensures in
    record {
      meaning =
          IfOk-weaker c.conditional.result _ _
          (λ r is w locals s. construct.if_means w locals _ e a b _ _ _ _ whole is (condition.meaning w locals s)
          (yes.meaning w locals (stays s condition.scope)) (no.meaning w locals (stays s (yes.scope ∙ condition.scope))))
          c.conditional.ensures;
      log =
          on_ok c.conditional.result
          (λ w locals s. grows_at _ _ (ap (expr_sites w locals) whole)
          (grows_more (grows_more (condition.log w locals s) (yes.log w locals (stays s condition.scope)))
          (no.log w locals (stays s (yes.scope ∙ condition.scope)))));
      scope = on_ok c.conditional.result (no.scope ∙ yes.scope ∙ condition.scope);
    }

pub callee-returns-in_ok-branches-in-Case : goal.callee-returns-in_ok-branches-in-Case
callee-returns-in_ok-branches-in-Case t c =
    let tokens = tokens_view c.args.tokens.now in
    let view = tree_view.expr_view tokens in
    let place = place_view tokens c.in-Case.first in
    let e = view c.deref-in-Case.result.now in
    let bs = tree.branches_of (map (tree_view.branch_view tokens) c.deref-in-Case-2.result.now) in
    let whole : view c.args.written.now ≡ tree.Case place e bs =
    ap view c.in-Case.is ∙ views.case_expr tokens c.in-Case.first c.in-Case.subject c.in-Case.branches
    ∙ ap (λ q. tree.Case place (view q) (tree.branches_of (map (tree_view.branch_view tokens) c.in-Case.branches.items)))
    (sym c.deref-in-Case.ensures)
    ∙ ap (λ qs. tree.Case place e (tree.branches_of (map (tree_view.branch_view tokens) qs)))
    (sym c.deref-in-Case-2.ensures.value) in
    let subject = c.in_ok-subject-in-Case.ensures in
    let branches = c.in_ok-branches-in-Case.ensures in
    record {
      meaning =
          IfOk-weaker c.case_of.result _ _
          (λ r is w locals s. construct.case_means w locals place _ e bs _ _ _ whole is (subject.meaning w locals s)
          (branches.meaning w locals (stays s subject.scope)))
          c.case_of.ensures;
      log =
          on_ok c.case_of.result
          (λ w locals s. grows_at _ _ (ap (expr_sites w locals) whole)
          (grows_more (subject.log w locals s) (branches.log w locals (stays s subject.scope))));
      scope = on_ok c.case_of.result (branches.scope ∙ subject.scope);
    }

pub callee-returns-in_ok-leave-in-Let : goal.callee-returns-in_ok-leave-in-Let
callee-returns-in_ok-leave-in-Let t c =
    let tokens = tokens_view c.args.tokens.now in
    let view = tree_view.expr_view tokens in
    let entered_at = tree.definitions_of (map (tree_view.definition_view tokens) c.deref-in-Let.result.now) in
    let ds = tree.definitions_of (map (tree_view.definition_view tokens) c.deref-in-Let-2.result.now) in
    let e = view c.deref-in-Let-3.result.now in
    let same : entered_at ≡ ds =
    ap (λ xs. tree.definitions_of (map (tree_view.definition_view tokens) xs))
    (c.deref-in-Let.ensures.value ∙ sym c.deref-in-Let-2.ensures.value) in
    let whole : view c.args.written.now ≡ tree.Let ds e =
    ap view c.in-Let.is ∙ views.let_expr tokens c.in-Let.definitions c.in-Let.body
    ∙ ap (λ xs. tree.Let (tree.definitions_of (map (tree_view.definition_view tokens) xs)) (view c.in-Let.body.value))
    (sym c.deref-in-Let-2.ensures.value)
    ∙ ap (λ q. tree.Let ds (view q)) (sym c.deref-in-Let-3.ensures) in
    let entered = c.in_ok-entered-in-Let.ensures in
    let groups = c.in_ok-groups-in-Let.ensures in
    let body = c.in_ok-body-in-Let.ensures in
    let names = entered.names ∙ ap (λ xs. with_names (bound_in xs) (locals_of c.args.scope.now)) same in
    record {
      meaning =
          IfOk-weaker c.let_in.result _ _
          (λ r is w locals s.
          let inside = enters (bound_in ds) s names in
          construct.let_means w locals _ e ds _ _ _ whole is
          (groups.meaning w (with_names (bound_in ds) locals) inside)
          (body.meaning w (with_names (bound_in ds) locals) (stays inside groups.scope)))
          c.let_in.ensures;
      log =
          on_ok c.let_in.result
          (λ w locals s.
          let inside = enters (bound_in ds) s names in
          grows_at _ _ (ap (expr_sites w locals) whole)
          (block_grows (joined_sites (definitions_sites w (with_names (bound_in ds) locals) ds))
          (reaching_sites (uses_among w (bound_by_each ds) (definitions_sites w (with_names (bound_in ds) locals) ds))
          (defined_in ds))
          (grows_at _ _ (ap (λ xs. binding_sites locals (bound_in xs)) (sym same))
          (here (λ ls. binding_sites ls (bound_in entered_at)) s (entered.log w s.is_world)))
          (groups.log w (with_names (bound_in ds) locals) inside)
          (body.log w (with_names (bound_in ds) locals) (stays inside groups.scope))));
      scope =
          on_ok c.let_in.result
          (c.in_ok-leave-in-Let.ensures
          ∙ ap (without c.in_ok-entered-in-Let.entered.items) (body.scope ∙ groups.scope) ∙ entered.entered);
    }

pub callee-returns-in_ok-body-in-Lambda : goal.callee-returns-in_ok-body-in-Lambda
callee-returns-in_ok-body-in-Lambda t c =
    let tokens = tokens_view c.args.tokens.now in
    let view = tree_view.expr_view tokens in
    let place = place_view tokens c.in-Lambda.first in
    let ps = patterns_view tokens c.deref-in-Lambda.result.now in
    let e = view c.deref-in-Lambda-3.result.now in
    let whole : view c.args.written.now ≡ tree.Lambda place ps e =
    ap view c.in-Lambda.is ∙ views.lambda_expr tokens c.in-Lambda.first c.in-Lambda.parameters c.in-Lambda.body
    ∙ ap (λ qs. tree.Lambda place (patterns_view tokens qs) (view c.in-Lambda.body.value)) (sym c.deref-in-Lambda.ensures.value)
    ∙ ap (λ q. tree.Lambda place ps (view q)) (sym c.deref-in-Lambda-3.ensures) in
    let parameters = c.in_ok-patterns-in-Lambda.ensures in
    let body = c.in_ok-body-in-Lambda.ensures in
    let words = ap (words_view tokens) c.deref-in-Lambda-2.ensures.value ∙ parameters.words in
    record {
      meaning =
          IfOk-weaker c.lambda.result _ _
          (λ r is w locals s. construct.lambda_means w locals place _ e ps _ _ _ whole is (parameters.meaning w s.is_world)
          (body.meaning w locals s ∙ ap (λ ws. meant w (with_names ws locals) e) words))
          c.lambda.ensures;
      log =
          on_ok c.lambda.result
          (λ w locals s. grows_at _ _ (ap (expr_sites w locals) whole)
          (grows_more (here (λ ls. list_sites ls ps) s (parameters.log w s.is_world))
          (grows_at _ _ (ap (λ ws. expr_sites w (with_names ws locals) e) (sym words)) (body.log w locals s))));
      scope = on_ok c.lambda.result body.scope;
    }
