-- By the form of the definition, as the views of the tree tell it.
use Rattle.std.proofs.Common.{◌≡◌, ◌++◌, sym, ap, ◌∙◌}
use Rattle.std.specs.Prelude.{option_map}
use Rattle.std.specs.List.{flat_map}
use Rattle.std.proofs.lemmas.Result.{IfOk-weaker, on_ok_weaker}
use Rattle.elm_tree.specs.Tree as tree
use Rattle.elm_tree.specs.View.{definition_view, word_view, patterns_view, expr_view}
use Rattle.elm_tree.specs.Turns.{tokens_view}
use Rattle.elm_tree.proofs.Views as views
use Rattle.elm_canon.specs.View.{annotation_view}
use Rattle.canon_env.specs.Locals.{no_locals}
use Rattle.canon_env.specs.Sites.{faults_at}
use Rattle.canon_expr.specs.Exprs.{annotation_of, definition_sites}
use Rattle.canon_module.specs.Items.{ValueItem, top_made}
use Rattle.canon_module.proofs.Outcome.{anyway, if_done, on_done}
use Rattle.canon_module.proofs.walk.definition.Goals as goal

pub returns-in-Annotate : goal.returns-in-Annotate
returns-in-Annotate c =
    let tokens = tokens_view c.args.tokens.now in
    let whole = ap (definition_view tokens) c.in-Annotate.is
    ∙ views.annotate_definition tokens c.in-Annotate.field-0 c.in-Annotate.annotated in
    record {
      meaning = if_done c.when_done.result c.annotate.result _ _ c.when_done.ensures
          (λ w is named. ap (λ d. ValueItem (top_made w (option_map annotation_view c.args.before.now) d)) (sym whole));
      faults = on_done _ c.when_done.result c.annotate.result _ c.when_done.ensures
          (on_ok_weaker c.annotate.result
          (λ told w is.
          told w is
          ∙ ap (λ d. c.args.log.now.findings.items ++ flat_map (faults_at w) (definition_sites w no_locals d)) (sym whole))
          c.annotate.ensures.faults);
      before = on_done _ c.when_done.result c.annotate.result _ c.when_done.ensures
          (on_ok_weaker c.annotate.result (λ told w is. told w is ∙ sym (ap (annotation_of w) whole))
          c.annotate.ensures.meaning);
    }

pub returns-in-Define : goal.returns-in-Define
returns-in-Define c =
    let tokens = tokens_view c.args.tokens.now in
    let x = word_view tokens c.in-Define.name in
    let e = expr_view tokens c.in-Define.body in
    let before = option_map annotation_view c.args.before.now in
    let whole : definition_view tokens c.args.definition.now
    ≡ tree.Define x (patterns_view tokens c.in-Define.parameters.items) e =
    ap (definition_view tokens) c.in-Define.is
    ∙ views.define_definition tokens c.in-Define.name c.in-Define.parameters c.in-Define.body in
    record {
      meaning = IfOk-weaker c.named.result _ _
          (λ i told w is named.
          told w is named
          ∙ ap (λ ps. ValueItem (top_made w before (tree.Define x (patterns_view tokens ps) e))) c.deref.ensures.value
          ∙ ap (λ d. ValueItem (top_made w before d)) (sym whole))
          c.named.ensures.meaning;
      faults = on_ok_weaker c.named.result
          (λ g w is.
          (g w is).findings
          ∙ ap (λ d. c.args.log.now.findings.items ++ flat_map (faults_at w) (definition_sites w no_locals d))
          (ap (λ ps. tree.Define x (patterns_view tokens ps) e) c.deref.ensures.value ∙ sym whole))
          c.named.ensures.log;
      before = on_ok_weaker c.named.result
          (λ none w is. ap (option_map annotation_view) none ∙ sym (ap (annotation_of w) whole))
          c.named.ensures.before;
    }

pub returns-in-Destructure : goal.returns-in-Destructure
returns-in-Destructure c =
    let tokens = tokens_view c.args.tokens.now in
    let whole = ap (definition_view tokens) c.in-Destructure.is
    ∙ views.destructure_definition tokens c.in-Destructure.left c.in-Destructure.body in
    record {
      meaning = if_done c.when_done-in-Destructure.result c.note_parts.result _ _ c.when_done-in-Destructure.ensures
          (λ w is named. ap (λ d. ValueItem (top_made w (option_map annotation_view c.args.before.now) d)) (sym whole));
      faults = on_done _ c.when_done-in-Destructure.result c.note_parts.result _ c.when_done-in-Destructure.ensures
          (on_ok_weaker c.note_parts.result
          (λ told w is.
          (told w is).findings
          ∙ ap (λ d. c.args.log.now.findings.items ++ flat_map (faults_at w) (definition_sites w no_locals d)) (sym whole))
          c.note_parts.ensures);
      before = anyway c.when_done-in-Destructure.result
          (λ w is. ap (option_map annotation_view) c.forget.ensures ∙ sym (ap (annotation_of w) whole));
    }
