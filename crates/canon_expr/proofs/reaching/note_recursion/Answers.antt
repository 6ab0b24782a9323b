-- Whether the definition is refused: `refused`, `not_refused`.
use Rattle.std.proofs.Common.{◌≡◌, [], ◌∷◌, ◌++◌, refl, sym, ap, ◌∙◌}
use Rattle.elm_base.specs.declared.fault.Code.TheVariants.{RecursiveValue}
use Rattle.elm_tree.specs.View.{definition_view, expr_view, patterns_view, pattern_view, words_view}
use Rattle.elm_tree.specs.Turns.{tokens_view}
use Rattle.elm_tree.proofs.Views as views
use Rattle.canon_env.specs.Sites.{Defined, finding}
use Rattle.canon_env.specs.Patterns.{words_of}
use Rattle.canon_expr.specs.Binding.{defined_by, is_function, pattern_place, first_text}
use Rattle.canon_expr.proofs.Marking.{refused, not_refused, no_reach, no_function, both_so, on_ok_both}
use Rattle.canon_expr.proofs.reaching.note_recursion.Goals as goal

pub returns-then-not-reaches : goal.returns-then-not-reaches
returns-then-not-reaches c = λ w.
    let d = defined_by (definition_view (tokens_view c.args.tokens.now) c.args.definition.now) in
    not_refused w c.args.log.now c.args.reaches d (no_reach c.args.reaches d c.if-not-reaches.true)

pub returns-then-is_function : goal.returns-then-is_function
returns-then-is_function c = λ w.
    let tokens = tokens_view c.args.tokens.now in
    let d = defined_by (definition_view tokens c.args.definition.now) in
    not_refused w c.args.log.now c.args.reaches d
    (no_function c.args.reaches d
    (ap (λ e. Defined.is_function (defined_by e))
    (ap (definition_view tokens) c.in-Define.is ∙ views.define_definition tokens c.in-Define.name c.in-Define.parameters c.in-Define.body)
    ∙ ap (λ ps. is_function (patterns_view tokens ps) (expr_view tokens c.in-Define.body)) (sym c.deref.ensures.value)
    ∙ sym (c.is_function.ensures tokens) ∙ c.if-is_function.true))

pub returns-in-Annotate : goal.returns-in-Annotate
returns-in-Annotate c = λ w.
    let tokens = tokens_view c.args.tokens.now in
    let d = defined_by (definition_view tokens c.args.definition.now) in
    not_refused w c.args.log.now c.args.reaches d
    (no_function c.args.reaches d
    (ap (λ e. Defined.is_function (defined_by e))
    (ap (definition_view tokens) c.in-Annotate.is ∙ views.annotate_definition tokens _ _)))

pub returns-else-is_function : goal.returns-else-is_function
returns-else-is_function c =
    let tokens = tokens_view c.args.tokens.now in
    let d = defined_by (definition_view tokens c.args.definition.now) in
    let old = c.args.log.now.findings.items in
    let whole =
    ap (definition_view tokens) c.in-Define.is
    ∙ views.define_definition tokens c.in-Define.name c.in-Define.parameters c.in-Define.body in
    on_ok_both c.note_word.result
    (λ found used w. refused w c.args.log.now c.note_word.new.self c.args.reaches d
    (both_so c.args.reaches d c.if-not-reaches.false
    (ap (λ e. Defined.is_function (defined_by e)) whole
    ∙ ap (λ ps. is_function (patterns_view tokens ps) (expr_view tokens c.in-Define.body)) (sym c.deref.ensures.value)
    ∙ sym (c.is_function.ensures tokens) ∙ c.if-is_function.false))
    (found ∙ ap (λ e. old ++ finding RecursiveValue (Defined.place (defined_by e)) (Defined.name (defined_by e)) ∷ []) (sym whole)) used)
    c.note_word.ensures.findings c.note_word.ensures.uses

pub returns-in_ok-put-in-Destructure : goal.returns-in_ok-put-in-Destructure
returns-in_ok-put-in-Destructure c = λ w.
    let tokens = tokens_view c.args.tokens.now in
    let d = defined_by (definition_view tokens c.args.definition.now) in
    let old = c.args.log.now.findings.items in
    let p = pattern_view tokens c.in-Destructure.pattern in
    let whole =
    ap (definition_view tokens) c.in-Destructure.is
    ∙ views.destructure_definition tokens c.in-Destructure.pattern c.in-Destructure.field-1 in
    let place : c.place_at.result ≡ pattern_place p =
    (λ i. record { row = c.place_at.ensures.row i; column = c.place_at.ensures.column i }) ∙ c.first_word.ensures tokens in
    let name : c.in_ok-copy-in-Destructure.field-0 ≡ first_text (words_of p) =
    c.in_ok-copy-in-Destructure.ensures ∙ c.first_text.ensures
    ∙ ap first_text (ap (words_view tokens) c.deref-in-Destructure.ensures.value ∙ c.in_ok-words-in-Destructure.ensures) in
    refused w c.args.log.now _ c.args.reaches d
    (both_so c.args.reaches d c.if-not-reaches.false (ap (λ e. Defined.is_function (defined_by e)) whole))
    (c.in_ok-put-in-Destructure.ensures
    ∙ ap (λ q. old ++ finding RecursiveValue q c.in_ok-copy-in-Destructure.field-0 ∷ []) place
    ∙ ap (λ t. old ++ finding RecursiveValue (pattern_place p) t ∷ []) name
    ∙ ap (λ e. old ++ finding RecursiveValue (Defined.place (defined_by e)) (Defined.name (defined_by e)) ∷ []) (sym whole)) refl
