-- The words of the fields are those before their values.
use Rattle.std.proofs.Common.{[], ◌∷◌, map, sym, ap, ◌∙◌}
use Rattle.std.specs.Prelude.{option_map}
use Rattle.std.proofs.lemmas.Result.{IfOk-weaker}
use Rattle.elm_tree.specs.View.{words_view, word_view, place_view}
use Rattle.elm_tree.specs.Turns.{tokens_view}
use Rattle.elm_canon.specs.Tree as canon
use Rattle.elm_canon.specs.View.{expr_view}
use Rattle.canon_env.specs.Imports.{name_of}
use Rattle.canon_env.specs.Sites.{FieldsTogether}
use Rattle.canon_expr.proofs.Meaning.{grows_at, on_ok}
use Rattle.canon_expr.specs.Exprs.{at}
use Rattle.canon_expr.specs.Records.{record_op}
use Rattle.canon_expr.proofs.records.record_of.Goals as goal

pub returns-clause-meaning : goal.returns-clause-meaning
returns-clause-meaning c =
    let tokens = tokens_view c.args.tokens.now in
    let words = ap (words_view tokens) c.deref-2.ensures.value ∙ c.in_ok-words.ensures tokens in
    IfOk-weaker c.strict_at.result _ _
    (λ r is. is
    ∙ ap (λ o. at (place_view tokens c.args.first) (canon.Strict o (canon.exprs_of (map expr_view c.args.values.items))))
    (c.record_op.ensures tokens
    ∙ ap (record_op (option_map (word_view tokens) c.args.base)) (c.in_ok-names.ensures ∙ ap (map name_of) words)))
    c.strict_at.ensures

pub returns-clause-log : goal.returns-clause-log
returns-clause-log c =
    let words = ap (words_view (tokens_view c.args.tokens.now)) c.deref.ensures.value ∙ c.in_ok-words.ensures (tokens_view c.args.tokens.now) in
    on_ok c.strict_at.result
    (λ w. grows_at _ _ (ap (λ xs. FieldsTogether xs ∷ []) (sym words)) (c.in_ok-note_fields.ensures w))
