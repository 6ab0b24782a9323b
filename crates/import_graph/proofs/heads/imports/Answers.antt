-- By the tokens of the text, or none; and no others, since a text imports one list of names.
use Rattle.std.proofs.Common.{map, ap, sym, subst, arith}
use Rattle.std.proofs.lemmas.Result.{IfOk-weaker}
use Rattle.elm_lexer.specs.View.{token_view}
use Rattle.import_graph.specs.Words.{word_view}
use Rattle.import_graph.specs.Heads.{HeadImports, HasImports, too_long, of_tokens, no_tokens}
use Rattle.import_graph.proofs.Names.{no_names}
use Rattle.import_graph.proofs.heads.imports.Goals as goal

pub returns-then-text-gt-MAX_TEXT-clause-found : goal.returns-then-text-gt-MAX_TEXT-clause-found
returns-then-text-gt-MAX_TEXT-clause-found c =
    subst (λ items. HasImports c.args.text.now (map word_view items)) (sym c.new.ensures.items) (too_long (omega (arith, c.if-text-gt-MAX_TEXT.true)))

pub returns-in-Ok-clause-found : goal.returns-in-Ok-clause-found
returns-in-Ok-clause-found c =
    let same = ap (map token_view) c.deref.ensures.value in
    IfOk-weaker c.head_imports.result _ _ (λ v h. of_tokens (omega (arith, c.if-text-gt-MAX_TEXT.false)) c.in-Ok.ensures.found (subst (λ ts. HeadImports ts (map word_view v.items)) same h))
    c.head_imports.ensures

pub returns-in-Ok-clause-only : goal.returns-in-Ok-clause-only
returns-in-Ok-clause-only c =
    IfOk-weaker c.head_imports.result _ _ (λ v h words w. c.imports_law.ensures c.args.text.now words (map word_view v.items) w h) (returns-in-Ok-clause-found c)

pub returns-in-Err-clause-found : goal.returns-in-Err-clause-found
returns-in-Err-clause-found c =
    no_names c.none_unless.result c.in-Err.error _ (HasImports c.args.text.now) c.none_unless.ensures.none c.none_unless.ensures.fault c.in-Err.ensures.none
    (λ f n. no_tokens (omega (arith, c.if-text-gt-MAX_TEXT.false)) n)

pub returns-in-Err-clause-only : goal.returns-in-Err-clause-only
returns-in-Err-clause-only c =
    IfOk-weaker c.none_unless.result _ _ (λ v h words w. c.imports_law.ensures c.args.text.now words (map word_view v.items) w h) (returns-in-Err-clause-found c)
