-- The head that was read is the one of the tokens; tokens with a fault have none (`not_read`).
use Rattle.std.proofs.Common.{map, subst, sym}
use Rattle.std.proofs.lemmas.Result.{IfOk-weaker}
use Rattle.elm_lexer.specs.View.{token_view}
use Rattle.import_graph.specs.Words.{word_view}
use Rattle.import_graph.specs.Heads.{HeadImports, written, no_head}
use Rattle.import_graph.proofs.Names.{names_of, no_names}
use Rattle.import_graph.proofs.OneHead.{not_read}
use Rattle.import_graph.proofs.heads.head_imports.Goals as goal

pub returns-in-Ok : goal.returns-in-Ok
returns-in-Ok c =
    let tokens = map token_view c.args.tokens.now in
    let read = c.in-Ok.ensures.read in
    IfOk-weaker c.named.result _ _
    (λ v h. subst (HeadImports tokens) (sym (names_of tokens c.in-Ok.found c.deref.result.now (map word_view v.items) c.deref.ensures.value h)) (written {rest = read.0} read.1))
    c.named.ensures

pub returns-in-Err : goal.returns-in-Err
returns-in-Err c =
    let tokens = map token_view c.args.tokens.now in
    no_names c.none_unless.result c.in-Err.error _ (HeadImports tokens) c.none_unless.ensures.none c.none_unless.ensures.fault c.in-Err.ensures.fault
    (λ f h. no_head (not_read c.front_law.ensures tokens _ f h))
