-- The words in their tables: `begun_keywords`, `keyword_later`, `keyword_here`, `keyword_none`.
use Rattle.std.proofs.Common.{refl, sym, ◌∙◌}
use Rattle.js_scope.proofs.Words.{begun_keywords, keyword_later, keyword_here, keyword_none}
use Rattle.js_scope.proofs.word.begins_keyword.Goals as goal

pub loop-keyword-init : goal.loop-keyword-init
loop-keyword-init c = begun_keywords _ refl c.args.bytes.now

pub loop-keyword-preserved : goal.loop-keyword-preserved
loop-keyword-preserved c =
    let fails = sym c.begins.ensures ∙ c.if-begins.false in
    keyword_later _ c.loop-keyword.keyword-index _ c.args.bytes.now c.loop-keyword-test.true fails
    ∙ c.loop-keyword.invariant

pub returns-then-begins : goal.returns-then-begins
returns-then-begins c =
    let passes = sym c.begins.ensures ∙ c.if-begins.true in
    sym (sym c.loop-keyword.invariant
    ∙ keyword_here _ c.loop-keyword.keyword-index _ c.args.bytes.now c.loop-keyword-test.true passes)

pub returns : goal.returns
returns c =
    sym (sym c.loop-keyword.invariant
    ∙ keyword_none _ c.loop-keyword.keyword-index c.args.bytes.now c.loop-keyword-test.false)
