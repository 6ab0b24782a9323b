-- The words in their tables: `begun_words`, `begun_later`, `begun_here`, `begun_none`.
use Rattle.std.proofs.Common.{refl, sym, ◌∙◌}
use Rattle.js_scope.proofs.Words.{begun_words, begun_later, begun_here, begun_none}
use Rattle.js_scope.proofs.word.begins_word.Goals as goal

pub loop-text-init : goal.loop-text-init
loop-text-init c = begun_words _ refl c.args.bytes.now

pub loop-text-preserved : goal.loop-text-preserved
loop-text-preserved c =
    let fails = sym c.begins.ensures ∙ c.if-begins.false in
    begun_later _ c.loop-text.text-index _ c.args.bytes.now c.loop-text-test.true fails ∙ c.loop-text.invariant

pub returns-then-begins : goal.returns-then-begins
returns-then-begins c =
    let passes = sym c.begins.ensures ∙ c.if-begins.true in
    sym (sym c.loop-text.invariant
    ∙ begun_here _ c.loop-text.text-index _ c.args.bytes.now c.loop-text-test.true passes)

pub returns : goal.returns
returns c =
    sym (sym c.loop-text.invariant ∙ begun_none _ c.loop-text.text-index c.args.bytes.now c.loop-text-test.false)
