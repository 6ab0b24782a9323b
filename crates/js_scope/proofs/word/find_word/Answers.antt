-- The words in their tables: `find_words`, `find_later`, `find_here`, `find_none`.
use Rattle.std.proofs.Common.{refl, sym, ◌∙◌}
use Rattle.js_scope.proofs.Words.{find_words, find_later, find_here, find_none}
use Rattle.js_scope.proofs.word.find_word.Goals as goal

pub loop-text-init : goal.loop-text-init
loop-text-init c = find_words _ refl c.args.bytes.now

pub loop-text-preserved : goal.loop-text-preserved
loop-text-preserved c none found =
    let differs = sym c.is.ensures ∙ c.if-is.false in
    find_later _ c.loop-text.text-index _ c.args.bytes.now none found c.loop-text-test.true differs
    ∙ c.loop-text.invariant none found

pub returns-then-is : goal.returns-then-is
returns-then-is c none found =
    let same = sym c.is.ensures ∙ c.if-is.true in
    sym (c.loop-text.invariant none found)
    ∙ find_here _ c.loop-text.text-index _ c.args.bytes.now none found c.loop-text-test.true same

pub returns : goal.returns
returns c none found =
    sym (c.loop-text.invariant none found)
    ∙ find_none _ c.loop-text.text-index c.args.bytes.now none found c.loop-text-test.false
