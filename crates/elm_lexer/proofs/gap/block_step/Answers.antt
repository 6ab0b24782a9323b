-- Block comments and gaps: `opens_whole`, `opens_only`, `closes_whole`, `closes_only`, and others.
use Rattle.std.proofs.Common.{sym}
use Rattle.elm_lexer.proofs.Blocks.{opens_whole, opens_only, closes_whole, closes_only, goes_whole, goes_only}
use Rattle.elm_lexer.proofs.gap.block_step.Goals as goal

pub returns-then-begins_with-clause-whole : goal.returns-then-begins_with-clause-whole
returns-then-begins_with-clause-whole c = λ rest h. opens_whole c.args.depth c.args.text.now rest c.requires.deep (sym c.if-begins_with.ensures.value) h

pub returns-then-begins_with-clause-only : goal.returns-then-begins_with-clause-only
returns-then-begins_with-clause-only c = λ rest h. opens_only c.args.depth c.args.text.now rest c.requires.deep (sym c.if-begins_with.ensures.value) h

pub returns-then-begins_with-2-clause-whole : goal.returns-then-begins_with-2-clause-whole
returns-then-begins_with-2-clause-whole c = λ rest h. closes_whole c.args.depth c.args.text.now rest c.requires.deep (sym c.if-begins_with-2.ensures.value) h

pub returns-then-begins_with-2-clause-only : goal.returns-then-begins_with-2-clause-only
returns-then-begins_with-2-clause-only c = λ rest h. closes_only c.args.depth c.args.text.now rest c.requires.deep (sym c.if-begins_with-2.ensures.value) h

pub returns-clause-whole : goal.returns-clause-whole
returns-clause-whole c = λ rest h. goes_whole c.args.depth c.args.text.now rest c.requires.deep c.requires.more (sym c.if-begins_with.ensures.value) (sym c.if-begins_with-2.ensures.value) h

pub returns-clause-only : goal.returns-clause-only
returns-clause-only c = λ rest h. goes_only c.args.depth c.args.text.now rest c.requires.deep (sym c.if-begins_with.ensures.value) (sym c.if-begins_with-2.ensures.value) h
