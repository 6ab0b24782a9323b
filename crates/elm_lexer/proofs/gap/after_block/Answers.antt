-- Block comments and gaps: `ended_whole`.
use Rattle.elm_lexer.proofs.Blocks.{ended_whole}
use Rattle.elm_lexer.proofs.gap.after_block.Goals as goal

pub returns-clause-block : goal.returns-clause-block
returns-clause-block c = ended_whole c.loop-depth.depth c.args.text.now c.loop-depth.rest.now c.loop-depth-test.false c.loop-depth.invariant.whole
