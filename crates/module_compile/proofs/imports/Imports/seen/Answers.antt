use Rattle.std.proofs.Common.{arith}
use Rattle.elm_tree.specs.Turns.{tokens_view}
use Rattle.module_compile.specs.Parts.{interfaces_view}
use Rattle.module_compile.proofs.Listing.{seen_next}
use Rattle.module_compile.proofs.imports.Imports.seen.Goals as goal

pub loop-written-preserved : goal.loop-written-preserved
loop-written-preserved c =
    seen_next (interfaces_view c.args.self.now.interfaces) (tokens_view c.args.tokens.now) c.args.imports.now
    c.loop-written.written-index c.written-item.result c.loop-written.seen.items c.push_seen.new.seen.items
    (omega arith) c.written-item.is c.loop-written.invariant c.in_ok-push_seen.ensures.known
    c.in_ok-push_seen.ensures.written
