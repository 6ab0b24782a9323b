-- Whatever the put answers, a beginning of the line is there (`put`).
use Rattle.commands.specs.Causes.{memory_line}
use Rattle.commands.proofs.Pieces.{put}
use Rattle.commands.proofs.report.out_of_memory.Goals as goal

pub returns-clause-told : goal.returns-clause-told
returns-clause-told g c =
    put (g.E.Sink.text c.args.err.now) (g.E.Sink.text c.put.new.self) memory_line
    c.put.result c.put.ensures.ok c.put.ensures.part c.put.ensures.no_memory
