-- The tree of a map from texts to files: `held_put`.
use Rattle.elm_files.proofs.Held.{held_put}
use Rattle.elm_files.proofs.memory.MemFiles.remove.Goals as goal

pub returns-clause-files : goal.returns-clause-files
returns-clause-files c = held_put _ c.args.path.now c.args.self.now.held c.remove.new.self _ c.remove.ensures.updates
