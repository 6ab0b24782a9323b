-- The tree of a map from texts to files: `held_put`.
use Rattle.std.proofs.Common.{ℕ, List, Some, ap, ◌∙◌}
use Rattle.std.specs.String.{string_bytes}
use Rattle.elm_files.specs.Memory.{files_in}
use Rattle.elm_files.specs.Tree.{put}
use Rattle.elm_files.proofs.Held.{held_put}
use Rattle.elm_files.proofs.memory.MemFiles.insert.Goals as goal

pub returns-clause-ok : goal.returns-clause-ok
returns-clause-ok c =
    let tree = files_in c.args.self.now in
    held_put _ (string_bytes c.in_ok-key.key) c.args.self.now.held c.insert.new.self (Some c.in_ok-file.file) c.in_ok-insert.ensures.updates
    ∙ ap (λ (path : List ℕ). put tree path (Some c.in_ok-file.file.items)) c.in_ok-key.ensures.ok
    ∙ ap (λ (bytes : List ℕ). put tree c.args.path.now (Some bytes)) c.in_ok-file.ensures.items
