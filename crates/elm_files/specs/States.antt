-- What files and sinks tell of themselves at one moment.
use Rattle.std.specs.Prelude.{ℕ, List, Option}
use Rattle.elm_files.specs.declared.outside.Files as files
use Rattle.elm_files.specs.declared.outside.Sink as sink
use Rattle.elm_files.specs.Tree.{Tree}

-- the tree, if the files tell it, and for each path how often a call on it failed
pub record FilesState : Type 0 where
  pub tree : Option Tree
  pub faults : List ℕ → ℕ

-- the text that was put so far, if the sink tells it, and how often a call failed
pub record SinkState : Type 0 where
  pub text : Option (List ℕ)
  pub faults : ℕ

-- by the ghost members of the trait `Files`
abbrev pub files_state : {F : Type 0} → files.Ghosts F → F → FilesState
files_state F files = record { tree = F.tree files; faults = F.faults files }

-- by those of `Sink`
abbrev pub sink_state : {S : Type 0} → sink.Ghosts S → S → SinkState
sink_state S sink = record { text = S.text sink; faults = S.faults sink }
