-- What the files and the two sinks tell of themselves at one moment.
use Rattle.elm_files.specs.declared.outside.Files as files
use Rattle.elm_files.specs.declared.outside.Sink as sink
use Rattle.elm_files.specs.States.{FilesState, SinkState, files_state, sink_state}

-- the files, standard output and standard error
pub record Outside : Type 0 where
  pub files : FilesState
  pub out : SinkState
  pub err : SinkState

-- by the ghost members of their traits
abbrev pub outside : {F O E : Type 0} → files.Ghosts F → sink.Ghosts O → sink.Ghosts E → F → O → E → Outside
outside F O E files out err = record { files = files_state F files; out = sink_state O out; err = sink_state E err }
