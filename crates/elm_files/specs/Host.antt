-- The counts of the files and sinks of the host.
use Rattle.std.specs.Prelude.{ℕ}
use Rattle.elm_files.specs.declared.host.HostFiles.{HostFiles}
use Rattle.elm_files.specs.declared.host.HostSink.{HostSink}

-- how often a call on the files failed
abbrev pub file_faults : {R : Type 0} → HostFiles R → ℕ
file_faults files = files.faults

-- how often a call on the sink failed
abbrev pub sink_faults : {W : Type 0} → HostSink W → ℕ
sink_faults sink = sink.faults
