-- Files and sinks in memory: what they hold, and which of their calls fail.
use Rattle.std.specs.Prelude.{ℕ, List, None, option_map, Result, Ok, Err}
use Rattle.std.specs.BTreeMap.{get_by_text}
use Rattle.elm_files.specs.Answers.{raised}
use Rattle.elm_files.specs.Tree.{Tree}
use Rattle.elm_files.specs.declared.memory.Calls.{Calls}
use Rattle.elm_files.specs.declared.memory.MemFiles.{MemFiles}
use Rattle.elm_files.specs.declared.memory.MemSink.{MemSink}
use Rattle.elm_files.specs.declared.outside.FileError.{FileError}
use Rattle.elm_files.specs.declared.outside.FileError.TheVariants.{Failed, NoMemory}

-- the tree in which each path is absent
abbrev pub empty_tree : Tree
empty_tree path = None

-- the tree of the files
abbrev pub files_in : MemFiles → Tree
files_in files path = option_map (λ bytes. bytes.items) (get_by_text files.held path)

-- what was put into the sink
abbrev pub text_in : MemSink → List ℕ
text_in sink = sink.held.items

-- which calls are to fail, how many there were, and how many of them failed; calls are numbered from 0
pub record Plan : Type 0 where
  pub failing : List ℕ
  pub calls : ℕ
  pub faults : ℕ

-- the plan of a count of calls
abbrev pub plan_in : Calls → Plan
plan_in calls = record { failing = calls.failing.items; calls = calls.made; faults = calls.faults }

-- the plan of the files
abbrev pub plan_of : MemFiles → Plan
plan_of files = plan_in files.calls

-- the plan of the sink
abbrev pub sink_plan_of : MemSink → Plan
sink_plan_of sink = plan_in sink.calls

-- the plan after one call that did not fail
abbrev pub one_made : Plan → Plan
one_made plan = record plan { calls = raised plan.calls }

-- the plan after one call that failed
abbrev pub one_failed : Plan → Plan
one_failed plan = record plan { calls = raised plan.calls; faults = raised plan.faults }

-- the plan after a call: one more call, and one more failure if it failed; a call that ran out of memory does not count
abbrev pub plan_after : {T : Type 0} → Result T FileError → Plan → Plan
plan_after (Ok _) plan = one_made plan
plan_after (Err Failed) plan = one_failed plan
plan_after (Err NoMemory) plan = plan
