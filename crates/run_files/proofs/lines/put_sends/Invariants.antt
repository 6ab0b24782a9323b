use Rattle.std.proofs.Common.{◌≡◌, ◌++◌, drop}
use Rattle.js_run.specs.Stages.{sends_view}
use Rattle.run_files.specs.Told.{sends_text}
use Rattle.run_files.proofs.lines.put_sends.Given as goal

abbrev pub invariant-loop-sent : goal.invariant-loop-sent
invariant-loop-sent l = l.out.items ++ sends_text (sends_view (drop l.sent-index l.sends)) ≡ l.initial.out.items ++ sends_text (sends_view l.sends)
