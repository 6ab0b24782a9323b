use Rattle.std.proofs.lemmas.Result.{on_ok_weaker}
use Rattle.type_store.proofs.changed.note_changed.Goals as goal

pub returns-clause-written : goal.returns-clause-written
returns-clause-written c = on_ok_weaker c.note_made.result (λ kept v h q. kept v (c.in_ok-note_written.ensures.written v h q)) c.note_made.ensures.kept
