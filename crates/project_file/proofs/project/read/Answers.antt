-- What a file tells, by whether it is read: `told_read`, `told_refused`.
use Rattle.std.proofs.Common.{◌∙◌, arith}
use Rattle.std.proofs.lemmas.Bool.{false≢true}
use Rattle.std.proofs.lemmas.Result.{IfOk-weaker, IfErr-weaker}
use Rattle.serde_json.specs.View.{view}
use Rattle.project_file.proofs.Told.{told_read, told_refused, IfFault-weaker}
use Rattle.project_file.proofs.project.read.Goals as goal

pub returns-in-Ok-clause-project : goal.returns-in-Ok-clause-project
returns-in-Ok-clause-project c =
    let read = told_read c.args.bytes.now (view c.in-Ok.value) (omega arith) c.in-Ok.ensures.ok.0 c.in-Ok.ensures.ok.1 in
    IfOk-weaker c.described.result _ _ (λ p h. read ∙ h) c.described.ensures.project

pub returns-in-Ok-clause-fault : goal.returns-in-Ok-clause-fault
returns-in-Ok-clause-fault c =
    let read = told_read c.args.bytes.now (view c.in-Ok.value) (omega arith) c.in-Ok.ensures.ok.0 c.in-Ok.ensures.ok.1 in
    IfErr-weaker c.described.result _ _ (λ e h. IfFault-weaker e _ _ (λ code is. read ∙ is) h) c.described.ensures.fault

pub returns-else-is_memory-clause-fault : goal.returns-else-is_memory-clause-fault
returns-else-is_memory-clause-fault c =
    told_refused c.args.bytes.now (omega arith) (λ text. c.in-Err.ensures.err (λ memory. absurd (false≢true (c.if-is_memory.ensures.1 memory))) text)
