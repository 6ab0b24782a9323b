-- What clap makes of the words of a process, by `specs/Given.antt`: `command_is`.
use Rattle.std.proofs.Common.{◌∙◌, map}
use Rattle.std.specs.Prelude.{string_bytes}
use Rattle.std.proofs.lemmas.Result.{IfOk-weaker}
use Rattle.command_line.proofs.Line.{command_is}
use Rattle.command_line.proofs.command.Goals as goal

pub returns : goal.returns
returns c = IfOk-weaker c.command_by_clap.result _ _ (λ r h. h ∙ command_is (map string_bytes c.args.words.now)) c.command_by_clap.ensures
