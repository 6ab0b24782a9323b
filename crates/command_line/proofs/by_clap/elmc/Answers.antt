-- One subcommand after the other is added to the program, and clap then reads the words.
use Rattle.std.proofs.Common.{◌∙◌, ap, ap₂}
use Rattle.std.proofs.lemmas.Result.{IfOk-weaker}
use Rattle.clap.specs.Words.{App, with_subcommand}
use Rattle.command_line.proofs.by_clap.elmc.Goals as goal

pub returns : goal.returns
returns c =
    let top = λ (a : App). a.top in
    let one = c.in_ok-subcommand.ensures.shape c.in_ok-make_parser.ensures.1
    ∙ ap₂ with_subcommand c.plain.ensures.app (ap top c.in_ok-make_parser.ensures.0) in
    IfOk-weaker c.subcommand-2.result _ _ (λ r h. h.shape c.in_ok-run_parser.ensures.1
    ∙ ap₂ with_subcommand one (ap top c.in_ok-run_parser.ensures.0)) c.subcommand-2.ensures
