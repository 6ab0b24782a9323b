-- A production of a grammar that the program holds: `production_at`.
use Rattle.std.proofs.Common.{ap, ◌∙◌}
use Rattle.std.specs.Prelude.{option_map}
use Rattle.parse_machine.specs.Grammar.{production}
use Rattle.parse_machine.specs.Rows.{production_of}
use Rattle.elm_parser.proofs.Productions.{production_at}
use Rattle.elm_parser.proofs.production.rule_of.Goals as goal

pub returns : goal.returns
returns c =
    ap (option_map production_of) c.lookup.ensures ∙ production_at c.rules.result.now c.args.number
    ∙ ap (λ g. production g c.args.number) c.rules.ensures
