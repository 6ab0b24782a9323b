-- The faults at a token are noted one list after the other: `among_four`.
use Rattle.std.proofs.Common.{rules, ◌&&◌, nat_eq, map}
use Rattle.elm_base.specs.declared.fault.Code.TheVariants.{TooDeep, MixedOperators, TupleTooLarge}
use Rattle.elm_grammar.specs.Classes as class
use Rattle.elm_lexer.specs.View.{token_view}
use Rattle.elm_parser.specs.Faults.{fault_if, is_one_of, openers, operators}
use Rattle.elm_parser.specs.Scan.{clashes, found_view}
use Rattle.elm_parser.proofs.Steps.{among_four}
use Rattle.elm_parser.proofs.scan.at_token.Goals as goal

pub returns : goal.returns
returns c =
    let t = c.args.token in
    let l = c.args.level.now in
    among_four c.args.ended (found_view c.args.found) (found_view c.note-found.result) (found_view c.note-found-2.result)
    (found_view c.note-found-3.result) (found_view c.note.result)
    (fault_if (is_one_of openers t.class && nat_eq l.constructs_left 0) t TooDeep)
    (fault_if (is_one_of operators t.class && nat_eq l.operators_left 0) t TooDeep)
    (fault_if (is_one_of operators t.class && clashes (map token_view c.args.tokens.now) l t) t MixedOperators)
    (fault_if (nat_eq t.class class.comma && nat_eq l.commas_left 0) t TupleTooLarge)
    (search rules) (search rules) (search rules) (search rules)
