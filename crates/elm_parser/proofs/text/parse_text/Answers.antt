-- From what the machine and the search for faults answer to the steps of a text, or its fault: `fault_mapped`.
use Rattle.std.proofs.Common.{map, refl, sym, ap, subst, ◌∙◌}
use Rattle.elm_lexer.specs.Tokens.{place_after, first_place}
use Rattle.elm_lexer.specs.View.{token_view, place_view}
use Rattle.elm_parser.specs.Parsed.{ModuleFault, HasTextFault, of_tokens}
use Rattle.elm_parser.proofs.Answering.{fault_mapped}
use Rattle.elm_parser.proofs.text.parse_text.Goals as goal

pub returns-clause-fault : goal.returns-clause-fault
returns-clause-fault c =
    let tokens = map token_view c.in_ok-tokens.tokens.items in
    let text = c.args.text.now in
    let place = place_view c.place_after-end.result in
    fault_mapped c.in-Err.error (ModuleFault (map token_view c.deref.result.now) place) (HasTextFault text)
    (λ f h. of_tokens c.in_ok-tokens.ensures.found
    (subst (λ z. ModuleFault tokens z f) c.place_after-end.ensures.place
    (subst (λ z. ModuleFault (map token_view z) place f) c.deref.ensures.value h)))
    c.in-Err.ensures.fault
