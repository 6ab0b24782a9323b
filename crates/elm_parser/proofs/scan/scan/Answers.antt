-- One step of the pass over the steps: `read_step`, `take_step`, `split_first`.
use Rattle.std.proofs.Common.{◌-◌, map, reverse, length, take, drop, ap, sym, ◌∙◌}
use Rattle.elm_lexer.specs.View.{token_view}
use Rattle.parse_machine.specs.declared.table.Step.TheVariants.{Take, Read}
use Rattle.elm_parser.specs.Scan.{found_view, first_among, push, scan}
use Rattle.elm_parser.proofs.Steps.{read_step, take_step, split_first}
use Rattle.elm_parser.proofs.scan.scan.Goals as goal

pub loop-rest-preserved-in_ok-push-in-Read : goal.loop-rest-preserved-in_ok-push-in-Read
loop-rest-preserved-in_ok-push-in-Read c =
    let tokens = map token_view c.args.tokens.now in
    let rest = c.loop-rest.rest.now in
    let after = take (length rest - 1) (drop 1 rest) in
    read_step c.args.ended tokens c.loop-rest.stack.items c.pop.new.self.items c.push-in-Read.new.stack.items
    c.in-Some.frame c.in-Read.token after (found_view c.loop-rest.found) (found_view c.at_token-found.result)
    c.read-level.result c.in-Some.ensures.items c.at_token-found.ensures c.read-level.ensures
    (c.in_ok-push-in-Read.ensures
    ∙ ap (λ k. push k c.read-level.result (reverse c.pop.new.self.items)) c.saturating_sub.ensures)
    ∙ ap (λ z. first_among c.args.ended (found_view c.loop-rest.found) (scan tokens (reverse c.loop-rest.stack.items) z))
    (sym (split_first rest _ (Read c.in-Read.token) c.in-len1-up.len_at_least c.in-Read.is))
    ∙ c.loop-rest.invariant

pub loop-rest-preserved : goal.loop-rest-preserved
loop-rest-preserved c =
    let tokens = map token_view c.args.tokens.now in
    let rest = c.loop-rest.rest.now in
    let after = take (length rest - 1) (drop 1 rest) in
    take_step c.args.ended tokens c.loop-rest.stack.items c.pop.new.self.items c.push-in-Take.new.stack.items
    c.push-in-Take-2.new.stack.items c.in-Some.frame c.in-Take.number after (found_view c.loop-rest.found)
    (found_view c.at_production-found.result) c.passed-level.result c.below.result c.in-Some.ensures.items
    c.at_production-found.ensures c.passed-level.ensures c.below.ensures
    (c.in_ok-push-in-Take.ensures
    ∙ ap (λ k. push k c.passed-level.result (reverse c.pop.new.self.items)) c.saturating_sub-in-Take.ensures)
    (c.in_ok-push-in-Take-2.ensures
    ∙ ap (λ k. push k c.below.result (reverse c.push-in-Take.new.stack.items)) c.size.ensures)
    ∙ ap (λ z. first_among c.args.ended (found_view c.loop-rest.found) (scan tokens (reverse c.loop-rest.stack.items) z))
    (sym (split_first rest _ (Take c.in-Take.number) c.in-len1-up.len_at_least c.in-Take.is))
    ∙ c.loop-rest.invariant
