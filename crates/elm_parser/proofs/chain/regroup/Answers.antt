-- From what the machine and the search for faults answer to the steps of a text, or its fault: `err_mapped`,
-- `take_all`, `begins_with`.
use Rattle.std.proofs.Common.{◌≡◌, List, [], get_or, map, take, length, refl, sym, ap, subst, ◌∙◌, arith}
use Rattle.elm_base.specs.declared.fault.Code.TheVariants.{TooDeep}
use Rattle.elm_lexer.specs.Tokens.{Fault, first_place}
use Rattle.elm_lexer.specs.View.{token_view}
use Rattle.elm_tree.specs.declared.tree.Word.{Word}
use Rattle.elm_tree.specs.Turns.{BeginsWith, clashes}
use Rattle.elm_parser.specs.Faults.{most_operators}
use Rattle.elm_parser.specs.Chains.{ChainFault, mixed, too_many, IsMixed}
use Rattle.elm_parser.specs.Reported.{reported}
use Rattle.elm_parser.proofs.Answering.{err_mapped, take_all, begins_with}
use Rattle.elm_parser.proofs.chain.regroup.Goals as goal

pub returns-then-operators-le-MOST-clause-fault : goal.returns-then-operators-le-MOST-clause-fault
returns-then-operators-le-MOST-clause-fault c =
    let tokens = map token_view c.args.tokens.now in
    let ops = c.args.operators.now in
    err_mapped c.grouped.result (IsMixed tokens ops) (ChainFault tokens ops)
    (λ f h. mixed (subst (λ z. IsMixed tokens z f) (sym (take_all most_operators ops (omega (arith, c.if-operators-le-MOST.true)))) h))
    c.grouped.ensures.fault

pub returns-clause-fault : goal.returns-clause-fault
returns-clause-fault c =
    let tokens = map token_view c.args.tokens.now in
    let ops = c.args.operators.now in
    too_many (subst (λ z. clashes tokens z ≡ []) c.split_at.ensures.front c.in_ok-_turns.ensures.groups)
    (subst (λ z. BeginsWith z (get_or z 0 (record { index = 0 }))) c.split_at.ensures.back
    (begins_with _ (record { index = 0 }) (omega (arith, c.split_at.ensures.back_len, c.if-operators-le-MOST.false))))
    (c.fault_of.ensures ∙ ap at c.split_at.ensures.back)
  where
    at : List Word → Fault
    at z = reported (map token_view c.args.tokens.now) first_place ((get_or z 0 (record { index = 0 })).index, TooDeep)
