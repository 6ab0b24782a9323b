-- One turn of the walks over the characters of a text: `number_turn`, `number_stop`, `number_end`, `within_turn`.
use Rattle.std.proofs.Common.{sym, ap, ◌∙◌}
use Rattle.std.proofs.lemmas.Str.{IsUtf8-past_char}
use Rattle.std.specs.Str.{chars}
use Rattle.std.specs.Str.Iter.{chars_rest}
use Rattle.elm_lexer.specs.Lengths.{next_part}
use Rattle.elm_lexer.proofs.Walks.{number_turn, number_stop, number_end, within_turn}
use Rattle.elm_lexer.proofs.piece.number_run.Goals as goal

pub returns-in_default-next_part-clause-value : goal.returns-in_default-next_part-clause-value
returns-in_default-next_part-clause-value c =
    number_stop c.loop-c.part c.loop-c.count _ (chars_rest c.loop-c.rest) (chars_rest c.next.new.self) c.in-Some.c c.loop-c.invariant.text c.in-Some.ensures.steps.0 (ap (λ x. next_part c.loop-c.part c.in-Some.c (chars x)) (sym c.as_str.ensures) ∙ sym c.in_default-next_part.ensures) c.loop-c.invariant.same

pub loop-c-preserved : goal.loop-c-preserved
loop-c-preserved c =
    let e = c.in-Some.ensures.steps.0 in
    let rest = chars_rest c.loop-c.rest in
    let after = chars_rest c.next.new.self in
    record {
      text = IsUtf8-past_char rest after c.in-Some.c c.loop-c.invariant.text e;
      within = within_turn c.loop-c.count _ _ rest after c.in-Some.c c.len_utf8-count.ensures.len e c.loop-c.invariant.within;
      same = number_turn c.loop-c.part c.in-Some-next_part.next c.loop-c.count _ _ rest after c.in-Some.c c.len_utf8-count.ensures.len c.loop-c.invariant.text e (ap (λ x. next_part c.loop-c.part c.in-Some.c (chars x)) (sym c.as_str.ensures) ∙ sym c.in-Some-next_part.ensures) c.loop-c.invariant.same;
    }

pub returns-clause-value : goal.returns-clause-value
returns-clause-value c = number_end c.loop-c.part c.loop-c.count _ (chars_rest c.loop-c.rest) c.in_default.ensures.steps.0.0 c.loop-c.invariant.same
