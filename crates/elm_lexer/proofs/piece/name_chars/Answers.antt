-- One turn of the walks over the characters of a text: `run_turn`, `run_stop`, `run_end`, `within_turn`.
use Rattle.std.proofs.Common.{sym, ◌∙◌}
use Rattle.std.proofs.lemmas.Str.{IsUtf8-past_char}
use Rattle.std.specs.Str.Iter.{chars_rest}
use Rattle.elm_base.specs.Path.{is_name_char}
use Rattle.elm_lexer.proofs.Walks.{run_turn, run_stop, run_end, within_turn}
use Rattle.elm_lexer.proofs.piece.name_chars.Goals as goal

pub returns-then-not-is_name_char-clause-value : goal.returns-then-not-is_name_char-clause-value
returns-then-not-is_name_char-clause-value c =
    run_stop is_name_char c.loop-c.count _ (chars_rest c.loop-c.rest) (chars_rest c.next.new.self) c.in-Some.c c.loop-c.invariant.text c.in-Some.ensures.steps.0 (sym c.is_name_char.ensures ∙ c.if-not-is_name_char.true) c.loop-c.invariant.same

pub loop-c-preserved : goal.loop-c-preserved
loop-c-preserved c =
    let e = c.in-Some.ensures.steps.0 in
    let rest = chars_rest c.loop-c.rest in
    let after = chars_rest c.next.new.self in
    record {
      text = IsUtf8-past_char rest after c.in-Some.c c.loop-c.invariant.text e;
      within = within_turn c.loop-c.count _ _ rest after c.in-Some.c c.len_utf8-count.ensures.len e c.loop-c.invariant.within;
      same = run_turn is_name_char c.loop-c.count _ _ rest after c.in-Some.c c.len_utf8-count.ensures.len c.loop-c.invariant.text e (sym c.is_name_char.ensures ∙ c.if-not-is_name_char.false) c.loop-c.invariant.same;
    }

pub returns-clause-value : goal.returns-clause-value
returns-clause-value c = run_end is_name_char c.loop-c.count _ (chars_rest c.loop-c.rest) c.in_default.ensures.steps.0.0 c.loop-c.invariant.same
