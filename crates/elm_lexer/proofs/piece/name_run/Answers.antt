-- One turn of the walks over the characters of a text: `name_turn`, `point_turn`, `name_stop`, `name_end`, and
-- others.
use Rattle.std.proofs.Common.{◌≡◌, ◌+◌, ◌&&◌, ◌==◌, sym, ap, ◌∙◌, subst}
use Rattle.std.proofs.lemmas.Str.{IsUtf8-past_char}
use Rattle.std.specs.Str.{chars}
use Rattle.std.specs.Str.Iter.{chars_rest}
use Rattle.elm_lexer.specs.Kinds.{begins_upper}
use Rattle.elm_lexer.specs.Lengths.{begins_letter, name_run}
use Rattle.elm_lexer.proofs.Walks.{name_turn, point_turn, name_stop, name_end, within_turn}
use Rattle.elm_lexer.proofs.piece.name_run.Goals.{then-not-is_name_char+else-not-is_joint, else-not-is_name_char}
use Rattle.elm_lexer.proofs.piece.name_run.Goals as goal

pub returns-then-not-is_joint-clause-value : goal.returns-then-not-is_joint-clause-value
returns-then-not-is_joint-clause-value c =
    name_stop c.loop-c.upper c.loop-c.count _ (chars_rest c.loop-c.rest) (chars_rest c.next.new.self) c.in-Some.c c.loop-c.invariant.text c.in-Some.ensures.steps.0 (sym c.is_name_char.ensures ∙ c.if-not-is_name_char.true) (ap (λ x. c.loop-c.upper && (c.in-Some.c == 46 && begins_letter (chars x))) (sym c.as_str-after.ensures) ∙ sym c.is_joint.ensures ∙ c.if-not-is_joint.true) c.loop-c.invariant.same

pub loop-c-preserved : goal.loop-c-preserved
loop-c-preserved c =
    let e = c.in-Some.ensures.steps.0 in
    let rest = chars_rest c.loop-c.rest in
    let after = chars_rest c.next.new.self in
    record {
      text = IsUtf8-past_char rest after c.in-Some.c c.loop-c.invariant.text e;
      within = within_turn c.loop-c.count _ _ rest after c.in-Some.c c.len_utf8-count.ensures.len e c.loop-c.invariant.within;
      same =
          elim c.if-not-is_name_char.branch [
            | then-not-is_name_char+else-not-is_joint w ↦
                subst (λ u. c.loop-c.count + c.len_utf8-count.result + name_run u (chars after) ≡ name_run (begins_upper (chars c.args.text.now)) (chars c.args.text.now)) (sym (w.upper-is ∙ w.begins_upper-upper-then-not-is_name_char.ensures ∙ ap (λ x. begins_upper (chars x)) w.as_str-after.ensures))
                (point_turn c.loop-c.upper c.loop-c.count _ _ rest after c.in-Some.c c.len_utf8-count.ensures.len c.loop-c.invariant.text e (sym c.is_name_char.ensures ∙ w.if-not-is_name_char.true) (ap (λ x. c.loop-c.upper && (c.in-Some.c == 46 && begins_letter (chars x))) (sym w.as_str-after.ensures) ∙ sym w.is_joint.ensures ∙ w.if-not-is_joint.false) c.loop-c.invariant.same)
            | else-not-is_name_char w ↦
                subst (λ u. c.loop-c.count + c.len_utf8-count.result + name_run u (chars after) ≡ name_run (begins_upper (chars c.args.text.now)) (chars c.args.text.now)) (sym w.upper-is)
                (name_turn c.loop-c.upper c.loop-c.count _ _ rest after c.in-Some.c c.len_utf8-count.ensures.len c.loop-c.invariant.text e (sym c.is_name_char.ensures ∙ w.if-not-is_name_char.false) c.loop-c.invariant.same)
          ];
    }

pub returns-clause-value : goal.returns-clause-value
returns-clause-value c = name_end c.loop-c.upper c.loop-c.count _ (chars_rest c.loop-c.rest) c.in_default.ensures.steps.0.0 c.loop-c.invariant.same
