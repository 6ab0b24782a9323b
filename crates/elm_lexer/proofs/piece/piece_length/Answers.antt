-- One turn of the walks over the characters of a text: `piece_word`, `piece_operator`.
use Rattle.std.proofs.Common.{◌+◌, ◌==◌, ◌&&◌, ◌||◌, ap, sym, ◌∙◌}
use Rattle.std.specs.Str.Iter.{chars_rest}
use Rattle.std.specs.Str.{chars}
use Rattle.elm_base.specs.Path.{is_name_char}
use Rattle.elm_lexer.specs.Kinds.{begins_lower}
use Rattle.elm_lexer.specs.Lengths.{run}
use Rattle.elm_lexer.proofs.Walks.{piece_word, piece_operator}
use Rattle.elm_lexer.proofs.piece.piece_length.Goals as goal

pub returns-then-begins_word-clause-value : goal.returns-then-begins_word-clause-value
returns-then-begins_word-clause-value c =
    ap (λ n. 1 + n) (c.name_chars.ensures.value ∙ ap (λ x. run is_name_char (chars x)) c.as_str-after.ensures)
    ∙ piece_word c.args.text.now (chars_rest c.next.new.self) c.in-Some.c c.utf8.text (sym c.chars-rest.ensures.rest ∙ c.in-Some.ensures.steps.0) (sym c.if-is_letter.ensures) (sym c.if-is_digit.ensures)
    (ap (λ x. c.in-Some.c == 95 || (c.in-Some.c == 46 && begins_lower (chars x))) (sym c.as_str-after.ensures) ∙ sym c.if-begins_word.ensures)

pub returns-else-is_mark-clause-value : goal.returns-else-is_mark-clause-value
returns-else-is_mark-clause-value c =
    piece_operator c.args.text.now (chars_rest c.next.new.self) c.in-Some.c _ c.utf8.text (sym c.chars-rest.ensures.rest ∙ c.in-Some.ensures.steps.0) (sym c.if-is_letter.ensures) (sym c.if-is_digit.ensures)
    (ap (λ x. c.in-Some.c == 95 || (c.in-Some.c == 46 && begins_lower (chars x))) (sym c.as_str-after.ensures) ∙ sym c.if-begins_word.ensures)
    (sym c.if-is_mark.ensures) c.operator_chars.ensures.value
