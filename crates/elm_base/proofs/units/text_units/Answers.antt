-- Units and their texts, one on: `units_of_chars-push`, `map_same`.
use Rattle.std.proofs.Common.{◌++◌, sym, ap, ◌∙◌}
use Rattle.std.proofs.lemmas.Iterator.{YieldsList-from_chars}
use Rattle.std.proofs.lemmas.Iterator.Consumers.{YieldsList-end}
use Rattle.std.specs.Char.Escape.{encode_utf16}
use Rattle.elm_base.specs.Units.{units_of_chars}
use Rattle.elm_base.proofs.Texts.{units_of_chars-push, map_same}
use Rattle.elm_base.proofs.units.text_units.Goals as goal

pub loop-character-preserved : goal.loop-character-preserved
loop-character-preserved c =
    c.in_ok-push_char.ensures
    ∙ (ap (λ us. us ++ encode_utf16 c.in-Some.character) c.loop-character.invariant
    ∙ sym (units_of_chars-push c.loop-character.yielded c.in-Some.character))

pub returns : goal.returns
returns c =
    let e = YieldsList-end (YieldsList-from_chars c.args.text.now c.utf8.text cc) c.loop-character.yielded _ c.loop-character.yielded_by _ _ c.in-None.is c.next.ensures.steps in
    c.from_vec.ensures ∙ (c.loop-character.invariant ∙ ap units_of_chars (sym (map_same c.loop-character.yielded) ∙ e.0))
