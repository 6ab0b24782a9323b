-- One turn of the scans of literals: `units_turn`, `units_end`.
-- Units and their texts, one on: `map_same`.
use Rattle.std.proofs.Common.{sym, ap, subst, ◌∙◌}
use Rattle.std.specs.Str.{IsUtf8, chars}
use Rattle.std.proofs.lemmas.Iterator.{YieldsList-from_chars}
use Rattle.std.proofs.lemmas.Iterator.Consumers.{YieldsList-end}
use Rattle.elm_base.proofs.Texts.{map_same}
use Rattle.elm_lexer.specs.declared.reading.Reading.TheVariants.{Plain}
use Rattle.elm_lexer.specs.Literals.{units_from}
use Rattle.elm_lexer.proofs.Scans.{units_turn, units_end}
use Rattle.elm_lexer.proofs.units.literal_units.Goals as goal

pub loop-c-preserved : goal.loop-c-preserved
loop-c-preserved c =
    units_turn c.loop-c.units.items _ c.loop-c.reading _ c.loop-c.yielded c.in-Some.c c.in_ok-push_at.ensures c.reading_after-reading.ensures c.loop-c.invariant

pub returns : goal.returns
returns c =
    let same = c.in-Ok.ensures.cases.0 in
    let text = subst (λ x. IsUtf8 x) (sym same) c.in-Ok.ensures.cases.1 in
    let e = YieldsList-end (YieldsList-from_chars c.in-Ok.body.now text cc) c.loop-c.yielded _ c.loop-c.yielded_by _ _ c.in-None.is c.next.ensures.steps in
    let all = sym (map_same c.loop-c.yielded) ∙ e.0 in
    c.from_vec-2.ensures
    ∙ (units_end c.loop-c.units.items c.loop-c.reading c.loop-c.yielded c.loop-c.invariant
    ∙ ap (units_from Plain) (all ∙ ap chars (same ∙ c.literal_body.ensures)))
