use Rattle.std.proofs.Common.{◌∷◌, [], Some, map, sym, ap, ◌∙◌}
use Rattle.std.specs.Prelude.{option_map}
use Rattle.pattern_check.specs.Starts.{parts_view}
use Rattle.pattern_check.specs.Built.{unlisted}
use Rattle.pattern_check.specs.Text.{pattern_text}
use Rattle.pattern_check.specs.Written.{pending, rest}
use Rattle.pattern_check.specs.declared.text.Kind.TheVariants.{Parts}
use Rattle.pattern_check.specs.declared.text.Closing.TheVariants.{Nothing}
use Rattle.pattern_check.proofs.Reporting.{reported, parts_missing}
use Rattle.pattern_check.proofs.Writing.{written_missing}
use Rattle.pattern_check.proofs.check.missing_text.Goals as goal

pub returns-in_default : goal.returns-in_default
returns-in_default c =
    ap (option_map pattern_text)
    (ap (λ z. reported (option_map (λ parts. parts_view parts.items) z)) (sym c.in_default.is)
    ∙ parts_missing (λ parts. parts_view parts.items) c.in_ok-parts.field-0 (map (λ p. p.now) c.args.patterns.now) c.in_ok-parts.ensures)

pub returns : goal.returns
returns c =
    ap Some (c.from_vec.ensures ∙ c.in_ok-text.ensures
    ∙ ap (λ z. pending (rest Parts 1 Nothing ∷ []) (unlisted (parts_view z) [])) c.deref.ensures.value)
    ∙ written_missing (map (λ p. p.now) c.args.patterns.now) (parts_view c.in-Some.parts.items)
    (sym c.in_ok-parts.ensures ∙ ap (option_map (λ parts. parts_view parts.items)) c.in-Some.is)
