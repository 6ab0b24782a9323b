use Rattle.std.proofs.Common.{map, sym, ap, ◌∙◌, arith}
use Rattle.std.specs.Prelude.{option_map}
use Rattle.pattern_check.specs.Starts.{parts_view}
use Rattle.pattern_check.proofs.Searching.{no_items}
use Rattle.pattern_check.proofs.Reporting.{first_pattern, reported, parts_missing, none_left, popped}
use Rattle.pattern_check.proofs.check.missing.Goals as goal

pub returns-in_default : goal.returns-in_default
returns-in_default c =
    ap (λ z. reported (option_map (λ parts. parts_view parts.items) z)) (sym c.in_default.is)
    ∙ parts_missing (λ parts. parts_view parts.items) c.in_ok-parts.field-0 (map (λ p. p.now) c.args.patterns.now) c.in_ok-parts.ensures

pub returns : goal.returns
returns c =
    popped c.in_ok-made.made.items c.pop.new.self.items c.pop.result c.pop.ensures.items
    (λ n. no_items c.in_ok-made.made.items (omega (arith, (none_left c.pop.result _ _ c.pop.ensures.cases n).0, c.in_ok-made.made.ok.0)))
    ∙ ap first_pattern c.in_ok-made.ensures
    ∙ ap (λ z. reported (option_map (λ parts. parts_view parts.items) z)) (sym c.in-Some.is)
    ∙ parts_missing (λ parts. parts_view parts.items) c.in_ok-parts.field-0 (map (λ p. p.now) c.args.patterns.now) c.in_ok-parts.ensures
