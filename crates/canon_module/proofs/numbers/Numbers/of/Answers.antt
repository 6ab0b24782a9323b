-- One declaration more: `map_next`.
use Rattle.std.proofs.Common.{◌≡◌, [], ◌∷◌, length, take, map, sym, ap, ◌∙◌, arith}
use Rattle.std.proofs.lemmas.List.{length-map, length-take-le, map-append}
use Rattle.elm_tree.specs.View.{declaration_view}
use Rattle.elm_tree.specs.Turns.{tokens_view}
use Rattle.canon_env.proofs.Filtering.{map_next}
use Rattle.canon_module.specs.TopUses.{number_of, value_names, value_names_each}
use Rattle.canon_module.proofs.numbers.Numbers.of.Goals as goal

pub loop-number-preserved : goal.loop-number-preserved
loop-number-preserved c = λ x.
    let view = declaration_view (tokens_view c.args.tokens.now) in
    let ds = c.args.declarations.now in
    let i = c.loop-number.number in
    let d = c.at-declaration.result in
    let before = map view (take i ds) in
    let many : length (value_names_each before) ≡ i =
    length-map before value_names ∙ length-map (take i ds) view ∙ length-take-le i ds (omega (arith, c.in-Ok.ensures)) in
    c.in_ok-add_declaration.ensures (value_names_each before) many c.loop-number.invariant x
    ∙ ap (λ e. number_of e x) (sym (ap value_names_each (map_next view ds i d (omega (arith, c.in-Ok.ensures)) c.at-declaration.ensures)
    ∙ map-append value_names before (view d ∷ [])))
