-- The declarations that are used have numbers.
use Rattle.std.proofs.Common.{◌<◌, map, ◌∙◌, subst}
use Rattle.std.specs.List.{All}
use Rattle.std.proofs.lemmas.List.{length-map}
use Rattle.std.proofs.lemmas.Result.{IfOk-weaker}
use Rattle.elm_tree.specs.View.{declaration_view}
use Rattle.elm_tree.specs.Turns.{tokens_view}
use Rattle.canon_expr.proofs.Meaning.{on_ok}
use Rattle.canon_module.specs.TopUses.{value_names, value_names_each}
use Rattle.canon_module.proofs.values.used_in.Goals as goal

pub returns-clause-used : goal.returns-clause-used
returns-clause-used c =
    let ds = map (declaration_view (tokens_view c.args.tokens.now)) c.args.declarations.now in
    IfOk-weaker c.used_among.result _ _
    (λ v told. told (value_names_each ds) c.in_ok-numbers.ensures.numbered)
    c.used_among.ensures.used

pub returns-clause-within : goal.returns-clause-within
returns-clause-within c =
    let view = declaration_view (tokens_view c.args.tokens.now) in
    let ds = c.args.declarations.now in
    IfOk-weaker c.used_among.result _ _
    (λ v told. subst (λ n. All (λ row. All (λ j. j < n) row.items) v.items)
    (length-map (map view ds) value_names ∙ length-map ds view)
    (told (value_names_each (map view ds)) c.in_ok-numbers.ensures.numbered))
    c.used_among.ensures.within

pub returns-clause-few : goal.returns-clause-few
returns-clause-few c = on_ok c.used_among.result c.in_ok-numbers.ensures.count
