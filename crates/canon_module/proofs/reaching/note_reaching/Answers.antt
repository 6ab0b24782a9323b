-- One declaration more: `reaching_next`.
use Rattle.std.proofs.Common.{◌≡◌, [], ◌∷◌, false, length, map, take, sym, ap, ◌∙◌, subst, arith}
use Rattle.std.proofs.Common.{◌<◌}
use Rattle.std.proofs.lemmas.List.{get_or_default, length-map, length-take-le}
use Rattle.decl_groups.specs.InOrder.{uses_itself}
use Rattle.canon_env.proofs.Filtering.{map_map_next}
use Rattle.canon_env.specs.Sites.{Reaching}
use Rattle.canon_expr.proofs.Growing.{grows_more}
use Rattle.canon_expr.proofs.Marking.{reaching_next}
use Rattle.elm_tree.specs.View.{declaration_view}
use Rattle.elm_tree.specs.Turns.{tokens_view}
use Rattle.canon_expr.specs.Logs.{Grows}
use Rattle.canon_expr.proofs.Steps.{take_all}
use Rattle.canon_expr.specs.Blocks.{reaching_sites}
use Rattle.canon_module.specs.CanonValuesFaults.{defined_top}
use Rattle.canon_module.proofs.reaching.note_reaching.Goals as goal

pub loop-number-preserved : goal.loop-number-preserved
loop-number-preserved c = λ w uses o many.
    let view = declaration_view (tokens_view c.args.tokens.now) in
    let ds = c.args.declarations.now in
    let i = c.loop-number.number in
    let d = c.at-declaration.result in
    let before = map defined_top (map view (take i ds)) in
    let within : i < length ds = omega arith in
    let mark : c.index.result.now ≡ uses_itself uses i =
    c.index.ensures
    ∙ sym (get_or_default c.in_ok-marks.marks.items i false c.index.result.now (omega (arith, c.in_ok-marks.ensures.count)))
    ∙ c.in_ok-marks.ensures.marks i (omega arith) ∙ o.itself i (omega (arith, many)) in
    let count : length before ≡ i =
    length-map (map view (take i ds)) defined_top ∙ length-map (take i ds) view ∙ length-take-le i ds (omega arith) in
    subst (λ sites. Grows w c.args.log.now c.note_one.new.log sites)
    (sym (ap (reaching_sites uses) (map_map_next defined_top view ds i d within c.at-declaration.ensures)
    ∙ reaching_next uses before (defined_top (view d)) i count))
    (grows_more (c.loop-number.invariant w uses o many)
    (subst (λ b. Grows w c.loop-number.log c.note_one.new.log (Reaching b (defined_top (view d)) ∷ [])) mark
    (c.in_ok-note_one.ensures w)))

pub returns : goal.returns
returns c = λ w uses o many.
    let view = declaration_view (tokens_view c.args.tokens.now) in
    let ds = c.args.declarations.now in
    subst (λ l. Grows w c.args.log.now c.loop-number.log (reaching_sites uses (map defined_top (map view l))))
    (take_all c.loop-number.number ds (omega arith))
    (c.loop-number.invariant w uses o many)
