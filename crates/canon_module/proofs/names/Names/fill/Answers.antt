-- The names of one declaration more: `join_next`.
use Rattle.std.proofs.Common.{map, take, arith, sym, ap, ◌∙◌}
use Rattle.elm_tree.specs.View.{declaration_view}
use Rattle.canon_env.proofs.Filtering.{map_next}
use Rattle.canon_module.specs.Names.{join, names_of, names_in}
use Rattle.canon_module.specs.View.{names_view}
use Rattle.canon_module.proofs.Joining.{join_assoc, join_next}
use Rattle.canon_module.proofs.names.Names.fill.Goals as goal

pub loop-number-preserved : goal.loop-number-preserved
loop-number-preserved c = λ tokens.
    let i = c.loop-number.number in
    let d = c.at-declaration.result in
    let before = map (declaration_view tokens) (take i c.args.declarations.now) in
    let old = names_view tokens c.args.self.now in
    c.in_ok-push.ensures tokens
    ∙ ap (λ n. join n (names_of (declaration_view tokens d))) (c.loop-number.invariant tokens)
    ∙ join_assoc old (names_in before) (names_of (declaration_view tokens d))
    ∙ ap (join old) (join_next before (declaration_view tokens d)
    ∙ ap names_in (sym (map_next (declaration_view tokens) c.args.declarations.now i d (omega arith) c.at-declaration.ensures)))
