use Rattle.std.proofs.Common.{◌++◌, ◌∷◌, [], take, map, sym, ap, ◌∙◌, arith}
use Rattle.elm_canon.specs.View.{declaration_view}
use Rattle.canon_env.proofs.Filtering.{map_next}
use Rattle.pattern_check.specs.Sites.{declarations_sites}
use Rattle.pattern_check.specs.Faults.{faults}
use Rattle.pattern_check.proofs.Adding.{declarations_next, also}
use Rattle.pattern_check.proofs.walk.push_declarations.Goals as goal

pub loop-declaration-preserved : goal.loop-declaration-preserved
loop-declaration-preserved c =
    let old = c.args.findings.now.items in
    let i = c.loop-declaration.declaration-index in
    let x = c.declaration-item.result in
    let first = map declaration_view (take i c.args.declarations.now) in
    c.in_ok-push_declaration.ensures
    ∙ also old c.loop-declaration.findings.items (faults (declarations_sites first)) (faults (declarations_sites (declaration_view x ∷ [])))
    (faults (declarations_sites (first ++ declaration_view x ∷ []))) c.loop-declaration.invariant (declarations_next first (declaration_view x))
    ∙ ap (λ l. old ++ faults (declarations_sites l)) (sym (map_next declaration_view c.args.declarations.now i x (omega arith) c.declaration-item.is))
