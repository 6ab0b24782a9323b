use Rattle.std.proofs.Common.{◌++◌, ◌∷◌, [], take, map, sym, ap, ◌∙◌, arith}
use Rattle.elm_canon.specs.Tree.{patterns_of}
use Rattle.elm_canon.specs.View.{pattern_view}
use Rattle.canon_env.proofs.Filtering.{map_next}
use Rattle.pattern_check.specs.Sites.{Sole, sole_sites}
use Rattle.pattern_check.specs.Faults.{faults, faults_at}
use Rattle.pattern_check.proofs.Adding.{soles_next, also}
use Rattle.pattern_check.proofs.sites.push_soles.Goals as goal

pub loop-pattern-preserved : goal.loop-pattern-preserved
loop-pattern-preserved c =
    let old = c.args.findings.now.items in
    let here = c.args.here in
    let i = c.loop-pattern.pattern-index in
    let x = c.pattern-item.result in
    let first = map pattern_view (take i c.args.patterns.now) in
    c.in_ok-push_sole.ensures
    ∙ also old c.loop-pattern.findings.items (faults (sole_sites here (patterns_of first))) (faults_at (Sole here (pattern_view x)))
    (faults (sole_sites here (patterns_of (first ++ pattern_view x ∷ [])))) c.loop-pattern.invariant (soles_next here first (pattern_view x))
    ∙ ap (λ l. old ++ faults (sole_sites here (patterns_of l))) (sym (map_next pattern_view c.args.patterns.now i x (omega arith) c.pattern-item.is))
