use Rattle.std.proofs.Common.{◌++◌, ◌∷◌, [], take, map, sym, ap, ◌∙◌, arith}
use Rattle.elm_canon.specs.Tree.{branches_of}
use Rattle.elm_canon.specs.View.{branch_view}
use Rattle.elm_canon.proofs.Views.{branch}
use Rattle.canon_env.proofs.Filtering.{map_next}
use Rattle.pattern_check.specs.Sites.{branch_patterns}
use Rattle.pattern_check.proofs.Adding.{taken, patterns_next}
use Rattle.pattern_check.proofs.sites.patterns_of.Goals as goal

pub loop-branch-preserved : goal.loop-branch-preserved
loop-branch-preserved c =
    let i = c.loop-branch.branch-index in
    let x = c.branch-item.result in
    let first = map branch_view (take i c.args.branches.now) in
    taken (λ q. q.now) c.loop-branch.patterns.items c.push.new.self.items _ (branch_patterns (branches_of first)) c.in_ok-push.ensures.items c.loop-branch.invariant
    ∙ ap (λ b. branch_patterns (branches_of first) ++ b.0 ∷ []) (sym (branch x))
    ∙ sym (patterns_next first (branch_view x))
    ∙ ap (λ l. branch_patterns (branches_of l)) (sym (map_next branch_view c.args.branches.now i x (omega arith) c.branch-item.is))
