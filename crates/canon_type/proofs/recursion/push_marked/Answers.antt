-- One alias more: `marked_next`.
use Rattle.std.proofs.Common.{◌+◌, take, get_or, arith, ◌∙◌}
use Rattle.std.proofs.lemmas.List.{length-map, length-take-le}
use Rattle.elm_tree.specs.Turns.{tokens_view}
use Rattle.canon_env.proofs.Repeating.{map_at}
use Rattle.canon_type.specs.Kept.{alias_view, aliases_view}
use Rattle.canon_type.proofs.Marks.{marked_next}
use Rattle.canon_type.proofs.recursion.push_marked.Goals as goal

pub loop-i-preserved : goal.loop-i-preserved
loop-i-preserved c =
    let tokens = tokens_view c.args.tokens.now in
    let i = c.loop-i.i in
    let aliases = c.args.aliases.now in
    let a = get_or aliases i c.index-aliases-i.result in
    marked_next c.args.marks.now (aliases_view tokens (take i c.args.aliases.now))
    (aliases_view tokens (take (i + 1) c.args.aliases.now)) (alias_view tokens a) i c.args.findings.now.items
    c.loop-i.findings.items c.push_if_marked.new.findings.items
    (length-map (take i aliases) (alias_view tokens) ∙ length-take-le i aliases (omega arith))
    (map_at (alias_view tokens) aliases i c.index-aliases-i.result (omega arith)) c.loop-i.invariant
    c.in_ok-push_if_marked.ensures
