-- One more is taken.
use Rattle.std.proofs.Common.{◌++◌, ◌∷◌, [], ◌+◌, map, drop, get_or, arith, sym, ap, ◌∙◌, append_assoc}
use Rattle.std.specs.Prelude.{slice_index_or}
use Rattle.std.proofs.lemmas.List.{drop_more, map-append}
use Rattle.canon_expr.specs.Blocks.{NoMade}
use Rattle.canon_expr.specs.Kept.{made_view, taken_at, left_at, left_after}
use Rattle.canon_expr.proofs.groups.take_each.Goals as goal

pub loop-member-preserved : goal.loop-member-preserved
loop-member-preserved c =
    let members = c.args.members.now in
    let i = c.loop-member.member-index in
    let m = get_or members i 0 in
    let rest = drop (i + 1) members in
    let old = map made_view c.loop-member.made.items in
    let new = map made_view c.take_one.new.made.items in
    let taken = map made_view c.loop-member.taken.items in
    record {
      taken =
          ap (λ l. map made_view l ++ taken_at NoMade new rest) c.in_ok-put.ensures
          ∙ ap (λ l. l ++ taken_at NoMade new rest) (map-append made_view c.loop-member.taken.items (c.take_one.result ∷ []))
          ∙ ap (λ x. (taken ++ x ∷ []) ++ taken_at NoMade new rest) c.take_one.ensures.taken
          ∙ ap (λ l. (taken ++ slice_index_or old m NoMade ∷ []) ++ taken_at NoMade l rest) c.take_one.ensures.left
          ∙ append_assoc taken (slice_index_or old m NoMade ∷ []) (taken_at NoMade (left_at NoMade old m) rest)
          ∙ ap (λ ms. taken ++ taken_at NoMade old ms) (sym (drop_more members i 0 (omega arith)))
          ∙ c.loop-member.invariant.taken;
      left =
          ap (λ l. left_after NoMade l rest) c.take_one.ensures.left
          ∙ ap (left_after NoMade old) (sym (drop_more members i 0 (omega arith)))
          ∙ c.loop-member.invariant.left;
    }
