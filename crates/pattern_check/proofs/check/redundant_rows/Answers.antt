use Rattle.std.proofs.Common.{◌≡◌, ◌+◌, ◌++◌, ◌∷◌, [], suc, length, ap, subst, ◌∙◌, arith}
use Rattle.pattern_check.specs.Counted.{count_of, total_of, redundant_list}
use Rattle.pattern_check.specs.Starts.{row_view, rows_view}
use Rattle.pattern_check.proofs.Lists.{total_more, redundant_next}
use Rattle.pattern_check.proofs.check.redundant_rows.Goals as goal

pub loop-rest-preserved : goal.loop-rest-preserved
loop-rest-preserved c =
    let row = c.row-item.result in
    let old = c.loop-rest.earlier.items in
    let e : total_of (rows_view c.push.new.self.items) ≡ total_of (rows_view old) + count_of (row_view row) =
    ap (λ z. total_of (rows_view z)) c.in_ok-push.ensures.items ∙ total_more old row in
    record {
      places =
          redundant_next c.loop-rest.places.items c.push_if_redundant.new.places.items (redundant_list 0 [] (rows_view c.args.rows.now))
          old c.push.new.self.items row c.loop-rest.rest.now c.in-len1-up.len_at_least c.row-item.is c.in_ok-push.ensures.items
          (λ rows. subst
          (λ z. c.push_if_redundant.new.places.items ++ redundant_list (suc (length z)) (rows_view z ++ row_view row ∷ []) rows
          ≡ c.loop-rest.places.items ++ redundant_list (length z) (rows_view z) (row_view row ∷ rows))
          c.deref.ensures.value (c.in_ok-push_if_redundant.ensures rows))
          c.loop-rest.invariant.places;
      asked = omega (arith, e, c.in_ok-asked.ensures, c.in_ok-row_count.ensures, c.loop-rest.invariant.asked);
    }
