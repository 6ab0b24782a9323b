use Rattle.std.proofs.Common.{◌≡◌, ◌+◌, List, [], ◌∷◌, false, Some, None, map, sym, ap, subst, ◌∙◌, arith}
use Rattle.std.specs.Prelude.{option_map}
use Rattle.pattern_check.specs.Flat.{first_part, first_head, list_heads, tail_of, append_open, found_at, found_in}
use Rattle.pattern_check.specs.Starts.{start_view, starts_view, part_view, row_view, rows_view}
use Rattle.pattern_check.specs.Missing.{candidates}
use Rattle.pattern_check.specs.Search.{from_last, tried}
use Rattle.pattern_check.specs.Shapes.{Head}
use Rattle.pattern_check.proofs.Searching.{pass_found, pass_work}
use Rattle.pattern_check.proofs.Skipping.{tried_found, tried_light}
use Rattle.pattern_check.proofs.search.pass.Goals as goal

pub loop-part-preserved : goal.loop-part-preserved
loop-part-preserved c =
    let b = c.args.bound in
    let n = c.loop-part.opens in
    let q = row_view c.loop-part.wanted in
    let rows = rows_view c.loop-part.rows.items in
    let q2 = row_view c.rest_of-wanted.result in
    let rows2 = rows_view c.in_ok-rows.rows.items in
    let more : c.in-Some-checked_add.more ≡ n + 1 = omega (arith, c.in-Some-checked_add.ensures) in
    let e : first_part q ≡ Some None =
    sym c.first.ensures ∙ ap (option_map part_view) (c.in-Some.is ∙ ap Some c.in_default-part.is) in
    let h : first_head (list_heads rows) ≡ None =
    subst (λ z. first_head (list_heads (rows_view z)) ≡ None) c.deref.ensures.value
    (sym c.first_start.ensures ∙ ap (option_map start_view) c.in_default-first_start.is) in
    let g : rows2 ≡ map tail_of rows = c.in_ok-rows.ensures ∙ ap (λ z. map tail_of (rows_view z)) c.deref-in-Some.ensures.value in
    let w = pass_work b q q2 rows rows2 e h c.rest_of-wanted.ensures g in
    record {
      found =
          ap (λ k. option_map (append_open k) (found_at (found_in b) q2 rows2)) more
          ∙ pass_found b n q q2 rows rows2 e h c.rest_of-wanted.ensures g
          ∙ c.loop-part.invariant.found;
      light = omega (arith, w, c.loop-part.invariant.light);
    }

pub returns-in-Some-first_start-clause-found : goal.returns-in-Some-first_start-clause-found
returns-in-Some-first_start-clause-found c =
    let rows = rows_view c.loop-part.rows.items in
    let all = starts_view c.in_ok-all.all.items in
    let cs = from_last (starts_view c.in_ok-reversed.field-0.items) [] in
    let e : first_part (row_view c.loop-part.wanted) ≡ Some None =
    sym c.first.ensures ∙ ap (option_map part_view) (c.in-Some.is ∙ ap Some c.in_default-part.is) in
    let h : first_head (list_heads rows) ≡ Some (start_view c.in-Some-first_start.start) =
    subst (λ z. first_head (list_heads (rows_view z)) ≡ Some (start_view c.in-Some-first_start.start)) c.deref.ensures.value
    (sym c.first_start.ensures ∙ ap (option_map start_view) c.in-Some-first_start.is) in
    let g : (hs : List Head) → list_heads rows ≡ start_view c.in-Some-first_start.start ∷ hs → all ≡ candidates (start_view c.in-Some-first_start.start) hs =
    λ hs k. c.in_ok-all.ensures hs (ap (λ z. list_heads (rows_view z)) c.deref-in-Some-first_start.ensures.value ∙ k) in
    let k : cs ≡ tried false (list_heads rows) all =
    c.in_ok-reversed.ensures ∙ c.in_ok-tried.ensures
    ∙ ap (λ z. tried false (list_heads (rows_view c.deref-in-Some-first_start-3.result.now)) (starts_view z)) c.deref-in-Some-first_start-2.ensures.value
    ∙ ap (λ z. tried false (list_heads (rows_view z)) all) c.deref-in-Some-first_start-3.ensures.value in
    tried_found c.args.bound c.loop-part.opens (row_view c.loop-part.wanted) (row_view c.rest_of-in-Some-first_start.result) rows
    (start_view c.in-Some-first_start.start) all cs e c.rest_of-in-Some-first_start.ensures h g k
    ∙ c.loop-part.invariant.found

pub returns-in-Some-first_start-clause-light : goal.returns-in-Some-first_start-clause-light
returns-in-Some-first_start-clause-light c =
    let rows = rows_view c.loop-part.rows.items in
    let all = starts_view c.in_ok-all.all.items in
    let cs = from_last (starts_view c.in_ok-reversed.field-0.items) [] in
    let e : first_part (row_view c.loop-part.wanted) ≡ Some None =
    sym c.first.ensures ∙ ap (option_map part_view) (c.in-Some.is ∙ ap Some c.in_default-part.is) in
    let h : first_head (list_heads rows) ≡ Some (start_view c.in-Some-first_start.start) =
    subst (λ z. first_head (list_heads (rows_view z)) ≡ Some (start_view c.in-Some-first_start.start)) c.deref.ensures.value
    (sym c.first_start.ensures ∙ ap (option_map start_view) c.in-Some-first_start.is) in
    let g : (hs : List Head) → list_heads rows ≡ start_view c.in-Some-first_start.start ∷ hs → all ≡ candidates (start_view c.in-Some-first_start.start) hs =
    λ hs k. c.in_ok-all.ensures hs (ap (λ z. list_heads (rows_view z)) c.deref-in-Some-first_start.ensures.value ∙ k) in
    let k : cs ≡ tried false (list_heads rows) all =
    c.in_ok-reversed.ensures ∙ c.in_ok-tried.ensures
    ∙ ap (λ z. tried false (list_heads (rows_view c.deref-in-Some-first_start-3.result.now)) (starts_view z)) c.deref-in-Some-first_start-2.ensures.value
    ∙ ap (λ z. tried false (list_heads (rows_view z)) all) c.deref-in-Some-first_start-3.ensures.value in
    let w = tried_light c.args.bound (row_view c.loop-part.wanted) (row_view c.rest_of-in-Some-first_start.result) rows
    (start_view c.in-Some-first_start.start) all cs e c.rest_of-in-Some-first_start.ensures h g k in
    omega (arith, w, c.loop-part.invariant.light)
