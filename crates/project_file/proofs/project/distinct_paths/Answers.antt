-- A set of paths, in the order in which they went in: `paths_so_far`, `item_in`, `item_skipped`.
use Rattle.std.proofs.Common.{◌≡◌, ◌+◌, sym, ap, ◌∙◌}
use Rattle.project_file.proofs.Distinct.{paths_so_far, item_in, item_skipped}
use Rattle.project_file.proofs.project.distinct_paths.Goals as goal
use Rattle.project_file.proofs.project.distinct_paths.Goals.{in-Some+in_ok-normal+in_ok-insert, in_default}

pub loop-item-preserved : goal.loop-item-preserved
loop-item-preserved c =
    let step : paths_so_far c.args.items.now c.match-as_str.paths.keys (c.loop-item.item-index + 1) ≡ paths_so_far c.args.items.now c.loop-item.paths.keys c.loop-item.item-index =
    elim c.match-as_str.branch [
      | in-Some+in_ok-normal+in_ok-insert w ↦ item_in c.args.items.now c.loop-item.item-index c.item-item.result w.in-Some.path.now c.loop-item.paths.keys c.match-as_str.paths.keys w.in_ok-normal.field-0 c.loop-item-test.true c.item-item.is (sym w.in-Some.ensures) w.in_ok-normal.ensures (ap (λ s. s.keys) w.paths-is ∙ w.in_ok-insert.ensures.keys)
      | in_default w ↦ item_skipped c.args.items.now c.loop-item.item-index c.item-item.result c.loop-item.paths.keys c.match-as_str.paths.keys c.loop-item-test.true c.item-item.is (sym w.in_default.ensures) (ap (λ s. s.keys) w.paths-is)
    ] in
    step ∙ c.loop-item.invariant
