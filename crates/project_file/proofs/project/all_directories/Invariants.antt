use Rattle.std.proofs.Common.{◌≡◌, drop}
use Rattle.serde_json.specs.View.{items_view}
use Rattle.project_file.specs.Project.{all_directories}
use Rattle.project_file.proofs.project.all_directories.Given as goal

-- the items that are left decide
abbrev pub invariant-loop-item : goal.invariant-loop-item
invariant-loop-item l =
    all_directories (items_view (drop l.item-index l.items)) ≡ all_directories (items_view l.items)
