-- What rows ask for next.
use Rattle.std.proofs.Common.{◌≡◌, ◌<◌, List, [], ◌∷◌, length, get_or, ap, ◌∙◌, arith, Some}
use Rattle.js_tree.specs.Tree.{Js}
use Rattle.js_emit.specs.Matrix.{Row}
use Rattle.js_emit.specs.Choice.{Column, first_column}
use Rattle.decision_tree.specs.Run.{rows_js, split_tree}
use Rattle.decision_tree.proofs.Steady.{tree_split}

pub look_split : (paths : List Js) (rows : List Row) (row : Row) (c : Column) → 0 < length rows
    → get_or rows 0 row ≡ row
    → first_column paths row.patterns ≡ Some c → rows_js paths rows ≡ split_tree paths rows c
look_split paths [] row c h at is = absurd (omega (arith, h))
look_split paths (first ∷ rows) row c h at is =
    tree_split paths first rows c (ap (λ (r : Row). first_column paths r.patterns) at ∙ is)
