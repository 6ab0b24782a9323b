-- What holds of the nodes of trees and of the places where their trees begin.
use Rattle.std.specs.Prelude.{◌≡◌, ℕ, suc, ◌<◌, ◌≤◌, List, length, get_or}
use Rattle.js_tree.specs.declared.tree.Node.{Node}
use Rattle.js_tree.specs.Postorder.{below, trees_at}

-- the place is where the tree of that node begins
pub record IsStart (ns : List Node) (i start : ℕ) : Type 0 where
  pub before : start ≤ i
  pub trees : trees_at ns start ≡ below (trees_at ns (suc i))

pub record AreLinked (ns : List Node) (starts : List ℕ) : Type 0 where
  pub count : length starts ≡ length ns
  pub each : (i : ℕ) → i < length ns → IsStart ns i (get_or starts i 0)
