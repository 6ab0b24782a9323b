-- What is left to do of a walk, as steps.
use Rattle.std.specs.Prelude.{◌≡◌, ℕ, ◌+◌, ◌*◌, ◌^◌, ◌<◌, ◌≤◌, List, [], ◌∷◌, length, Bool, ◌&&◌}
use Rattle.js_tree.specs.declared.tree.Node.{Node}
use Rattle.js_tree.specs.Postorder.{expression, items, members, statements, block, lines, top, trees_at}
use Rattle.js_scope.specs.declared.tasks.Task as task
use Rattle.js_scope.specs.Uses.{Nothing, Block, declared, uses, items_uses, members_uses, statements_uses, names_before}
use Rattle.js_scope.specs.Uses.{block_uses, lines_before_uses, line_names_before}
use Rattle.js_scope.specs.Walk.{State, Step, Walk, Declare, Leave, ends_well}

-- the step of a task
abbrev pub step_of : List Node → task.Task → Step
step_of nodes (task.Task.Expression p) = Walk (uses (expression (top (trees_at nodes p))))
step_of nodes (task.Task.Items p) = Walk (items_uses (items (top (trees_at nodes p))))
step_of nodes (task.Task.Members p) = Walk (members_uses (members (top (trees_at nodes p))))
step_of nodes (task.Task.Statements p) = Walk (statements_uses (statements (top (trees_at nodes p))))
step_of nodes (task.Task.Block p) = Walk (block_uses (block (top (trees_at nodes p))) Nothing)
step_of nodes (task.Task.Inner p) = Walk (Block (declared (block (top (trees_at nodes p))) []) (block_uses (block (top (trees_at nodes p))) Nothing))
step_of nodes (task.Task.Lines p) = Walk (lines_before_uses (lines (top (trees_at nodes p))))
step_of nodes (task.Task.BlockNames p) = Declare (declared (block (top (trees_at nodes p))) [])
step_of nodes (task.Task.StatementNames p) = Declare (names_before (statements (top (trees_at nodes p))) [])
step_of nodes (task.Task.LineNames p) = Declare (line_names_before (lines (top (trees_at nodes p))) [])
step_of nodes (task.Task.Leave n start) = Leave n start

abbrev pub steps_of : List Node → List task.Task → List Step
steps_of nodes [] = []
steps_of nodes (t ∷ tasks) = step_of nodes t ∷ steps_of nodes tasks

-- a number that is greater for later places
abbrev pub reach : task.Task → ℕ
reach (task.Task.Expression p) = 2 * p
reach (task.Task.Items p) = 2 * p
reach (task.Task.Members p) = 2 * p
reach (task.Task.Statements p) = 2 * p
reach (task.Task.Block p) = 2 * p
reach (task.Task.Inner p) = 2 * p + 1
reach (task.Task.Lines p) = 2 * p
reach (task.Task.BlockNames p) = 2 * p
reach (task.Task.StatementNames p) = 2 * p
reach (task.Task.LineNames p) = 2 * p
reach (task.Task.Leave n start) = 0

-- a number that falls while the walk goes on
abbrev pub weight : List task.Task → ℕ
weight [] = 0
weight (t ∷ tasks) = 8 ^ reach t + weight tasks

-- the places are those of so many nodes
abbrev pub AreWithin : ℕ → List task.Task → Type 0
AreWithin n [] = Unit {0}
AreWithin n (t ∷ tasks) = (reach t ≤ 2 * n + 1) × AreWithin n tasks

-- in the place of a step, of a task that reaches so far, tasks do the same, if what was found is fine
pub record GoesOn (nodes : List Node) (step : Step) (far : ℕ) (old : List task.Task) (before : State) (fine : Bool) (new : List task.Task) (now : State) : Type 0 where
  pub ends : ends_well (step ∷ steps_of nodes old) before.start before.bound ≡ (fine && ends_well (steps_of nodes new) now.start now.bound)
  pub within : AreWithin (length nodes) old → AreWithin (length nodes) new
  pub lighter : weight new < weight old + 8 ^ far
