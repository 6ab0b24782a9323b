-- What a task is to write, how much that is, and what a step leaves.
use Rattle.std.specs.Prelude.{◌≡◌, ℕ, suc, ◌+◌, ◌<◌, List, [], ◌∷◌, ◌++◌, map, codes}
use Rattle.wire_value.specs.Wire.{Wire, null, bool, int, text, list, object, Wires, no_wire, more_wires, Members}
use Rattle.wire_value.specs.Wire.{no_member, more_members}
use Rattle.wire_value.specs.View.{wires_of, members_of, wire_view, member_view}
use Rattle.wire_value.specs.Text.{wire_text, later_wires_text, later_members_text}
use Rattle.wire_value.specs.declared.task.Task.{Task}
use Rattle.wire_value.specs.declared.task.Task.TheVariants as task

abbrev pub task_text : Task → List ℕ
task_text (task.Value w) = wire_text (wire_view w.now)
task_text (task.Items ws) = later_wires_text (wires_of (map wire_view ws.now)) ++ codes "]"
task_text (task.Members ms) = later_members_text (members_of (map member_view ms.now)) ++ codes "}"

-- tasks of which the last one is the next
abbrev pub left_text : List Task → List ℕ
left_text [] = []
left_text (t ∷ ts) = left_text ts ++ task_text t

-- A task weighs more than those that it leaves.
abbrev mutual
  pub wire_weight : Wire → ℕ
  wire_weight null = 1
  wire_weight (bool b) = 1
  wire_weight (int n) = 1
  wire_weight (text us) = 1
  wire_weight (list ws) = suc (wires_weight ws)
  wire_weight (object ms) = suc (members_weight ms)

  pub wires_weight : Wires → ℕ
  wires_weight no_wire = 1
  wires_weight (more_wires w ws) = suc (wire_weight w + wires_weight ws)

  pub members_weight : Members → ℕ
  members_weight no_member = 1
  members_weight (more_members k w ms) = suc (wire_weight w + members_weight ms)

abbrev pub task_weight : Task → ℕ
task_weight (task.Value w) = wire_weight (wire_view w.now)
task_weight (task.Items ws) = wires_weight (wires_of (map wire_view ws.now))
task_weight (task.Members ms) = members_weight (members_of (map member_view ms.now))

abbrev pub tasks_weight : List Task → ℕ
tasks_weight [] = 0
tasks_weight (t ∷ ts) = task_weight t + tasks_weight ts

-- What is written, followed by what is left, is the text from before, these bytes, and what was left. What is left for
-- the bytes weighs less than the weight.
pub record Leaves (bytes : List ℕ) (weight : ℕ) (text : List ℕ) (tasks : List Task) (text_then : List ℕ) (tasks_then : List Task) : Type 0 where
  pub whole : text_then ++ left_text tasks_then ≡ text ++ (bytes ++ left_text tasks)
  pub lighter : tasks_weight tasks_then < weight + tasks_weight tasks
