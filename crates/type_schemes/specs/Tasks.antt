-- What is still to be written of a type, node by node.
use Rattle.std.specs.Prelude.{◌≡◌, ℕ, ◌<◌, List, [], ◌∷◌, ◌++◌, length, reverse}
use Rattle.std.specs.List.{AllByRecursion}
use Rattle.elm_type.specs.Spelling.{spell}
use Rattle.elm_type.specs.declared.node.Node.{Node}
use Rattle.elm_type.specs.declared.node.Node.TheVariants as node
use Rattle.type_store.specs.Store.{Store}
use Rattle.type_schemes.specs.Reading.{Graph}
use Rattle.type_schemes.specs.declared.writing.Task.{Task}
use Rattle.type_schemes.specs.declared.writing.Task.TheVariants.{Whole, Part}
use Rattle.type_schemes.specs.declared.writing.Writer.{Writer}
use Rattle.type_schemes.specs.Rows.{CanRead}

abbrev pub task_variable : Task → ℕ
task_variable (Whole w) = w
task_variable (Part g) = g.slot

-- the nodes of a task, where variables have these types
abbrev pub task_nodes : (ℕ → Graph) → Task → List Node
task_nodes f (Whole w) = spell (f w)
task_nodes f (Part g) = node.Field g.name ∷ spell (f g.slot)

-- and those of tasks
abbrev pub all_nodes : (ℕ → Graph) → List Task → List Node
all_nodes f [] = []
all_nodes f (t ∷ ts) = task_nodes f t ++ all_nodes f ts

-- the tasks of a writer, the next one first
abbrev pub tasks_of : Writer → List Task
tasks_of writer = reverse writer.todo.items

abbrev pub AreKnown : Store → List ℕ → List Task → Type 0
AreKnown s older tasks = AllByRecursion (λ t. CanRead s older (task_variable t)) tasks

-- The writer has written some of these nodes, and the others are to be written before what was to be written.
pub record Writes (s : Store) (older : List ℕ) (f : ℕ → Graph) (all : List Node) (old new : Writer) : Type 0 where
  pub written : List Node
  pub some : 0 < length written
  pub nodes : new.nodes.items ≡ old.nodes.items ++ written
  pub rest : written ++ all_nodes f (tasks_of new) ≡ all ++ all_nodes f (tasks_of old)
  pub known : AreKnown s older (tasks_of old) → AreKnown s older (tasks_of new)
