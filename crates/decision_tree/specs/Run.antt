-- The column that is tested, and what is still to be done for a tree.
use Rattle.std.specs.Prelude.{ℕ, zero, suc, ◌+◌, ◌<◌, ⊤, pos, List, [], ◌∷◌, drop, get_or, length, Option}
use Rattle.elm_canon.specs.Tree as plain
use Rattle.js_tree.specs.Tree.{Js, JInt, JVar, JConditional, Made}
use Rattle.js_tree.specs.Postorder.{Tree, Expression, top, below, expression}
use Rattle.js_emit.specs.Matrix as matrix
use Rattle.js_emit.specs.Matrix.{arity_of, left_by, left_over, narrow, tests_in, is_whole, rows_size}
use Rattle.js_emit.specs.Choice.{Column, one_further, split_path, tree, chain}
use Rattle.decision_tree.specs.Views.{test_view, tests_view, rows_of, rows_view, left_view, arity_left, path_view}
use Rattle.decision_tree.specs.Views.{paths_view}
use Rattle.decision_tree.specs.declared.split.Matrix.{Matrix}
use Rattle.decision_tree.specs.declared.split.Chain.{Chain}
use Rattle.decision_tree.specs.declared.split.Found.{Found}
use Rattle.decision_tree.specs.declared.split.Look.{Look}
use Rattle.decision_tree.specs.declared.split.Look.TheVariants as look
use Rattle.decision_tree.specs.declared.path.Path.{Path}
use Rattle.decision_tree.specs.declared.row.Wanted.{Wanted}
use Rattle.decision_tree.specs.declared.choice.Task.{Task}
use Rattle.decision_tree.specs.declared.choice.Task.TheVariants as task

-- ---- the column that is tested

abbrev pub further_by : ℕ → Option Column → Option Column
further_by zero c = c
further_by (suc n) c = one_further (further_by n c)

-- the column that was found, among these paths
abbrev pub found_view : ℕ → List Path → Found → Column
found_view subject paths f = record {
  number = f.number;
  test = test_view f.test;
  path = get_or (paths_view subject paths) f.number (JInt (pos 0));
}

-- ---- what is to be done

-- of rows, with no more tests than they ask for
abbrev pub rows_js : List Js → List matrix.Row → Js
rows_js paths rows = tree (rows_size rows) paths rows

abbrev pub matrix_js : ℕ → Matrix → Js
matrix_js subject m = rows_js (paths_view subject m.paths.items) (rows_view m.rows.items)

-- of a row for each pattern
abbrev pub whole_js : ℕ → List plain.Pattern → Js
whole_js subject ps = rows_js (JVar (Made subject) ∷ []) (rows_of 0 ps)

-- by the column that is tested
abbrev pub split_tree : List Js → List matrix.Row → Column → Js
split_tree paths rows c =
    let ts = tests_in c.test c.number [] rows in
    chain (λ t. rows_js (split_path (arity_of t) c.number paths) (narrow (left_by t) c.number rows))
    c.path (is_whole c.test ts) (rows_js (split_path 0 c.number paths) (narrow left_over c.number rows)) ts

abbrev pub split_js : ℕ → Matrix → Column → Js
split_js subject m c = split_tree (paths_view subject m.paths.items) (rows_view m.rows.items) c

abbrev pub look_js : ℕ → Matrix → Look → Js
look_js subject m (look.Number n) = JInt (pos n)
look_js subject m (look.Split f) = split_js subject m (found_view subject m.paths.items f)

-- where the test holds
abbrev pub chosen_js : ℕ → Chain → matrix.Test → Js
chosen_js subject c t =
    rows_js (split_path (arity_of t) c.column (paths_view subject c.paths.items))
    (narrow (left_by t) c.column (rows_view c.rows.items))

-- where no test does
abbrev pub rest_js : ℕ → Chain → Js
rest_js subject c =
    rows_js (split_path 0 c.column (paths_view subject c.paths.items))
    (narrow left_over c.column (rows_view c.rows.items))

-- by what is wanted
abbrev pub narrowed_js : ℕ → Chain → Wanted → Js
narrowed_js subject c w =
    rows_js (split_path (arity_left w) c.column (paths_view subject c.paths.items))
    (narrow (left_view w) c.column (rows_view c.rows.items))

abbrev pub chain_js : ℕ → Chain → Js
chain_js subject c =
    chain (chosen_js subject c) (path_view subject c.path) c.is_whole (rest_js subject c)
    (drop c.next (tests_view c.tests.items))

abbrev pub joined : List Tree → List Tree
joined ts =
    Expression (JConditional (expression (top (below (below ts)))) (expression (top (below ts))) (expression (top ts)))
    ∷ below (below (below ts))

abbrev pub done : ℕ → Task → List Tree → List Tree
done subject (task.Choose m) ts = Expression (matrix_js subject m) ∷ ts
done subject (task.Try c) ts = Expression (chain_js subject c) ∷ ts
done subject task.Join ts = joined ts

-- all tasks, the last first
abbrev pub all_done : ℕ → List Task → List Tree → List Tree
all_done subject [] ts = ts
all_done subject (t ∷ tasks) ts = done subject t (all_done subject tasks ts)

-- a column that is split has a path
abbrev pub CanSplit : Matrix → Look → Type 0
CanSplit m (look.Number n) = ⊤
CanSplit m (look.Split f) = f.number < length m.paths.items

-- the chain after its next test
abbrev pub advanced : Chain → Chain
advanced c = record {
  paths = c.paths;
  rows = c.rows;
  column = c.column;
  path = c.path;
  is_whole = c.is_whole;
  tests = c.tests;
  next = c.next + 1;
}

-- what comes after a test: where it holds, then the others, and then the choice
abbrev pub left_tasks : Chain → Matrix → List Task
left_tasks c m = task.Join ∷ task.Try (advanced c) ∷ task.Choose m ∷ []
