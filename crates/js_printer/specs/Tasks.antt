-- What a task is to write, how much that is, and what a step leaves.
use Rattle.std.specs.Prelude.{◌≡◌, ℕ, zero, suc, ◌+◌, ◌*◌, ◌<◌, ◌≤◌, List, [], ◌∷◌, ◌++◌, length, codes}
use Rattle.js_tree.specs.declared.tree.Node.{Node}
use Rattle.js_tree.specs.Tree.{Js, JProperty, NoJs, NoField, NoLine}
use Rattle.js_tree.specs.Text.{js_text, name_text, text_text, list_text, fields_text, stmts_text, lines_text, main_text}
use Rattle.js_tree.specs.Text.{outs_fields}
use Rattle.js_tree.specs.Postorder.{Items, NoItem, Item, Members, NoMember, Member, Before, NoStatement, ConstThen}
use Rattle.js_tree.specs.Postorder.{LetThen, AssignThen, LinesBefore, NoLineYet, LineThen, Tree, ProgramOf, items_then}
use Rattle.js_tree.specs.Postorder.{members_then, lines_then, top, expression, items, members, statements, block, lines}
use Rattle.js_tree.specs.Postorder.{trees_at}
use Rattle.js_printer.specs.declared.task.Task as task
use Rattle.js_printer.specs.declared.task.Task.{Task}
use Rattle.js_printer.specs.Whole.{before_text, program_text}

-- each is ended by its comma
abbrev pub items_text : Items → List ℕ
items_text NoItem = []
items_text (Item before e) = items_text before ++ js_text e ++ codes ","

abbrev pub members_text : Members → List ℕ
members_text NoMember = []
members_text (Member before k e) = members_text before ++ text_text k ++ codes ":" ++ js_text e ++ codes ","

-- the last one of them
abbrev pub member_text : Members → List ℕ
member_text NoMember = []
member_text (Member before k e) = text_text k ++ codes ":" ++ js_text e

abbrev pub statement_text : Before → List ℕ
statement_text NoStatement = []
statement_text (ConstThen before x e) = codes "const " ++ name_text x ++ codes "=" ++ js_text e ++ codes ";"
statement_text (LetThen before x e) = codes "let " ++ name_text x ++ codes "=" ++ js_text e ++ codes ";"
statement_text (AssignThen before x e) = name_text x ++ codes "=" ++ js_text e ++ codes ";"

abbrev pub line_text : LinesBefore → List ℕ
line_text NoLineYet = []
line_text (LineThen before x e) = codes "const " ++ name_text x ++ codes "=" ++ js_text e ++ codes ";\n"

-- the brackets after an object with the name of its field, if it is a property
abbrev pub key_text : Js → List ℕ
key_text (JProperty e k) = codes "[" ++ text_text k ++ codes "]"
key_text _ = []

-- if it is a program, its text, the line of `_main`, and the outgoing ports
abbrev pub program_of : Tree → List ℕ
program_of (ProgramOf p) = program_text p
program_of _ = []

abbrev pub main_of : Tree → List ℕ
main_of (ProgramOf p) = main_text p
main_of _ = []

abbrev pub outs_of : Tree → List ℕ
outs_of (ProgramOf p) = fields_text (outs_fields p.outs)
outs_of _ = []

-- what a task is to write
abbrev pub task_text : List Node → Task → List ℕ
task_text ns (task.Task.Bytes bytes) = bytes.now
task_text ns (task.Task.Expression place) = js_text (expression (top (trees_at ns place)))
task_text ns (task.Task.Key place) = key_text (expression (top (trees_at ns place)))
task_text ns (task.Task.Items place) = list_text (items_then (items (top (trees_at ns place))) NoJs)
task_text ns (task.Task.ItemsBefore place) = items_text (items (top (trees_at ns place)))
task_text ns (task.Task.Members place) = fields_text (members_then (members (top (trees_at ns place))) NoField)
task_text ns (task.Task.MembersBefore place) = members_text (members (top (trees_at ns place)))
task_text ns (task.Task.Member place) = member_text (members (top (trees_at ns place)))
task_text ns (task.Task.Statements place) = before_text (statements (top (trees_at ns place)))
task_text ns (task.Task.Statement place) = statement_text (statements (top (trees_at ns place)))
task_text ns (task.Task.Block place) = stmts_text (block (top (trees_at ns place)))
task_text ns (task.Task.Lines place) = lines_text (lines_then (lines (top (trees_at ns place))) NoLine)
task_text ns (task.Task.Line place) = line_text (lines (top (trees_at ns place)))
task_text ns (task.Task.Program place) = program_of (top (trees_at ns place))
task_text ns (task.Task.Main place) = main_of (top (trees_at ns place))
task_text ns (task.Task.Outs place) = outs_of (top (trees_at ns place))

-- tasks in the order in which they are written
abbrev pub parts_text : List Node → List Task → List ℕ
parts_text ns [] = []
parts_text ns (t ∷ ts) = task_text ns t ++ parts_text ns ts

-- tasks of which the last one is the next
abbrev pub left_text : List Node → List Task → List ℕ
left_text ns [] = []
left_text ns (t ∷ ts) = left_text ns ts ++ task_text ns t

-- more than what tasks at the places before can weigh together
unfoldable pub weight_at : ℕ → ℕ
weight_at zero = 1
weight_at (suc place) = 16 * weight_at place

-- A task weighs more than those that it leaves: these are of places before its own, or of its own and of a lower kind.
abbrev pub task_weight : Task → ℕ
task_weight (task.Task.Bytes bytes) = 1
task_weight (task.Task.Expression place) = 2 * weight_at place
task_weight (task.Task.Key place) = weight_at place
task_weight (task.Task.Items place) = 2 * weight_at place
task_weight (task.Task.ItemsBefore place) = 2 * weight_at place
task_weight (task.Task.Members place) = 2 * weight_at place
task_weight (task.Task.MembersBefore place) = 2 * weight_at place
task_weight (task.Task.Member place) = weight_at place
task_weight (task.Task.Statements place) = 2 * weight_at place
task_weight (task.Task.Statement place) = weight_at place
task_weight (task.Task.Block place) = 2 * weight_at place
task_weight (task.Task.Lines place) = 2 * weight_at place
task_weight (task.Task.Line place) = weight_at place
task_weight (task.Task.Program place) = 3 * weight_at place
task_weight (task.Task.Main place) = 2 * weight_at place
task_weight (task.Task.Outs place) = weight_at place

abbrev pub tasks_weight : List Task → ℕ
tasks_weight [] = 0
tasks_weight (t ∷ ts) = task_weight t + tasks_weight ts

-- the place of a task is one among so many nodes
abbrev pub IsInside : ℕ → Task → Type 0
IsInside n (task.Task.Bytes bytes) = Unit
IsInside n (task.Task.Expression place) = place ≤ n
IsInside n (task.Task.Key place) = place ≤ n
IsInside n (task.Task.Items place) = place ≤ n
IsInside n (task.Task.ItemsBefore place) = place ≤ n
IsInside n (task.Task.Members place) = place ≤ n
IsInside n (task.Task.MembersBefore place) = place ≤ n
IsInside n (task.Task.Member place) = place ≤ n
IsInside n (task.Task.Statements place) = place ≤ n
IsInside n (task.Task.Statement place) = place ≤ n
IsInside n (task.Task.Block place) = place ≤ n
IsInside n (task.Task.Lines place) = place ≤ n
IsInside n (task.Task.Line place) = place ≤ n
IsInside n (task.Task.Program place) = place ≤ n
IsInside n (task.Task.Main place) = place ≤ n
IsInside n (task.Task.Outs place) = place ≤ n

abbrev pub AreInside : ℕ → List Task → Type 0
AreInside n [] = Unit
AreInside n (t ∷ ts) = IsInside n t × AreInside n ts

-- A step: what is written, followed by what is left, is the text from before, that of the task and what was left; less
-- is left; each place is one of the trees.
pub record IsStep (ns : List Node) (t : Task) (text : List ℕ) (tasks : List Task) (text_then : List ℕ) (tasks_then : List Task) : Type 0 where
  pub whole : text_then ++ left_text ns tasks_then ≡ text ++ (task_text ns t ++ left_text ns tasks)
  pub lighter : tasks_weight tasks_then < task_weight t + tasks_weight tasks
  pub inside : AreInside (length ns) tasks → AreInside (length ns) tasks_then
