-- What nodes do with names, besides what their parts do.
use Rattle.std.specs.Prelude.{List, [], ◌∷◌, Bool, true, false, Option, Some, None}
use Rattle.std.specs.Borrow.{Bor}
use Rattle.js_tree.specs.declared.tree.Name as name
use Rattle.js_tree.specs.Tree.{Name, NoJs, NoField, NoLine}
use Rattle.js_tree.specs.Postorder.{Tree, ProgramOf, expression, items, members, statements, block, lines, top, below}
use Rattle.js_tree.specs.Postorder.{name_view, items_then, members_then, statements_then, lines_then}
use Rattle.js_scope.specs.declared.parts.Form as form
use Rattle.js_scope.specs.declared.parts.Statement as statement
use Rattle.js_scope.specs.declared.parts.Ending as ending
use Rattle.js_scope.specs.Uses.{Uses, Nothing, Reads, Assigns, Both, Block, Function, declared, uses, list_uses}
use Rattle.js_scope.specs.Uses.{fields_uses, block_uses, items_uses, members_uses, statements_uses, names_before}
use Rattle.js_scope.specs.Uses.{lines_before_uses, line_names_before, lines_uses, line_names, program_uses}

-- of an expression, with the trees of its parts
abbrev pub uses_by : form.Form → List Tree → Uses
uses_by form.Form.Nothing trees = Nothing
uses_by (form.Form.Reads x) trees = Reads (name_view x.now)
uses_by (form.Form.Arrow x) trees = Function (declared (block (top trees)) (name_view x.now ∷ [])) (block_uses (block (top trees)) Nothing)
uses_by form.Form.Function trees = Function (declared (block (top trees)) []) (block_uses (block (top trees)) Nothing)
uses_by form.Form.Whole trees = uses (expression (top trees))
uses_by form.Form.Pair trees = Both (uses (expression (top trees))) (uses (expression (top (below trees))))
uses_by form.Form.Triple trees =
    Both (uses (expression (top trees))) (Both (uses (expression (top (below trees)))) (uses (expression (top (below (below trees))))))
uses_by form.Form.Fields trees = fields_uses (members_then (members (top trees)) NoField) Nothing
uses_by form.Form.Items trees = list_uses (items_then (items (top trees)) NoJs) Nothing

-- of items and of fields, if there is one more
abbrev pub items_by : Bool → List Tree → Uses
items_by true trees = Both (uses (expression (top trees))) (items_uses (items (top (below trees))))
items_by false trees = Nothing

abbrev pub members_by : Bool → List Tree → Uses
members_by true trees = Both (uses (expression (top trees))) (members_uses (members (top (below trees))))
members_by false trees = Nothing

-- of statements, with the names that they declare
abbrev pub statements_by : statement.Statement → List Tree → Uses
statements_by statement.Statement.Nothing trees = Nothing
statements_by (statement.Statement.Declares x) trees = Both (uses (expression (top trees))) (statements_uses (statements (top (below trees))))
statements_by (statement.Statement.Assigns x) trees =
    Both (Assigns (name_view x.now)) (Both (uses (expression (top trees))) (statements_uses (statements (top (below trees)))))

abbrev pub names_by : statement.Statement → List Tree → List Name
names_by statement.Statement.Nothing trees = []
names_by (statement.Statement.Declares x) trees = names_before (statements (top (below trees))) (name_view x.now ∷ [])
names_by (statement.Statement.Assigns x) trees = names_before (statements (top (below trees))) []

-- of a block that is nested in another
abbrev pub inner : Tree → Uses
inner tree = Block (declared (block tree) []) (block_uses (block tree) Nothing)

-- of a block, with the names that it declares
abbrev pub block_by : ending.Ending → List Tree → Uses
block_by ending.Ending.Nothing trees = Nothing
block_by ending.Ending.Return trees = Both (uses (expression (top trees))) Nothing
block_by ending.Ending.If trees =
    Both (inner (top trees)) (Both (inner (top (below trees))) (Both (uses (expression (top (below (below trees))))) Nothing))
block_by ending.Ending.While trees = Both (inner (top trees)) Nothing
block_by ending.Ending.Ended trees = block_uses (statements_then (statements (top (below trees))) (block (top trees))) Nothing

abbrev pub declared_by : ending.Ending → List Tree → List Name
declared_by ending.Ending.Ended trees = declared (statements_then (statements (top (below trees))) (block (top trees))) []
declared_by ending.Ending.Nothing trees = []
declared_by ending.Ending.Return trees = []
declared_by ending.Ending.If trees = []
declared_by ending.Ending.While trees = []

-- of lines, with their names
abbrev pub lines_by : Option (Bor name.Name) → List Tree → Uses
lines_by (Some x) trees = Both (uses (expression (top trees))) (lines_before_uses (lines (top (below trees))))
lines_by None trees = Nothing

abbrev pub line_names_by : Option (Bor name.Name) → List Tree → List Name
line_names_by (Some x) trees = line_names_before (lines (top (below trees))) (name_view x.now ∷ [])
line_names_by None trees = []

-- of a program
abbrev pub program_of : Tree → Option Uses
program_of (ProgramOf p) = Some (program_uses p)
program_of _ = None

abbrev pub program_by : Bool → List Tree → Option Uses
program_by true trees =
    Some (Block (line_names (lines_then (lines (top (below (below (below trees))))) NoLine) []) (Both (fields_uses (members_then (members (top trees)) NoField) Nothing) (Both (uses (expression (top (below trees))))
    (Both (uses (expression (top (below (below trees))))) (lines_uses (lines_then (lines (top (below (below (below trees))))) NoLine) Nothing)))))
program_by false trees = None
