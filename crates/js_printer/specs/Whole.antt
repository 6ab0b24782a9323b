-- The text of the tree of each kind.
use Rattle.std.specs.Prelude.{ℕ, List, [], ◌++◌, codes}
use Rattle.js_tree.specs.declared.runtime.TheConstants.{HEAD, TAIL}
use Rattle.js_tree.specs.Tree.{NoJs, NoField, NoLine, Program}
use Rattle.js_tree.specs.Text.{js_text, name_text, list_text, fields_text, stmts_text, lines_text, main_text}
use Rattle.js_tree.specs.Postorder.{Before, NoStatement, ConstThen, LetThen, AssignThen, Tree, Expression, ItemsOf}
use Rattle.js_tree.specs.Postorder.{MembersOf, StatementsOf, BlockOf, LinesOf, ProgramOf, items_then, members_then}
use Rattle.js_tree.specs.Postorder.{lines_then}

-- statements that others follow
abbrev pub before_text : Before → List ℕ
before_text NoStatement = []
before_text (ConstThen before x e) = before_text before ++ codes "const " ++ name_text x ++ codes "=" ++ js_text e ++ codes ";"
before_text (LetThen before x e) = before_text before ++ codes "let " ++ name_text x ++ codes "=" ++ js_text e ++ codes ";"
before_text (AssignThen before x e) = before_text before ++ name_text x ++ codes "=" ++ js_text e ++ codes ";"

-- a program, between the fixed texts
abbrev pub program_text : Program → List ℕ
program_text p = HEAD.now ++ lines_text p.lines ++ main_text p ++ TAIL.now

abbrev pub tree_text : Tree → List ℕ
tree_text (Expression e) = js_text e
tree_text (ItemsOf es) = list_text (items_then es NoJs)
tree_text (MembersOf fs) = fields_text (members_then fs NoField)
tree_text (StatementsOf s) = before_text s
tree_text (BlockOf s) = stmts_text s
tree_text (LinesOf ls) = lines_text (lines_then ls NoLine)
tree_text (ProgramOf p) = program_text p
