-- What trees do with names, and nothing else of them: the names that they read, those that they assign, and the blocks
-- and functions that declare names. The last part of a tree comes first, as its nodes are met from the last one on.
use Rattle.std.specs.Prelude.{List, [], ◌∷◌}
use Rattle.js_tree.specs.Tree.{Name, Js, JInt, JBool, JText, JVar, JArrow, JBlock, JCall, JBinary, JConditional}
use Rattle.js_tree.specs.Tree.{JObject, JProperty, JList, JHelper, JsList, NoJs, MoreJs, Fields, NoField, MoreField}
use Rattle.js_tree.specs.Tree.{Stmts, Const, Let, Assign, Return, If, While, Continue, Lines, NoLine, MoreLine, Program}
use Rattle.js_tree.specs.Postorder.{Items, NoItem, Item, Members, NoMember, Member, Before, NoStatement, ConstThen}
use Rattle.js_tree.specs.Postorder.{LetThen, AssignThen, LinesBefore, NoLineYet, LineThen}

pub data Uses : Type 0 where
  Nothing : Uses
  Reads : Name → Uses
  Assigns : Name → Uses
  Both : Uses → Uses → Uses
  -- a block, and a function, with the names that they bind, the innermost first
  Block : List Name → Uses → Uses
  Function : List Name → Uses → Uses

-- the names that statements declare, before others
abbrev pub declared : Stmts → List Name → List Name
declared (Const x e s) names = x ∷ declared s names
declared (Let x e s) names = x ∷ declared s names
declared (Assign x e s) names = declared s names
declared _ names = names

-- the uses of a tree; those of a list, of fields and of statements, before others
abbrev mutual
  pub uses : Js → Uses
  uses (JInt n) = Nothing
  uses (JBool b) = Nothing
  uses (JText us) = Nothing
  uses (JVar x) = Reads x
  uses (JArrow p s) = Function (declared s (p ∷ [])) (block_uses s Nothing)
  uses (JBlock s) = Function (declared s []) (block_uses s Nothing)
  uses (JCall f a) = Both (uses a) (uses f)
  uses (JBinary op a b) = Both (uses b) (uses a)
  uses (JConditional c a b) = Both (uses b) (Both (uses a) (uses c))
  uses (JObject fs) = fields_uses fs Nothing
  uses (JProperty e k) = uses e
  uses (JList es) = list_uses es Nothing
  uses (JHelper h es) = list_uses es Nothing

  pub list_uses : JsList → Uses → Uses
  list_uses NoJs others = others
  list_uses (MoreJs e es) others = list_uses es (Both (uses e) others)

  pub fields_uses : Fields → Uses → Uses
  fields_uses NoField others = others
  fields_uses (MoreField k e fs) others = fields_uses fs (Both (uses e) others)

  pub block_uses : Stmts → Uses → Uses
  block_uses (Const x e s) others = block_uses s (Both (uses e) others)
  block_uses (Let x e s) others = block_uses s (Both (uses e) others)
  block_uses (Assign x e s) others = block_uses s (Both (Assigns x) (Both (uses e) others))
  block_uses (Return e) others = Both (uses e) others
  block_uses (If c s t) others =
      Both (Block (declared t []) (block_uses t Nothing)) (Both (Block (declared s []) (block_uses s Nothing)) (Both (uses c) others))
  block_uses (While s) others = Both (Block (declared s []) (block_uses s Nothing)) others
  block_uses Continue others = others

abbrev pub lines_uses : Lines → Uses → Uses
lines_uses NoLine others = others
lines_uses (MoreLine x e ls) others = lines_uses ls (Both (uses e) others)

abbrev pub line_names : Lines → List Name → List Name
line_names NoLine names = names
line_names (MoreLine x e ls) names = x ∷ line_names ls names

-- a program binds the names of its lines
abbrev pub program_uses : Program → Uses
program_uses p =
    Block (line_names p.lines []) (Both (fields_uses p.ins Nothing) (Both (uses p.flags) (Both (uses p.main) (lines_uses p.lines Nothing))))

-- the same of the parts so far
abbrev pub items_uses : Items → Uses
items_uses NoItem = Nothing
items_uses (Item before e) = Both (uses e) (items_uses before)

abbrev pub members_uses : Members → Uses
members_uses NoMember = Nothing
members_uses (Member before k e) = Both (uses e) (members_uses before)

abbrev pub statements_uses : Before → Uses
statements_uses NoStatement = Nothing
statements_uses (ConstThen before x e) = Both (uses e) (statements_uses before)
statements_uses (LetThen before x e) = Both (uses e) (statements_uses before)
statements_uses (AssignThen before x e) = Both (Assigns x) (Both (uses e) (statements_uses before))

abbrev pub names_before : Before → List Name → List Name
names_before NoStatement names = names
names_before (ConstThen before x e) names = names_before before (x ∷ names)
names_before (LetThen before x e) names = names_before before (x ∷ names)
names_before (AssignThen before x e) names = names_before before names

abbrev pub lines_before_uses : LinesBefore → Uses
lines_before_uses NoLineYet = Nothing
lines_before_uses (LineThen before x e) = Both (uses e) (lines_before_uses before)

abbrev pub line_names_before : LinesBefore → List Name → List Name
line_names_before NoLineYet names = names
line_names_before (LineThen before x e) names = line_names_before before (x ∷ names)
