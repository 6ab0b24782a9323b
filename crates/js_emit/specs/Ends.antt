-- What is made of the parts that wait in the trees.
use Rattle.std.specs.Prelude.{pos, negsuc, List, ◌∷◌}
use Rattle.elm_canon.specs.declared.unions.Tag.{Tag}
use Rattle.elm_canon.specs.declared.unions.Tag.TheVariants.{Truth}
use Rattle.elm_canon.specs.declared.tree.Operator.{Operator}
use Rattle.elm_canon.specs.declared.tree.Operator.TheVariants as operator
use Rattle.elm_canon.specs.Tree.{Op, Build, Access, Binary}
use Rattle.js_tree.specs.Tree as js
use Rattle.js_tree.specs.Tree.{Js, JInt, JBool, JBinary, JHelper, JList, JObject, JProperty, JsList, NoJs, NoField}
use Rattle.js_tree.specs.Tree.{Plus, Minus, Times, StrictEquals}
use Rattle.js_tree.specs.Postorder.{Tree, Expression, Item, top, below, expression, items, members, items_then}
use Rattle.js_tree.specs.Postorder.{members_then}
use Rattle.js_emit.specs.Operators.{is_false}
use Rattle.js_emit.specs.declared.shape.Shape.{Shape}
use Rattle.js_emit.specs.declared.shape.Shape.TheVariants as shape

-- of a constructor whose fields are dropped
abbrev pub blank_js : Tag → Js
blank_js (Truth b) = JBool b
blank_js _ = JInt (pos 0)

-- of parts that are dropped
abbrev pub dropped_js : Op → Js
dropped_js (Build place u a) = blank_js a.tag
dropped_js _ = JInt (pos 0)

abbrev pub arithmetic : Operator → js.Operator
arithmetic operator.Subtract = Minus
arithmetic operator.Multiply = Times
arithmetic _ = Plus

abbrev pub compared : JsList → Js → Js
compared xs n = JBinary StrictEquals (JHelper js.Compare xs) n

-- of the operands as items
abbrev pub called : Operator → JsList → Js
called operator.Divide xs = JHelper js.Quotient xs
called operator.Append xs = JHelper js.Append xs
called operator.Unequal xs = is_false (JHelper js.Equal xs)
called operator.Less xs = compared xs (JInt (negsuc 0))
called operator.Greater xs = compared xs (JInt (pos 1))
called operator.AtMost xs = is_false (compared xs (JInt (pos 1)))
called operator.AtLeast xs = is_false (compared xs (JInt (negsuc 0)))
called _ xs = JHelper js.Equal xs

abbrev pub combined : js.Operator → List Tree → List Tree
combined op ts = Expression (JBinary op (expression (top (below ts))) (expression (top ts))) ∷ below (below ts)

abbrev pub bare_ended : Op → List Tree → List Tree
bare_ended (Access k) ts = Expression (JProperty (expression (top ts)) k) ∷ below ts
bare_ended (Binary place op) ts = combined (arithmetic op) ts
bare_ended _ ts = ts

abbrev pub object_ended : List Tree → List Tree
object_ended ts = Expression (JObject (members_then (members (top ts)) NoField)) ∷ below ts

abbrev pub items_js : Op → JsList → Js
items_js (Binary place op) xs = called op xs
items_js _ xs = JList xs

abbrev pub items_ended : Op → List Tree → List Tree
items_ended op ts = Expression (items_js op (items_then (items (top ts)) NoJs)) ∷ below ts

abbrev pub update_ended : List Tree → List Tree
update_ended ts =
    Expression (JHelper js.Update (items_then
    (Item (items (top (below ts))) (JObject (members_then (members (top ts)) NoField))) NoJs))
    ∷ below (below ts)

abbrev pub ended : Shape → Op → List Tree → List Tree
ended shape.Dropped op ts = Expression (dropped_js op) ∷ ts
ended shape.Bare op ts = bare_ended op ts
ended shape.AfterZero op ts = combined Minus ts
ended shape.Items op ts = items_ended op ts
ended (shape.Tagged k) op ts = object_ended ts
ended shape.Record op ts = object_ended ts
ended shape.Update op ts = update_ended ts
