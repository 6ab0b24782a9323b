-- How the parts of one thing wait in the trees until it is whole.
use Rattle.std.specs.Prelude.{ℕ, zero, suc, pos, List, [], ◌∷◌, drop, codes, ◌==◌, if◌then◌else◌}
use Rattle.elm_canon.specs.Names.{Name}
use Rattle.elm_canon.specs.declared.unions.Tag.{Tag}
use Rattle.elm_canon.specs.declared.unions.Tag.TheVariants.{Number, Truth, Blank}
use Rattle.elm_canon.specs.declared.tree.Operator.{Operator}
use Rattle.elm_canon.specs.declared.tree.Operator.TheVariants as operator
use Rattle.elm_canon.specs.Tree as source
use Rattle.elm_canon.specs.Tree.{Op, TupleOf, ListOf, Build, RecordOf, Access, Negate, Binary}
use Rattle.js_tree.specs.Tree.{JInt}
use Rattle.js_tree.specs.Postorder.{Tree, Expression, Items, NoItem, Item, ItemsOf, Member, NoMember, MembersOf}
use Rattle.js_tree.specs.Postorder.{top, below, expression, items, members}
use Rattle.js_emit.specs.Names.{part_name}
use Rattle.js_emit.specs.declared.shape.Shape.{Shape}
use Rattle.js_emit.specs.declared.shape.Shape.TheVariants as shape

abbrev pub count_items : Items → ℕ
count_items NoItem = 0
count_items (Item before e) = suc (count_items before)

-- ---- which shape

abbrev pub build_shape : Tag → Shape
build_shape (Number k) = shape.Tagged k
build_shape (Truth b) = shape.Dropped
build_shape Blank = shape.Dropped

abbrev pub operator_shape : Operator → Shape
operator_shape operator.Add = shape.Bare
operator_shape operator.Subtract = shape.Bare
operator_shape operator.Multiply = shape.Bare
operator_shape operator.Cons = shape.Tagged (pos 1)
operator_shape _ = shape.Items

-- of an operation with so many parts
abbrev pub shape_of : Op → ℕ → Shape
shape_of TupleOf n = if n == 0 then shape.Dropped else shape.Tagged (pos 0)
shape_of ListOf n = if n == 0 then shape.Tagged (pos 0) else shape.Items
shape_of (Build place u a) n = build_shape a.tag
shape_of (RecordOf ks) n = shape.Record
shape_of (Access k) n = if n == 1 then shape.Bare else shape.Dropped
shape_of (source.Update ks) n = if n == 0 then shape.Dropped else shape.Update
shape_of Negate n = if n == 1 then shape.AfterZero else shape.Dropped
shape_of (Binary place op) n = if n == 2 then operator_shape op else shape.Dropped

-- the names of its fields
abbrev pub names_of : Op → List Name
names_of (RecordOf ks) = ks
names_of (source.Update ks) = ks
names_of _ = []

-- ---- the trees

-- before any part
abbrev pub begun : Shape → List Tree → List Tree
begun shape.Dropped ts = ts
begun shape.Bare ts = ts
begun shape.AfterZero ts = Expression (JInt (pos 0)) ∷ ts
begun shape.Items ts = ItemsOf NoItem ∷ ts
begun (shape.Tagged k) ts = MembersOf (Member NoMember (codes "$") (JInt k)) ∷ ts
begun shape.Record ts = MembersOf NoMember ∷ ts
begun shape.Update ts = ItemsOf NoItem ∷ ts

-- the last tree as the field of the first of the names; dropped, where there is none
abbrev pub field_added : List Name → List Tree → List Tree
field_added [] ts = below ts
field_added (k ∷ ks) ts = MembersOf (Member (members (top (below ts))) k (expression (top ts))) ∷ below (below ts)

abbrev pub item_added : List Tree → List Tree
item_added ts = ItemsOf (Item (items (top (below ts))) (expression (top ts))) ∷ below (below ts)

-- the last tree as a part of an update: the record, or a field
abbrev pub change_added : List Name → ℕ → List Tree → List Tree
change_added ks zero ts = MembersOf NoMember ∷ item_added ts
change_added ks (suc i) ts = field_added (drop i ks) ts

-- the last tree as the part of that number
abbrev pub added : Shape → List Name → ℕ → List Tree → List Tree
added shape.Dropped ks i ts = below ts
added shape.Bare ks i ts = ts
added shape.AfterZero ks i ts = ts
added shape.Items ks i ts = item_added ts
added (shape.Tagged k) ks i ts =
    MembersOf (Member (members (top (below ts))) (part_name i) (expression (top ts))) ∷ below (below ts)
added shape.Record ks i ts = field_added (drop i ks) ts
added shape.Update ks i ts = change_added ks i ts

-- with the parts so far
abbrev pub waiting : Shape → List Name → Items → List Tree → List Tree
waiting s ks NoItem ts = begun s ts
waiting s ks (Item before x) ts = added s ks (count_items before) (Expression x ∷ waiting s ks before ts)

-- an operation with that number of parts, and those of them that stand there so far
abbrev pub with_parts : Op → ℕ → Items → List Tree → List Tree
with_parts op count before ts = waiting (shape_of op count) (names_of op) before ts
