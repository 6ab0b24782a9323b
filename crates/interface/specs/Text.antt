-- The one text of each interface. A number is decimal, with a space after it. A list stands after its length, a name is
-- the list of its UTF-16 units, and a value that has several forms stands after the number of its form. A type is the
-- list of its nodes or steps.
use Rattle.std.specs.Prelude.{◌≡◌, ℕ, List, [], ◌∷◌, Bool, true, false, Option, pos, negsuc}
use Rattle.elm_type.specs.Types.{Rigid, Kind, Scheme, ElmType, Leaf, Free, Fixed}
use Rattle.elm_type.specs.Spelling.{spell}
use Rattle.elm_type.specs.declared.class.Class.{Class}
use Rattle.elm_type.specs.declared.class.Class.TheVariants.{Any, Number, Comparable, Appendable, CompAppend}
use Rattle.elm_type.specs.declared.head.Head.{Head}
use Rattle.elm_type.specs.declared.head.Head.TheVariants as head
use Rattle.elm_type.specs.declared.node.Node.{Node}
use Rattle.elm_type.specs.declared.node.Node.TheVariants as node
use Rattle.elm_type.specs.declared.node.Leaf as stored
use Rattle.elm_type.specs.declared.node.Leaf.TheVariants as leaf
use Rattle.elm_canon.specs.Unions.{Union, TupleUnion, ListUnion, Declared}
use Rattle.elm_canon.specs.Names.{Name}
use Rattle.elm_canon.specs.Tree.{Annotation, Annotations, UnionDeclaration, AliasDeclaration}
use Rattle.elm_canon.specs.declared.unions.Tag.{Tag}
use Rattle.elm_canon.specs.declared.unions.Tag.TheVariants as mark
use Rattle.elm_canon.specs.declared.unions.Alternative.{Alternative}
use Rattle.interface.specs.declared.step.Step.{Step}
use Rattle.interface.specs.declared.step.Step.TheVariants as step
use Rattle.interface.specs.Formats.{Format, number, pair, made_of, checked, list, nothing, Either, First, Other, form}
use Rattle.interface.specs.Formats.{form_or, choice, whole}
use Rattle.interface.specs.Steps.{steps_of, steps_of_all, built_one, built_all}
use Rattle.interface.specs.Shapes.{type_at}
use Rattle.interface.specs.Interface.{Value, Interface}

abbrev pub U : Type 0
U = Unit {0}

-- ---- numbers and names

-- the number of a form
unfoldable pub tag_format : Format ℕ
tag_format = number 255

unfoldable pub unit_format : Format ℕ
unit_format = number 65535

-- in 32 bits
unfoldable pub short_format : Format ℕ
short_format = number 4294967295

-- in 63 bits
unfoldable pub half_format : Format ℕ
half_format = number 9223372036854775807

unfoldable pub count_format : Format ℕ
count_format = number 18446744073709551615

unfoldable pub name_format : Format Name
name_format = list count_format unit_format

unfoldable pub names_format : Format (List Name)
names_format = list count_format name_format

abbrev pub flag_parts : Bool → Either U U
flag_parts false = First tt
flag_parts true = Other tt

abbrev pub flag_of : Either U U → Bool
flag_of (First u) = false
flag_of (Other u) = true

unfoldable pub flag_format : Format Bool
flag_format = made_of (choice tag_format (form_or 0 nothing (form 1 nothing))) flag_of flag_parts

-- ---- schemes

abbrev pub ClassParts : Type 0
ClassParts = Either U (Either U (Either U (Either U U)))

abbrev pub class_parts : Class → ClassParts
class_parts Any = First tt
class_parts Number = Other (First tt)
class_parts Comparable = Other (Other (First tt))
class_parts Appendable = Other (Other (Other (First tt)))
class_parts CompAppend = Other (Other (Other (Other tt)))

abbrev pub class_of : ClassParts → Class
class_of (First u) = Any
class_of (Other (First u)) = Number
class_of (Other (Other (First u))) = Comparable
class_of (Other (Other (Other (First u)))) = Appendable
class_of (Other (Other (Other (Other u)))) = CompAppend

unfoldable pub class_format : Format Class
class_format =
    made_of (choice tag_format (form_or 0 nothing (form_or 1 nothing (form_or 2 nothing (form_or 3 nothing (form 4 nothing))))))
    class_of class_parts

unfoldable pub kind_format : Format Kind
kind_format = made_of (pair class_format names_format) (λ p. record { class = p.0; lacks = p.1 }) (λ k. (k.class, k.lacks))

unfoldable pub kinds_format : Format (List Kind)
kinds_format = list count_format kind_format

unfoldable pub place_format : Format (List ℕ)
place_format = list count_format short_format

unfoldable pub rigid_format : Format Rigid
rigid_format =
    made_of (pair place_format (pair name_format (pair class_format names_format)))
    (λ p. record { place = p.0; name = p.1.0; class = p.1.1.0; lacks = p.1.1.1 })
    (λ r. (r.place, (r.name, (r.class, r.lacks))))

abbrev pub leaf_parts : stored.Leaf → Either ℕ Rigid
leaf_parts (leaf.Free i) = First i
leaf_parts (leaf.Fixed r) = Other r

abbrev pub leaf_of : Either ℕ Rigid → stored.Leaf
leaf_of (First i) = leaf.Free i
leaf_of (Other r) = leaf.Fixed r

unfoldable pub leaf_format : Format stored.Leaf
leaf_format = made_of (choice tag_format (form_or 0 short_format (form 1 rigid_format))) leaf_of leaf_parts

abbrev pub HeadParts : Type 0
HeadParts = Either (Name × Name) (Either U U)

abbrev pub head_parts : Head → HeadParts
head_parts (head.Named m x) = First (m, x)
head_parts head.Function = Other (First tt)
head_parts head.Tuple = Other (Other tt)

abbrev pub head_of : HeadParts → Head
head_of (First p) = head.Named p.0 p.1
head_of (Other (First u)) = head.Function
head_of (Other (Other u)) = head.Tuple

unfoldable pub head_format : Format Head
head_format =
    made_of (choice tag_format (form_or 0 (pair name_format name_format) (form_or 1 nothing (form 2 nothing)))) head_of head_parts

abbrev pub NodeParts : Type 0
NodeParts = Either (Head × ℕ) (Either ℕ (Either (stored.Leaf × ℕ) Name))

abbrev pub node_parts : Node → NodeParts
node_parts (node.Made h n) = First (h, n)
node_parts (node.Record n) = Other (First n)
node_parts (node.Open x n) = Other (Other (First (x, n)))
node_parts (node.Field k) = Other (Other (Other k))

abbrev pub node_of : NodeParts → Node
node_of (First p) = node.Made p.0 p.1
node_of (Other (First n)) = node.Record n
node_of (Other (Other (First p))) = node.Open p.0 p.1
node_of (Other (Other (Other k))) = node.Field k

unfoldable pub node_format : Format Node
node_format =
    made_of (choice tag_format (form_or 0 (pair head_format count_format) (form_or 1 count_format
    (form_or 2 (pair leaf_format count_format) (form 3 name_format))))) node_of node_parts

unfoldable pub nodes_format : Format (List Node)
nodes_format = list count_format node_format

unfoldable pub type_format : Format (ElmType (Leaf ℕ))
type_format = checked nodes_format type_at spell

unfoldable pub scheme_format : Format Scheme
scheme_format = made_of (pair type_format kinds_format) (λ p. record { type = p.0; kinds = p.1 }) (λ s. (s.type, s.kinds))

unfoldable pub value_format : Format Value
value_format =
    made_of (pair name_format (pair count_format scheme_format))
    (λ p. record { name = p.0; parameters = p.1.0; scheme = p.1.1 }) (λ v. (v.name, (v.parameters, v.scheme)))

unfoldable pub values_format : Format (List Value)
values_format = list count_format value_format

-- ---- types of declarations

abbrev pub StepParts : Type 0
StepParts = Either Name (Either (Name × Name) (Either U (Either U (Either Name (Either U (Either U Name))))))

abbrev pub step_parts : Step → StepParts
step_parts (step.Variable a) = First a
step_parts (step.Named m x) = Other (First (m, x))
step_parts step.Tuple = Other (Other (First tt))
step_parts step.Record = Other (Other (Other (First tt)))
step_parts (step.Extended a) = Other (Other (Other (Other (First a))))
step_parts step.Part = Other (Other (Other (Other (Other (First tt)))))
step_parts step.Function = Other (Other (Other (Other (Other (Other (First tt))))))
step_parts (step.Field k) = Other (Other (Other (Other (Other (Other (Other k))))))

abbrev pub step_of : StepParts → Step
step_of (First a) = step.Variable a
step_of (Other (First p)) = step.Named p.0 p.1
step_of (Other (Other (First u))) = step.Tuple
step_of (Other (Other (Other (First u)))) = step.Record
step_of (Other (Other (Other (Other (First a))))) = step.Extended a
step_of (Other (Other (Other (Other (Other (First u)))))) = step.Part
step_of (Other (Other (Other (Other (Other (Other (First u))))))) = step.Function
step_of (Other (Other (Other (Other (Other (Other (Other k))))))) = step.Field k

unfoldable pub step_format : Format Step
step_format =
    made_of (choice tag_format (form_or 0 name_format (form_or 1 (pair name_format name_format) (form_or 2 nothing
    (form_or 3 nothing (form_or 4 name_format (form_or 5 nothing (form_or 6 nothing (form 7 name_format))))))))) step_of step_parts

unfoldable pub steps_format : Format (List Step)
steps_format = list count_format step_format

unfoldable pub annotation_format : Format Annotation
annotation_format = checked steps_format built_one steps_of

unfoldable pub annotations_format : Format Annotations
annotations_format = checked steps_format built_all steps_of_all

-- ---- declarations

abbrev pub MarkParts : Type 0
MarkParts = Either U (Either Bool (Either ℕ ℕ))

-- a number below 0 by how far it is below -1
abbrev pub mark_parts : Tag → MarkParts
mark_parts mark.Blank = First tt
mark_parts (mark.Truth b) = Other (First b)
mark_parts (mark.Number (pos n)) = Other (Other (First n))
mark_parts (mark.Number (negsuc n)) = Other (Other (Other n))

abbrev pub mark_of : MarkParts → Tag
mark_of (First u) = mark.Blank
mark_of (Other (First b)) = mark.Truth b
mark_of (Other (Other (First n))) = mark.Number (pos n)
mark_of (Other (Other (Other n))) = mark.Number (negsuc n)

unfoldable pub mark_format : Format Tag
mark_format =
    made_of (choice tag_format (form_or 0 nothing (form_or 1 flag_format (form_or 2 half_format (form 3 half_format))))) mark_of mark_parts

unfoldable pub alternative_format : Format Alternative
alternative_format =
    made_of (pair name_format (pair mark_format count_format))
    (λ p. record { name = p.0; tag = p.1.0; arity = p.1.1 }) (λ c. (c.name, (c.tag, c.arity)))

unfoldable pub alternatives_format : Format (List Alternative)
alternatives_format = list count_format alternative_format

abbrev pub UnionParts : Type 0
UnionParts = Either ℕ (Either U (Name × (Name × List Alternative)))

abbrev pub union_parts : Union → UnionParts
union_parts (TupleUnion n) = First n
union_parts ListUnion = Other (First tt)
union_parts (Declared m x cs) = Other (Other (m, (x, cs)))

abbrev pub union_of : UnionParts → Union
union_of (First n) = TupleUnion n
union_of (Other (First u)) = ListUnion
union_of (Other (Other p)) = Declared p.0 p.1.0 p.1.1

unfoldable pub union_format : Format Union
union_format =
    made_of (choice tag_format (form_or 0 count_format (form_or 1 nothing
    (form 2 (pair name_format (pair name_format alternatives_format)))))) union_of union_parts

unfoldable pub fields_format : Format (List Annotations)
fields_format = list count_format annotations_format

unfoldable pub union_declaration_format : Format UnionDeclaration
union_declaration_format =
    made_of (pair name_format (pair union_format (pair names_format fields_format)))
    (λ p. record { name = p.0; union = p.1.0; parameters = p.1.1.0; fields = p.1.1.1 })
    (λ u. (u.name, (u.union, (u.parameters, u.fields))))

unfoldable pub unions_format : Format (List UnionDeclaration)
unions_format = list count_format union_declaration_format

unfoldable pub alias_declaration_format : Format AliasDeclaration
alias_declaration_format =
    made_of (pair name_format (pair names_format (pair annotation_format flag_format)))
    (λ p. record { name = p.0; parameters = p.1.0; body = p.1.1.0; is_maker = p.1.1.1 })
    (λ a. (a.name, (a.parameters, (a.body, a.is_maker))))

unfoldable pub aliases_format : Format (List AliasDeclaration)
aliases_format = list count_format alias_declaration_format

-- ---- interfaces

unfoldable pub interface_format : Format Interface
interface_format =
    made_of (pair values_format (pair unions_format aliases_format))
    (λ p. record { values = p.0; unions = p.1.0; aliases = p.1.1 }) (λ i. (i.values, (i.unions, i.aliases)))

unfoldable pub text_of : Interface → List ℕ
unfolding interface_format
text_of i = interface_format.put i

-- each of its numbers fits: units have 16 bits, numbers of variables 32, lengths 64
abbrev pub Fits : Interface → Type 0
Fits i = interface_format.fits i ≡ true

-- it has these bytes, and each of its numbers fits
abbrev pub IsTextOf : Interface → List ℕ → Type 0
IsTextOf i bytes = (bytes ≡ text_of i) × Fits i

-- two interfaces of one text are the same
abbrev pub OneText : Type 0
OneText = (i j : Interface) → Fits i → Fits j → text_of i ≡ text_of j → i ≡ j
