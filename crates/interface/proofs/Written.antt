-- The formats of all that an interface has are lawful.
use Rattle.std.proofs.Common.{◌≡◌, ℕ, Bool, true, false, pos, negsuc, refl, lit<}
use Rattle.elm_type.specs.Types.{Rigid}
use Rattle.elm_type.specs.declared.class.Class.{Class}
use Rattle.elm_type.specs.declared.class.Class.TheVariants.{Any, Number, Comparable, Appendable, CompAppend}
use Rattle.elm_type.specs.declared.head.Head.{Head}
use Rattle.elm_type.specs.declared.head.Head.TheVariants as head
use Rattle.elm_type.specs.declared.node.Node.{Node}
use Rattle.elm_type.specs.declared.node.Node.TheVariants as node
use Rattle.elm_type.specs.declared.node.Leaf as stored
use Rattle.elm_type.specs.declared.node.Leaf.TheVariants as leaf
use Rattle.elm_canon.specs.Unions.{Union, TupleUnion, ListUnion, Declared}
use Rattle.elm_canon.specs.declared.unions.Tag.{Tag}
use Rattle.elm_canon.specs.declared.unions.Tag.TheVariants as mark
use Rattle.interface.specs.declared.step.Step.{Step}
use Rattle.interface.specs.declared.step.Step.TheVariants as step
use Rattle.interface.specs.Formats.{Either, First, Other, pair, nothing}
use Rattle.interface.specs.Text.{tag_format, unit_format, short_format, half_format, count_format, name_format}
use Rattle.interface.specs.Text.{names_format, flag_format, flag_of, flag_parts, class_format, ClassParts, class_of, class_parts}
use Rattle.interface.specs.Text.{kind_format, kinds_format, place_format, rigid_format, leaf_format, leaf_of, leaf_parts}
use Rattle.interface.specs.Text.{head_format, HeadParts, head_of, head_parts, node_format, NodeParts, node_of, node_parts}
use Rattle.interface.specs.Text.{nodes_format, step_format, StepParts, step_of, step_parts, steps_format, mark_format}
use Rattle.interface.specs.Text.{MarkParts, mark_of, mark_parts, alternative_format, alternatives_format, union_format}
use Rattle.interface.specs.Text.{UnionParts, union_of, union_parts, U}
use Rattle.interface.proofs.Laws.{Lawful, lawful_pair, lawful_made, lawful_list, lawful_nothing, lawful_form, lawful_or}
use Rattle.interface.proofs.Laws.{lawful_choice}
use Rattle.interface.proofs.Numbers.{lawful_number}

pub lawful_tag : Lawful tag_format
unfolding tag_format
lawful_tag = lawful_number 255 (lit< tt)

pub lawful_unit : Lawful unit_format
unfolding unit_format
lawful_unit = lawful_number 65535 (lit< tt)

pub lawful_short : Lawful short_format
unfolding short_format
lawful_short = lawful_number 4294967295 (lit< tt)

pub lawful_half : Lawful half_format
unfolding half_format
lawful_half = lawful_number 9223372036854775807 (lit< tt)

pub lawful_count : Lawful count_format
unfolding count_format
lawful_count = lawful_number 18446744073709551615 (lit< tt)

pub lawful_name : Lawful name_format
unfolding name_format
lawful_name = lawful_list count_format unit_format lawful_count lawful_unit

pub lawful_names : Lawful names_format
unfolding names_format
lawful_names = lawful_list count_format name_format lawful_count lawful_name

flag_back : (e : Either U U) → flag_parts (flag_of e) ≡ e
flag_back (First u) = refl
flag_back (Other u) = refl

flag_forth : (b : Bool) → flag_of (flag_parts b) ≡ b
flag_forth false = refl
flag_forth true = refl

pub lawful_flag : Lawful flag_format
unfolding flag_format
lawful_flag =
    lawful_made _ flag_of flag_parts (lawful_choice tag_format _ lawful_tag (lawful_or 0 1 nothing _ lawful_nothing (lawful_form 1 nothing lawful_nothing) (lit< tt)))
    flag_back flag_forth

-- ---- schemes

class_back : (e : ClassParts) → class_parts (class_of e) ≡ e
class_back (First u) = refl
class_back (Other (First u)) = refl
class_back (Other (Other (First u))) = refl
class_back (Other (Other (Other (First u)))) = refl
class_back (Other (Other (Other (Other u)))) = refl

class_forth : (c : Class) → class_of (class_parts c) ≡ c
class_forth Any = refl
class_forth Number = refl
class_forth Comparable = refl
class_forth Appendable = refl
class_forth CompAppend = refl

pub lawful_class : Lawful class_format
unfolding class_format
lawful_class =
    lawful_made _ class_of class_parts (lawful_choice tag_format _ lawful_tag
    (lawful_or 0 1 nothing _ lawful_nothing (lawful_or 1 2 nothing _ lawful_nothing (lawful_or 2 3 nothing _ lawful_nothing
    (lawful_or 3 4 nothing _ lawful_nothing (lawful_form 4 nothing lawful_nothing) (lit< tt)) (lit< tt)) (lit< tt)) (lit< tt)))
    class_back class_forth

pub lawful_kind : Lawful kind_format
unfolding kind_format
lawful_kind = lawful_made _ _ _ (lawful_pair class_format names_format lawful_class lawful_names) (λ p. refl) (λ k. refl)

pub lawful_kinds : Lawful kinds_format
unfolding kinds_format
lawful_kinds = lawful_list count_format kind_format lawful_count lawful_kind

pub lawful_place : Lawful place_format
unfolding place_format
lawful_place = lawful_list count_format short_format lawful_count lawful_short

pub lawful_rigid : Lawful rigid_format
unfolding rigid_format
lawful_rigid =
    lawful_made _ _ _ (lawful_pair place_format _ lawful_place (lawful_pair name_format _ lawful_name (lawful_pair class_format names_format lawful_class lawful_names)))
    (λ p. refl) (λ r. refl)

leaf_back : (e : Either ℕ Rigid) → leaf_parts (leaf_of e) ≡ e
leaf_back (First i) = refl
leaf_back (Other r) = refl

leaf_forth : (x : stored.Leaf) → leaf_of (leaf_parts x) ≡ x
leaf_forth (leaf.Free i) = refl
leaf_forth (leaf.Fixed r) = refl

pub lawful_leaf : Lawful leaf_format
unfolding leaf_format
lawful_leaf =
    lawful_made _ leaf_of leaf_parts (lawful_choice tag_format _ lawful_tag
    (lawful_or 0 1 short_format _ lawful_short (lawful_form 1 rigid_format lawful_rigid) (lit< tt))) leaf_back leaf_forth

head_back : (e : HeadParts) → head_parts (head_of e) ≡ e
head_back (First p) = refl
head_back (Other (First u)) = refl
head_back (Other (Other u)) = refl

head_forth : (h : Head) → head_of (head_parts h) ≡ h
head_forth (head.Named m x) = refl
head_forth head.Function = refl
head_forth head.Tuple = refl

pub lawful_head : Lawful head_format
unfolding head_format
lawful_head =
    lawful_made _ head_of head_parts (lawful_choice tag_format _ lawful_tag
    (lawful_or 0 1 (pair name_format name_format) _ (lawful_pair name_format name_format lawful_name lawful_name)
    (lawful_or 1 2 nothing _ lawful_nothing (lawful_form 2 nothing lawful_nothing) (lit< tt)) (lit< tt))) head_back head_forth

node_back : (e : NodeParts) → node_parts (node_of e) ≡ e
node_back (First p) = refl
node_back (Other (First n)) = refl
node_back (Other (Other (First p))) = refl
node_back (Other (Other (Other k))) = refl

node_forth : (n : Node) → node_of (node_parts n) ≡ n
node_forth (node.Made h n) = refl
node_forth (node.Record n) = refl
node_forth (node.Open x n) = refl
node_forth (node.Field k) = refl

pub lawful_node : Lawful node_format
unfolding node_format
lawful_node =
    lawful_made _ node_of node_parts (lawful_choice tag_format _ lawful_tag
    (lawful_or 0 1 (pair head_format count_format) _ (lawful_pair head_format count_format lawful_head lawful_count)
    (lawful_or 1 2 count_format _ lawful_count
    (lawful_or 2 3 (pair leaf_format count_format) _ (lawful_pair leaf_format count_format lawful_leaf lawful_count)
    (lawful_form 3 name_format lawful_name) (lit< tt)) (lit< tt)) (lit< tt))) node_back node_forth

pub lawful_nodes : Lawful nodes_format
unfolding nodes_format
lawful_nodes = lawful_list count_format node_format lawful_count lawful_node

-- ---- types of declarations

step_back : (e : StepParts) → step_parts (step_of e) ≡ e
step_back (First a) = refl
step_back (Other (First p)) = refl
step_back (Other (Other (First u))) = refl
step_back (Other (Other (Other (First u)))) = refl
step_back (Other (Other (Other (Other (First a))))) = refl
step_back (Other (Other (Other (Other (Other (First u)))))) = refl
step_back (Other (Other (Other (Other (Other (Other (First u))))))) = refl
step_back (Other (Other (Other (Other (Other (Other (Other k))))))) = refl

step_forth : (s : Step) → step_of (step_parts s) ≡ s
step_forth (step.Variable a) = refl
step_forth (step.Named m x) = refl
step_forth step.Tuple = refl
step_forth step.Record = refl
step_forth (step.Extended a) = refl
step_forth step.Part = refl
step_forth step.Function = refl
step_forth (step.Field k) = refl

pub lawful_step : Lawful step_format
unfolding step_format
lawful_step =
    lawful_made _ step_of step_parts (lawful_choice tag_format _ lawful_tag
    (lawful_or 0 1 name_format _ lawful_name
    (lawful_or 1 2 (pair name_format name_format) _ (lawful_pair name_format name_format lawful_name lawful_name)
    (lawful_or 2 3 nothing _ lawful_nothing (lawful_or 3 4 nothing _ lawful_nothing (lawful_or 4 5 name_format _ lawful_name
    (lawful_or 5 6 nothing _ lawful_nothing (lawful_or 6 7 nothing _ lawful_nothing
    (lawful_form 7 name_format lawful_name) (lit< tt)) (lit< tt)) (lit< tt)) (lit< tt)) (lit< tt)) (lit< tt)) (lit< tt))) step_back step_forth

pub lawful_steps : Lawful steps_format
unfolding steps_format
lawful_steps = lawful_list count_format step_format lawful_count lawful_step

-- ---- unions

mark_back : (e : MarkParts) → mark_parts (mark_of e) ≡ e
mark_back (First u) = refl
mark_back (Other (First b)) = refl
mark_back (Other (Other (First n))) = refl
mark_back (Other (Other (Other n))) = refl

mark_forth : (t : Tag) → mark_of (mark_parts t) ≡ t
mark_forth mark.Blank = refl
mark_forth (mark.Truth b) = refl
mark_forth (mark.Number (pos n)) = refl
mark_forth (mark.Number (negsuc n)) = refl

pub lawful_mark : Lawful mark_format
unfolding mark_format
lawful_mark =
    lawful_made _ mark_of mark_parts (lawful_choice tag_format _ lawful_tag
    (lawful_or 0 1 nothing _ lawful_nothing (lawful_or 1 2 flag_format _ lawful_flag
    (lawful_or 2 3 half_format _ lawful_half (lawful_form 3 half_format lawful_half) (lit< tt)) (lit< tt)) (lit< tt))) mark_back mark_forth

pub lawful_alternative : Lawful alternative_format
unfolding alternative_format
lawful_alternative =
    lawful_made _ _ _ (lawful_pair name_format _ lawful_name (lawful_pair mark_format count_format lawful_mark lawful_count)) (λ p. refl) (λ c. refl)

pub lawful_alternatives : Lawful alternatives_format
unfolding alternatives_format
lawful_alternatives = lawful_list count_format alternative_format lawful_count lawful_alternative

union_back : (e : UnionParts) → union_parts (union_of e) ≡ e
union_back (First n) = refl
union_back (Other (First u)) = refl
union_back (Other (Other p)) = refl

union_forth : (u : Union) → union_of (union_parts u) ≡ u
union_forth (TupleUnion n) = refl
union_forth ListUnion = refl
union_forth (Declared m x cs) = refl

pub lawful_union : Lawful union_format
unfolding union_format
lawful_union =
    lawful_made _ union_of union_parts (lawful_choice tag_format _ lawful_tag
    (lawful_or 0 1 count_format _ lawful_count (lawful_or 1 2 nothing _ lawful_nothing
    (lawful_form 2 (pair name_format (pair name_format alternatives_format))
    (lawful_pair name_format _ lawful_name (lawful_pair name_format alternatives_format lawful_name lawful_alternatives))) (lit< tt)) (lit< tt))) union_back union_forth
