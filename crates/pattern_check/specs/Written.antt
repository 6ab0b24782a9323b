-- What is left to write of the patterns that a walk over parts has entered: the innermost first.
use Rattle.std.specs.Prelude.{ℕ, List, [], ◌∷◌, ◌++◌, take, drop, Bool, true, false, Some, None, codes}
use Rattle.elm_canon.specs.Names.{Name}
use Rattle.elm_canon.specs.Unions.{Union, TupleUnion, ListUnion, Declared}
use Rattle.elm_canon.specs.Tree as plain
use Rattle.elm_canon.specs.Tree.{patterns_of}
use Rattle.pattern_check.specs.Shapes.{Head, Literally, OtherLiteral, Constructor, arity_of}
use Rattle.pattern_check.specs.Flat.{Part}
use Rattle.pattern_check.specs.Text.{literal_text, is_bracketed, is_applied, by_count, arguments_text, parts_text}
use Rattle.pattern_check.specs.Text.{more_parts_text, items_text, rest_text}
use Rattle.pattern_check.specs.declared.text.Around.{Around}
use Rattle.pattern_check.specs.declared.text.Around.TheVariants.{Alone, Item, Argument}
use Rattle.pattern_check.specs.declared.text.Form.{Form}
use Rattle.pattern_check.specs.declared.text.Form.TheVariants.{Leaf, Tuple, Chain, Applied}
use Rattle.pattern_check.specs.declared.text.Kind.{Kind}
use Rattle.pattern_check.specs.declared.text.Kind.TheVariants.{Arguments, Parts, MoreParts, Items, MoreItems}
use Rattle.pattern_check.specs.declared.text.Closing.{Closing}
use Rattle.pattern_check.specs.declared.text.Closing.TheVariants.{Nothing, Bracket, TupleEnd}
use Rattle.pattern_check.specs.declared.text.Rest.{Rest}

abbrev pub closing_text : Closing → Name
closing_text Nothing = []
closing_text Bracket = codes ")"
closing_text TupleEnd = codes " )"

-- the patterns that are left
abbrev pub kind_text : Kind → plain.Patterns → Name
kind_text Arguments ps = arguments_text ps
kind_text Parts ps = parts_text ps
kind_text MoreParts ps = more_parts_text ps
kind_text Items ps = items_text ps
kind_text MoreItems ps = rest_text ps

-- what the rests write, where these patterns are read in turn
unfoldable pub pending : List Rest → List plain.Pattern → Name
pending [] ps = []
pending (r ∷ rs) ps =
    kind_text r.kind (patterns_of (take r.left ps)) ++ (closing_text r.closing ++ pending rs (drop r.left ps))

abbrev pub rest : Kind → ℕ → Closing → Rest
rest k n c = record { kind = k; left = n; closing = c }

-- what is written before the next pattern, where it stands, and what is written of those after it
abbrev pub separator_of : Kind → Name
separator_of Arguments = codes " "
separator_of Parts = []
separator_of MoreParts = codes ", "
separator_of Items = []
separator_of MoreItems = codes " :: "

abbrev pub around_of : Kind → Around
around_of Arguments = Argument
around_of Parts = Alone
around_of MoreParts = Alone
around_of Items = Item
around_of MoreItems = Alone

abbrev pub next_of : Kind → Kind
next_of Arguments = Arguments
next_of Parts = MoreParts
next_of MoreParts = MoreParts
next_of Items = MoreItems
next_of MoreItems = MoreItems

-- ---- a part

abbrev pub union_form : Union → Form
union_form (TupleUnion n) = Tuple
union_form ListUnion = Chain
union_form (Declared m x cs) = Applied

abbrev pub form_of : Head → Form
form_of (Literally l) = Leaf
form_of OtherLiteral = Leaf
form_of (Constructor u a) = union_form u

abbrev pub kind_of : Form → Kind
kind_of Leaf = Parts
kind_of Tuple = Parts
kind_of Chain = Items
kind_of Applied = Arguments

abbrev pub bracket_start : Bool → Name
bracket_start true = codes "("
bracket_start false = []

abbrev pub bracket_end : Bool → Closing
bracket_end true = Bracket
bracket_end false = Nothing

abbrev pub opening_of : Around → Form → ℕ → Name
opening_of around Leaf n = []
opening_of around Tuple n = by_count n (codes "()") (codes "( ")
opening_of around Chain n = by_count n (codes "[]") (bracket_start (is_bracketed around))
opening_of around Applied n = bracket_start (is_applied around n)

abbrev pub closing_of : Around → Form → ℕ → Closing
closing_of around Leaf n = Nothing
closing_of around Tuple n = by_count n Nothing TupleEnd
closing_of around Chain n = by_count n Nothing (bracket_end (is_bracketed around))
closing_of around Applied n = bracket_end (is_applied around n)

-- the name of a constructor, where it has one in patterns
abbrev pub constructor_label : Union → Name → Name
constructor_label (TupleUnion n) x = []
constructor_label ListUnion x = []
constructor_label (Declared m y cs) x = x

-- a literal, or the name of a constructor
abbrev pub label_text : Head → Name
label_text (Literally l) = literal_text l
label_text OtherLiteral = codes "_"
label_text (Constructor u a) = constructor_label u a.name

-- what is written of a part before its own parts
abbrev pub begin_text : Around → Part → Name
begin_text around None = codes "_"
begin_text around (Some h) = opening_of around (form_of h) (arity_of h) ++ label_text h

-- what is left of it
abbrev pub left_of : Around → Part → Rest
left_of around None = rest Parts 0 Nothing
left_of around (Some h) = rest (kind_of (form_of h)) (arity_of h) (closing_of around (form_of h) (arity_of h))
