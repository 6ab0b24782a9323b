-- The faults that the tokens up to a place decide: too many open constructs or operators, operators that do not group,
-- a tuple of four parts, and an annotation that stands alone. Each is told from the derivation of a text. (Elm syntax
-- reference; Elm guide: core language, types.)
use Rattle.std.specs.Prelude.{ℕ, ◌+◌, ◌^◌, List, [], ◌∷◌, ◌++◌, map, length, Bool, false, ◌&&◌, if◌then◌else◌, nat_eq}
use Rattle.std.specs.Prelude.{nat_le, nat_lt, Option, Some, None}
use Rattle.std.specs.List.{list_any}
use Rattle.std.specs.Str.{bytes_eq}
use Rattle.elm_base.specs.declared.fault.Code.{Code}
use Rattle.elm_base.specs.declared.fault.Code.TheVariants.{TooDeep, MixedOperators, TupleTooLarge, LoneAnnotation}
use Rattle.elm_lexer.specs.Tokens.{Token}
use Rattle.elm_tree.specs.Words.{token_at, word_of}
use Rattle.elm_tree.specs.Regroup.{clashes_after}
use Rattle.parse_machine.specs.declared.table.Symbol.TheVariants.{Word}
use Rattle.parse_machine.specs.declared.table.Token as machine
use Rattle.parse_machine.specs.Grammar.{Production, ◌⟶◌, production, Tree, leaf, word, node}
use Rattle.elm_grammar.specs.Classes as class
use Rattle.elm_grammar.specs.Table.{elm, Module, PortFirst, AfterPort, Contents, Declarations, Declaration}
use Rattle.elm_grammar.specs.Table.{PortDeclaration, Definitions, MoreDefinitions, Definition, Operators, OperatorRight}
use Rattle.elm_grammar.specs.Table.{ParenRest, TypeTuple, PatternTuple}

-- ---- which productions

abbrev pub is_one_of : List ℕ → ℕ → Bool
is_one_of ks k = list_any (λ j. nat_eq j k) ks

-- the nonterminal of a production
abbrev pub left_of : Option Production → Option ℕ
left_of (Some (n ⟶ r)) = Some n
left_of None = None

abbrev pub is_left_of : List ℕ → Option ℕ → Bool
is_left_of ns (Some n) = is_one_of ns n
is_left_of ns None = false

abbrev pub stands_for : List ℕ → Option Production → Bool
stands_for ns o = is_left_of ns (left_of o)

-- production p is one of these nonterminals
abbrev pub is_of : List ℕ → ℕ → Bool
is_of ns p = stands_for ns (production elm p)

-- the classes of the token that a production begins with
abbrev pub first_word : Option Production → Option ℕ
first_word (Some (n ⟶ (Word set ∷ r))) = Some set
first_word _ = None

abbrev pub is_set_of : List ℕ → Option ℕ → Bool
is_set_of ks (Some set) = list_any (λ k. nat_eq (2 ^ k) set) ks
is_set_of ks None = false

abbrev pub begins : List ℕ → Option Production → Bool
begins ks o = is_set_of ks (first_word o)

-- production p begins with a token of one of these classes
abbrev pub begins_with : List ℕ → ℕ → Bool
begins_with ks p = begins ks (production elm p)

-- brackets, let, case, if and the backslash of a lambda open a construct, which ends where their production ends
abbrev pub openers : List ℕ
openers =
    class.open_paren ∷ class.open_square ∷ class.open_brace ∷ class.let_ ∷ class.case_ ∷ class.if_ ∷ class.backslash
    ∷ []

-- the operators of chains
abbrev pub operators : List ℕ
operators = class.operator ∷ class.cons ∷ class.minus_apart ∷ class.minus_tight ∷ []

-- the nonterminals that go on with a list: a chain of operators, the parts of a tuple, or the entries of a block
abbrev pub lists : List ℕ
lists =
    Operators ∷ OperatorRight ∷ ParenRest ∷ TypeTuple ∷ PatternTuple ∷ Module ∷ PortFirst ∷ AfterPort ∷ Contents
    ∷ Declarations ∷ Definitions ∷ MoreDefinitions ∷ []

-- those that end the entries of a block, where they have nothing in them
abbrev pub ends : List ℕ
ends = Declarations ∷ MoreDefinitions ∷ []

-- those of an entry
abbrev pub entries : List ℕ
entries = Declaration ∷ PortDeclaration ∷ Definition ∷ []

-- an entry that begins with a name is an annotation of the name or a definition of it
abbrev pub is_named : ℕ → Bool
is_named p = is_of entries p && begins_with (class.name ∷ []) p

-- what follows the name in an annotation
abbrev pub annotates : ℕ → Bool
annotates p = begins_with (class.colon ∷ []) p

abbrev pub length_of : Option Production → ℕ
length_of (Some (n ⟶ r)) = length r
length_of None = 0

-- how many symbols production p has
abbrev pub size : ℕ → ℕ
size p = length_of (production elm p)

abbrev pub is_empty : ℕ → Bool
is_empty p = nat_eq (size p) 0

-- ---- what stands around a place, and before it in the lists around it

pub record Level : Type 0 where
  -- how many constructs are open
  pub depth : ℕ
  -- the operators of the chain so far, the nearest first
  pub chain : List machine.Token
  -- the commas of the tuple so far
  pub commas : ℕ
  -- the name that the entry before annotates
  pub annotated : Option machine.Token

abbrev pub outermost : ℕ → Level
outermost depth = record { depth = depth; chain = []; commas = 0; annotated = None }

-- below production p: one construct more is open if the production opens one, and a list goes on or not
abbrev pub below : Level → ℕ → Level
below l p =
    let depth = (if begins_with openers p then l.depth + 1 else l.depth) in
    if is_of lists p then record { depth = depth; chain = l.chain; commas = l.commas; annotated = l.annotated }
    else outermost depth

-- after the token
abbrev pub read : Level → machine.Token → Level
read l t = record {
  depth = l.depth;
  chain = if is_one_of operators t.class then t ∷ l.chain else l.chain;
  commas = if nat_eq t.class class.comma then l.commas + 1 else l.commas;
  annotated = l.annotated;
}

-- the name that an entry annotates
abbrev pub name_of : Tree → Option machine.Token
name_of (word x (node q y z)) = if annotates q then Some x else None
name_of _ = None

abbrev pub annotated_by : ℕ → Tree → Option machine.Token
annotated_by p x = if is_named p then name_of x else None

-- after production p, with x below it
abbrev pub passed : Level → ℕ → Tree → Level
passed l p x =
    if is_of entries p
    then record { depth = l.depth; chain = l.chain; commas = l.commas; annotated = annotated_by p x } else l

-- ---- the faults at a place

-- which token, what is wrong with it, and up to which token the text decides it; without one, the whole text does
pub record Decided : Type 0 where
  pub place : machine.Token
  pub code : Code
  pub by : Option machine.Token

abbrev pub fault_if : Bool → machine.Token → Code → List Decided
fault_if b t code = if b then record { place = t; code = code; by = Some t } ∷ [] else []

abbrev pub greatest_depth : ℕ
greatest_depth = 256

abbrev pub most_operators : ℕ
most_operators = 1024

abbrev pub most_commas : ℕ
most_commas = 2

abbrev pub clashes : List Token → List machine.Token → machine.Token → Bool
clashes tokens chain t =
    clashes_after (map (λ (u : machine.Token). word_of (token_at tokens u.index)) chain) (word_of (token_at tokens t.index))

-- at a token: it opens a construct too many, its own included; it is an operator too many, or does not group with one
-- before it in the chain; or a fourth part of a tuple follows it
abbrev pub at_token : List Token → Level → machine.Token → List Decided
at_token tokens l t =
    fault_if (is_one_of openers t.class && nat_lt greatest_depth l.depth) t TooDeep
    ++ fault_if (is_one_of operators t.class && nat_le most_operators (length l.chain)) t TooDeep
    ++ fault_if (is_one_of operators t.class && clashes tokens l.chain t) t MixedOperators
    ++ fault_if (nat_eq t.class class.comma && nat_le most_commas l.commas) t TupleTooLarge

abbrev pub same_name : List Token → machine.Token → machine.Token → Bool
same_name tokens x y = bytes_eq (token_at tokens x.index).text (token_at tokens y.index).text

abbrev pub lone : machine.Token → Option machine.Token → List Decided
lone a by = record { place = a; code = LoneAnnotation; by = by } ∷ []

-- the first token of a derivation, or else the next one after it
abbrev pub first_of : Tree → Option machine.Token → Option machine.Token
first_of leaf next = next
first_of (word t x) next = Some t
first_of (node p x y) next = first_of x (first_of y next)

-- after an annotation of a stands the entry x, which begins with a name; next is the token after it: it defines that
-- name, or the annotation is alone
abbrev pub by_name : List Token → machine.Token → Tree → Option machine.Token → List Decided
by_name tokens a (word y (node q z w)) next =
    if same_name tokens a y then (if annotates q then lone a (first_of z (first_of w next)) else []) else lone a (Some y)
by_name tokens a _ next = []

-- at production p, with x below it, after an annotation of a: another entry follows, or the block ends
abbrev pub after_annotation : List Token → machine.Token → ℕ → Tree → Option machine.Token → List Decided
after_annotation tokens a p x next =
    if is_named p then by_name tokens a x next
    else (if is_of entries p then lone a (first_of x next)
    else (if is_of ends p && is_empty p then lone a next else []))

abbrev pub at_production : List Token → Option machine.Token → ℕ → Tree → Option machine.Token → List Decided
at_production tokens (Some a) p x next = after_annotation tokens a p x next
at_production tokens None p x next = []

-- ---- the faults of a text

-- of a derivation at this level, after which that token comes
abbrev pub faults_in : List Token → Level → Option machine.Token → Tree → List Decided
faults_in tokens l next leaf = []
faults_in tokens l next (word t x) = at_token tokens l t ++ faults_in tokens (read l t) next x
faults_in tokens l next (node p x y) =
    at_production tokens l.annotated p x (first_of y next)
    ++ (faults_in tokens (below l p) (first_of y next) x ++ faults_in tokens (passed l p x) next y)

-- no order is meant
unfoldable pub faults_of : List Token → Tree → List Decided
faults_of tokens x = faults_in tokens (outermost 0) None x
