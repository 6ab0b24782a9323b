-- The values on the stacks while a tree is built, and what the steps of a derivation make of them.
use Rattle.std.specs.Prelude.{◌≡◌, List, [], ◌∷◌, map, reverse, false, Option, Some, None, option_map}
use Rattle.std.specs.declared.vec.Vec.{Vec}
use Rattle.std.specs.declared.alloc.Global.{Global}
use Rattle.elm_lexer.specs.Tokens.{Token}
use Rattle.elm_tree.specs.Tree as tree
use Rattle.elm_tree.specs.Words.{token_at, pos_of, word_of, expr_of, pattern_of, exposed_of}
use Rattle.elm_tree.specs.View.{token_view, word_view, place_view, type_view, field_type_view, pattern_view}
use Rattle.elm_tree.specs.View.{patterns_view, expr_view, definition_view, branch_view, part_view, constructor_view}
use Rattle.elm_tree.specs.View.{declaration_view, exposed_view, exposing_view, import_view, header_view}
use Rattle.elm_tree.specs.declared.tree.Module as program
use Rattle.elm_grammar.specs.declared.action.Item.{Item}
use Rattle.elm_grammar.specs.declared.action.Item.TheVariants as item
use Rattle.elm_grammar.specs.declared.action.Action.{Action}
use Rattle.elm_grammar.specs.Values.{Kind, One, Many, thing_of, Thing, Rest, Typed, Bodied, Begun, begun, AfterMinus}
use Rattle.elm_grammar.specs.Values.{Closed, Operand, takes, gives, empty_module}
use Rattle.elm_grammar.specs.Meaning.{Things, none, ◌⸴◌, action_at, made}
use Rattle.parse_machine.specs.declared.table.Step.{Step}
use Rattle.parse_machine.specs.declared.table.Step.TheVariants.{Take, Read}
use Rattle.elm_values.specs.declared.value.Stacks.{Stacks}
use Rattle.elm_values.specs.declared.value.Rest as rest
use Rattle.elm_values.specs.declared.value.Begun as begun_pattern
use Rattle.elm_values.specs.declared.value.Chain as chain
use Rattle.elm_values.specs.declared.value.AfterMinus as after
use Rattle.elm_values.specs.declared.value.Fields as fields

-- ---- values

-- a list that is held from its last item to its first
abbrev pub held : {A B : Type 0} → (A → B) → List A → List B
held view xs = map view (reverse xs)

abbrev pub begun_view : List Token → begun_pattern.Begun → Begun
begun_view tokens b = begun (place_view tokens b.place) (pattern_view tokens b.pattern)

abbrev pub rest_view : List Token → rest.Rest → Rest
rest_view tokens (rest.Rest.Typed t) = Typed (type_view tokens t)
rest_view tokens (rest.Rest.Bodied ps e) = Bodied (patterns_view tokens ps.items) (expr_view tokens e)

abbrev pub chain_view : List Token → chain.Chain → tree.Expr × List (tree.Word × tree.Expr)
chain_view tokens c = (expr_view tokens c.first, held (part_view tokens) c.parts.items)

abbrev pub after_view : List Token → after.AfterMinus → AfterMinus
after_view tokens after.AfterMinus.Closed = Closed
after_view tokens (after.AfterMinus.Operand e es ps rest) =
    Operand (expr_view tokens e) (held (expr_view tokens) es.items) (held (part_view tokens) ps.items)
    (held (expr_view tokens) rest.items)

abbrev pub fields_view : List Token → fields.Fields → Option tree.Word × List (tree.Word × tree.Expr)
fields_view tokens f = (option_map (word_view tokens) f.base, held (part_view tokens) f.parts.items)

-- a module whose imports and declarations are held so
abbrev pub built_module : List Token → program.Module → tree.Module
built_module tokens m = record {
  head =
      record {
        header = option_map (header_view tokens) m.head.header;
        imports = held (import_view tokens) m.head.imports.items;
      };
  declarations = held (declaration_view tokens) m.declarations.items;
}

-- ---- lists

abbrev pub head_or : {A : Type 0} → A → List A → A
head_or x [] = x
head_or x (y ∷ ys) = y

abbrev pub first : {A : Type 0} → List A → Option A
first [] = None
first (x ∷ xs) = Some x

abbrev pub tail : {A : Type 0} → List A → List A
tail [] = []
tail (x ∷ xs) = xs

-- the items of lists on a stack
abbrev pub items_of : {A : Type 0} → List (Vec A Global) → List (List A)
items_of lists = map (λ xs. reverse xs.items) (reverse lists)

-- the base of a record and its first field, of a word and the name that may follow it
abbrev pub base_and_field : {A : Type 0} → A → Option A → Option A × A
base_and_field x None = (None, x)
base_and_field r (Some x) = (Some r, x)

-- ---- columns

-- the values of each kind, the last one first
pub record Columns : Type 0 where
  pub words : List Token
  pub word_lists : List (List Token)
  pub modules : List tree.Module
  pub headers : List tree.Header
  pub exposings : List tree.Exposing
  pub exposed : List tree.Exposed
  pub exposed_lists : List (List tree.Exposed)
  pub imports : List tree.Import
  pub declarations : List tree.Declaration
  pub rests : List Rest
  pub constructors : List tree.ConstructorOf
  pub constructor_lists : List (List tree.ConstructorOf)
  pub types : List tree.TypeTree
  pub type_lists : List (List tree.TypeTree)
  pub field_type_lists : List (List (tree.Word × tree.TypeTree))
  pub patterns : List Begun
  pub pattern_lists : List (List Begun)
  pub exprs : List tree.Expr
  pub expr_lists : List (List tree.Expr)
  pub part_lists : List (List (tree.Word × tree.Expr))
  pub chains : List (tree.Expr × List (tree.Word × tree.Expr))
  pub after_minus : List AfterMinus
  pub records : List (Option tree.Word × List (tree.Word × tree.Expr))
  pub branches : List (tree.Pattern × tree.Expr)
  pub branch_lists : List (List (tree.Pattern × tree.Expr))
  pub definitions : List tree.Definition
  pub definition_lists : List (List tree.Definition)

unfoldable pub columns : List Token → Stacks → Columns
columns tokens s = record {
  words = held (token_view tokens) s.words.items;
  word_lists = held (λ xs. held (token_view tokens) xs.items) s.word_lists.items;
  modules = held (built_module tokens) s.modules.items;
  headers = held (header_view tokens) s.headers.items;
  exposings = held (exposing_view tokens) s.exposings.items;
  exposed = held (exposed_view tokens) s.exposed.items;
  exposed_lists = held (λ xs. held (exposed_view tokens) xs.items) s.exposed_lists.items;
  imports = held (import_view tokens) s.imports.items;
  declarations = held (declaration_view tokens) s.declarations.items;
  rests = held (rest_view tokens) s.rests.items;
  constructors = held (constructor_view tokens) s.constructors.items;
  constructor_lists = held (λ xs. held (constructor_view tokens) xs.items) s.constructor_lists.items;
  types = held (type_view tokens) s.types.items;
  type_lists = held (λ xs. held (type_view tokens) xs.items) s.type_lists.items;
  field_type_lists = held (λ xs. held (field_type_view tokens) xs.items) s.field_type_lists.items;
  patterns = held (begun_view tokens) s.patterns.items;
  pattern_lists = held (λ xs. held (begun_view tokens) xs.items) s.pattern_lists.items;
  exprs = held (expr_view tokens) s.exprs.items;
  expr_lists = held (λ xs. held (expr_view tokens) xs.items) s.expr_lists.items;
  part_lists = held (λ xs. held (part_view tokens) xs.items) s.part_lists.items;
  chains = held (chain_view tokens) s.chains.items;
  after_minus = held (after_view tokens) s.after_minus.items;
  records = held (fields_view tokens) s.records.items;
  branches = held (branch_view tokens) s.branches.items;
  branch_lists = held (λ xs. held (branch_view tokens) xs.items) s.branch_lists.items;
  definitions = held (definition_view tokens) s.definitions.items;
  definition_lists = held (λ xs. held (definition_view tokens) xs.items) s.definition_lists.items;
}

-- no values
unfoldable pub empty : Columns
empty = record {
  words = [];
  word_lists = [];
  modules = [];
  headers = [];
  exposings = [];
  exposed = [];
  exposed_lists = [];
  imports = [];
  declarations = [];
  rests = [];
  constructors = [];
  constructor_lists = [];
  types = [];
  type_lists = [];
  field_type_lists = [];
  patterns = [];
  pattern_lists = [];
  exprs = [];
  expr_lists = [];
  part_lists = [];
  chains = [];
  after_minus = [];
  records = [];
  branches = [];
  branch_lists = [];
  definitions = [];
  definition_lists = [];
}

-- ---- on and off the columns

unfoldable pub push : (k : Kind) → Thing k → Columns → Columns
push (One item.Word) v s = record s { words = v ∷ s.words }
push (One item.Module) v s = record s { modules = v ∷ s.modules }
push (One item.Header) v s = record s { headers = v ∷ s.headers }
push (One item.Exposing) v s = record s { exposings = v ∷ s.exposings }
push (One item.Exposed) v s = record s { exposed = v ∷ s.exposed }
push (One item.Import) v s = record s { imports = v ∷ s.imports }
push (One item.Declaration) v s = record s { declarations = v ∷ s.declarations }
push (One item.Rest) v s = record s { rests = v ∷ s.rests }
push (One item.Constructor) v s = record s { constructors = v ∷ s.constructors }
push (One item.TypeTree) v s = record s { types = v ∷ s.types }
push (One item.Pattern) v s = record s { patterns = v ∷ s.patterns }
push (One item.Expr) v s = record s { exprs = v ∷ s.exprs }
push (One item.Chain) v s = record s { chains = v ∷ s.chains }
push (One item.AfterMinus) v s = record s { after_minus = v ∷ s.after_minus }
push (One item.Record) v s = record s { records = v ∷ s.records }
push (One item.Branch) v s = record s { branches = v ∷ s.branches }
push (One item.Definition) v s = record s { definitions = v ∷ s.definitions }
push (Many item.Word) v s = record s { word_lists = v ∷ s.word_lists }
push (Many item.Exposed) v s = record s { exposed_lists = v ∷ s.exposed_lists }
push (Many item.Constructor) v s = record s { constructor_lists = v ∷ s.constructor_lists }
push (Many item.TypeTree) v s = record s { type_lists = v ∷ s.type_lists }
push (Many item.FieldType) v s = record s { field_type_lists = v ∷ s.field_type_lists }
push (Many item.Pattern) v s = record s { pattern_lists = v ∷ s.pattern_lists }
push (Many item.Expr) v s = record s { expr_lists = v ∷ s.expr_lists }
push (Many item.Part) v s = record s { part_lists = v ∷ s.part_lists }
push (Many item.Branch) v s = record s { branch_lists = v ∷ s.branch_lists }
push (Many item.Definition) v s = record s { definition_lists = v ∷ s.definition_lists }
push _ v s = s

unfoldable pub pop : Kind → Columns → Columns
pop (One item.Word) s = record s { words = tail s.words }
pop (One item.Module) s = record s { modules = tail s.modules }
pop (One item.Header) s = record s { headers = tail s.headers }
pop (One item.Exposing) s = record s { exposings = tail s.exposings }
pop (One item.Exposed) s = record s { exposed = tail s.exposed }
pop (One item.Import) s = record s { imports = tail s.imports }
pop (One item.Declaration) s = record s { declarations = tail s.declarations }
pop (One item.Rest) s = record s { rests = tail s.rests }
pop (One item.Constructor) s = record s { constructors = tail s.constructors }
pop (One item.TypeTree) s = record s { types = tail s.types }
pop (One item.Pattern) s = record s { patterns = tail s.patterns }
pop (One item.Expr) s = record s { exprs = tail s.exprs }
pop (One item.Chain) s = record s { chains = tail s.chains }
pop (One item.AfterMinus) s = record s { after_minus = tail s.after_minus }
pop (One item.Record) s = record s { records = tail s.records }
pop (One item.Branch) s = record s { branches = tail s.branches }
pop (One item.Definition) s = record s { definitions = tail s.definitions }
pop (Many item.Word) s = record s { word_lists = tail s.word_lists }
pop (Many item.Exposed) s = record s { exposed_lists = tail s.exposed_lists }
pop (Many item.Constructor) s = record s { constructor_lists = tail s.constructor_lists }
pop (Many item.TypeTree) s = record s { type_lists = tail s.type_lists }
pop (Many item.FieldType) s = record s { field_type_lists = tail s.field_type_lists }
pop (Many item.Pattern) s = record s { pattern_lists = tail s.pattern_lists }
pop (Many item.Expr) s = record s { expr_lists = tail s.expr_lists }
pop (Many item.Part) s = record s { part_lists = tail s.part_lists }
pop (Many item.Branch) s = record s { branch_lists = tail s.branch_lists }
pop (Many item.Definition) s = record s { definition_lists = tail s.definition_lists }
pop _ s = s

-- what counts where a value is wanted and there is none
abbrev pub default_of : List Token → (i : Item) → thing_of i
default_of tokens item.Word = token_at tokens 0
default_of tokens item.Module = empty_module
default_of tokens item.Header = record {
  has_ports = false;
  name = word_of (token_at tokens 0);
  exposes =
      tree.Everything;
}
default_of tokens item.Exposing = tree.Everything
default_of tokens item.Exposed = exposed_of (token_at tokens 0) false
default_of tokens item.Import = record { name = word_of (token_at tokens 0); alias = None; exposes = tree.Everything }
default_of tokens item.Declaration =
    tree.Port (word_of (token_at tokens 0)) (tree.TypeVariable (word_of (token_at tokens 0)))
default_of tokens item.Rest = Typed (tree.TypeVariable (word_of (token_at tokens 0)))
default_of tokens item.Constructor = record { name = word_of (token_at tokens 0); fields = tree.NoType }
default_of tokens item.TypeTree = tree.TypeVariable (word_of (token_at tokens 0))
default_of tokens item.FieldType = (word_of (token_at tokens 0), tree.TypeVariable (word_of (token_at tokens 0)))
default_of tokens item.Pattern = begun (pos_of (token_at tokens 0)) (pattern_of (token_at tokens 0))
default_of tokens item.Expr = expr_of (token_at tokens 0)
default_of tokens item.Part = (word_of (token_at tokens 0), expr_of (token_at tokens 0))
default_of tokens item.Chain = (expr_of (token_at tokens 0), [])
default_of tokens item.AfterMinus = Closed
default_of tokens item.Record = (None, [])
default_of tokens item.Branch = (pattern_of (token_at tokens 0), expr_of (token_at tokens 0))
default_of tokens item.Definition =
    tree.Annotate (word_of (token_at tokens 0)) (tree.TypeVariable (word_of (token_at tokens 0)))

-- the last value of a kind; where there is none, one of the first token
unfoldable pub top : List Token → (k : Kind) → Columns → Thing k
top tokens (One item.Word) s = head_or (default_of tokens item.Word) s.words
top tokens (One item.Module) s = head_or (default_of tokens item.Module) s.modules
top tokens (One item.Header) s = head_or (default_of tokens item.Header) s.headers
top tokens (One item.Exposing) s = head_or (default_of tokens item.Exposing) s.exposings
top tokens (One item.Exposed) s = head_or (default_of tokens item.Exposed) s.exposed
top tokens (One item.Import) s = head_or (default_of tokens item.Import) s.imports
top tokens (One item.Declaration) s = head_or (default_of tokens item.Declaration) s.declarations
top tokens (One item.Rest) s = head_or (default_of tokens item.Rest) s.rests
top tokens (One item.Constructor) s = head_or (default_of tokens item.Constructor) s.constructors
top tokens (One item.TypeTree) s = head_or (default_of tokens item.TypeTree) s.types
top tokens (One item.FieldType) s = default_of tokens item.FieldType
top tokens (One item.Pattern) s = head_or (default_of tokens item.Pattern) s.patterns
top tokens (One item.Expr) s = head_or (default_of tokens item.Expr) s.exprs
top tokens (One item.Part) s = default_of tokens item.Part
top tokens (One item.Chain) s = head_or (default_of tokens item.Chain) s.chains
top tokens (One item.AfterMinus) s = head_or (default_of tokens item.AfterMinus) s.after_minus
top tokens (One item.Record) s = head_or (default_of tokens item.Record) s.records
top tokens (One item.Branch) s = head_or (default_of tokens item.Branch) s.branches
top tokens (One item.Definition) s = head_or (default_of tokens item.Definition) s.definitions
top tokens (Many item.Word) s = head_or [] s.word_lists
top tokens (Many item.Exposed) s = head_or [] s.exposed_lists
top tokens (Many item.Constructor) s = head_or [] s.constructor_lists
top tokens (Many item.TypeTree) s = head_or [] s.type_lists
top tokens (Many item.FieldType) s = head_or [] s.field_type_lists
top tokens (Many item.Pattern) s = head_or [] s.pattern_lists
top tokens (Many item.Expr) s = head_or [] s.expr_lists
top tokens (Many item.Part) s = head_or [] s.part_lists
top tokens (Many item.Branch) s = head_or [] s.branch_lists
top tokens (Many item.Definition) s = head_or [] s.definition_lists
top tokens (Many i) s = []

-- ---- steps

abbrev pub tops : List Token → (ks : List Kind) → Columns → Things ks
tops tokens [] s = none
tops tokens (k ∷ ks) s = ◌⸴◌ {k = k} (top tokens k s) (tops tokens ks (pop k s))

abbrev pub below : List Kind → Columns → Columns
below [] s = s
below (k ∷ ks) s = below ks (pop k s)

-- what an action takes gives way to what it makes
abbrev pub apply : List Token → Action → Columns → Columns
apply tokens a s = push (gives a) (made a (tops tokens (takes a) s)) (below (takes a) s)

abbrev pub after_step : List Token → Step → Columns → Columns
after_step tokens (Read t) s = push (One item.Word) (token_at tokens t.index) s
after_step tokens (Take p) s = apply tokens (action_at p) s

-- what steps leave: the last one is the first to be done
abbrev pub run : List Token → List Step → Columns
run tokens [] = empty
run tokens (s ∷ ss) = after_step tokens s (run tokens ss)

-- the action is done
abbrev pub Acts : Action → Stacks → Stacks → Type 0
Acts a old new = (tokens : List Token) → columns tokens new ≡ apply tokens a (columns tokens old)
