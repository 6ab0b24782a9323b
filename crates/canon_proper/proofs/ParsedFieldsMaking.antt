-- What each action makes: where the updates in its values name fields, those in what it makes do.
use Rattle.std.proofs.Common.{List, [], ◌∷◌}
use Rattle.std.specs.Prelude.{Option, None, Some}
use Rattle.std.specs.List.{AllByRecursion}
use Rattle.elm_lexer.specs.Tokens.{Token}
use Rattle.elm_lexer.specs.declared.token.Kind.{Kind as TokenKind}
use Rattle.elm_lexer.specs.declared.token.Kind.TheVariants as kind
use Rattle.elm_tree.specs.Tree.{Pos, Word, Expr, Negate}
use Rattle.elm_tree.specs.Words.{word_of, expr_by, expr_of, pos_of}
use Rattle.elm_grammar.specs.declared.action.Item.TheVariants as item
use Rattle.elm_grammar.specs.declared.action.Action.{Action}
use Rattle.elm_grammar.specs.declared.action.Action.TheVariants as action
use Rattle.elm_grammar.specs.Values.{Rest, Typed, Bodied, AfterMinus, Closed, Operand, takes, gives, act, applied}
use Rattle.elm_grammar.specs.Values.{chained, bracketed, accessed, record_expr, fields_from, after_minus}
use Rattle.elm_grammar.specs.Values.{defined}
use Rattle.elm_grammar.specs.Meaning.{Things, none, ◌⸴◌, made}
use Rattle.elm_tree.specs.Written.{UpdatesSome, DefinitionUpdatesSome}
use Rattle.canon_proper.proofs.ParsedFieldsValues.{PartUpdates, RestUpdates, AfterUpdates, HasFields, ItemUpdates, ThingUpdates}
use Rattle.canon_proper.proofs.ParsedFieldsValues.{ThingsUpdate, exprs_update, parts_update, branches_update, definitions_update}

-- ---- expressions

-- of one token
kind_updates : (k : TokenKind) (t : Token) → UpdatesSome (expr_by k t)
kind_updates (kind.Int n) t = tt
kind_updates kind.Char t = tt
kind_updates kind.Text t = tt
kind_updates kind.UpperName t = tt
kind_updates kind.QualifiedUpper t = tt
kind_updates kind.Operator t = tt
kind_updates kind.Field t = tt
kind_updates _ t = tt

token_updates : (t : Token) → UpdatesSome (expr_of t)
token_updates t = kind_updates t.kind t

applied_updates : (f : Expr) (es : List Expr) → UpdatesSome f → AllByRecursion UpdatesSome es →
    UpdatesSome (applied f es)
applied_updates f [] h k = h
applied_updates f (e ∷ es) h k = (h, exprs_update (e ∷ es) k)

chained_updates : (e : Expr) (ps : List (Word × Expr)) → UpdatesSome e → AllByRecursion PartUpdates ps →
    UpdatesSome (chained e ps)
chained_updates e [] h k = h
chained_updates e (p ∷ ps) h k = (h, parts_update (p ∷ ps) k)

bracketed_updates : (place : Pos) (es : List Expr) → AllByRecursion UpdatesSome es → UpdatesSome (bracketed place es)
bracketed_updates place [] h = tt
bracketed_updates place (e ∷ []) h = h.0
bracketed_updates place (e ∷ f ∷ es) h = exprs_update (e ∷ f ∷ es) h

accessed_updates : (place : Pos) (e : Expr) (xs : List Token) → UpdatesSome e → UpdatesSome (accessed place e xs)
accessed_updates place e [] h = h
accessed_updates place e (x ∷ xs) h = h

record_updates : (place : Pos) (b : Option Word) (fs : List (Word × Expr)) → HasFields b fs →
    AllByRecursion PartUpdates fs → UpdatesSome (record_expr place (b, fs))
record_updates place None fs h k = parts_update fs k
record_updates place (Some r) fs h k = (h, parts_update fs k)

fields_update : (x : Token) (base : List Token) (e : Expr) (fs : List (Word × Expr)) → UpdatesSome e →
    AllByRecursion PartUpdates fs → ItemUpdates item.Record (fields_from (word_of x) base e fs)
fields_update x [] e fs h k = (tt, (h, k))
fields_update x (y ∷ ys) e fs h k = (tt, (h, k))

after_updates : (t : Token) (x : AfterMinus) → AfterUpdates x → AllByRecursion UpdatesSome (after_minus t x)
after_updates t Closed h = (token_updates t, tt)
after_updates t (Operand e es ps rest) h = (
  chained_updates (applied (Negate (pos_of t) e) es) ps (applied_updates (Negate (pos_of t) e) es h.0 h.1.0) h.1.1.0,
  h.1.1.1,
)

defined_updates : (x : Token) (r : Rest) → RestUpdates r → DefinitionUpdatesSome (defined x r)
defined_updates x (Typed t) h = tt
defined_updates x (Bodied ps e) h = h

-- ---- actions

pub made_updates : (a : Action) (us : Things (takes a)) → ThingsUpdate (takes a) us → ThingUpdates (gives a) (made a us)
unfolding takes gives act
made_updates (action.Same i) (x ⸴ none) (h, _) = h
made_updates (action.Second i) (t ⸴ x ⸴ none) (_, (h, _)) = h
made_updates (action.Empty i) none h = tt
made_updates (action.End i) (t ⸴ none) h = tt
made_updates (action.More i) (x ⸴ xs ⸴ none) (h, (k, _)) = (h, k)
made_updates (action.Comma i) (t ⸴ x ⸴ xs ⸴ none) (_, (h, (k, _))) = (h, k)
made_updates action.SecondAsList (t ⸴ x ⸴ none) h = (tt, tt)
made_updates action.Opening (t ⸴ x ⸴ u ⸴ none) h = (tt, tt)
made_updates action.EmptyModule none h = tt
made_updates action.WithHeader (x ⸴ m ⸴ none) (_, (h, _)) = h
made_updates action.WithImport (x ⸴ m ⸴ none) (_, (h, _)) = h
made_updates action.WithDeclaration (d ⸴ m ⸴ none) (k, (h, _)) = (k, h)
made_updates action.PortModule (t ⸴ x ⸴ m ⸴ none) (_, (_, (h, _))) = h
made_updates action.FirstPort (x ⸴ c ⸴ t ⸴ m ⸴ none) (_, (_, (_, (h, _)))) = (tt, h)
made_updates action.PortOf (p ⸴ x ⸴ c ⸴ t ⸴ none) h = tt
made_updates action.ValueOf (x ⸴ d ⸴ none) (_, (k, _)) = defined_updates x d k
made_updates action.AliasOf (y ⸴ x ⸴ ps ⸴ q ⸴ t ⸴ none) h = tt
made_updates action.UnionOf (x ⸴ ps ⸴ q ⸴ c ⸴ cs ⸴ none) h = tt
made_updates action.AnnotationRest (c ⸴ t ⸴ none) h = tt
made_updates action.FunctionRest (ps ⸴ q ⸴ e ⸴ none) (_, (_, (h, _))) = h
made_updates action.ConstantRest (q ⸴ e ⸴ none) (_, (h, _)) = h
made_updates action.MoreFieldTypes (y ⸴ x ⸴ c ⸴ t ⸴ fs ⸴ none) (_, (_, (_, (_, (k, _))))) = (tt, k)
made_updates action.ChainOf (e ⸴ ps ⸴ none) (h, (k, _)) = chained_updates e ps h k
made_updates action.MoreOperators (op ⸴ c ⸴ none) (_, (h, _)) = h
made_updates action.OperandThen (e ⸴ ps ⸴ none) (h, (k, _)) = (h, k)
made_updates action.LastOperand (e ⸴ none) (h, _) = (h, tt)
made_updates action.Applied (f ⸴ es ⸴ none) (h, (k, _)) = applied_updates f es h k
made_updates action.Negative (t ⸴ e ⸴ none) (_, (h, _)) = h
made_updates action.NegativeArgument (t ⸴ e ⸴ es ⸴ none) (_, (h, (k, _))) = (h, k)
made_updates action.IfOf (t ⸴ c ⸴ u ⸴ x ⸴ v ⸴ y ⸴ none) (_, (h, (_, (k, (_, (m, _)))))) = (h, (k, m))
made_updates action.CaseOf (t ⸴ e ⸴ o ⸴ bs ⸴ none) (_, (h, (_, (k, _)))) = (h, branches_update bs k)
made_updates action.LetOf (t ⸴ ds ⸴ u ⸴ e ⸴ none) (_, (k, (_, (h, _)))) = (definitions_update ds k, h)
made_updates action.LambdaOf (t ⸴ ps ⸴ u ⸴ e ⸴ none) (_, (_, (_, (h, _)))) = h
made_updates action.BranchOf (p ⸴ t ⸴ e ⸴ none) (_, (_, (h, _))) = h
made_updates action.DefinitionOf (x ⸴ d ⸴ none) (_, (k, _)) = defined_updates x d k
made_updates action.DestructureOf (p ⸴ t ⸴ e ⸴ none) (_, (_, (h, _))) = h
made_updates action.WordExpr (t ⸴ none) h = token_updates t
made_updates action.WordAccess (t ⸴ xs ⸴ none) h = accessed_updates (pos_of t) (expr_of t) xs (token_updates t)
made_updates action.BracketAccess (t ⸴ es ⸴ xs ⸴ none) (_, (h, _)) =
    accessed_updates (pos_of t) (bracketed (pos_of t) es) xs (bracketed_updates (pos_of t) es h)
made_updates action.RecordAccess (t ⸴ x ⸴ xs ⸴ none) (_, (h, _)) =
    accessed_updates (pos_of t) (record_expr (pos_of t) x) xs (record_updates (pos_of t) x.0 x.1 h.0 h.1)
made_updates action.ListOf (t ⸴ es ⸴ none) (_, (h, _)) = exprs_update es h
made_updates action.OperatorAlone (t ⸴ u ⸴ none) h = (token_updates t, tt)
made_updates action.MinusParen (t ⸴ x ⸴ none) (_, (h, _)) = after_updates t x h
made_updates action.MinusAlone (x ⸴ none) h = tt
made_updates action.MinusOperand (e ⸴ es ⸴ ps ⸴ rest ⸴ none) (h, (k, (m, (n, _)))) = (h, (k, (m, n)))
made_updates action.UnsignedOf (e ⸴ es ⸴ ps ⸴ none) (h, (k, (m, _))) =
    chained_updates (applied e es) ps (applied_updates e es h k) m
made_updates action.EmptyRecord (x ⸴ none) h = (tt, tt)
made_updates action.RecordOf (x ⸴ base ⸴ q ⸴ e ⸴ fs ⸴ none) (_, (_, (_, (h, (k, _))))) = fields_update x base e fs h k
made_updates action.MoreFields (y ⸴ x ⸴ q ⸴ e ⸴ fs ⸴ none) (_, (_, (_, (h, (k, _))))) = (h, k)
made_updates _ us h = tt
