-- What each action makes: where the function types in its values have results, those in what it makes do.
use Rattle.std.proofs.Common.{List, [], ◌∷◌}
use Rattle.std.specs.List.{AllByRecursion}
use Rattle.elm_lexer.specs.Tokens.{Token}
use Rattle.elm_tree.specs.Tree.{Word, TypeTree}
use Rattle.elm_grammar.specs.declared.action.Action.{Action}
use Rattle.elm_grammar.specs.declared.action.Action.TheVariants as action
use Rattle.elm_grammar.specs.Values.{takes, gives, act, arrows_of, bracket_type, record_type, fields_from, after_minus}
use Rattle.elm_grammar.specs.Meaning.{Things, none, ◌⸴◌, made}
use Rattle.elm_grammar.specs.Written.{HasResults}
use Rattle.elm_grammar.proofs.Values.{FieldHasResults, ThingHasResults, ThingsHaveResults, nothing_asked, types_have}
use Rattle.elm_grammar.proofs.Values.{fields_have}

arrows_have : (t : TypeTree) (ts : List TypeTree) → HasResults t → AllByRecursion HasResults ts
    → HasResults (arrows_of t ts)
arrows_have t [] h k = h
arrows_have t (u ∷ us) h k = (tt, (h, types_have (u ∷ us) k))

bracket_has : (ts : List TypeTree) → AllByRecursion HasResults ts → HasResults (bracket_type ts)
bracket_has [] h = tt
bracket_has (t ∷ []) h = h.0
bracket_has (t ∷ u ∷ ts) h = types_have (t ∷ u ∷ ts) h

record_has : (x : Word) (base : List Token) (t : TypeTree) (fs : List (Word × TypeTree)) → HasResults t
    → AllByRecursion FieldHasResults fs → HasResults (record_type (fields_from x base t fs))
record_has x [] t fs h k = (h, fields_have fs k)
record_has x (y ∷ ys) t fs h k = (h, fields_have fs k)

pub made_results : (a : Action) (us : Things (takes a)) → ThingsHaveResults (takes a) us
    → ThingHasResults (gives a) (made a us)
unfolding takes gives act
made_results (action.Same i) (x ⸴ none) (h, _) = h
made_results (action.Second i) (t ⸴ x ⸴ none) (_, (h, _)) = h
made_results (action.Empty i) none h = tt
made_results (action.End i) (t ⸴ none) h = tt
made_results (action.More i) (x ⸴ xs ⸴ none) (h, (k, _)) = (h, k)
made_results (action.Comma i) (t ⸴ x ⸴ xs ⸴ none) (_, (h, (k, _))) = (h, k)
made_results action.SecondAsList (t ⸴ x ⸴ none) h = (tt, tt)
made_results action.Opening (t ⸴ x ⸴ u ⸴ none) h = (tt, tt)
made_results action.EmptyModule none h = tt
made_results action.WithHeader (x ⸴ m ⸴ none) (_, (h, _)) = h
made_results action.WithImport (x ⸴ m ⸴ none) (_, (h, _)) = h
made_results action.WithDeclaration (d ⸴ m ⸴ none) (k, (h, _)) = (k, h)
made_results action.PortModule (t ⸴ x ⸴ m ⸴ none) (_, (_, (h, _))) = h
made_results action.FirstPort (x ⸴ c ⸴ t ⸴ m ⸴ none) (_, (_, (k, (h, _)))) = (k, h)
made_results action.PortOf (p ⸴ x ⸴ c ⸴ t ⸴ none) (_, (_, (_, (h, _)))) = h
made_results action.ValueOf (x ⸴ d ⸴ none) h = tt
made_results action.AliasOf (y ⸴ x ⸴ ps ⸴ q ⸴ t ⸴ none) (_, (_, (_, (_, (h, _))))) = h
made_results action.UnionOf (x ⸴ ps ⸴ q ⸴ c ⸴ cs ⸴ none) (_, (_, (_, (h, (k, _))))) = (h, k)
made_results action.ConstructorOf (x ⸴ ts ⸴ none) (_, (h, _)) = types_have ts h
made_results action.ArrowsOf (t ⸴ ts ⸴ none) (h, (k, _)) = arrows_have t ts h k
made_results action.NamedType (x ⸴ ts ⸴ none) (_, (h, _)) = types_have ts h
made_results action.NamedTypeAlone (x ⸴ none) h = tt
made_results action.VariableType (x ⸴ none) h = tt
made_results action.BracketType (t ⸴ ts ⸴ none) (_, (h, _)) = bracket_has ts h
made_results action.EmptyRecordType (x ⸴ none) h = tt
made_results action.RecordTypeOf (x ⸴ base ⸴ c ⸴ t ⸴ fs ⸴ none) (_, (_, (_, (h, (k, _))))) =
    record_has _ base t fs h k
made_results action.MoreFieldTypes (y ⸴ x ⸴ c ⸴ t ⸴ fs ⸴ none) (_, (_, (_, (h, (k, _))))) = (h, k)
made_results action.MoreOperators (op ⸴ c ⸴ none) h = (tt, nothing_asked c.1)
made_results action.NegativeArgument (t ⸴ e ⸴ es ⸴ none) h = (tt, nothing_asked es)
made_results action.OperatorAlone (t ⸴ u ⸴ none) h = (tt, tt)
made_results action.MinusParen (t ⸴ x ⸴ none) h = nothing_asked (after_minus t x)
made_results action.MoreFields (y ⸴ x ⸴ q ⸴ e ⸴ fs ⸴ none) h = (tt, nothing_asked fs)
made_results _ us h = tt
