-- What each action makes of spelled values is spelled.
use Rattle.std.proofs.Common.{◌≡◌, ℕ, ◌+◌, ◌<◌, ◌≤◌, List, [], ◌∷◌, length, map, true}
use Rattle.std.proofs.Common.{Option, refl, arith}
use Rattle.std.specs.List.{AllByRecursion}
use Rattle.elm_lexer.specs.Tokens.{Token}
use Rattle.elm_tree.specs.Tree.{Module, Header, Import, Declaration, Port}
use Rattle.elm_tree.specs.Tree.{Pos, Word, TypeTree, Expr, Pattern, Definition, ConstructorOf, types_of, field_types_of}
use Rattle.elm_tree.specs.Tree.{exprs_of, parts_of, branches_of, definitions_of, Negate}
use Rattle.elm_tree.specs.Words.{word_of, field_of, expr_of, pos_of}
use Rattle.elm_grammar.specs.declared.action.Item.{Item}
use Rattle.elm_grammar.specs.declared.action.Item.TheVariants as item
use Rattle.elm_grammar.specs.declared.action.Action.{Action}
use Rattle.elm_grammar.specs.declared.action.Action.TheVariants as action
use Rattle.elm_grammar.specs.Values.{Rest, Typed, Bodied, AfterMinus, Closed, Operand, Begun, thing_of, One, Many}
use Rattle.elm_grammar.specs.Values.{takes, gives, act, arrows_of, bracket_type, fields_from, record_type}
use Rattle.elm_grammar.specs.Values.{patterns_in, bracket_pattern, conses_of, with_name, applied, chained, bracketed}
use Rattle.elm_grammar.specs.Values.{accessed, record_expr, after_minus, defined}
use Rattle.elm_grammar.specs.Meaning.{Things, none, ◌⸴◌, made}
use Rattle.canon_expr.specs.Binding.{bound_by, bound_in}
use Rattle.canon_env.specs.Patterns.{count_of}
use Rattle.canon_proper.specs.Patterns.{IsSpelledWord, AreSpelledWords, IsSpelledPattern, AreSpelledPatterns}
use Rattle.canon_proper.specs.Written.{IsSpelled, AreSpelled, AreSpelledOperands, AreSpelledFields, AreSpelledBranches}
use Rattle.canon_proper.specs.Written.{AreSpelledDefinitions, IsSpelledDefinition, has_parameter}
use Rattle.canon_proper.specs.Sound.{StandInOrder}
use Rattle.elm_grammar.specs.Values.{first_word, with_header, with_import, with_declaration, with_ports}
use Rattle.canon_proper.specs.Declared.{IsSpelledType, AreSpelledTypes, AreSpelledFieldTypes, IsSpelledConstructor}
use Rattle.canon_proper.specs.Declared.{AreSpelledConstructors, IsUpper, IsLower, AreUpper, IsCasedDefinition}
use Rattle.canon_proper.specs.Spelled.{HasName, IsSpelledAlias, HaveFewFields, NamesModule, IsSpelledImport}
use Rattle.canon_proper.specs.Spelled.{IsSpelledModule}
use Rattle.canon_proper.proofs.Roles.{Role, Free, Named, Lower, Homed, Upper, Fielded, Plain, Filled, item_role}
use Rattle.canon_proper.proofs.Roles.{may_give, needs}
use Rattle.canon_proper.proofs.Classes.{module_upper, Fills, expr_sound, negative_sound}
use Rattle.canon_proper.proofs.Ranges.{Ascend, append, stand_apart}
use Rattle.canon_proper.proofs.Values.{SpelledItem, SpelledThing, SpelledThings, SpelledPart, SpelledRest, SpelledAfter}
use Rattle.canon_proper.proofs.Values.{SpellsPart, IsFilled, items_weaker, RangedItems, RangedThings, things_most}
use Rattle.canon_proper.proofs.Values.{items_most}

-- ---- lists

types_spelled : (ts : List TypeTree) → AllByRecursion IsSpelledType ts → AreSpelledTypes (types_of ts)
types_spelled [] h = tt
types_spelled (t ∷ ts) h = (h.0, types_spelled ts h.1)

field_types_spelled : (fs : List (Word × TypeTree)) →
    AllByRecursion (λ (f : Word × TypeTree). IsSpelledWord f.0 × IsSpelledType f.1) fs →
    AreSpelledFieldTypes (field_types_of fs)
field_types_spelled [] h = tt
field_types_spelled (f ∷ fs) h = (h.0.0, (h.0.1, field_types_spelled fs h.1))

patterns_spelled : (ps : List Begun) → AllByRecursion (λ (p : Begun). IsSpelledPattern p.pattern) ps →
    AreSpelledPatterns (patterns_in ps)
patterns_spelled [] h = tt
patterns_spelled (p ∷ ps) h = (h.0, patterns_spelled ps h.1)

exprs_spelled : (es : List Expr) → AllByRecursion IsSpelled es → AreSpelled (exprs_of es)
exprs_spelled [] h = tt
exprs_spelled (e ∷ es) h = (h.0, exprs_spelled es h.1)

operands_spelled : (ps : List (Word × Expr)) → AllByRecursion (SpelledPart Free) ps → AreSpelledOperands (parts_of ps)
operands_spelled [] h = tt
operands_spelled (p ∷ ps) h = (h.0.1, operands_spelled ps h.1)

fields_spelled : (ps : List (Word × Expr)) → AllByRecursion (SpelledPart Named) ps → AreSpelledFields (parts_of ps)
fields_spelled [] h = tt
fields_spelled (p ∷ ps) h = (h.0.0, (h.0.1, fields_spelled ps h.1))

branches_spelled : (bs : List (Pattern × Expr)) →
    AllByRecursion (λ (b : Pattern × Expr). IsSpelledPattern b.0 × IsSpelled b.1) bs → AreSpelledBranches (branches_of bs)
branches_spelled [] h = tt
branches_spelled (b ∷ bs) h = (h.0.0, (h.0.1, branches_spelled bs h.1))

definitions_spelled : (ds : List Definition) → AllByRecursion IsSpelledDefinition ds →
    AreSpelledDefinitions (definitions_of ds)
definitions_spelled [] h = tt
definitions_spelled (d ∷ ds) h = (h.0, definitions_spelled ds h.1)

constructors_spelled : (cs : List ConstructorOf) →
    AllByRecursion (λ (c : ConstructorOf). IsSpelledConstructor c × IsUpper c.name) cs → AreSpelledConstructors cs
constructors_spelled [] h = tt
constructors_spelled (c ∷ cs) h = (h.0.0, constructors_spelled cs h.1)

constructors_upper : (cs : List ConstructorOf) →
    AllByRecursion (λ (c : ConstructorOf). IsSpelledConstructor c × IsUpper c.name) cs → AreUpper cs
constructors_upper [] h = tt
constructors_upper (c ∷ cs) h = (h.0.1, constructors_upper cs h.1)

words_spelled : (ts : List Token) → AllByRecursion (Fills Named) ts → AreSpelledWords (map word_of ts)
words_spelled [] h = tt
words_spelled (t ∷ ts) h = (h.0.role, words_spelled ts h.1)

fielded_spelled : (ts : List Token) → AllByRecursion (Fills Fielded) ts → AreSpelledWords (map field_of ts)
fielded_spelled [] h = tt
fielded_spelled (t ∷ ts) h = (h.0.role, fielded_spelled ts h.1)

-- ---- types

arrows_spelled : (t : TypeTree) (ts : List TypeTree) → IsSpelledType t → AllByRecursion IsSpelledType ts →
    IsSpelledType (arrows_of t ts)
arrows_spelled t [] h g = h
arrows_spelled t (u ∷ us) h g = types_spelled (t ∷ u ∷ us) (h, g)

bracket_spelled : (ts : List TypeTree) → AllByRecursion IsSpelledType ts → IsSpelledType (bracket_type ts)
bracket_spelled [] h = tt
bracket_spelled (t ∷ []) h = h.0
bracket_spelled (t ∷ u ∷ us) h = types_spelled (t ∷ u ∷ us) h

record_type_spelled : (x : Token) (base : List Token) (t : TypeTree) (fs : List (Word × TypeTree)) → Fills Named x →
    AllByRecursion (Fills Named) base → IsSpelledType t →
    AllByRecursion (λ (f : Word × TypeTree). IsSpelledWord f.0 × IsSpelledType f.1) fs →
    IsSpelledType (record_type (fields_from (word_of x) base t fs))
record_type_spelled x [] t fs n b s h = (n.role, (s, field_types_spelled fs h))
record_type_spelled x (y ∷ ys) t fs n b s h = (n.role, (b.0.role, (s, field_types_spelled fs h)))

-- ---- patterns

conses_spelled : (p : Begun) (ps : List Begun) → IsSpelledPattern p.pattern →
    AllByRecursion (λ (q : Begun). IsSpelledPattern q.pattern) ps → IsSpelledPattern (conses_of p ps).pattern
conses_spelled p [] h g = h
conses_spelled p (q ∷ qs) h g = patterns_spelled (p ∷ q ∷ qs) (h, g)

with_name_spelled : (p : Begun) (xs : List Token) → IsSpelledPattern p.pattern → AllByRecursion (Fills Named) xs →
    IsSpelledPattern (with_name p xs).pattern
with_name_spelled p [] h g = h
with_name_spelled p (x ∷ xs) h g = (h, g.0.role)

-- as many patterns as tokens at most
counted : (tokens : List Token) (ps : List Begun) (a b : ℕ) → RangedItems tokens item.Pattern ps a b →
    a + count_of (patterns_in ps) ≤ b
counted tokens [] a b h = omega (arith, h)
counted tokens (p ∷ ps) a b (m, (h, g)) =
    let l = counted tokens ps m b g in let k = h.0 in omega (arith, l, k)

bracket_pattern_spelled : (place : Pos) (ps : List Begun) → count_of (patterns_in ps) < 4294967296 →
    AllByRecursion (λ (q : Begun). IsSpelledPattern q.pattern) ps → IsSpelledPattern (bracket_pattern place ps)
bracket_pattern_spelled place [] l h = (l, tt)
bracket_pattern_spelled place (p ∷ []) l h = h.0
bracket_pattern_spelled place (p ∷ q ∷ qs) l h = (l, patterns_spelled (p ∷ q ∷ qs) h)

has_some : (ps : List Begun) → IsFilled Filled ps → has_parameter (patterns_in ps) ≡ true
has_some [] h = absurd h
has_some (p ∷ ps) h = refl

-- ---- expressions

applied_spelled : (f : Expr) (es : List Expr) → IsSpelled f → AllByRecursion IsSpelled es → IsSpelled (applied f es)
applied_spelled f [] h g = h
applied_spelled f (e ∷ es) h g = (h, exprs_spelled (e ∷ es) g)

chained_spelled : (e : Expr) (ps : List (Word × Expr)) → IsSpelled e → AllByRecursion (SpelledPart Free) ps →
    IsSpelled (chained e ps)
chained_spelled e [] h g = h
chained_spelled e (p ∷ ps) h g = (h, operands_spelled (p ∷ ps) g)

bracketed_spelled : (place : Pos) (es : List Expr) → AllByRecursion IsSpelled es → IsSpelled (bracketed place es)
bracketed_spelled place [] h = tt
bracketed_spelled place (e ∷ []) h = h.0
bracketed_spelled place (e ∷ f ∷ es) h = exprs_spelled (e ∷ f ∷ es) h

accessed_spelled : (place : Pos) (e : Expr) (xs : List Token) → IsSpelled e → AllByRecursion (Fills Fielded) xs →
    IsSpelled (accessed place e xs)
accessed_spelled place e [] h g = h
accessed_spelled place e (x ∷ xs) h g = (h, fielded_spelled (x ∷ xs) g)

record_spelled : (place : Pos) (b : Option Word) (fs : List (Word × Expr)) → AllByRecursion (SpelledPart Named) fs →
    IsSpelled (record_expr place (b, fs))
record_spelled place Option.None fs h = fields_spelled fs h
record_spelled place (Option.Some r) fs h = fields_spelled fs h

fields_named : (x : Token) (base : List Token) (e : Expr) (fs : List (Word × Expr)) → Fills Named x →
    AllByRecursion (Fills Named) base → IsSpelled e → AllByRecursion (SpelledPart Named) fs →
    AllByRecursion (SpelledPart Named) (fields_from (word_of x) base e fs).1
fields_named x [] e fs n b s h = ((n.role, s), h)
fields_named x (y ∷ ys) e fs n b s h = ((b.0.role, s), h)

after_spelled : (t : Token) (x : AfterMinus) → Fills Free t → SpelledAfter x → AllByRecursion IsSpelled (after_minus t x)
after_spelled t Closed f h = (expr_sound t f.sound, tt)
after_spelled t (Operand e es ps rest) f h = (
  chained_spelled (applied (Negate (pos_of t) e) es) ps (applied_spelled (Negate (pos_of t) e) es h.0 h.1.0) h.1.1.0,
  h.1.1.1,
)

defined_spelled : (x : Token) (r : Rest) → IsSpelledWord (word_of x) → SpelledRest r → IsSpelledDefinition (defined x r)
defined_spelled x (Typed t) f h = tt
defined_spelled x (Bodied ps e) f h = (f, h)

defined_cased : (x : Token) (r : Rest) → IsLower (word_of x) → IsCasedDefinition (defined x r)
defined_cased x (Typed t) f = tt
defined_cased x (Bodied ps e) f = f

defined_named : (x : Token) (r : Rest) → HasName (defined x r)
defined_named x (Typed t) = tt
defined_named x (Bodied ps e) = tt

alias_spelled : (xs : List Token) → AllByRecursion (Fills Named) xs → IsSpelledAlias (first_word xs)
alias_spelled [] h = tt
alias_spelled (x ∷ xs) h = h.0.role

-- what is bound in one let
definitions_ascend : (tokens : List Token) (ds : List Definition) (a b : ℕ) →
    RangedItems tokens item.Definition ds a b → Ascend tokens (bound_in (definitions_of ds)) a b
definitions_ascend tokens [] a b h = h
definitions_ascend tokens (d ∷ ds) a b (m, (h, g)) =
    append tokens (bound_by d) (bound_in (definitions_of ds)) a m b h (definitions_ascend tokens ds m b g)

-- ---- lists with a role

filled_cons : {A : Type 0} (r : Role) (x : A) (xs : List A) → IsFilled r (x ∷ xs)
filled_cons Free x xs = tt
filled_cons Named x xs = tt
filled_cons Lower x xs = tt
filled_cons Homed x xs = tt
filled_cons Upper x xs = tt
filled_cons Fielded x xs = tt
filled_cons Plain x xs = tt
filled_cons Filled x xs = tt

empty_filled : (i : Item) (r : Role) → may_give (action.Empty i) r ≡ true → IsFilled {A = thing_of i} r []
empty_filled i Free e = tt
empty_filled i Named e = tt
empty_filled i Lower e = tt
empty_filled i Homed e = tt
empty_filled i Upper e = tt
empty_filled i Fielded e = tt
empty_filled i Plain e = tt
empty_filled i Filled e = absurd cc

end_filled : (i : Item) (r : Role) → may_give (action.End i) r ≡ true → IsFilled {A = thing_of i} r []
end_filled i Free e = tt
end_filled i Named e = tt
end_filled i Lower e = tt
end_filled i Homed e = tt
end_filled i Upper e = tt
end_filled i Fielded e = tt
end_filled i Plain e = tt
end_filled i Filled e = absurd cc

item_filled : (i : Item) (x : thing_of i) → SpelledItem Free i x → SpelledItem Filled i x
item_filled item.Word t h = record { sound = h.sound; role = tt }
item_filled _ x h = h

items_filled : (i : Item) (xs : List (thing_of i)) → AllByRecursion (SpelledItem Free i) xs →
    AllByRecursion (SpelledItem Filled i) xs
items_filled i [] h = tt
items_filled i (x ∷ xs) h = (item_filled i x h.0, items_filled i xs h.1)

rest_spelled : (r : Role) (i : Item) (xs : List (thing_of i)) → SpelledThing (item_role r) (Many i) xs →
    AllByRecursion (SpelledItem r i) xs
rest_spelled Free i xs h = h.0
rest_spelled Named i xs h = h.0
rest_spelled Lower i xs h = h.0
rest_spelled Homed i xs h = h.0
rest_spelled Upper i xs h = h.0
rest_spelled Fielded i xs h = h.0
rest_spelled Plain i xs h = h.0
rest_spelled Filled i xs h = items_filled i xs h.0

first_spelled : (r : Role) (i : Item) (x : thing_of i) → SpelledItem (item_role r) i x → SpelledItem r i x
first_spelled Free i x h = h
first_spelled Named i x h = h
first_spelled Lower i x h = h
first_spelled Homed i x h = h
first_spelled Upper i x h = h
first_spelled Fielded i x h = h
first_spelled Plain i x h = h
first_spelled Filled i x h = item_filled i x h

more_spelled : (r : Role) (i : Item) (x : thing_of i) (xs : List (thing_of i)) → SpelledItem (item_role r) i x →
    SpelledThing (item_role r) (Many i) xs → SpelledThing r (Many i) (x ∷ xs)
more_spelled r i x xs h g = ((first_spelled r i x h, rest_spelled r i xs g), filled_cons r x xs)

-- the word of a part, by the role
part_named : (r : Role) (x : Token) → Fills r x → SpellsPart r (word_of x)
part_named Named x f = f.role
part_named Lower x f = f.role.0
part_named Upper x f = f.role.0
part_named _ x f = tt

field_named : (r : Role) (x : Token) → Fills Named x → SpellsPart r (word_of x)
field_named Named x f = f.role
field_named Lower x f = f.role
field_named Upper x f = f.role
field_named _ x f = tt

-- a list without a role
any_filled : {A : Type 0} (r : Role) (xs : List A) → (xs ≡ [] → ⊥) → IsFilled r xs
any_filled r [] h = absurd (h refl)
any_filled r (x ∷ xs) h = filled_cons r x xs

pub record Whole (tokens : List Token) : Type 0 where
  pub order : StandInOrder tokens
  pub few : length tokens < 4294967296

-- ---- modules

with_header_spelled : (h : Header) (m : Module) → NamesModule h.name → IsSpelledModule m →
    IsSpelledModule (with_header h m)
with_header_spelled h m k s = record {
  header = k;
  imports = s.imports;
  declarations = s.declarations;
  cased = s.cased;
  named = s.named;
  small = s.small;
}

with_import_spelled : (i : Import) (m : Module) → IsSpelledImport i → IsSpelledModule m →
    IsSpelledModule (with_import i m)
with_import_spelled i m k s = record {
  header = s.header;
  imports = (k, s.imports);
  declarations = s.declarations;
  cased = s.cased;
  named = s.named;
  small = s.small;
}

with_declaration_spelled : (d : Declaration) (m : Module) → SpelledItem Free item.Declaration d → IsSpelledModule m →
    IsSpelledModule (with_declaration d m)
with_declaration_spelled d m k s = record {
  header = s.header;
  imports = s.imports;
  declarations = (k.0, s.declarations);
  cased = (k.1.0, s.cased);
  named = (k.1.1.0, s.named);
  small = (k.1.1.1, s.small);
}

-- as many constructors, and fields of each, as tokens at most
constructors_counted : (tokens : List Token) (cs : List ConstructorOf) (a b : ℕ) →
    RangedItems tokens item.Constructor cs a b → a + length cs ≤ b
constructors_counted tokens [] a b h = omega (arith, h)
constructors_counted tokens (c ∷ cs) a b (m, (h, g)) =
    let l = constructors_counted tokens cs m b g in omega (arith, l, h)

few_fields : (tokens : List Token) (cs : List ConstructorOf) (a b : ℕ) → b < 4294967296 →
    RangedItems tokens item.Constructor cs a b → HaveFewFields cs
few_fields tokens [] a b l h = tt
few_fields tokens (c ∷ cs) a b l (m, (h, g)) =
    (omega (arith, l, h, items_most tokens item.Constructor cs m b g), few_fields tokens cs m b l g)

small_union : (tokens : List Token) → Whole tokens → (cs : List ConstructorOf) (a b : ℕ) → b ≤ length tokens →
    RangedItems tokens item.Constructor cs a b → (length cs < 4294967296) × HaveFewFields cs
small_union tokens w cs a b l h =
    (omega (arith, l, w.few, constructors_counted tokens cs a b h), few_fields tokens cs a b (omega (arith, l, w.few)) h)

pub spelled_made : (tokens : List Token) → Whole tokens → (a : Action) (r : Role) → may_give a r ≡ true →
    (us : Things (takes a)) (i j : ℕ) → j ≤ length tokens → SpelledThings (needs a r) (takes a) us →
    RangedThings tokens (takes a) us i j → SpelledThing r (gives a) (made a us)
unfolding takes gives act
spelled_made tokens w (action.Same i) r ok (x ⸴ none) a b l (h, _) g = h
spelled_made tokens w (action.Second i) r ok (t ⸴ x ⸴ none) a b l (_, (h, _)) g = h
spelled_made tokens w (action.Empty i) r ok none a b l h g = (tt, empty_filled i r ok)
spelled_made tokens w (action.End i) r ok (t ⸴ none) a b l h g = (tt, end_filled i r ok)
spelled_made tokens w (action.More i) r ok (x ⸴ xs ⸴ none) a b l (h, (k, _)) g = more_spelled r i x xs h k
spelled_made tokens w (action.Comma i) r ok (t ⸴ x ⸴ xs ⸴ none) a b l (_, (h, (k, _))) g = more_spelled r i x xs h k
spelled_made tokens w action.SecondAsList r ok (t ⸴ x ⸴ none) a b l (_, (h, _)) g = ((h, tt), filled_cons r x [])
spelled_made tokens w action.Opening r ok (t ⸴ x ⸴ u ⸴ none) a b l (_, (h, _)) g = ((h, tt), filled_cons r x [])
spelled_made tokens w action.EmptyModule r ok none a b l h g =
    record { header = tt; imports = tt; declarations = tt; cased = tt; named = tt; small = tt }
spelled_made tokens w action.WithHeader r ok (x ⸴ m ⸴ none) a b l (k, (h, _)) g = with_header_spelled x m k h
spelled_made tokens w action.WithImport r ok (x ⸴ m ⸴ none) a b l (k, (h, _)) g = with_import_spelled x m k h
spelled_made tokens w action.WithDeclaration r ok (d ⸴ m ⸴ none) a b l (k, (h, _)) g = with_declaration_spelled d m k h
spelled_made tokens w action.PortModule r ok (t ⸴ x ⸴ m ⸴ none) a b l (_, (k, (h, _))) g =
    with_header_spelled (with_ports x) m k h
spelled_made tokens w action.FirstPort r ok (x ⸴ c ⸴ t ⸴ m ⸴ none) a b l (n, (_, (k, (h, _)))) g =
    with_declaration_spelled (Port (word_of x) t) m ((n.role.0, k), (n.role.1, (tt, tt))) h
spelled_made tokens w action.PortOf r ok (p ⸴ x ⸴ c ⸴ t ⸴ none) a b l (_, (n, (_, (k, _)))) g =
    ((n.role.0, k), (n.role.1, (tt, tt)))
spelled_made tokens w action.ValueOf r ok (x ⸴ d ⸴ none) a b l (n, (k, _)) g =
    (defined_spelled x d n.role.0 k, (defined_cased x d n.role.1, (defined_named x d, tt)))
spelled_made tokens w action.AliasOf r ok (y ⸴ x ⸴ ps ⸴ q ⸴ t ⸴ none) a b l (_, (n, (ns, (_, (k, _))))) g =
    ((n.role.0, (words_spelled ps ns.0, k)), (module_upper x n.role.1, (tt, tt)))
spelled_made tokens w action.UnionOf r ok (x ⸴ ps ⸴ q ⸴ c ⸴ cs ⸴ none) a b l (n, (ns, (_, (k, (ks, _)))))
    (d, (_, (e, (_, (f, (_, (m, (v, (t, (u, g)))))))))) = (
      (n.role, (words_spelled ps ns.0, (k.0, constructors_spelled cs ks.0))),
      ((k.1, constructors_upper cs ks.0), (tt, small_union tokens w (c ∷ cs) f t (omega (arith, g, l)) (m, (v, u)))),
    )
spelled_made tokens w action.ConstructorOf r ok (x ⸴ ts ⸴ none) a b l (n, (k, _)) g =
    ((n.role.0, types_spelled ts k.0), module_upper x n.role.1)
spelled_made tokens w action.AnnotationRest r ok (c ⸴ t ⸴ none) a b l (_, (k, _)) g = k
spelled_made tokens w action.FunctionRest r ok (ps ⸴ q ⸴ e ⸴ none) a b l (k, (_, (h, _))) g = (patterns_spelled ps k.0, h)
spelled_made tokens w action.ConstantRest r ok (q ⸴ e ⸴ none) a b l (_, (h, _)) g = (tt, h)
spelled_made tokens w action.ArrowsOf r ok (t ⸴ ts ⸴ none) a b l (h, (k, _)) g = arrows_spelled t ts h k.0
spelled_made tokens w action.NamedType r ok (x ⸴ ts ⸴ none) a b l (_, (k, _)) g = types_spelled ts k.0
spelled_made tokens w action.NamedTypeAlone r ok (x ⸴ none) a b l h g = tt
spelled_made tokens w action.VariableType r ok (x ⸴ none) a b l (n, _) g = n.role
spelled_made tokens w action.BracketType r ok (t ⸴ ts ⸴ none) a b l (_, (k, _)) g = bracket_spelled ts k.0
spelled_made tokens w action.EmptyRecordType r ok (x ⸴ none) a b l h g = tt
spelled_made tokens w action.RecordTypeOf r ok (x ⸴ base ⸴ c ⸴ t ⸴ fs ⸴ none) a b l (n, (ns, (_, (h, (k, _))))) g =
    record_type_spelled x base t fs n ns.0 h k.0
spelled_made tokens w action.MoreFieldTypes r ok (y ⸴ x ⸴ c ⸴ t ⸴ fs ⸴ none) a b l (_, (n, (_, (h, (k, _))))) g =
    (((n.role, h), k.0), filled_cons r (word_of x, t) fs)
spelled_made tokens w action.ChainOf r ok (e ⸴ ps ⸴ none) a b l (h, (k, _)) g = chained_spelled e ps h k.0
spelled_made tokens w action.MoreOperators r ok (op ⸴ c ⸴ none) a b l (n, (h, _)) g =
    (((part_named r op n, h.0), h.1), filled_cons r (word_of op, c.0) c.1)
spelled_made tokens w action.OperandThen r ok (e ⸴ ps ⸴ none) a b l (h, (k, _)) g = (h, k.0)
spelled_made tokens w action.LastOperand r ok (e ⸴ none) a b l (h, _) g = (h, tt)
spelled_made tokens w action.Applied r ok (f ⸴ es ⸴ none) a b l (h, (k, _)) g = applied_spelled f es h k.0
spelled_made tokens w action.Negative r ok (t ⸴ e ⸴ none) a b l (_, (h, _)) g = h
spelled_made tokens w action.NegativeArgument r ok (t ⸴ e ⸴ es ⸴ none) a b l (_, (h, (k, _))) g =
    ((h, k.0), filled_cons r (Negate (pos_of t) e) es)
spelled_made tokens w action.IfOf r ok (t ⸴ c ⸴ u ⸴ x ⸴ v ⸴ y ⸴ none) a b l (_, (h, (_, (k, (_, (m, _)))))) g =
    (h, (k, m))
spelled_made tokens w action.CaseOf r ok (t ⸴ e ⸴ o ⸴ bs ⸴ none) a b l (_, (h, (_, (k, _)))) g =
    (h, branches_spelled bs k.0)
spelled_made tokens w action.LetOf r ok (t ⸴ ds ⸴ u ⸴ e ⸴ none) a b l (_, (k, (_, (h, _)))) (c, (_, (d, (s, g)))) = (
  stand_apart tokens (bound_in (definitions_of ds)) c d w.order
      (omega (arith, l, things_most tokens (One item.Word ∷ One item.Expr ∷ []) (u ⸴ e ⸴ none) d b g))
      (definitions_ascend tokens ds c d s),
  (definitions_spelled ds k.0, h),
)
spelled_made tokens w action.LambdaOf r ok (t ⸴ ps ⸴ u ⸴ e ⸴ none) a b l (_, (k, (_, (h, _)))) g =
    (has_some ps k.1, (patterns_spelled ps (items_weaker Filled Free item.Pattern ps refl k.0), h))
spelled_made tokens w action.BranchOf r ok (p ⸴ t ⸴ e ⸴ none) a b l (k, (_, (h, _))) g = (k, h)
spelled_made tokens w action.DefinitionOf r ok (x ⸴ d ⸴ none) a b l (n, (k, _)) g =
    defined_spelled x d n.role k
spelled_made tokens w action.DestructureOf r ok (p ⸴ t ⸴ e ⸴ none) a b l (k, (_, (h, _))) g = (k, h)
spelled_made tokens w action.WordExpr r ok (t ⸴ none) a b l (n, _) g = expr_sound t n.sound
spelled_made tokens w action.WordAccess r ok (t ⸴ xs ⸴ none) a b l (n, (k, _)) g =
    accessed_spelled (pos_of t) (expr_of t) xs (expr_sound t n.sound) k.0
spelled_made tokens w action.BracketAccess r ok (t ⸴ es ⸴ xs ⸴ none) a b l (_, (h, (k, _))) g =
    accessed_spelled (pos_of t) (bracketed (pos_of t) es) xs (bracketed_spelled (pos_of t) es h.0) k.0
spelled_made tokens w action.RecordAccess r ok (t ⸴ x ⸴ xs ⸴ none) a b l (_, (h, (k, _))) g =
    accessed_spelled (pos_of t) (record_expr (pos_of t) x) xs (record_spelled (pos_of t) x.0 x.1 h) k.0
spelled_made tokens w action.ListOf r ok (t ⸴ es ⸴ none) a b l (_, (h, _)) g = exprs_spelled es h.0
spelled_made tokens w action.OperatorAlone r ok (t ⸴ u ⸴ none) a b l (n, _) g =
    ((expr_sound t n.sound, tt), filled_cons r (expr_of t) [])
spelled_made tokens w action.MinusParen r ok (t ⸴ x ⸴ none) a b l (n, (h, _)) g =
    (after_spelled t x n h, any_filled r (after_minus t x) (minus_some t x))
  where
    minus_some : (t : Token) (x : AfterMinus) → after_minus t x ≡ [] → ⊥
    minus_some t Closed e = cc
    minus_some t (Operand e es ps rest) f = cc
spelled_made tokens w action.MinusAlone r ok (x ⸴ none) a b l h g = tt
spelled_made tokens w action.MinusOperand r ok (e ⸴ es ⸴ ps ⸴ rest ⸴ none) a b l (h, (k, (m, (n, _)))) g =
    (h, (k.0, (m.0, n.0)))
spelled_made tokens w action.UnsignedOf r ok (e ⸴ es ⸴ ps ⸴ none) a b l (h, (k, (m, _))) g =
    chained_spelled (applied e es) ps (applied_spelled e es h k.0) m.0
spelled_made tokens w action.EmptyRecord r ok (x ⸴ none) a b l h g = tt
spelled_made tokens w action.RecordOf r ok (x ⸴ base ⸴ q ⸴ e ⸴ fs ⸴ none) a b l (n, (ns, (_, (h, (k, _))))) g =
    fields_named x base e fs n ns.0 h k.0
spelled_made tokens w action.MoreFields r ok (y ⸴ x ⸴ q ⸴ e ⸴ fs ⸴ none) a b l (_, (n, (_, (h, (k, _))))) g =
    (((field_named r x n, h), k.0), filled_cons r (word_of x, e) fs)
spelled_made tokens w action.PatternOf r ok (p ⸴ ps ⸴ xs ⸴ none) a b l (h, (k, (n, _))) g =
    with_name_spelled (conses_of p ps) xs (conses_spelled p ps h k.0) n.0
spelled_made tokens w action.ConstructOf r ok (x ⸴ ps ⸴ none) a b l (_, (k, _)) g = patterns_spelled ps k.0
spelled_made tokens w action.ConstructAlone r ok (x ⸴ none) a b l h g = tt
spelled_made tokens w action.WordPattern r ok (t ⸴ none) a b l (n, _) g = n.role
spelled_made tokens w action.NegativePattern r ok (t ⸴ x ⸴ none) a b l (_, (n, _)) g = negative_sound x n.sound
spelled_made tokens w action.BracketPattern r ok (t ⸴ ps ⸴ none) a b l (_, (k, _)) (c, (_, (d, (s, e)))) =
    let n = counted tokens ps c d s in
    bracket_pattern_spelled (pos_of t) ps (omega (arith, n, e, l, w.few)) k.0
spelled_made tokens w action.ListPatternOf r ok (t ⸴ ps ⸴ none) a b l (_, (k, _)) g = patterns_spelled ps k.0
spelled_made tokens w action.FieldsPatternOf r ok (t ⸴ xs ⸴ none) a b l (_, (n, _)) g = words_spelled xs n.0
spelled_made tokens w action.HeaderOf r ok (x ⸴ t ⸴ e ⸴ none) a b l (n, _) g = n.role
spelled_made tokens w action.PortHeader r ok (t ⸴ u ⸴ x ⸴ none) a b l (_, (_, (h, _))) g = h
spelled_made tokens w action.ExposeAll r ok us a b l h g = tt
spelled_made tokens w action.ExposeNothing r ok us a b l h g = tt
spelled_made tokens w action.ExposeThese r ok us a b l h g = tt
spelled_made tokens w action.ExposeWord r ok us a b l h g = tt
spelled_made tokens w action.ExposeUpper r ok us a b l h g = tt
spelled_made tokens w action.ExposeOperator r ok us a b l h g = tt
spelled_made tokens w action.ImportOf r ok (t ⸴ x ⸴ ys ⸴ e ⸴ none) a b l (_, (n, (ns, _))) g =
    (n.role, alias_spelled ys ns.0)
