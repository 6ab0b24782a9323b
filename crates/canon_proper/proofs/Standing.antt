-- What each action makes of values whose words stand in order has its words in order.
use Rattle.std.proofs.Common.{◌≡◌, ℕ, suc, ◌+◌, ◌<◌, ◌≤◌, List, [], ◌∷◌, map, Bool, true, false, refl, ap, arith}
use Rattle.elm_lexer.specs.declared.token.Kind.{Kind as TokenKind}
use Rattle.elm_lexer.specs.declared.token.Kind.TheVariants as kind
use Rattle.elm_lexer.specs.Tokens.{Token}
use Rattle.canon_type.specs.Unions.{type_count}
use Rattle.elm_tree.specs.Tree.{TypeTree, types_of, Pos}
use Rattle.elm_tree.specs.Words.{word_of, pos_of, pattern_by}
use Rattle.elm_grammar.specs.declared.action.Item.{Item}
use Rattle.elm_grammar.specs.declared.action.Item.TheVariants as item
use Rattle.elm_grammar.specs.declared.action.Action.{Action}
use Rattle.elm_grammar.specs.declared.action.Action.TheVariants as action
use Rattle.elm_grammar.specs.Values.{Rest, Typed, Bodied, Begun, thing_of, One, takes, gives, act}
use Rattle.elm_grammar.specs.Values.{Kind, word, words, type_tree, type_trees, field_types, arrows_of}
use Rattle.elm_grammar.specs.Values.{patterns_in, bracket_pattern, conses_of, with_name, defined}
use Rattle.elm_grammar.specs.Meaning.{Things, none, ◌⸴◌, made}
use Rattle.canon_expr.specs.Binding.{bound_by}
use Rattle.canon_env.specs.Patterns.{words_of, words_of_all}
use Rattle.canon_proper.proofs.Ranges.{Ascend, most, widen, append, single}
use Rattle.canon_proper.proofs.Values.{RangedItem, RangedItems, RangedThing, RangedThings, item_most, items_most}
use Rattle.canon_proper.proofs.Values.{things_most, item_widen, items_widen}

-- ---- lists

-- a list of items whose words are not told
abbrev is_loose : Item → Bool
is_loose item.Word = false
is_loose item.Pattern = false
is_loose item.Definition = false
is_loose item.TypeTree = false
is_loose item.Constructor = false
is_loose _ = true

loose_item : (tokens : List Token) (i : Item) (x : thing_of i) (a b : ℕ) → is_loose i ≡ true → a ≤ b →
    RangedItem tokens i x a b
loose_item tokens item.Word x a b e l = absurd cc
loose_item tokens item.Pattern x a b e l = absurd cc
loose_item tokens item.Definition x a b e l = absurd cc
loose_item tokens item.TypeTree x a b e l = absurd cc
loose_item tokens item.Constructor x a b e l = absurd cc
loose_item tokens _ x a b e l = l

loose : (tokens : List Token) (i : Item) (xs : List (thing_of i)) (a b : ℕ) → is_loose i ≡ true → a ≤ b →
    RangedItems tokens i xs a b
loose tokens i [] a b e l = l
loose tokens i (x ∷ xs) a b e l =
    let same : a ≤ a = omega arith in
    (a, (loose_item tokens i x a a e same, loose tokens i xs a b e l))

words_ascend : (tokens xs : List Token) (a b : ℕ) → RangedItems tokens item.Word xs a b →
    Ascend tokens (map word_of xs) a b
words_ascend tokens [] a b h = h
words_ascend tokens (x ∷ xs) a b (m, ((k, (l, (n, e))), g)) = (
  k,
  (
    l,
    (
      ap (λ (t : Token). pos_of t) e,
      widen tokens (map word_of xs) m b (suc k) b (omega (arith, n)) (omega arith) (words_ascend tokens xs m b g),
    ),
  ),
)

patterns_ascend : (tokens : List Token) (ps : List Begun) (a b : ℕ) → RangedItems tokens item.Pattern ps a b →
    Ascend tokens (words_of_all (patterns_in ps)) a b
patterns_ascend tokens [] a b h = h
patterns_ascend tokens (p ∷ ps) a b (m, (h, g)) =
    append tokens (words_of p.pattern) (words_of_all (patterns_in ps)) a m b h.1 (patterns_ascend tokens ps m b g)

-- ---- patterns

conses_stand : (tokens : List Token) (p : Begun) (ps : List Begun) (a m b : ℕ) →
    RangedItem tokens item.Pattern p a m → RangedItems tokens item.Pattern ps m b →
    RangedItem tokens item.Pattern (conses_of p ps) a b
conses_stand tokens p [] a m b h g = item_widen tokens item.Pattern p a m a b (omega arith) g h
conses_stand tokens p (q ∷ qs) a m b h g =
    let low = h.0 in
    (omega (arith, low, items_most tokens item.Pattern (q ∷ qs) m b g), patterns_ascend tokens (p ∷ q ∷ qs) a b (m, (h, g)))

with_name_stands : (tokens : List Token) (p : Begun) (xs : List Token) (a m b : ℕ) →
    RangedItem tokens item.Pattern p a m → RangedItems tokens item.Word xs m b →
    RangedItem tokens item.Pattern (with_name p xs) a b
with_name_stands tokens p [] a m b h g = item_widen tokens item.Pattern p a m a b (omega arith) g h
with_name_stands tokens p (x ∷ xs) a m b h (c, ((k, (l, (n, e))), g)) =
    let past = items_most tokens item.Word xs c b g in
    let low = h.0 in (
      omega (arith, low, l, n, past),
      append tokens (words_of p.pattern) (word_of x ∷ []) a m b h.1
          (single tokens (word_of x) k m b l (omega (arith, n, past)) (ap (λ (t : Token). pos_of t) e)),
    )

bracket_stands : (tokens : List Token) (place : Pos) (ps : List Begun) (a b : ℕ) → RangedItems tokens item.Pattern ps a b →
    Ascend tokens (words_of (bracket_pattern place ps)) a b
bracket_stands tokens place [] a b h = h
bracket_stands tokens place (p ∷ []) a b (m, (h, g)) = widen tokens (words_of p.pattern) a m a b (omega arith) g h.1
bracket_stands tokens place (p ∷ q ∷ qs) a b h = patterns_ascend tokens (p ∷ q ∷ qs) a b h

token_stands : (tokens : List Token) (k : TokenKind) (t : Token) (a b : ℕ) → Ascend tokens (word_of t ∷ []) a b →
    Ascend tokens (words_of (pattern_by k t)) a b
token_stands tokens kind.Underscore t a b h = most tokens (word_of t ∷ []) a b h
token_stands tokens (kind.Int n) t a b h = most tokens (word_of t ∷ []) a b h
token_stands tokens kind.Char t a b h = most tokens (word_of t ∷ []) a b h
token_stands tokens kind.Text t a b h = most tokens (word_of t ∷ []) a b h
token_stands tokens _ t a b h = h

-- ---- definitions

defined_stands : (tokens : List Token) (x : Token) (r : Rest) (a m b : ℕ) → RangedItem tokens item.Word x a m → m ≤ b →
    Ascend tokens (bound_by (defined x r)) a b
defined_stands tokens x (Typed t) a m b (k, (l, (n, e))) g = omega (arith, l, n, g)
defined_stands tokens x (Bodied ps e) a m b (k, (l, (n, f))) g =
    single tokens (word_of x) k a b l (omega (arith, n, g)) (ap (λ (t : Token). pos_of t) f)

-- ---- types

arrows_stand : (tokens : List Token) (t : TypeTree) (ts : List TypeTree) (a m b : ℕ) → a < m → m ≤ b →
    RangedItem tokens item.TypeTree (arrows_of t ts) a b
arrows_stand tokens t ts a m b h g = omega (arith, h, g)

-- a token for each type
types_counted : (tokens : List Token) (ts : List TypeTree) (a b : ℕ) → RangedItems tokens item.TypeTree ts a b →
    a + type_count (types_of ts) ≤ b
types_counted tokens [] a b h = omega (arith, h)
types_counted tokens (t ∷ ts) a b (m, (h, g)) = let l = types_counted tokens ts m b g in omega (arith, h, l)

-- a word, and what stands after it
past_word : (tokens : List Token) (x : Token) (ks : List Kind) (vs : Things ks) (a m b : ℕ) →
    RangedItem tokens item.Word x a m → RangedThings tokens ks vs m b → a < b
past_word tokens x ks vs a m b (k, (l, (n, e))) g = omega (arith, l, n, things_most tokens ks vs m b g)

-- ---- actions

pub ranged_made : (tokens : List Token) (a : Action) (us : Things (takes a)) (i j : ℕ) →
    RangedThings tokens (takes a) us i j → RangedThing tokens (gives a) (made a us) i j
unfolding takes gives act
ranged_made tokens (action.Same k) (x ⸴ none) i j (m, (h, e)) =
    item_widen tokens k x i m i j (omega arith) (omega (arith, e)) h
ranged_made tokens (action.Second k) (t ⸴ x ⸴ none) i j (m, (g, (n, (h, e)))) =
    item_widen tokens k x m n i j (item_most tokens item.Word t i m g) (omega (arith, e)) h
ranged_made tokens (action.Empty k) none i j e = omega (arith, e)
ranged_made tokens (action.End k) (t ⸴ none) i j g = things_most tokens (One item.Word ∷ []) (t ⸴ none) i j g
ranged_made tokens (action.More k) (x ⸴ xs ⸴ none) i j (m, (h, (n, (g, e)))) =
    (m, (h, items_widen tokens k xs m n m j (omega arith) (omega (arith, e)) g))
ranged_made tokens (action.Comma k) (t ⸴ x ⸴ xs ⸴ none) i j (c, (f, (m, (h, (n, (g, e)))))) = (
  m,
  (
    item_widen tokens k x c m i m (item_most tokens item.Word t i c f) (omega arith) h,
    items_widen tokens k xs m n m j (omega arith) (omega (arith, e)) g,
  ),
)
ranged_made tokens action.SecondAsList (t ⸴ x ⸴ none) i j (m, (g, (n, (h, e)))) =
    (n, (item_widen tokens item.Word x m n i n (item_most tokens item.Word t i m g) (omega arith) h, omega (arith, e)))
ranged_made tokens action.Opening (t ⸴ x ⸴ u ⸴ none) i j (m, (g, (n, (h, (c, (f, e)))))) = (
  n,
  (
    item_widen tokens item.Word x m n i n (item_most tokens item.Word t i m g) (omega arith) h,
    omega (arith, e, item_most tokens item.Word u n c f),
  ),
)
ranged_made tokens action.MoreFieldTypes us i j g =
    loose tokens item.FieldType (made action.MoreFieldTypes us) i j refl
    (things_most tokens (takes action.MoreFieldTypes) us i j g)
ranged_made tokens action.MoreOperators us i j g =
    loose tokens item.Part (made action.MoreOperators us) i j refl
    (things_most tokens (takes action.MoreOperators) us i j g)
ranged_made tokens action.NegativeArgument us i j g =
    loose tokens item.Expr (made action.NegativeArgument us) i j refl
    (things_most tokens (takes action.NegativeArgument) us i j g)
ranged_made tokens action.OperatorAlone us i j g =
    loose tokens item.Expr (made action.OperatorAlone us) i j refl
    (things_most tokens (takes action.OperatorAlone) us i j g)
ranged_made tokens action.MinusParen us i j g =
    loose tokens item.Expr (made action.MinusParen us) i j refl
    (things_most tokens (takes action.MinusParen) us i j g)
ranged_made tokens action.MoreFields us i j g =
    loose tokens item.Part (made action.MoreFields us) i j refl
    (things_most tokens (takes action.MoreFields) us i j g)
ranged_made tokens action.DefinitionOf (x ⸴ r ⸴ none) i j (m, (h, (n, (g, e)))) =
    defined_stands tokens x r i m j h (omega (arith, g, e))
ranged_made tokens action.DestructureOf (p ⸴ t ⸴ e ⸴ none) i j (m, (h, g)) =
    widen tokens (words_of p.pattern) i m i j (omega arith)
    (things_most tokens (One item.Word ∷ One item.Expr ∷ []) (t ⸴ e ⸴ none) m j g) h.1
ranged_made tokens action.PatternOf (p ⸴ ps ⸴ xs ⸴ none) i j (m, (h, (n, (g, (c, (f, e)))))) =
    with_name_stands tokens (conses_of p ps) xs i n j (conses_stand tokens p ps i m n h g)
    (items_widen tokens item.Word xs n c n j (omega arith) (omega (arith, e)) f)
ranged_made tokens action.ConstructOf (x ⸴ ps ⸴ none) i j (m, ((k, (l, (n, f))), (c, (g, e)))) =
    let past = items_most tokens item.Pattern ps m c g in (
      omega (arith, l, n, past, e),
      widen tokens (words_of_all (patterns_in ps)) m c i j (omega (arith, l, n)) (omega (arith, e))
          (patterns_ascend tokens ps m c g),
    )
ranged_made tokens action.ConstructAlone (x ⸴ none) i j (m, ((k, (l, (n, f))), e)) = (omega (arith, l, n, e), omega (arith, l, n, e))
ranged_made tokens action.WordPattern (t ⸴ none) i j (m, ((k, (l, (n, f))), e)) = (
  omega (arith, l, n, e),
  token_stands tokens t.kind t i j
      (single tokens (word_of t) k i j l (omega (arith, n, e)) (ap (λ (t : Token). pos_of t) f)),
)
ranged_made tokens action.NegativePattern (t ⸴ x ⸴ none) i j (m, ((k, (l, (n, f))), (c, ((d, (o, (q, r))), e)))) =
    (omega (arith, l, n, o, q, e), omega (arith, l, n, o, q, e))
ranged_made tokens action.BracketPattern (t ⸴ ps ⸴ none) i j (m, ((k, (l, (n, f))), (c, (g, e)))) =
    let past = items_most tokens item.Pattern ps m c g in (
      omega (arith, l, n, past, e),
      widen tokens (words_of (bracket_pattern (pos_of t) ps)) m c i j (omega (arith, l, n)) (omega (arith, e))
          (bracket_stands tokens (pos_of t) ps m c g),
    )
ranged_made tokens action.ListPatternOf (t ⸴ ps ⸴ none) i j (m, ((k, (l, (n, f))), (c, (g, e)))) =
    let past = items_most tokens item.Pattern ps m c g in (
      omega (arith, l, n, past, e),
      widen tokens (words_of_all (patterns_in ps)) m c i j (omega (arith, l, n)) (omega (arith, e))
          (patterns_ascend tokens ps m c g),
    )
ranged_made tokens action.FieldsPatternOf (t ⸴ xs ⸴ none) i j (m, ((k, (l, (n, f))), (c, (g, e)))) =
    let past = items_most tokens item.Word xs m c g in (
      omega (arith, l, n, past, e),
      widen tokens (map word_of xs) m c i j (omega (arith, l, n)) (omega (arith, e)) (words_ascend tokens xs m c g),
    )
ranged_made tokens action.ArrowsOf (t ⸴ ts ⸴ none) i j (m, (h, (n, (g, e)))) =
    arrows_stand tokens t ts i m j h (omega (arith, e, items_most tokens item.TypeTree ts m n g))
ranged_made tokens action.NamedType (x ⸴ ts ⸴ none) i j (m, (h, g)) =
    past_word tokens x (type_trees ∷ []) (ts ⸴ none) i m j h g
ranged_made tokens action.NamedTypeAlone (x ⸴ none) i j (m, (h, g)) = past_word tokens x [] none i m j h g
ranged_made tokens action.VariableType (x ⸴ none) i j (m, (h, g)) = past_word tokens x [] none i m j h g
ranged_made tokens action.BracketType (x ⸴ ts ⸴ none) i j (m, (h, g)) =
    past_word tokens x (type_trees ∷ []) (ts ⸴ none) i m j h g
ranged_made tokens action.EmptyRecordType (x ⸴ none) i j (m, (h, g)) = past_word tokens x [] none i m j h g
ranged_made tokens action.RecordTypeOf (x ⸴ base ⸴ c ⸴ t ⸴ fs ⸴ none) i j (m, (h, g)) =
    past_word tokens x (words ∷ word ∷ type_tree ∷ field_types ∷ []) (base ⸴ c ⸴ t ⸴ fs ⸴ none) i m j h g
ranged_made tokens action.ConstructorOf (x ⸴ ts ⸴ none) i j (m, ((k, (l, (n, f))), (c, (g, e)))) =
    omega (arith, l, n, e, types_counted tokens ts m c g)
ranged_made tokens a us i j g = things_most tokens (takes a) us i j g
