-- What is shown of each value on the way to a tree: it is spelled, and its words stand in order.
use Rattle.std.proofs.Common.{◌≡◌, ℕ, ◌+◌, ◌<◌, ◌≤◌, List, [], ◌∷◌, true, arith}
use Rattle.std.specs.Prelude.{⊤}
use Rattle.std.specs.List.{AllByRecursion}
use Rattle.elm_lexer.specs.Tokens.{Token}
use Rattle.elm_tree.specs.Tree.{Word, Expr}
use Rattle.elm_tree.specs.Words.{token_at}
use Rattle.elm_grammar.specs.declared.action.Item.{Item}
use Rattle.elm_grammar.specs.declared.action.Item.TheVariants as item
use Rattle.elm_grammar.specs.Values.{Rest, Typed, Bodied, AfterMinus, Closed, Operand, thing_of, Kind, One, Many, Thing}
use Rattle.elm_grammar.specs.Meaning.{Things, none, ◌⸴◌}
use Rattle.canon_expr.specs.Binding.{bound_by}
use Rattle.canon_env.specs.Patterns.{words_of}
use Rattle.canon_proper.specs.Patterns.{IsSpelledWord, IsSpelledPattern, AreSpelledPatterns}
use Rattle.canon_proper.specs.Written.{IsSpelled, IsSpelledDefinition}
use Rattle.canon_type.specs.Unions.{type_count}
use Rattle.canon_proper.specs.Declared.{IsSpelledType, IsSpelledConstructor, IsSpelledDeclaration, IsUpper, IsCased}
use Rattle.canon_proper.specs.Spelled.{IsNamed, IsSmall, NamesModule, IsSpelledImport, IsSpelledModule}
use Rattle.canon_proper.proofs.Roles.{Role, Free, Named, Lower, Homed, Upper, Fielded, Plain, Filled, covers}
use Rattle.canon_proper.proofs.Roles.{first_role, other_roles}
use Rattle.canon_proper.proofs.Classes.{Fills, role_weaker}
use Rattle.canon_proper.proofs.Ranges.{Ascend, most, widen}

-- ---- spelled

-- the name of a field, where the role says that it is one
abbrev pub SpellsPart : Role → Word → Type 0
SpellsPart Named x = IsSpelledWord x
SpellsPart Lower x = IsSpelledWord x
SpellsPart Upper x = IsSpelledWord x
SpellsPart _ x = ⊤

abbrev pub SpelledPart : Role → Word × Expr → Type 0
SpelledPart r p = SpellsPart r p.0 × IsSpelled p.1

abbrev pub SpelledRest : Rest → Type 0
SpelledRest (Typed t) = IsSpelledType t
SpelledRest (Bodied ps e) = AreSpelledPatterns ps × IsSpelled e

abbrev pub SpelledAfter : AfterMinus → Type 0
SpelledAfter Closed = ⊤
SpelledAfter (Operand e es ps rest) =
    IsSpelled e × (AllByRecursion IsSpelled es × (AllByRecursion (SpelledPart Free) ps × AllByRecursion IsSpelled rest))

abbrev pub SpelledItem : Role → (i : Item) → thing_of i → Type 0
SpelledItem r item.Word t = Fills r t
SpelledItem r item.Module m = IsSpelledModule m
SpelledItem r item.Header h = NamesModule h.name
SpelledItem r item.Import i = IsSpelledImport i
SpelledItem r item.Declaration d = IsSpelledDeclaration d × (IsCased d × (IsNamed d × IsSmall d))
SpelledItem r item.Rest x = SpelledRest x
SpelledItem r item.Constructor c = IsSpelledConstructor c × IsUpper c.name
SpelledItem r item.TypeTree t = IsSpelledType t
SpelledItem r item.FieldType f = IsSpelledWord f.0 × IsSpelledType f.1
SpelledItem r item.Pattern p = IsSpelledPattern p.pattern
SpelledItem r item.Expr e = IsSpelled e
SpelledItem r item.Part p = SpelledPart r p
SpelledItem r item.Chain c = IsSpelled c.0 × AllByRecursion (SpelledPart r) c.1
SpelledItem r item.AfterMinus x = SpelledAfter x
SpelledItem r item.Record x = AllByRecursion (SpelledPart Named) x.1
SpelledItem r item.Branch b = IsSpelledPattern b.0 × IsSpelled b.1
SpelledItem r item.Definition d = IsSpelledDefinition d
SpelledItem r _ x = ⊤

abbrev pub IsFilled : {A : Type 0} → Role → List A → Type 0
IsFilled Filled [] = ⊥
IsFilled Filled (x ∷ xs) = ⊤
IsFilled _ xs = ⊤

abbrev pub SpelledThing : Role → (k : Kind) → Thing k → Type 0
SpelledThing r (One i) x = SpelledItem r i x
SpelledThing r (Many i) xs = AllByRecursion (SpelledItem r i) xs × IsFilled r xs

abbrev pub SpelledThings : List Role → (ks : List Kind) → Things ks → Type 0
SpelledThings rs [] none = ⊤
SpelledThings rs (k ∷ ks) (v ⸴ vs) = SpelledThing (first_role rs) k v × SpelledThings (other_roles rs) ks vs

part_weaker : (r s : Role) (x : Word) → covers r s ≡ true → SpellsPart r x → SpellsPart s x
part_weaker r Free x e h = tt
part_weaker Named Named x e h = h
part_weaker Lower Named x e h = h
part_weaker Upper Named x e h = h
part_weaker Lower Lower x e h = h
part_weaker r Homed x e h = tt
part_weaker Upper Upper x e h = h
part_weaker r Plain x e h = tt
part_weaker r Fielded x e h = tt
part_weaker r Filled x e h = tt
part_weaker _ Named x e h = absurd cc
part_weaker _ Lower x e h = absurd cc
part_weaker _ Upper x e h = absurd cc

parts_weaker : (r s : Role) (ps : List (Word × Expr)) → covers r s ≡ true → AllByRecursion (SpelledPart r) ps →
    AllByRecursion (SpelledPart s) ps
parts_weaker r s [] e h = tt
parts_weaker r s (p ∷ ps) e h = ((part_weaker r s p.0 e h.0.0, h.0.1), parts_weaker r s ps e h.1)

item_weaker : (r s : Role) (i : Item) (x : thing_of i) → covers r s ≡ true → SpelledItem r i x → SpelledItem s i x
item_weaker r s item.Word t e h = role_weaker r s t e h
item_weaker r s item.Part p e h = (part_weaker r s p.0 e h.0, h.1)
item_weaker r s item.Chain c e h = (h.0, parts_weaker r s c.1 e h.1)
item_weaker r s _ x e h = h

pub items_weaker : (r s : Role) (i : Item) (xs : List (thing_of i)) → covers r s ≡ true →
    AllByRecursion (SpelledItem r i) xs → AllByRecursion (SpelledItem s i) xs
items_weaker r s i [] e h = tt
items_weaker r s i (x ∷ xs) e h = (item_weaker r s i x e h.0, items_weaker r s i xs e h.1)

filled_weaker : {A : Type 0} (r s : Role) (xs : List A) → covers r s ≡ true → IsFilled r xs → IsFilled s xs
filled_weaker r Free xs e h = tt
filled_weaker r Named xs e h = tt
filled_weaker r Lower xs e h = tt
filled_weaker r Homed xs e h = tt
filled_weaker r Upper xs e h = tt
filled_weaker r Fielded xs e h = tt
filled_weaker r Plain xs e h = tt
filled_weaker Filled Filled xs e h = h
filled_weaker _ Filled xs e h = absurd cc

pub thing_weaker : (r s : Role) (k : Kind) (x : Thing k) → covers r s ≡ true → SpelledThing r k x → SpelledThing s k x
thing_weaker r s (One i) x e h = item_weaker r s i x e h
thing_weaker r s (Many i) xs e h = (items_weaker r s i xs e h.0, filled_weaker r s xs e h.1)

-- ---- in order

-- the words that it binds, or the token that it is, stand from a on and before b; a type has a token, and a constructor
-- has one and one for each field
abbrev pub RangedItem : List Token → (i : Item) → thing_of i → ℕ → ℕ → Type 0
RangedItem tokens item.Word t a b = (k : ℕ) × ((a ≤ k) × ((k < b) × (t ≡ token_at tokens k)))
RangedItem tokens item.Pattern p a b = (a < b) × Ascend tokens (words_of p.pattern) a b
RangedItem tokens item.Definition d a b = Ascend tokens (bound_by d) a b
RangedItem tokens item.TypeTree t a b = a < b
RangedItem tokens item.Constructor c a b = a + type_count c.fields < b
RangedItem tokens _ x a b = a ≤ b

-- one after the other
abbrev pub RangedItems : List Token → (i : Item) → List (thing_of i) → ℕ → ℕ → Type 0
RangedItems tokens i [] a b = a ≤ b
RangedItems tokens i (x ∷ xs) a b = (m : ℕ) × (RangedItem tokens i x a m × RangedItems tokens i xs m b)

abbrev pub RangedThing : List Token → (k : Kind) → Thing k → ℕ → ℕ → Type 0
RangedThing tokens (One i) x a b = RangedItem tokens i x a b
RangedThing tokens (Many i) xs a b = RangedItems tokens i xs a b

abbrev pub RangedThings : List Token → (ks : List Kind) → Things ks → ℕ → ℕ → Type 0
RangedThings tokens [] none a b = a ≡ b
RangedThings tokens (k ∷ ks) (v ⸴ vs) a b = (m : ℕ) × (RangedThing tokens k v a m × RangedThings tokens ks vs m b)

pub item_most : (tokens : List Token) (i : Item) (x : thing_of i) (a b : ℕ) → RangedItem tokens i x a b → a ≤ b
item_most tokens item.Word t a b (k, (l, (m, e))) = omega (arith, l, m)
item_most tokens item.Pattern p a b h = let l = h.0 in omega (arith, l)
item_most tokens item.Definition d a b h = most tokens (bound_by d) a b h
item_most tokens item.TypeTree t a b h = omega (arith, h)
item_most tokens item.Constructor c a b h = omega (arith, h)
item_most tokens _ x a b h = h

pub items_most : (tokens : List Token) (i : Item) (xs : List (thing_of i)) (a b : ℕ) → RangedItems tokens i xs a b → a ≤ b
items_most tokens i [] a b h = h
items_most tokens i (x ∷ xs) a b (m, (h, g)) =
    omega (arith, item_most tokens i x a m h, items_most tokens i xs m b g)

pub thing_most : (tokens : List Token) (k : Kind) (x : Thing k) (a b : ℕ) → RangedThing tokens k x a b → a ≤ b
thing_most tokens (One i) x a b h = item_most tokens i x a b h
thing_most tokens (Many i) xs a b h = items_most tokens i xs a b h

pub things_most : (tokens : List Token) (ks : List Kind) (vs : Things ks) (a b : ℕ) → RangedThings tokens ks vs a b → a ≤ b
things_most tokens [] none a b h = omega (arith, h)
things_most tokens (k ∷ ks) (v ⸴ vs) a b (m, (h, g)) =
    omega (arith, thing_most tokens k v a m h, things_most tokens ks vs m b g)

pub item_widen : (tokens : List Token) (i : Item) (x : thing_of i) (a b c d : ℕ) → c ≤ a → b ≤ d →
    RangedItem tokens i x a b → RangedItem tokens i x c d
item_widen tokens item.Word t a b c d l m (k, (n, (q, e))) = (k, (omega (arith, l, n), (omega (arith, m, q), e)))
item_widen tokens item.Pattern p a b c d l m h =
    let n = h.0 in (omega (arith, l, m, n), widen tokens (words_of p.pattern) a b c d l m h.1)
item_widen tokens item.Definition x a b c d l m h = widen tokens (bound_by x) a b c d l m h
item_widen tokens item.TypeTree x a b c d l m h = omega (arith, l, m, h)
item_widen tokens item.Constructor x a b c d l m h = omega (arith, l, m, h)
item_widen tokens _ x a b c d l m h = omega (arith, l, m, h)

pub items_widen : (tokens : List Token) (i : Item) (xs : List (thing_of i)) (a b c d : ℕ) → c ≤ a → b ≤ d →
    RangedItems tokens i xs a b → RangedItems tokens i xs c d
items_widen tokens i [] a b c d l m h = omega (arith, l, m, h)
items_widen tokens i (x ∷ xs) a b c d l m (k, (h, g)) =
    let same : k ≤ k = omega arith in
    (k, (item_widen tokens i x a k c k l same h, items_widen tokens i xs k b k d same m g))
