-- What tokens guarantee by their classes.
use Rattle.std.proofs.Common.{◌≡◌, ℕ, zero, suc, ◌+◌, ◌<◌, ◌≤◌, List, [], ◌∷◌, ◌++◌, length, Bool, true, false, nat_eq}
use Rattle.std.proofs.Common.{not}
use Rattle.std.proofs.Common.{pos, neg_ℤ, ◌&&◌, codes, refl, sym, ap, subst, ◌∙◌, arith}
use Rattle.std.specs.Prelude.{if◌then◌else◌, ⊤}
use Rattle.std.specs.Str.{bytes_eq}
use Rattle.std.proofs.lemmas.Bool.Decides.{nat_tests}
use Rattle.elm_lexer.specs.declared.token.Kind.{Kind}
use Rattle.elm_lexer.specs.declared.token.Kind.TheVariants as kind
use Rattle.elm_lexer.specs.Tokens.{Token}
use Rattle.elm_tree.specs.Words.{token_at, word_of, field_of, negative_of, number_in, expr_by, expr_of}
use Rattle.elm_tree.specs.Words.{pattern_by, pattern_of}
use Rattle.parse_machine.specs.declared.table.Token as machine
use Rattle.elm_grammar.specs.Classes as class
use Rattle.elm_grammar.specs.Classes.{class_by, classed_from, classed, name_class, field_class, operator_class}
use Rattle.elm_grammar.specs.Classes.{minus_class, ends_operand}
use Rattle.elm_canon.specs.Spelled.{is_exact, is_exact_literal}
use Rattle.canon_env.specs.Patterns.{literal_of}
use Rattle.canon_env.specs.Imports.{name_of}
use Rattle.canon_proper.specs.Patterns.{IsSpelledWord, IsSpelledPattern}
use Rattle.canon_proper.specs.Written.{IsSpelled}
use Rattle.canon_proper.specs.Declared.{IsLower, IsUpper, begins_upper}
use Rattle.elm_canon.specs.Names.{Name}
use Rattle.elm_canon.specs.Spelled.{is_module, is_upper}
use Rattle.canon_proper.specs.Sound.{IsSoundAs, IsSound}
use Rattle.canon_proper.proofs.Roles.{Role, Free, Named, Lower, Homed, Upper, Fielded, Plain, Filled, covers}
use Rattle.canon_proper.proofs.Roles.{class_role, and_true}
use Rattle.canon_proper.specs.Spelled.{NamesModule}

-- ---- a token with a role

abbrev pub HasRole : Role → Token → Type 0
HasRole Named t = IsSpelledWord (word_of t)
HasRole Lower t = IsSpelledWord (word_of t) × IsLower (word_of t)
HasRole Homed t = NamesModule (word_of t)
HasRole Upper t = IsSpelledWord (word_of t) × NamesModule (word_of t)
HasRole Fielded t = IsSpelledWord (field_of t)
HasRole Plain t = IsSpelledPattern (pattern_of t)
HasRole _ t = ⊤

pub record Fills (r : Role) (t : Token) : Type 0 where
  pub sound : IsSound t
  pub role : HasRole r t

begins : (x : Name) → is_module true x ≡ true → begins_upper x ≡ true
begins [] e = absurd cc
begins (u ∷ us) e = (and_true (is_upper u) (is_module false us) e).0

-- a name of a module begins with an upper-case letter
pub module_upper : (t : Token) → NamesModule (word_of t) → IsUpper (word_of t)
module_upper t h = begins (name_of (word_of t)) h

exact_of : (n : ℕ) → n ≤ 9007199254740991 → is_exact (pos n) ≡ true
exact_of n l = grind (arith, nat_tests)

exact_negative : (n : ℕ) → n ≤ 9007199254740991 → is_exact (neg_ℤ (pos n)) ≡ true
exact_negative zero l = refl
exact_negative (suc n) l = let k : n < 9007199254740991 = omega (arith, l) in grind (arith, nat_tests)

-- an expression of one token
expr_as : (k : Kind) (t : Token) → IsSoundAs k t → IsSpelled (expr_by k t)
expr_as (kind.Int n) t s = exact_of n s
expr_as kind.Char t s = s
expr_as kind.Text t s = s
expr_as kind.Field t s = s
expr_as _ t s = tt

pub expr_sound : (t : Token) → IsSound t → IsSpelled (expr_of t)
expr_sound t s = expr_as t.kind t s

-- the negative of a number; of any other token, 0
negative_as : (k : Kind) (t : Token) → IsSoundAs k t → is_exact (neg_ℤ (pos (number_in k))) ≡ true
negative_as (kind.Int n) t s = exact_negative n s
negative_as _ t s = refl

pub negative_sound : (t : Token) → IsSound t → is_exact_literal (literal_of (negative_of t)) ≡ true
negative_sound t s = negative_as t.kind t s

-- a name, as a pattern
named_as : (k : Kind) (t : Token) → IsSoundAs k t → IsSpelledWord (word_of t) → IsSpelledPattern (pattern_by k t)
named_as kind.Underscore t s w = tt
named_as (kind.Int n) t s w = exact_of n s
named_as kind.Char t s w = s
named_as kind.Text t s w = s
named_as _ t s w = w

pub role_weaker : (r s : Role) (t : Token) → covers r s ≡ true → Fills r t → Fills s t
role_weaker r Free t e f = record { sound = f.sound; role = tt }
role_weaker Named Named t e f = f
role_weaker Named Plain t e f = record { sound = f.sound; role = named_as t.kind t f.sound f.role }
role_weaker Lower Lower t e f = f
role_weaker Lower Named t e f = record { sound = f.sound; role = f.role.0 }
role_weaker Lower Plain t e f = record { sound = f.sound; role = named_as t.kind t f.sound f.role.0 }
role_weaker Homed Homed t e f = f
role_weaker Upper Upper t e f = f
role_weaker Upper Named t e f = record { sound = f.sound; role = f.role.0 }
role_weaker Upper Homed t e f = record { sound = f.sound; role = f.role.1 }
role_weaker Upper Plain t e f = record { sound = f.sound; role = named_as t.kind t f.sound f.role.0 }
role_weaker Fielded Fielded t e f = f
role_weaker Plain Plain t e f = f
role_weaker Filled Filled t e f = f
role_weaker _ _ t e f = absurd cc

-- ---- the role of a class

-- in either case
either_role : (b : Bool) (j k : ℕ) (t : Token) → HasRole (class_role j) t → HasRole (class_role k) t →
    HasRole (class_role (if b then j else k)) t
either_role true j k t p q = p
either_role false j k t p q = q

pattern_kind : (k : Kind) (t : Token) → t.kind ≡ k → IsSpelledPattern (pattern_by k t) → IsSpelledPattern (pattern_of t)
pattern_kind k t e s = subst (λ z. IsSpelledPattern (pattern_by z t)) (sym e) s

kind_role : (k : Kind) (before : ℕ) (t : Token) → t.kind ≡ k → IsSoundAs k t → HasRole (class_role (class_by k before t)) t
kind_role kind.LowerName before t e s =
    either_role (nat_eq before class.type_ && bytes_eq t.text (codes "alias")) class.alias class.name t s s
kind_role kind.UpperName before t e s = s
kind_role kind.QualifiedUpper before t e s = s
kind_role (kind.Int n) before t e s = pattern_kind (kind.Int n) t e (exact_of n s)
kind_role kind.Char before t e s = pattern_kind kind.Char t e s
kind_role kind.Text before t e s = pattern_kind kind.Text t e s
kind_role kind.Underscore before t e s = pattern_kind kind.Underscore t e tt
kind_role kind.Field before t e s =
    either_role (not t.space_before && ends_operand before) class.access class.accessor t s s
kind_role kind.Operator before t e s =
    either_role (bytes_eq t.text (codes "-")) (minus_class t.space_before t.space_after) _ t
    (minus t.space_before t.space_after)
    (either_role (bytes_eq t.text (codes "::")) class.cons class.operator t tt tt)
  where
    minus : (a b : Bool) → HasRole (class_role (minus_class a b)) t
    minus a true = tt
    minus true false = tt
    minus false false = tt
kind_role _ before t e s = tt

-- ---- the tokens as the grammar sees them

-- token i of the text, with a class of its own
pub record IsToken (tokens : List Token) (i : ℕ) (t : machine.Token) : Type 0 where
  pub index : t.index ≡ i
  pub before : ℕ
  pub class : t.class ≡ class_by (token_at tokens i).kind before (token_at tokens i)

pub token_role : (tokens : List Token) (i : ℕ) (t : machine.Token) → IsSound (token_at tokens i) → IsToken tokens i t →
    Fills (class_role t.class) (token_at tokens t.index)
token_role tokens i t s h =
    subst (λ z. Fills (class_role t.class) (token_at tokens z)) (sym h.index) (record {
      sound = s;
      role = subst (λ z. HasRole (class_role z) (token_at tokens i)) (sym h.class)
          (kind_role (token_at tokens i).kind h.before (token_at tokens i) refl s);
    })

-- each of them, from i on, up to the last
abbrev pub AreTokens : List Token → ℕ → List machine.Token → Type 0
AreTokens tokens i [] = i ≡ length tokens
AreTokens tokens i (t ∷ ts) = IsToken tokens i t × AreTokens tokens (suc i) ts

pub within : (tokens : List Token) (i : ℕ) (ts : List machine.Token) → AreTokens tokens i ts → i + length ts ≡ length tokens
within tokens i [] h = omega (arith, h)
within tokens i (t ∷ ts) h = omega (arith, within tokens (suc i) ts h.1)

-- a token after others
at_middle : (front : List Token) (t : Token) (ts : List Token) → token_at (front ++ t ∷ ts) (length front) ≡ t
at_middle [] t ts = refl
at_middle (x ∷ xs) t ts = at_middle xs t ts

moved : (front : List Token) (t : Token) (ts : List Token) → front ++ t ∷ ts ≡ (front ++ t ∷ []) ++ ts
moved [] t ts = refl
moved (x ∷ xs) t ts = ap (λ (zs : List Token). x ∷ zs) (moved xs t ts)

longer : (front : List Token) (t : Token) → length (front ++ t ∷ []) ≡ suc (length front)
longer [] t = refl
longer (x ∷ xs) t = ap suc (longer xs t)

whole : (front : List Token) → front ++ [] ≡ front
whole [] = refl
whole (x ∷ xs) = ap (λ (zs : List Token). x ∷ zs) (whole xs)

classed_tokens : (front ts : List Token) (n before : ℕ) → n ≡ length front →
    AreTokens (front ++ ts) n (classed_from n before ts)
classed_tokens front [] n before e = e ∙ sym (ap (λ (zs : List Token). length zs) (whole front))
classed_tokens front (t ∷ ts) n before e = (
  record { index = refl; before = before; class = is },
  subst (λ z. AreTokens z (suc n) (classed_from (suc n) (class_by t.kind before t) ts)) (sym (moved front t ts))
      (classed_tokens (front ++ t ∷ []) ts (suc n) (class_by t.kind before t) (ap suc e ∙ sym (longer front t))),
)
  where
    here : token_at (front ++ t ∷ ts) n ≡ t
    here = subst (λ z. token_at (front ++ t ∷ ts) z ≡ t) (sym e) (at_middle front t ts)

    is : class_by t.kind before t ≡ class_by (token_at (front ++ t ∷ ts) n).kind before (token_at (front ++ t ∷ ts) n)
    is = ap (λ (z : Token). class_by z.kind before z) (sym here)

pub all_tokens : (tokens : List Token) → AreTokens tokens 0 (classed tokens)
all_tokens tokens = classed_tokens [] tokens 0 class.other refl
