-- Each number among the tokens of a text is safe.
use Rattle.std.proofs.Common.{◌≡◌, ℕ, List, [], ◌∷◌, take, drop, Bool, true, false, Option, Some, None, nat_le, refl}
use Rattle.std.proofs.Common.{subst, arith, ◌==◌}
use Rattle.std.specs.Prelude.{if◌then◌else◌, option_and_then, ⊤}
use Rattle.std.specs.List.{list_any, All}
use Rattle.std.specs.Str.{bytes_eq}
use Rattle.std.proofs.lemmas.Bool.Decides.{nat_tests}
use Rattle.std.proofs.lemmas.List.Elements.{All-nil, All-cons}
use Rattle.elm_lexer.specs.declared.token.Kind.{Kind}
use Rattle.elm_lexer.specs.declared.token.Kind.TheVariants.{Int, Text, Char, LowerName, UpperName, QualifiedLower}
use Rattle.elm_lexer.specs.declared.token.Kind.TheVariants.{QualifiedUpper, Backslash, Operator}
use Rattle.elm_lexer.specs.Characters.{is_letter, is_digit, is_mark, is_operator_char}
use Rattle.elm_lexer.specs.Kinds.{kind_in, reserved_kinds, marks, operators, begins_upper, begins_field, field_of}
use Rattle.elm_lexer.specs.Kinds.{field_kind, last_word, name_kind, number_value, int_of, wildcard_kind, kind_of}
use Rattle.elm_lexer.specs.Literals.{literal_kind, is_character}
use Rattle.elm_lexer.specs.Tokens.{Place, Token, Fault, Reads, no_more, gap, open_comment, token, fault, token_at}
use Rattle.elm_lexer.proofs.Starts.{TokenOf, of_piece, of_literal, token_is}
use Rattle.canon_expr.specs.Literals.{IsSafe}

abbrev IfSafe : Option Kind → Type 0
IfSafe (Some k) = IsSafe k
IfSafe None = ⊤

abbrev AreSafe : List (List ℕ × Kind) → Type 0
AreSafe [] = ⊤
AreSafe (r ∷ rs) = IsSafe r.1 × AreSafe rs

either_kind : (b : Bool) (x y : Kind) → IsSafe x → IsSafe y → IsSafe (if b then x else y)
either_kind true x y p q = p
either_kind false x y p q = q

if_either : (b : Bool) (x y : Option Kind) → IfSafe x → IfSafe y → IfSafe (if b then x else y)
if_either true x y p q = p
if_either false x y p q = q

in_table : (rows : List (List ℕ × Kind)) (piece : List ℕ) (other : Kind) → AreSafe rows → IsSafe other →
    IsSafe (kind_in rows piece other)
in_table [] piece other ps q = q
in_table (r ∷ rows) piece other ps q = either_kind (bytes_eq piece r.0) _ _ ps.0 (in_table rows piece other ps.1 q)

reserved_safe : AreSafe reserved_kinds
reserved_safe = (tt, (tt, (tt, (tt, (tt, (tt, (tt, (tt, (tt, (tt, (tt, (tt, (tt, (tt, tt))))))))))))))

marks_safe : AreSafe marks
marks_safe = (tt, (tt, (tt, (tt, (tt, (tt, (tt, tt)))))))

operators_safe : AreSafe operators
operators_safe = (tt, (tt, (tt, (tt, (tt, (tt, tt))))))

name_safe : (name : List ℕ) → IsSafe (name_kind name)
name_safe name =
    either_kind (list_any (λ c. c == 46) name) _ _
    (either_kind (begins_upper (last_word name name)) QualifiedUpper QualifiedLower tt tt)
    (in_table reserved_kinds name (if begins_upper name then UpperName else LowerName) reserved_safe
    (either_kind (begins_upper name) UpperName LowerName tt tt))

number_safe : (o : Option ℕ) → IfSafe (option_and_then int_of o)
number_safe None = tt
number_safe (Some n) = by (nat_le n 9007199254740991) refl
  where
    by : (b : Bool) → nat_le n 9007199254740991 ≡ b → IfSafe (if b then Some (Int n) else None)
    by true e = grind (arith, nat_tests)
    by false e = tt

wildcard_safe : (cs : List ℕ) → IfSafe (wildcard_kind cs)
wildcard_safe [] = tt
wildcard_safe (c ∷ cs) = tt

field_safe : (k : Kind) → IfSafe (field_of k)
field_safe LowerName = tt
field_safe _ = tt

piece_safe : (piece : List ℕ) → IfSafe (kind_of piece)
piece_safe [] = tt
piece_safe (c ∷ cs) =
    if_either (is_letter c) (Some (name_kind (c ∷ cs))) _ (name_safe (c ∷ cs))
    (if_either (is_digit c) _ _ (number_safe (number_value (c ∷ cs)))
    (if_either (c == 95) _ _ (wildcard_safe cs)
    (if_either (begins_field (c ∷ cs)) (field_kind cs) _ (field_safe (kind_in reserved_kinds cs LowerName))
    (if_either (is_mark c) (Some (kind_in marks (c ∷ cs) Backslash)) _ (in_table marks (c ∷ cs) Backslash marks_safe tt)
    (if_either (is_operator_char c) (Some (kind_in operators (c ∷ cs) Operator)) None
    (in_table operators (c ∷ cs) Operator operators_safe tt) tt)))))

literal_safe : (text : List ℕ) → IfSafe (literal_kind text)
literal_safe [] = tt
literal_safe (c ∷ cs) =
    if_either (c == 34) (Some Text) _ tt (if_either (is_character (c ∷ cs)) (Some Char) None tt tt)

token_safe : (t : List ℕ) (kind : Kind) (n : ℕ) → TokenOf t kind n → IsSafe kind
token_safe t kind n (of_piece long c k) = subst IfSafe k (piece_safe (take n t))
token_safe t kind n (of_literal b l x k) = subst IfSafe k (literal_safe (take n t))

pub numbers_safe : {p : Place} {touched : Bool} {text : List ℕ} {ts : List Token} {end : Option Fault} →
    Reads p touched text ts end → All (λ t. IsSafe t.kind) ts
numbers_safe no_more = All-nil (λ (t : Token). IsSafe t.kind)
numbers_safe (gap body g h) = numbers_safe h
numbers_safe (open_comment b never) = All-nil (λ (t : Token). IsSafe t.kind)
numbers_safe (token {p = p} {touched = touched} {text = text} {kind = kind} {n = n} {ts = ts} b f h) =
    All-cons (λ (t : Token). IsSafe t.kind) (token_at p touched (take n text) kind (drop n text)) ts
    (token_safe text kind n (token_is text kind n f)) (numbers_safe h)
numbers_safe (fault b f) = All-nil (λ (t : Token). IsSafe t.kind)
