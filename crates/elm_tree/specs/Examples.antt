-- Chains of operators and single tokens, worked out.
use Rattle.std.specs.Prelude.{◌≡◌, ℕ, pos, List, [], ◌∷◌, codes, false}
use Rattle.elm_lexer.specs.declared.token.Kind.{Kind}
use Rattle.elm_lexer.specs.declared.token.Kind.TheVariants.{QualifiedLower, UpperName, Field, Int}
use Rattle.elm_lexer.specs.Tokens.{Token}
use Rattle.elm_tree.specs.Tree.{Pos, Word, Is, Name, Constructor, Accessor, IntL}
use Rattle.elm_tree.specs.Words.{expr_of}
use Rattle.elm_tree.specs.Regroup.{Leaf, Node, grouped, clashing, Operand, Join, turns}

-- an operator in row 1
abbrev pub at : ℕ → List ℕ → Word
at column text = record { place = record { row = 1; column = column }; text = text }

-- 1 - 2 - 3
abbrev pub ToTheLeft : Type 0
ToTheLeft = grouped {A =
    ℕ} 1 ((at 3 (codes "-"), 2) ∷ (at 7 (codes "-"), 3) ∷ [])
    ≡ Node (Node (Leaf 1) (at 3 (codes "-")) (Leaf 2)) (at 7 (codes "-")) (Leaf 3)

-- 1 :: 2 ++ 3
abbrev pub ToTheRight : Type 0
ToTheRight = grouped {A =
    ℕ} 1 ((at 3 (codes "::"), 2) ∷ (at 8 (codes "++"), 3) ∷ [])
    ≡ Node (Leaf 1) (at 3 (codes "::")) (Node (Leaf 2) (at 8 (codes "++")) (Leaf 3))

-- 1 < 2 * 3 + 4
abbrev pub ByLevels : Type 0
ByLevels =
    grouped {A = ℕ} 1 ((at 3 (codes "<"), 2) ∷ (at 7 (codes "*"), 3) ∷ (at 11 (codes "+"), 4) ∷ [])
    ≡ Node (Leaf 1) (at 3 (codes "<")) (Node (Node (Leaf 2) (at 7 (codes "*")) (Leaf 3)) (at 11 (codes "+")) (Leaf 4))

-- 1 ^ 2 +++ 3: an unknown operator binds tightest
abbrev pub Unknown : Type 0
Unknown = grouped {A =
    ℕ} 1 ((at 3 (codes "^"), 2) ∷ (at 7 (codes "+++"), 3) ∷ [])
    ≡ Node (Leaf 1) (at 3 (codes "^")) (Node (Leaf 2) (at 7 (codes "+++")) (Leaf 3))

-- a == b == c: the second does not group
abbrev pub NoSides : Type 0
NoSides = clashing (λ op. op) (at 3 (codes "==") ∷ at 8 (codes "==") ∷ []) ≡ at 8 (codes "==") ∷ []

-- a <| b |> c, and a < b && c < d, where a lower one stands between
abbrev pub OtherSides : Type 0
OtherSides = clashing (λ op. op) (at 3 (codes "<|") ∷ at 8 (codes "|>") ∷ []) ≡ at 8 (codes "|>") ∷ []

abbrev pub LowerBetween : Type 0
LowerBetween = clashing (λ op. op) (at 3 (codes "<") ∷ at 7 (codes "&&") ∷ at 12 (codes "<") ∷ []) ≡ []

-- a < b * c + d: a, b, c, then *, d, then + and <
abbrev pub InTurns : Type 0
InTurns =
    turns (at 3 (codes "<") ∷ at 7 (codes "*") ∷ at 11 (codes "+") ∷ [])
    ≡ Operand 0 ∷ Operand 1 ∷ Operand 2 ∷ Join (at 7 (codes "*")) ∷ Operand 3 ∷ Join (at 11 (codes "+"))
    ∷ Join (at 3 (codes "<")) ∷ []

-- ---- single tokens, in row 2 and column 5

abbrev pub here : Pos
here = record { row = 2; column = 5 }

abbrev pub token : Kind → List ℕ → Token
token kind text = record {
  kind = kind;
  text = text;
  start = record { row = 2; column = 5 };
  space_before = false;
  space_after = false;
}

-- List.Extra.map has the module List.Extra
abbrev pub Qualified : Type 0
Qualified = expr_of (token QualifiedLower (codes "List.Extra.map")) ≡ Name (record {
  place = here;
  qualifier = codes "List.Extra";
  text = codes "map";
})

abbrev pub Unqualified : Type 0
Unqualified = expr_of (token UpperName (codes "Just")) ≡ Constructor (record {
  place = here;
  qualifier = [];
  text = codes "Just";
})

-- .x
abbrev pub OfField : Type 0
OfField = expr_of (token Field (codes ".x")) ≡ Accessor (record { place = here; text = codes "x" })

-- 0x1F
abbrev pub Number : Type 0
Number = expr_of (token (Int 31) (codes "0x1F")) ≡ Is here (IntL (pos 31))
