-- Small texts, worked out: the trees that they spell.
use Rattle.std.specs.Prelude.{◌≡◌, ℕ, pos, List, [], ◌∷◌, Bool, true, false, Option, Some, None, codes}
use Rattle.elm_lexer.specs.declared.token.Kind.{Kind}
use Rattle.elm_lexer.specs.declared.token.Kind.TheVariants.{Case, Of, Let, In, «Type», Module, Exposing, Port, As}
use Rattle.elm_lexer.specs.declared.token.Kind.TheVariants.{LowerName, UpperName, QualifiedLower, QualifiedUpper, Int}
use Rattle.elm_lexer.specs.declared.token.Kind.TheVariants.{Text, Field, Underscore, OpenParen, CloseParen, OpenBrace}
use Rattle.elm_lexer.specs.declared.token.Kind.TheVariants.{CloseBrace, Comma, Equals, Arrow, Colon, Bar, Dots}
use Rattle.elm_lexer.specs.declared.token.Kind.TheVariants.{Backslash, Operator}
use Rattle.elm_lexer.specs.Tokens.{Token}
use Rattle.elm_tree.specs.Tree as tree
use Rattle.elm_tree.specs.Tree.{Pos, Word, Long, Expr, Is, IntL, OperatorName, Accessor, Lambda, Apply, Chain, Negate}
use Rattle.elm_tree.specs.Tree.{Update, Access, NoExpr, MoreExpr, NoPart, MorePart, NoBranch, MoreBranch, NoDefinition}
use Rattle.elm_tree.specs.Tree.{MoreDefinition, Define, Anything, Named, ConsPattern, Construct, Exactly, NoPattern}
use Rattle.elm_tree.specs.Tree.{MorePattern, TypeVariable, TypeName, FunctionType, TupleType, NoType, MoreType, Value}
use Rattle.elm_tree.specs.Tree.{Alias, Everything}
use Rattle.elm_grammar.specs.Table as table
use Rattle.elm_grammar.specs.Values.{expr, shape, type_tree, One}
use Rattle.elm_grammar.specs.declared.action.Item.TheVariants as item
use Rattle.elm_grammar.specs.Search.{read}

-- ---- tokens: a kind, a row, a column and a text, with white space before and after it, or on one side, or on none

abbrev pub token : Bool → Bool → Kind → ℕ → ℕ → List ℕ → Token
token before after kind row column text = record {
  kind = kind;
  text = text;
  start = record { row = row; column = column };
  space_before = before;
  space_after = after;
}

abbrev pub apart : Kind → ℕ → ℕ → List ℕ → Token
apart = token true true

abbrev pub leading : Kind → ℕ → ℕ → List ℕ → Token
leading = token true false

abbrev pub trailing : Kind → ℕ → ℕ → List ℕ → Token
trailing = token false true

abbrev pub tight : Kind → ℕ → ℕ → List ℕ → Token
tight = token false false

-- ---- parts of trees

abbrev pub at : ℕ → ℕ → Pos
at row column = record { row = row; column = column }

abbrev pub word : ℕ → ℕ → List ℕ → Word
word row column text = record { place = at row column; text = text }

abbrev pub long : ℕ → ℕ → List ℕ → Long
long row column text = record { place = at row column; qualifier = []; text = text }

abbrev pub name : ℕ → ℕ → List ℕ → Expr
name row column text = tree.Name (long row column text)

abbrev pub number : ℕ → ℕ → ℕ → Expr
number row column n = Is (at row column) (IntL (pos n))

-- ---- what texts spell

-- f -1: an argument
abbrev pub NegativeArgument : Type 0
NegativeArgument =
    read table.Expression 0 expr
    (trailing LowerName 1 1 (codes "f") ∷ leading Operator 1 3 (codes "-") ∷ tight (Int 1) 1 4 (codes "1") ∷ [])
    ≡ Some (Apply (name 1 1 (codes "f")) (MoreExpr (Negate (at 1 3) (number 1 4 1)) NoExpr))

-- f - 1 and f-1: a difference
abbrev pub Difference : Type 0
Difference =
    read table.Expression 0 expr
    (trailing LowerName 1 1 (codes "f") ∷ apart Operator 1 3 (codes "-") ∷ leading (Int 1) 1 5 (codes "1") ∷ [])
    ≡ Some (Chain (name 1 1 (codes "f")) (MorePart (word 1 3 (codes "-")) (number 1 5 1) NoPart))

abbrev pub TightDifference : Type 0
TightDifference =
    read table.Expression 0 expr
    (tight LowerName 1 1 (codes "f") ∷ tight Operator 1 2 (codes "-") ∷ tight (Int 1) 1 3 (codes "1") ∷ [])
    ≡ Some (Chain (name 1 1 (codes "f")) (MorePart (word 1 2 (codes "-")) (number 1 3 1) NoPart))

-- -f x: the negative of f is applied
abbrev pub NegatedFunction : Type 0
NegatedFunction =
    read table.Expression 0 expr
    (tight Operator 1 1 (codes "-") ∷ trailing LowerName 1 2 (codes "f") ∷ leading LowerName 1 4 (codes "x") ∷ [])
    ≡ Some (Apply (Negate (at 1 1) (name 1 2 (codes "f"))) (MoreExpr (name 1 4 (codes "x")) NoExpr))

-- - x: a minus that touches nothing begins no operand
abbrev pub MinusApart : Type 0
MinusApart =
    read table.Expression 0 expr
    (trailing Operator 1 1 (codes "-") ∷ leading LowerName 1 3 (codes "x") ∷ [])
    ≡ None

-- (-) and (-x): the operator alone, and a negative
abbrev pub MinusFunction : Type 0
MinusFunction =
    read table.Expression 0 expr
    (tight OpenParen 1 1 (codes "(") ∷ tight Operator 1 2 (codes "-") ∷ tight CloseParen 1 3 (codes ")") ∷ [])
    ≡ Some (OperatorName (word 1 2 (codes "-")))

abbrev pub BracketedNegative : Type 0
BracketedNegative =
    read table.Expression 0 expr
    (tight OpenParen 1 1 (codes "(") ∷ tight Operator 1 2 (codes "-") ∷ tight LowerName 1 3 (codes "x")
    ∷ tight CloseParen 1 4 (codes ")") ∷ [])
    ≡ Some (Negate (at 1 2) (name 1 3 (codes "x")))

-- a + b * c: flat, whatever the levels are
abbrev pub FlatChain : Type 0
FlatChain =
    read table.Expression 0 expr
    (trailing LowerName 1 1 (codes "a") ∷ apart Operator 1 3 (codes "+") ∷ apart LowerName 1 5 (codes "b")
    ∷ apart Operator 1 7 (codes "*") ∷ leading LowerName 1 9 (codes "c") ∷ [])
    ≡ Some (Chain (name 1 1 (codes "a"))
    (MorePart (word 1 3 (codes "+")) (name 1 5 (codes "b"))
    (MorePart (word 1 7 (codes "*")) (name 1 9 (codes "c")) NoPart)))

-- f r.x.y .z: an access directly after r, and a function
abbrev pub Accesses : Type 0
Accesses =
    read table.Expression 0 expr
    (trailing LowerName 1 1 (codes "f") ∷ leading LowerName 1 3 (codes "r") ∷ tight Field 1 4 (codes ".x")
    ∷ trailing Field 1 6 (codes ".y") ∷ leading Field 1 9 (codes ".z") ∷ [])
    ≡ Some (Apply (name 1 1 (codes "f"))
    (MoreExpr (Access (at 1 3) (name 1 3 (codes "r")) (word 1 4 (codes "x") ∷ word 1 6 (codes "y") ∷ []))
    (MoreExpr (Accessor (word 1 9 (codes "z"))) NoExpr)))

-- (f x).y begins at the bracket, and f x at f
abbrev pub BracketAccess : Type 0
BracketAccess =
    read table.Expression 0 expr
    (tight OpenParen 1 1 (codes "(") ∷ trailing LowerName 1 2 (codes "f") ∷ leading LowerName 1 4 (codes "x")
    ∷ tight CloseParen 1 5 (codes ")") ∷ tight Field 1 6 (codes ".y") ∷ [])
    ≡ Some (Access (at 1 1) (Apply (name 1 2 (codes "f")) (MoreExpr (name 1 4 (codes "x")) NoExpr))
    (word 1 6 (codes "y") ∷ []))

-- { r | x = 1 }
abbrev pub Updated : Type 0
Updated =
    read table.Expression 0 expr
    (trailing OpenBrace 1 1 (codes "{") ∷ apart LowerName 1 3 (codes "r") ∷ apart Bar 1 5 (codes "|")
    ∷ apart LowerName 1 7 (codes "x") ∷ apart Equals 1 9 (codes "=") ∷ apart (Int 1) 1 11 (codes "1")
    ∷ leading CloseBrace 1 13 (codes "}") ∷ [])
    ≡ Some (Update (at 1 1) (word 1 3 (codes "r")) (MorePart (word 1 7 (codes "x")) (number 1 11 1) NoPart))

-- f <| \x -> x + 1: the last operand reaches to the end
abbrev pub LastOperand : Type 0
LastOperand =
    read table.Expression 0 expr
    (trailing LowerName 1 1 (codes "f") ∷ apart Operator 1 3 (codes "<|") ∷ leading Backslash 1 6 (codes "\\")
    ∷ trailing LowerName 1 7 (codes "x") ∷ apart Arrow 1 9 (codes "->") ∷ apart LowerName 1 12 (codes "x")
    ∷ apart Operator 1 14 (codes "+") ∷ leading (Int 1) 1 16 (codes "1") ∷ [])
    ≡ Some (Chain (name 1 1 (codes "f"))
    (MorePart (word 1 3 (codes "<|"))
    (Lambda (at 1 6) (MorePattern (Named (word 1 7 (codes "x"))) NoPattern)
    (Chain (name 1 12 (codes "x")) (MorePart (word 1 14 (codes "+")) (number 1 16 1) NoPart))) NoPart))

-- a case with two branches in one column
abbrev pub Branches : Type 0
Branches =
    read table.Expression 1 expr
    (apart Case 1 3 (codes "case") ∷ apart LowerName 1 8 (codes "x") ∷ apart Of 1 10 (codes "of")
    ∷ apart (Int 0) 2 5 (codes "0") ∷ apart Arrow 2 7 (codes "->") ∷ apart LowerName 2 10 (codes "a")
    ∷ apart Underscore 3 5 (codes "_") ∷ apart Arrow 3 7 (codes "->") ∷ leading LowerName 3 10 (codes "b") ∷ [])
    ≡ Some (tree.Case (at 1 3) (name 1 8 (codes "x"))
    (MoreBranch (Exactly (at 2 5) (IntL (pos 0))) (name 2 10 (codes "a"))
    (MoreBranch (Anything (at 3 5)) (name 3 10 (codes "b")) NoBranch)))

-- the same with the second branch a column to the left
abbrev pub OtherColumn : Type 0
OtherColumn =
    read table.Expression 1 expr
    (apart Case 1 3 (codes "case") ∷ apart LowerName 1 8 (codes "x") ∷ apart Of 1 10 (codes "of")
    ∷ apart (Int 0) 2 5 (codes "0") ∷ apart Arrow 2 7 (codes "->") ∷ apart LowerName 2 10 (codes "a")
    ∷ apart Underscore 3 4 (codes "_") ∷ apart Arrow 3 6 (codes "->") ∷ leading LowerName 3 9 (codes "b") ∷ [])
    ≡ None

-- let x = 1 in x, where `in` stands in the column of the definition
abbrev pub InLet : Type 0
InLet =
    read table.Expression 0 expr
    (trailing Let 1 1 (codes "let") ∷ apart LowerName 1 5 (codes "x") ∷ apart Equals 1 7 (codes "=")
    ∷ apart (Int 1) 1 9 (codes "1") ∷ apart In 2 5 (codes "in") ∷ leading LowerName 2 8 (codes "x") ∷ [])
    ≡ Some (tree.Let (MoreDefinition (Define (word 1 5 (codes "x")) NoPattern (number 1 9 1)) NoDefinition)
    (name 2 8 (codes "x")))

-- a -> List b -> ( c, d )
abbrev pub ArrowType : Type 0
ArrowType =
    read table.Typing 0 type_tree
    (trailing LowerName 1 1 (codes "a") ∷ apart Arrow 1 3 (codes "->") ∷ apart UpperName 1 6 (codes "List")
    ∷ apart LowerName 1 11 (codes "b") ∷ apart Arrow 1 13 (codes "->") ∷ apart OpenParen 1 16 (codes "(")
    ∷ leading LowerName 1 18 (codes "c") ∷ trailing Comma 1 19 (codes ",") ∷ apart LowerName 1 21 (codes "d")
    ∷ leading CloseParen 1 23 (codes ")") ∷ [])
    ≡ Some (FunctionType
    (MoreType (TypeVariable (word 1 1 (codes "a")))
    (MoreType (TypeName (long 1 6 (codes "List")) (MoreType (TypeVariable (word 1 11 (codes "b"))) NoType))
    (MoreType
    (TupleType
    (MoreType (TypeVariable (word 1 18 (codes "c")))
    (MoreType (TypeVariable (word 1 21 (codes "d"))) NoType))) NoType))))

-- (Just x) :: _ as all begins at the bracket
abbrev pub NamedPattern : Type 0
NamedPattern =
    read table.Pattern 0 shape
    (tight OpenParen 1 1 (codes "(") ∷ trailing UpperName 1 2 (codes "Just") ∷ leading LowerName 1 7 (codes "x")
    ∷ trailing CloseParen 1 8 (codes ")") ∷ apart Operator 1 10 (codes "::") ∷ apart Underscore 1 13 (codes "_")
    ∷ apart As 1 15 (codes "as") ∷ leading LowerName 1 18 (codes "all") ∷ [])
    ≡ Some (record {
      place = at 1 1;
      pattern =
          tree.As (at 1 1)
          (ConsPattern (at 1 1)
          (MorePattern (Construct (long 1 2 (codes "Just")) (MorePattern (Named (word 1 7 (codes "x"))) NoPattern))
          (MorePattern (Anything (at 1 13)) NoPattern))) (word 1 18 (codes "all"));
    })

-- type alias A = B, and alias = 1: a name but after `type`
abbrev pub AliasName : Type 0
AliasName =
    read table.Module 1 (One item.Module)
    (trailing «Type» 1 1 (codes "type") ∷ apart LowerName 1 6 (codes "alias") ∷ apart UpperName 1 12 (codes "A")
    ∷ apart Equals 1 14 (codes "=") ∷ apart UpperName 1 16 (codes "B") ∷ apart LowerName 2 1 (codes "alias")
    ∷ apart Equals 2 7 (codes "=") ∷ leading (Int 1) 2 9 (codes "1") ∷ [])
    ≡ Some (record {
      head = record { header = None; imports = [] };
      declarations =
          Alias (word 1 12 (codes "A")) [] (TypeName (long 1 16 (codes "B")) NoType)
          ∷ Value (Define (word 2 1 (codes "alias")) NoPattern (number 2 9 1)) ∷ [];
    })

-- port module M exposing (..) and port p : T
abbrev pub PortModule : Type 0
PortModule =
    read table.Module 1 (One item.Module)
    (trailing Port 1 1 (codes "port") ∷ apart Module 1 6 (codes "module") ∷ apart UpperName 1 13 (codes "M")
    ∷ apart Exposing 1 15 (codes "exposing") ∷ leading OpenParen 1 24 (codes "(") ∷ tight Dots 1 25 (codes "..")
    ∷ trailing CloseParen 1 27 (codes ")") ∷ apart Port 2 1 (codes "port") ∷ apart LowerName 2 6 (codes "p")
    ∷ apart Colon 2 8 (codes ":") ∷ leading UpperName 2 10 (codes "T") ∷ [])
    ≡ Some (record {
      head = record {
        header = Some (record {
          has_ports = true;
          name = word 1 13 (codes "M");
          exposes =
              Everything;
        });
        imports = [];
      };
      declarations = tree.Port (word 2 6 (codes "p"))
          (TypeName (long 2 10 (codes "T")) NoType) ∷ [];
    })
