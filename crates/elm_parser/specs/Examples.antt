-- The faults of small texts, worked out.
use Rattle.std.specs.Prelude.{◌≡◌, ℕ, List, [], ◌∷◌, map, Option, Some, None, codes}
use Rattle.elm_base.specs.declared.fault.Code.TheVariants.{MixedOperators, TupleTooLarge, LoneAnnotation}
use Rattle.elm_lexer.specs.declared.token.Kind.TheVariants.{Let, In, LowerName, UpperName, Int, OpenParen, CloseParen}
use Rattle.elm_lexer.specs.declared.token.Kind.TheVariants.{Comma, Equals, Colon, Operator}
use Rattle.elm_lexer.specs.Tokens.{Token}
use Rattle.parse_machine.specs.Grammar.{Tree}
use Rattle.elm_grammar.specs.Table as table
use Rattle.elm_grammar.specs.Search.{derived}
use Rattle.elm_grammar.specs.Examples.{apart, leading, trailing}
use Rattle.elm_parser.specs.Faults.{faults_of}
use Rattle.elm_parser.specs.Standing.{Finding, finding}

abbrev pub found_faults : List Token → Option Tree → Option (List Finding)
found_faults tokens (Some x) = Some (map finding (faults_of tokens x))
found_faults tokens None = None

-- the faults of what the tokens spell as nonterminal n under the column
abbrev pub faults : (n column : ℕ) → List Token → Option (List Finding)
faults n column tokens = found_faults tokens (derived n column tokens)

-- ( a, b, c, d ): the third comma
abbrev pub FourParts : Type 0
FourParts =
    faults table.Expression 0
    (trailing OpenParen 1 1 (codes "(") ∷ leading LowerName 1 3 (codes "a") ∷ trailing Comma 1 4 (codes ",")
    ∷ leading LowerName 1 6 (codes "b") ∷ trailing Comma 1 7 (codes ",") ∷ leading LowerName 1 9 (codes "c")
    ∷ trailing Comma 1 10 (codes ",") ∷ apart LowerName 1 12 (codes "d") ∷ leading CloseParen 1 14 (codes ")") ∷ [])
    ≡ Some ((6, TupleTooLarge) ∷ [])

-- ( a, b, c )
abbrev pub ThreeParts : Type 0
ThreeParts =
    faults table.Expression 0
    (trailing OpenParen 1 1 (codes "(") ∷ leading LowerName 1 3 (codes "a") ∷ trailing Comma 1 4 (codes ",")
    ∷ leading LowerName 1 6 (codes "b") ∷ trailing Comma 1 7 (codes ",") ∷ apart LowerName 1 9 (codes "c")
    ∷ leading CloseParen 1 11 (codes ")") ∷ [])
    ≡ Some ([])

-- a == b == c: the second operator
abbrev pub Comparisons : Type 0
Comparisons =
    faults table.Expression 0
    (trailing LowerName 1 1 (codes "a") ∷ apart Operator 1 3 (codes "==") ∷ apart LowerName 1 6 (codes "b")
    ∷ apart Operator 1 8 (codes "==") ∷ leading LowerName 1 11 (codes "c") ∷ [])
    ≡ Some ((3, MixedOperators) ∷ [])

-- an annotation before the definition of another name
abbrev pub LoneInLet : Type 0
LoneInLet =
    faults table.Expression 0
    (trailing Let 1 1 (codes "let") ∷ apart LowerName 2 3 (codes "x") ∷ apart Colon 2 5 (codes ":")
    ∷ apart UpperName 2 7 (codes "T") ∷ apart LowerName 3 3 (codes "y") ∷ apart Equals 3 5 (codes "=")
    ∷ apart (Int 1) 3 7 (codes "1") ∷ apart In 4 1 (codes "in") ∷ leading LowerName 4 4 (codes "y") ∷ [])
    ≡ Some ((1, LoneAnnotation) ∷ [])

-- the same before its own definition
abbrev pub WithDefinition : Type 0
WithDefinition =
    faults table.Expression 0
    (trailing Let 1 1 (codes "let") ∷ apart LowerName 2 3 (codes "x") ∷ apart Colon 2 5 (codes ":")
    ∷ apart UpperName 2 7 (codes "T") ∷ apart LowerName 3 3 (codes "x") ∷ apart Equals 3 5 (codes "=")
    ∷ apart (Int 1) 3 7 (codes "1") ∷ apart In 4 1 (codes "in") ∷ leading LowerName 4 4 (codes "x") ∷ [])
    ≡ Some ([])

-- x : T at the end of a module
abbrev pub LoneAtEnd : Type 0
LoneAtEnd =
    faults table.Module 1
    (trailing LowerName 1 1 (codes "x") ∷ apart Colon 1 3 (codes ":") ∷ leading UpperName 1 5 (codes "T") ∷ [])
    ≡ Some ((0, LoneAnnotation) ∷ [])
