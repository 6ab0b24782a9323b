-- What is reported of a fault: its code, its place, and what it says.
use Rattle.std.specs.Prelude.{◌≡◌, ℕ, List, [], get_or, Option, Some, None}
use Rattle.elm_base.specs.declared.fault.Code.{Code}
use Rattle.elm_base.specs.declared.fault.Code.TheVariants.{Syntax, MixedOperators, LoneAnnotation}
use Rattle.elm_lexer.specs.Tokens.{Token, Place, Fault}
use Rattle.elm_tree.specs.Words.{no_token, token_at}
use Rattle.elm_parser.specs.Standing.{Finding}

-- the end of a text, as a token
abbrev pub end_token : Place → Token
end_token end = record no_token { start = end }

-- where the token begins, or where the text ends
abbrev pub place_at : List Token → Place → ℕ → Place
place_at tokens end i = (get_or tokens i (end_token end)).start

-- the operator that does not group, or the name that is annotated alone
abbrev pub detail_of : Code → List ℕ → List ℕ
detail_of MixedOperators text = text
detail_of LoneAnnotation text = text
detail_of _ text = []

abbrev pub reported : List Token → Place → Finding → Fault
reported tokens end f = record {
  code = f.1;
  place = place_at tokens end f.0;
  detail = detail_of f.1 (token_at tokens f.0).text;
}

-- a finding, or else that no text goes on as this token does
abbrev pub or_syntax : Option Finding → ℕ → Finding
or_syntax (Some f) i = f
or_syntax None i = (i, Syntax)

-- the fault tells a finding of which this holds
abbrev pub IsReported : List Token → Place → (Finding → Type 0) → Fault → Type 0
IsReported tokens end Holds f = (d : Finding) × Holds d × (f ≡ reported tokens end d)
