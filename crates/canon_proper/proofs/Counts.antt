-- A text has no more tokens than bytes.
use Rattle.std.proofs.Common.{ℕ, ◌≤◌, List, length, Bool, Option, arith}
use Rattle.std.proofs.lemmas.List.{length-append, length-drop}
use Rattle.elm_lexer.specs.Tokens.{Place, Token, Fault, Reads, no_more, gap, open_comment, token, fault, Tokens}
use Rattle.elm_lexer.proofs.Starts.{token_cut}

cut_count : {p : Place} {touched : Bool} {text : List ℕ} {ts : List Token} {end : Option Fault} →
    Reads p touched text ts end → length ts ≤ length text
cut_count no_more = omega arith
cut_count (gap {rest = rest} body g h) = omega (arith, cut_count h, length-append body rest)
cut_count (open_comment b never) = omega arith
cut_count (token {text = text} {kind = kind} {n = n} b f h) =
    let c = token_cut text kind n f in
    omega (arith, cut_count h, c.some, c.within, length-drop n text)
cut_count (fault b f) = omega arith

pub tokens_count : (text : List ℕ) (ts : List Token) → Tokens text ts → length ts ≤ length text
tokens_count text ts h = cut_count h.1
