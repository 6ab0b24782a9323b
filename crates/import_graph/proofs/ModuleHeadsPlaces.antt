-- Words of the program as tokens.
use Rattle.std.proofs.Common.{◌≡◌, ℕ, ◌≤◌, List, length, map, get_or, true, false, ltb, sym, ap, ◌∙◌, arith}
use Rattle.std.proofs.lemmas.Bool.{ltb-true, ltb-false}
use Rattle.std.proofs.lemmas.List.{get_or-map, get_or_past, length-map}
use Rattle.elm_lexer.specs.View.{token_view}
use Rattle.elm_lexer.specs.declared.token.Token.{Token}
use Rattle.elm_tree.specs.Words.{token_at, no_token}

pub token_there : (tokens : List Token) (i : ℕ) (t : Token) → true ≡ ltb i (length tokens) → t ≡ get_or tokens i t → token_view t ≡ token_at (map token_view tokens) i
token_there tokens i t l e = ap token_view e ∙ sym (get_or-map token_view tokens i t no_token (ltb-true i (length tokens) (sym l)))

pub no_token_there : (tokens : List Token) (i : ℕ) → false ≡ ltb i (length tokens) → no_token ≡ token_at (map token_view tokens) i
no_token_there tokens i l =
    let past : length tokens ≤ i = ltb-false i (length tokens) (sym l) in
    sym (get_or_past (map token_view tokens) i no_token (omega (arith, past, length-map tokens token_view)))
