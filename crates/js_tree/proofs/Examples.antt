-- Spellings, computed.
use Rattle.std.proofs.Common.{◌≡◌, negsuc, [], ◌∷◌, ◌++◌, List, ℕ, refl, ap, arith, codes}
use Rattle.std.proofs.lemmas.Fmt.{decimal_digit}
use Rattle.js_tree.specs.Tree.{JInt}
use Rattle.js_tree.specs.Text.{js_text, text_text}

negative : js_text (JInt (negsuc 4)) ≡ codes "(-5)"
negative = ap (λ (ds : List ℕ). codes "(-" ++ ds ++ codes ")") (decimal_digit 5 (omega arith))

escaped : text_text (233 ∷ 34 ∷ []) ≡ codes "\"\\u00E9\\\"\""
escaped = refl
