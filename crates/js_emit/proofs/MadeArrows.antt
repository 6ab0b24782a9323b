-- Functions of made names, from the last to the first.
use Rattle.std.proofs.Common.{◌≡◌, ℕ, zero, suc, List, ◌∷◌, refl, sym, ap, ◌∙◌, arith}
use Rattle.js_tree.specs.Tree.{Made, JArrow, Stmts, Return}
use Rattle.js_tree.specs.Postorder.{Tree, Expression, BlockOf}
use Rattle.js_emit.specs.Names.{made_names, now}
use Rattle.js_emit.specs.Operators.{arrows_of}
use Rattle.js_emit.specs.Open.{opens, arrow_ended}

-- the function of one name more in front
pub arrow_step : (d n m left k number : ℕ) (s : Stmts) (us vs ts : List Tree) → left ≡ suc k → m ≡ suc n → number ≡ d
    → us ≡ BlockOf (arrows_of (made_names (suc d) n) s) ∷ opens left ts → vs ≡ arrow_ended number us
    → vs ≡ Expression (now (arrows_of (made_names d m) s)) ∷ opens k ts
arrow_step d n m left k number s us vs ts el em en stands is =
    let b = arrows_of (made_names (suc d) n) s in
    is ∙ (ap (arrow_ended number) (stands ∙ ap (λ j. BlockOf b ∷ opens j ts) el)
    ∙ (ap (λ x. Expression (JArrow (Made x) b) ∷ opens k ts) en
    ∙ ap (λ j. Expression (now (arrows_of (made_names d j) s)) ∷ opens k ts) (sym em)))

-- it is returned
pub returned : (d m n : ℕ) (s : Stmts) → m ≡ suc n
    → Return (now (arrows_of (made_names d m) s)) ≡ arrows_of (made_names d m) s
returned d zero n s h = absurd (omega (arith, h))
returned d (suc m) n s h = refl
