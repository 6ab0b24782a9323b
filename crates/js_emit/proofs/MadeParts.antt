-- Parts that are made names.
use Rattle.std.proofs.Common.{◌≡◌, ℕ, zero, suc, ◌+◌, ℤ, List, ◌∷◌, refl, sym, ap, ◌∙◌, arith}
use Rattle.elm_canon.specs.Names.{Name}
use Rattle.js_tree.specs.Tree.{JVar, Made, JObject, NoJs}
use Rattle.js_tree.specs.Postorder.{Tree, Expression, items_then}
use Rattle.js_emit.specs.Names.{made_names, vars, tagged, fields_js}
use Rattle.js_emit.specs.Parts.{count_items, waiting, added}
use Rattle.js_emit.specs.Ends.{object_ended}
use Rattle.js_emit.specs.declared.shape.Shape.{Shape}
use Rattle.js_emit.specs.declared.shape.Shape.TheVariants as shape
use Rattle.js_emit.proofs.Waiting.{tagged_ended, record_ended}
use Rattle.js_emit.specs.Open.{made_items}

pub made_count : (n : ℕ) → count_items (made_items n) ≡ n
made_count zero = refl
made_count (suc n) = ap suc (made_count n)

made_then : (n m : ℕ) → items_then (made_items n) (vars (made_names n m)) ≡ vars (made_names 0 (n + m))
made_then zero m = ap (λ k. vars (made_names 0 k)) (omega arith)
made_then (suc n) m =
    made_then n (suc m) ∙ ap (λ k. vars (made_names 0 k)) (omega arith)

pub made_vars : (n : ℕ) → items_then (made_items n) NoJs ≡ vars (made_names 0 n)
made_vars n = made_then n 0 ∙ ap (λ k. vars (made_names 0 k)) (omega arith)

-- one part more
pub made_step : (s : Shape) (ks : List Name) (i : ℕ) (ts us vs ws : List Tree) → us ≡ waiting s ks (made_items i) ts
    → vs ≡ Expression (JVar (Made i)) ∷ us → ws ≡ added s ks i vs → ws ≡ waiting s ks (made_items (i + 1)) ts
made_step s ks i ts us vs ws before part is =
    let stands : vs ≡ Expression (JVar (Made i)) ∷ waiting s ks (made_items i) ts = part ∙ ap (λ zs. Expression (JVar (Made i)) ∷ zs) before in
    let up : suc i ≡ i + 1 = omega arith in
    is ∙ (ap (added s ks i) stands
    ∙ (ap (λ j. added s ks j (Expression (JVar (Made i)) ∷ waiting s ks (made_items i) ts)) (sym (made_count i))
    ∙ ap (λ j. waiting s ks (made_items j) ts) up))

pub tagged_made : (k : ℤ) (ks : List Name) (n : ℕ) (ts : List Tree)
    → object_ended (waiting (shape.Tagged k) ks (made_items n) ts) ≡ Expression (tagged k (vars (made_names 0 n))) ∷ ts
tagged_made k ks n ts = tagged_ended k ks (made_items n) ts ∙ ap (λ xs. Expression (tagged k xs) ∷ ts) (made_vars n)

pub record_made : (ks : List Name) (n : ℕ) (ts : List Tree)
    → object_ended (waiting shape.Record ks (made_items n) ts)
    ≡ Expression (JObject (fields_js ks (vars (made_names 0 n)))) ∷ ts
record_made ks n ts =
    record_ended ks (made_items n) ts ∙ ap (λ xs. Expression (JObject (fields_js ks xs)) ∷ ts) (made_vars n)
