-- Functions by their parameters, from the last to the first.
use Rattle.std.proofs.Common.{◌≡◌, ℕ, zero, suc, map, ◌+◌, ◌<◌, List, [], ◌∷◌, ◌++◌, length, take, drop, get_or, refl, sym, ap, ◌∙◌}
use Rattle.std.proofs.Common.{subst, arith, drop-cons}
use Rattle.std.proofs.lemmas.List.{take_more}
use Rattle.elm_canon.specs.Tree.{Pattern, patterns_of}
use Rattle.elm_canon.specs.View.{pattern_view}
use Rattle.elm_canon.specs.declared.tree.Pattern as declared
use Rattle.js_tree.specs.Tree.{JArrow, Stmts, Return}
use Rattle.js_tree.specs.Postorder.{Tree, Expression, BlockOf, StatementsOf}
use Rattle.js_emit.specs.Names.{now}
use Rattle.js_emit.specs.Patterns.{made_one, made_for, parameter, arrows}
use Rattle.decision_tree.specs.Before.{own_name, parameter_before}
use Rattle.decision_tree.specs.Opened.{opened, arrow_ended}
use Rattle.decision_tree.proofs.Binding.{parameter_law}

-- an element, seen
pub seen_at : (xs : List declared.Pattern) (i : ℕ) (x : declared.Pattern) → get_or xs i x ≡ x
    → get_or (map pattern_view xs) i (pattern_view x) ≡ pattern_view x
seen_at xs i x h = under xs i x ∙ ap pattern_view h
  where
    under : (xs : List declared.Pattern) (i : ℕ) (d : declared.Pattern)
        → get_or (map pattern_view xs) i (pattern_view d) ≡ pattern_view (get_or xs i d)
    under [] zero d = refl
    under [] (suc i) d = refl
    under (x ∷ xs) zero d = refl
    under (x ∷ xs) (suc i) d = under xs i d

pub made_push : (ps : List Pattern) (p : Pattern)
    → made_for (patterns_of (ps ++ p ∷ [])) ≡ made_for (patterns_of ps) + made_one p
made_push [] p = omega arith
made_push (q ∷ ps) p = omega (arith, made_push ps p)

pub opened_push : (d : ℕ) (ps : List Pattern) (p : Pattern) (ts : List Tree)
    → opened d (patterns_of (ps ++ p ∷ [])) ts
    ≡ StatementsOf (parameter_before (d + made_for (patterns_of ps)) p (own_name p)) ∷ opened d (patterns_of ps) ts
opened_push d [] p ts =
    let none : d ≡ d + 0 = omega arith in
    ap (λ n. StatementsOf (parameter_before n p (own_name p)) ∷ ts) none
opened_push d (q ∷ ps) p ts =
    let more : d + made_one q + made_for (patterns_of ps) ≡ d + (made_one q + made_for (patterns_of ps)) = omega arith in
    let us = StatementsOf (parameter_before d q (own_name q)) ∷ ts in
    opened_push (d + made_one q) ps p us
    ∙ ap (λ n. StatementsOf (parameter_before n p (own_name p)) ∷ opened (d + made_one q) (patterns_of ps) us) more

end_at : (first : ℕ) (a r : List Pattern) (p : Pattern) (s : Stmts) (us vs ts : List Tree)
    → us ≡ BlockOf (arrows (first + made_for (patterns_of (a ++ p ∷ []))) (patterns_of r) s)
    ∷ opened first (patterns_of (a ++ p ∷ [])) ts
    → vs ≡ arrow_ended (parameter (first + made_for (patterns_of a)) p) us
    → vs ≡ Expression (now (arrows (first + made_for (patterns_of a)) (patterns_of (p ∷ r)) s))
    ∷ opened first (patterns_of a) ts
end_at first a r p s us vs ts stands is =
    let d = first + made_for (patterns_of a) in
    let next : first + made_for (patterns_of (a ++ p ∷ [])) ≡ d + made_one p = omega (arith, made_push a p) in
    let b = arrows (d + made_one p) (patterns_of r) s in
    let us-is : us ≡ BlockOf b ∷ StatementsOf (parameter_before d p (own_name p)) ∷ opened first (patterns_of a) ts =
    stands ∙ (ap (λ n. BlockOf (arrows n (patterns_of r) s) ∷ opened first (patterns_of (a ++ p ∷ [])) ts) next
    ∙ ap (λ zs. BlockOf b ∷ zs) (opened_push first a p ts)) in
    is ∙ (ap (arrow_ended (parameter d p)) us-is
    ∙ ap (λ z. Expression (JArrow (parameter d p) z) ∷ opened first (patterns_of a) ts) (parameter_law d p b))

pub end_step : (first : ℕ) (qs : List Pattern) (i : ℕ) (p : Pattern) (s : Stmts) (us vs ts : List Tree)
    → i < length qs → get_or qs i p ≡ p
    → us ≡ BlockOf (arrows (first + made_for (patterns_of (take (i + 1) qs))) (patterns_of (drop (i + 1) qs)) s)
    ∷ opened first (patterns_of (take (i + 1) qs)) ts
    → vs ≡ arrow_ended (parameter (first + made_for (patterns_of (take i qs))) p) us
    → vs ≡ Expression (now (arrows (first + made_for (patterns_of (take i qs))) (patterns_of (drop i qs)) s))
    ∷ opened first (patterns_of (take i qs)) ts
end_step first qs i p s us vs ts h at stands is =
    let front : take (i + 1) qs ≡ take i qs ++ p ∷ [] = take_more qs i p h ∙ ap (λ z. take i qs ++ z ∷ []) at in
    let next : suc i ≡ i + 1 = omega arith in
    let back : drop i qs ≡ p ∷ drop (i + 1) qs =
    drop-cons qs i p h ∙ (ap (λ z. z ∷ drop (suc i) qs) at ∙ ap (λ n. p ∷ drop n qs) next) in
    subst (λ zs. vs ≡ Expression (now (arrows (first + made_for (patterns_of (take i qs))) (patterns_of zs) s))
    ∷ opened first (patterns_of (take i qs)) ts) (sym back)
    (end_at first (take i qs) (drop (i + 1) qs) p s us vs ts
    (stands ∙ ap (λ zs. BlockOf (arrows (first + made_for (patterns_of zs)) (patterns_of (drop (i + 1) qs)) s)
    ∷ opened first (patterns_of zs) ts) front) is)

-- the last of those that are left
pub made_last : (qs : List Pattern) (i : ℕ) (p : Pattern) → i < length qs → get_or qs i p ≡ p
    → made_for (patterns_of (take (i + 1) qs)) ≡ made_for (patterns_of (take i qs)) + made_one p
made_last qs i p h at =
    ap (λ zs. made_for (patterns_of zs)) (take_more qs i p h ∙ ap (λ z. take i qs ++ z ∷ []) at) ∙ made_push (take i qs) p

-- it is returned
pub returned : (d i : ℕ) (qs : List Pattern) (p : Pattern) (s : Stmts) → i < length qs
    → Return (now (arrows d (patterns_of (drop i qs)) s)) ≡ arrows d (patterns_of (drop i qs)) s
returned d i qs p s h =
    subst (λ zs. Return (now (arrows d (patterns_of zs) s)) ≡ arrows d (patterns_of zs) s) (sym (drop-cons qs i p h)) refl
