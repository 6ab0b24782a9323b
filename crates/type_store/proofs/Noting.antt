-- Which cells were changed.
use Rattle.std.proofs.Common.{◌≡◌, ℕ, ◌+◌, ◌<◌, ◌≤◌, List, [], ◌∷◌, ◌++◌, length, get_or, take, ⊎_elim, refl, sym, ap, ◌∙◌, subst, arith}
use Rattle.std.specs.List.{All, Contains}
use Rattle.std.proofs.lemmas.Bool.{cases_eq}
use Rattle.std.proofs.lemmas.List.{take_more, map_push}
use Rattle.std.proofs.lemmas.List.Elements.{All-push, Contains-push, Contains-append_left, Contains-append_cases}
use Rattle.type_store.specs.Steps.{Noted, Was, OfClass, OneMore, written}
use Rattle.type_store.specs.View.{change_view, trail_view}
use Rattle.type_store.specs.declared.change.Change.{Change}

pub pushed_within : (to x : ℕ) (old new : List ℕ) → new ≡ old ++ x ∷ [] → All (λ v. v < to) old → x < to → All (λ v. v < to) new
pushed_within to x old new e a l = subst (All (λ v. v < to)) (sym e) (All-push (λ v. v < to) old x a l)

pub pushed_kept : (x : ℕ) (old new : List ℕ) → new ≡ old ++ x ∷ [] → (v : ℕ) → Contains old v → Contains new v
pushed_kept x old new e v q = subst (λ xs. Contains xs v) (sym e) (Contains-append_left old (x ∷ []) v q)

pub pushed_there : (x : ℕ) (old new : List ℕ) → new ≡ old ++ x ∷ [] → (v : ℕ) → v ≡ x → Contains new v
pushed_there x old new e v q = subst (λ xs. Contains xs v) (sym e) (subst (Contains (old ++ x ∷ [])) (sym q) (Contains-push old x))

-- one more of those that were made
pub pushed_made : (from place x : ℕ) (old new : List ℕ) → new ≡ old ++ x ∷ [] → x ≡ place → ((v : ℕ) → from ≤ v → v < place → Contains old v)
    → (v : ℕ) → from ≤ v → v < place + 1 → Contains new v
pushed_made from place x old new e is made v h l = ⊎_elim
    (λ q. pushed_there x old new e v (q ∙ sym is))
    (λ n. pushed_kept x old new e v (made v h (omega (arith, l, n)))) (cases_eq v place)

written_pushed : (cs : List Noted) (c : Noted) → written (cs ++ c ∷ []) ≡ written cs ++ written (c ∷ [])
written_pushed [] c = refl
written_pushed (Was v slot ∷ cs) c = ap (λ vs. v ∷ vs) (written_pushed cs c)
written_pushed (OfClass v k ∷ cs) c = written_pushed cs c
written_pushed (OneMore v ∷ cs) c = written_pushed cs c

written_more : (trail : List Change) (i : ℕ) (c : Change) → i < length trail → c ≡ get_or trail i c
    → written (trail_view (take (i + 1) trail)) ≡ written (trail_view (take i trail)) ++ written (change_view c ∷ [])
written_more trail i c l e =
    ap (λ cs. written (trail_view cs)) (take_more trail i c l ∙ ap (λ x. take i trail ++ x ∷ []) (sym e))
    ∙ (ap written (map_push change_view (take i trail) c) ∙ written_pushed (trail_view (take i trail)) (change_view c))

-- one more of those that were written
pub noted_more : (trail : List Change) (i to : ℕ) (c : Change) (old new : List ℕ) → i < length trail → c ≡ get_or trail i c
    → ((v : ℕ) → v < to → Contains (written (trail_view (take i trail))) v → Contains old v)
    → ((v : ℕ) → Contains old v → Contains new v)
    → ((v : ℕ) → v < to → Contains (written (change_view c ∷ [])) v → Contains new v)
    → (v : ℕ) → v < to → Contains (written (trail_view (take (i + 1) trail))) v → Contains new v
noted_more trail i to c old new l e noted kept one v h q = ⊎_elim
    (λ p. kept v (noted v h p)) (one v h)
    (Contains-append_cases (written (trail_view (take i trail))) (written (change_view c ∷ [])) v (subst (λ vs. Contains vs v) (written_more trail i c l e) q))
