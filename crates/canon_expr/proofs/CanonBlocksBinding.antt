-- Which definition binds a name at a place, one name after the other.
use Rattle.std.proofs.Common.{◌≡◌, ℕ, suc, ◌<◌, List, [], ◌∷◌, ◌++◌, Bool, true, false, if◌then◌else◌, ◌||◌}
use Rattle.std.proofs.Common.{Some, None, length, refl, sym, ap, ◌∙◌, arith}
use Rattle.std.specs.Prelude.{Option, option_map, option_and_then, is_some, nat_eq}
use Rattle.std.proofs.lemmas.Bool.{eqb-true, false≢true}
use Rattle.decl_groups.proofs.Reaching.{both}
use Rattle.std.specs.List.{list_any, filter_map, cons_option, All}
use Rattle.std.proofs.lemmas.List.Folds.{list_any-append}
use Rattle.std.proofs.lemmas.List.Elements.{All-nil, All-cons}
use Rattle.elm_tree.specs.Tree.{Pos, Word}
use Rattle.canon_env.specs.Naming.{World}
use Rattle.canon_env.specs.Sites.{Site}
use Rattle.canon_expr.specs.Logs.{used_place}
use Rattle.canon_expr.specs.Binding.{same_place, binder_of, used_definition}

or_else : Option ℕ → Option ℕ → Option ℕ
or_else None b = b
or_else (Some n) b = Some n

or_next : (a b : Option ℕ) → option_map suc (or_else a b) ≡ or_else (option_map suc a) (option_map suc b)
unfolding or_else
or_next None b = refl
or_next (Some n) b = refl

binds : Bool → ℕ → Option ℕ
binds b n = if b then Some n else None

binds_next : (b : Bool) (n : ℕ) → option_map suc (binds b n) ≡ binds b (suc n)
unfolding binds
binds_next true n = refl
binds_next false n = refl

is_at : Pos → Word → Bool
is_at p x = same_place x.place p

-- one name more of the last definition
binder_more : (each : List (List Word)) (xs : List Word) (x : Word) (p : Pos) →
    binder_of (each ++ (xs ++ x ∷ []) ∷ []) p
    ≡ or_else (binder_of (each ++ xs ∷ []) p) (binds (same_place x.place p) (length each))
unfolding or_else binds is_at
binder_more [] xs x p =
    ap (λ b. if b then Some 0 else None) (list_any-append (is_at p) xs (x ∷ []))
    ∙ by (list_any (is_at p) xs) (same_place x.place p)
  where
    by : (a b : Bool) → (if a || (b || false) then Some 0 else None) ≡ or_else (if a then Some 0 else None) (binds b 0)
    by true b = refl
    by false true = refl
    by false false = refl
binder_more (ys ∷ each) xs x p =
    ap (λ o. if list_any (is_at p) ys then Some 0 else option_map suc o) (binder_more each xs x p)
    ∙ by (list_any (is_at p) ys) (binder_of (each ++ xs ∷ []) p) (binds (same_place x.place p) (length each))
    ∙ ap (or_else (if list_any (is_at p) ys then Some 0 else option_map suc (binder_of (each ++ xs ∷ []) p)))
    (binds_next (same_place x.place p) (length each))
  where
    by : (a : Bool) (o q : Option ℕ) →
        (if a then Some 0 else option_map suc (or_else o q))
        ≡ or_else (if a then Some 0 else option_map suc o) (option_map suc q)
    by true o q = refl
    by false o q = or_next o q

or_none : (a : Option ℕ) → a ≡ or_else a None
unfolding or_else
or_none None = refl
or_none (Some n) = refl

pub same_place_is : (p q : Pos) → same_place p q ≡ true → p ≡ q
same_place_is p q e =
    let row : p.row ≡ q.row = eqb-true p.row q.row (both (nat_eq p.row q.row) (nat_eq p.column q.column) e).0 in
    let column : p.column ≡ q.column = eqb-true p.column q.column (both (nat_eq p.row q.row) (nat_eq p.column q.column) e).1 in
    λ i. record { row = row i; column = column i }

-- at a place at which a definition binds already no other does
pub binds_there : (each : List (List Word)) (xs : List Word) (x : Word) (look : Pos → Option ℕ) → is_some (look x.place) ≡ true →
    ((p : Pos) → look p ≡ binder_of (each ++ xs ∷ []) p) → (p : Pos) → look p ≡ binder_of (each ++ (xs ++ x ∷ []) ∷ []) p
unfolding or_else binds
binds_there each xs x look there was p =
    was p ∙ by (same_place x.place p) refl
    ∙ sym (binder_more each xs x p)
  where
    some : (o q : Option ℕ) → is_some o ≡ true → o ≡ or_else o q
    some None q e = absurd (false≢true e)
    some (Some n) q e = refl

    by : (b : Bool) → same_place x.place p ≡ b →
        binder_of (each ++ xs ∷ []) p ≡ or_else (binder_of (each ++ xs ∷ []) p) (binds b (length each))
    by true e =
        some (binder_of (each ++ xs ∷ []) p) (Some (length each))
        (ap is_some (sym (was p)) ∙ ap (λ q. is_some (look q)) (sym (same_place_is x.place p e)) ∙ there)
    by false e = or_none (binder_of (each ++ xs ∷ []) p)

-- at a place at which none does the last one binds now
pub binds_now : (each : List (List Word)) (xs : List Word) (x : Word) (look new : Pos → Option ℕ) →
    is_some (look x.place) ≡ false → ((p : Pos) → look p ≡ binder_of (each ++ xs ∷ []) p) →
    ((p : Pos) → new p ≡ (if same_place x.place p then Some (length each) else look p)) →
    (p : Pos) → new p ≡ binder_of (each ++ (xs ++ x ∷ []) ∷ []) p
unfolding or_else binds
binds_now each xs x look new none was put p =
    put p ∙ by (same_place x.place p) refl ∙ sym (binder_more each xs x p)
  where
    no_other : (o : Option ℕ) (n : ℕ) → is_some o ≡ false → Some n ≡ or_else o (Some n)
    no_other None n e = refl
    no_other (Some m) n e = absurd (false≢true (sym e))

    by : (b : Bool) → same_place x.place p ≡ b →
        (if b then Some (length each) else look p) ≡ or_else (binder_of (each ++ xs ∷ []) p) (binds b (length each))
    by true e =
        no_other (binder_of (each ++ xs ∷ []) p) (length each)
        (ap is_some (sym (was p)) ∙ ap (λ q. is_some (look q)) (sym (same_place_is x.place p e)) ∙ none)
    by false e = was p ∙ or_none (binder_of (each ++ xs ∷ []) p)

-- a definition that binds nothing yet
pub binder_none : (each : List (List Word)) (p : Pos) → binder_of (each ++ [] ∷ []) p ≡ binder_of each p
binder_none [] p = refl
binder_none (xs ∷ each) p =
    ap (λ o. if list_any (λ (x : Word). same_place x.place p) xs then Some 0 else option_map suc o) (binder_none each p)

-- what binds is a definition
within_by : (n j : ℕ) (b : Bool) (o : Option ℕ) → ((k : ℕ) → o ≡ Some k → k < n) →
    (if b then Some 0 else option_map suc o) ≡ Some j → j < suc n
within_by n j true o f e = let z : 0 ≡ j = cc in omega arith
within_by n j false None f e = absurd (cc)
within_by n j false (Some k) f e =
    let z : suc k ≡ j = cc in
    let l = f k refl in omega arith

pub binder_within : (each : List (List Word)) (p : Pos) (j : ℕ) → binder_of each p ≡ Some j → j < length each
binder_within [] p j e = absurd (cc)
binder_within (xs ∷ each) p j e =
    within_by (length each) j (list_any (λ (x : Word). same_place x.place p) xs) (binder_of each p)
    (λ k h. binder_within each p k h) e

all_by : (n : ℕ) (o : Option ℕ) (js : List ℕ) → ((k : ℕ) → o ≡ Some k → k < n) → All (λ j. j < n) js →
    All (λ j. j < n) (cons_option o js)
all_by n None js f all = all
all_by n (Some k) js f all = All-cons (λ j. j < n) k js (f k refl) all

pub all_within : (each : List (List Word)) (ps : List Pos) → All (λ j. j < length each) (filter_map (binder_of each) ps)
all_within each [] = All-nil (λ j. j < length each)
all_within each (p ∷ ps) =
    all_by (length each) (binder_of each p) (filter_map (binder_of each) ps) (λ k e. binder_within each p k e)
    (all_within each ps)

-- the definitions that sites use, by the places where the names are bound that they use
place_by : (each : List (List Word)) (o : Option Pos) (js : List ℕ) (ps : List Pos) → js ≡ filter_map (binder_of each) ps →
    cons_option (option_and_then (binder_of each) o) js ≡ filter_map (binder_of each) (cons_option o ps)
place_by each None js ps e = e
place_by each (Some p) js ps e = ap (cons_option (binder_of each p)) e

pub used_by_places : (w : World) (each : List (List Word)) (sites : List Site) →
    filter_map (used_definition w each) sites ≡ filter_map (binder_of each) (filter_map (used_place w) sites)
used_by_places w each [] = refl
used_by_places w each (s ∷ sites) =
    place_by each (used_place w s) (filter_map (used_definition w each) sites) (filter_map (used_place w) sites)
    (used_by_places w each sites)
