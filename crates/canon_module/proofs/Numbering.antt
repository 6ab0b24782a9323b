-- The number of a name, one declaration after the other: `none_more`, `known_already`, `known_now`, `all_within`.
use Rattle.std.proofs.Common.{◌≡◌, ℕ, suc, ◌<◌, List, [], ◌∷◌, ◌++◌, Bool, true, false, if◌then◌else◌, ◌||◌}
use Rattle.std.proofs.Common.{Some, None, length, refl, sym, ap, ◌∙◌, arith}
use Rattle.std.specs.Prelude.{Option, option_map, option_and_then, is_some}
use Rattle.std.specs.List.{filter_map, cons_option, All}
use Rattle.std.proofs.lemmas.Bool.{false≢true}
use Rattle.std.proofs.lemmas.List.Elements.{All-nil, All-cons}
use Rattle.elm_canon.specs.Names.{Name, same_name}
use Rattle.elm_canon.specs.declared.reference.Ref.{Ref}
use Rattle.canon_env.proofs.Adding.{one_name}
use Rattle.canon_module.specs.TopUses.{is_named, number_of, own_name, used_number}

or_else : Option ℕ → Option ℕ → Option ℕ
or_else None b = b
or_else (Some n) b = Some n

or_next : (a b : Option ℕ) → option_map suc (or_else a b) ≡ or_else (option_map suc a) (option_map suc b)
unfolding or_else
or_next None b = refl
or_next (Some n) b = refl

-- a declaration that declares no value
pub none_more : (each : List (List Name)) (x : Name) → number_of (each ++ [] ∷ []) x ≡ number_of each x
none_more [] x = refl
none_more (ys ∷ each) x = ap (λ o. if is_named x ys then Some 0 else option_map suc o) (none_more each x)

-- one that declares a name
one_more : (each : List (List Name)) (y x : Name) →
    number_of (each ++ (y ∷ []) ∷ []) x ≡ or_else (number_of each x) (if same_name y x then Some (length each) else None)
unfolding or_else
one_more [] y x = by (same_name y x)
  where
    by : (b : Bool) → if◌then◌else◌ {A = Option ℕ} (b || false) (Some 0) None ≡ if◌then◌else◌ {A = Option ℕ} b (Some 0) None
    by true = refl
    by false = refl
one_more (ys ∷ each) y x =
    ap (λ o. if is_named x ys then Some 0 else option_map suc o) (one_more each y x)
    ∙ by (is_named x ys) (number_of each x) (same_name y x)
  where
    by : (a : Bool) (o : Option ℕ) (b : Bool) →
        (if a then Some 0 else option_map suc (or_else o (if b then Some (length each) else None)))
        ≡ or_else (if a then Some 0 else option_map suc o) (if b then Some (length (ys ∷ each)) else None)
    by true o b = refl
    by false None true = refl
    by false None false = refl
    by false (Some n) b = refl

or_none : (a : Option ℕ) → a ≡ or_else a None
unfolding or_else
or_none None = refl
or_none (Some n) = refl

-- a name that is known already
pub known_already : (each : List (List Name)) (y : Name) (look : Name → Option ℕ) →
    is_some (look y) ≡ true →
    ((x : Name) → look x ≡ number_of each x) → (x : Name) → look x ≡ number_of (each ++ (y ∷ []) ∷ []) x
unfolding or_else
known_already each y look there was x =
    was x ∙ by (same_name y x) refl ∙ sym (one_more each y x)
  where
    some : (o q : Option ℕ) → is_some o ≡ true → o ≡ or_else o q
    some None q e = absurd (false≢true e)
    some (Some n) q e = refl

    by : (b : Bool) → same_name y x ≡ b →
        number_of each x ≡ or_else (number_of each x) (if b then Some (length each) else None)
    by true e =
        some (number_of each x) (Some (length each))
        (ap is_some (sym (was x)) ∙ ap (λ z. is_some (look z)) (sym (one_name y x e)) ∙ there)
    by false e = or_none (number_of each x)

-- a name that is known from now on
pub known_now : (each : List (List Name)) (y : Name) (look new : Name → Option ℕ) →
    is_some (look y) ≡ false →
    ((x : Name) → look x ≡ number_of each x) →
    ((x : Name) → new x ≡ (if same_name y x then Some (length each) else look x)) →
    (x : Name) → new x ≡ number_of (each ++ (y ∷ []) ∷ []) x
unfolding or_else
known_now each y look new none was put x = put x ∙ by (same_name y x) refl ∙ sym (one_more each y x)
  where
    no_other : (o : Option ℕ) (n : ℕ) → is_some o ≡ false → Some n ≡ or_else o (Some n)
    no_other None n e = refl
    no_other (Some m) n e = absurd (false≢true (sym e))

    by : (b : Bool) → same_name y x ≡ b →
        (if b then Some (length each) else look x)
        ≡ or_else (number_of each x) (if b then Some (length each) else None)
    by true e =
        no_other (number_of each x) (length each)
        (ap is_some (sym (was x)) ∙ ap (λ z. is_some (look z)) (sym (one_name y x e)) ∙ none)
    by false e = was x ∙ or_none (number_of each x)

-- what is found is a declaration
number_within : (each : List (List Name)) (x : Name) (j : ℕ) → number_of each x ≡ Some j → j < length each
number_within [] x j e = absurd cc
number_within (ys ∷ each) x j e = by (is_named x ys) (number_of each x) (number_within each x) e
  where
    by : (b : Bool) (o : Option ℕ) → ((k : ℕ) → o ≡ Some k → k < length each) →
        (if b then Some 0 else option_map suc o) ≡ Some j → j < suc (length each)
    by true o f e = let z : 0 ≡ j = cc in omega arith
    by false None f e = absurd cc
    by false (Some k) f e = let z : suc k ≡ j = cc in let h = f k refl in omega arith

used_within : (home : Name) (each : List (List Name)) (r : Ref) (j : ℕ) → used_number home each r ≡ Some j → j < length each
used_within home each r j e = by (own_name home r) e
  where
    by : (o : Option Name) → option_and_then (number_of each) o ≡ Some j → j < length each
    by None e = absurd cc
    by (Some x) e = number_within each x j e

all_by : (n : ℕ) (o : Option ℕ) (js : List ℕ) → ((k : ℕ) → o ≡ Some k → k < n) → All (λ j. j < n) js →
    All (λ j. j < n) (cons_option o js)
all_by n None js f all = all
all_by n (Some k) js f all = All-cons (λ j. j < n) k js (f k refl) all

pub all_within : (home : Name) (each : List (List Name)) (refs : List Ref) →
    All (λ j. j < length each) (filter_map (used_number home each) refs)
all_within home each [] = All-nil (λ j. j < length each)
all_within home each (r ∷ refs) =
    all_by (length each) (used_number home each r) (filter_map (used_number home each) refs)
    (λ k e. used_within home each r k e) (all_within home each refs)
