-- The annotation's own variables.
use Rattle.std.proofs.Common.{◌≡◌, ℕ, zero, suc, ◌+◌, ◌<◌, ◌≤◌, List, [], ◌∷◌, ◌++◌, length, map, take, get_or, Bool}
use Rattle.std.proofs.Common.{true, false, cond, Option, Some, None, refl, sym, ap, ◌∙◌, arith}
use Rattle.std.specs.Prelude.{is_none, filter}
use Rattle.std.specs.Map.{lookup}
use Rattle.std.specs.Str.{bytes_eq}
use Rattle.std.proofs.lemmas.List.{take_more}
use Rattle.elm_type.specs.Types.{Name, Rigid, Kind}
use Rattle.type_items.specs.Scopes.{Constants}
use Rattle.type_items.specs.Annotations.{variables_of, kind_of}
use Rattle.type_walks.specs.Links.{Links, Tells}
use Rattle.type_constructs.proofs.Chains.{has_still}
use Rattle.infer_steps.specs.Codes.{Code}
use Rattle.infer_steps.specs.Means.{MeansConstant}
use Rattle.infer_types.specs.Asking.{MeansConstants}
use Rattle.infer_types.specs.Own.{own_of, OwnAreOwn}

both_none : (links : Links) (o : Option ℕ) (p : Option Rigid) → MeansConstant links o p → is_none o ≡ is_none p
both_none links None None h = refl
both_none links None (Some r) h = absurd h
both_none links (Some v) None h = absurd h
both_none links (Some v) (Some r) h = refl

pub own_are_own : OwnAreOwn
own_are_own code links around t means = go (variables_of t)
  where
    step : (b : Bool) (x : Name) (xs : List Name) → own_of code xs (map (kind_of t) xs) ≡ map (λ a. (a, kind_of t a))
        (filter (λ a. is_none (lookup (bytes_eq a) around)) xs)
        → cond b ((x, kind_of t x) ∷ own_of code xs (map (kind_of t) xs)) (own_of code xs (map (kind_of t) xs))
        ≡ map (λ a. (a, kind_of t a)) (cond b (x ∷ filter (λ a. is_none (lookup (bytes_eq a) around)) xs)
        (filter (λ a. is_none (lookup (bytes_eq a) around)) xs))
    step true x xs again = ap (λ l. (x, kind_of t x) ∷ l) again
    step false x xs again = again

    go : (xs : List Name) → own_of code xs (map (kind_of t) xs) ≡ map (λ a. (a, kind_of t a))
        (filter (λ a. is_none (lookup (bytes_eq a) around)) xs)
    go [] = refl
    go (x ∷ xs) =
        ap (λ b. cond b ((x, kind_of t x) ∷ own_of code xs (map (kind_of t) xs)) (own_of code xs (map (kind_of t) xs)))
        (both_none links (code.constants x) (lookup (bytes_eq x) around) (means x))
        ∙ step (is_none (lookup (bytes_eq x) around)) x xs (go xs)

-- ---- in a loop

own_both : (code : Code) (xs ys : List Name) (ks ls : List Kind) → length ks ≡ length xs → own_of code (xs ++ ys)
    (ks ++ ls) ≡ own_of code xs ks ++ own_of code ys ls
own_both code [] ys [] ls e = refl
own_both code [] ys (k ∷ ks) ls e = absurd (omega (arith, e))
own_both code (x ∷ xs) ys [] ls e = absurd (omega (arith, e))
own_both code (x ∷ xs) ys (k ∷ ks) ls e =
    step (is_none (code.constants x)) (own_both code xs ys ks ls (omega (arith, e)))
  where
    step : (b : Bool) → own_of code (xs ++ ys) (ks ++ ls) ≡ own_of code xs ks ++ own_of code ys ls
        → cond b ((x, k) ∷ own_of code (xs ++ ys) (ks ++ ls)) (own_of code (xs ++ ys) (ks ++ ls))
        ≡ cond b ((x, k) ∷ own_of code xs ks) (own_of code xs ks) ++ own_of code ys ls
    step true again = ap (λ l. (x, k) ∷ l) again
    step false again = again

took : {X : Type 0} (i : ℕ) (xs : List X) → i ≤ length xs → length (take i xs) ≡ i
took zero xs l = refl
took (suc i) [] l = absurd (omega (arith, l))
took (suc i) (x ∷ xs) l = ap suc (took i xs (omega (arith, l)))

pub one_more_own : (code : Code) (xs : List Name) (ks : List Kind) (i : ℕ) (x : Name) (k : Kind) → length ks ≡ length xs
    → i < length xs → x ≡ get_or xs i x
    → k ≡ get_or ks i k → own_of code (take (i + 1) xs) (take (i + 1) ks) ≡ own_of code (take i xs) (take i ks) ++
    own_of code (x ∷ []) (k ∷ [])
one_more_own code xs ks i x k many l is kind =
    ap (λ ys. own_of code ys (take (i + 1) ks)) (take_more xs i x l ∙ ap (λ y. take i xs ++ y ∷ []) (sym is))
    ∙ (ap (own_of code (take i xs ++ x ∷ []))
    (take_more ks i k (omega (arith, l, many)) ∙ ap (λ y. take i ks ++ y ∷ []) (sym kind))
    ∙ own_both code (take i xs) (x ∷ []) (take i ks) (k ∷ [])
    (took i ks (omega (arith, l, many)) ∙ sym (took i xs (omega (arith, l)))))

pub none_own : (code : Code) (x : Name) (k : Kind) → code.constants x ≡ None → own_of code (x ∷ [])
    (k ∷ []) ≡ (x, k) ∷ []
none_own code x k none = ap (λ o. cond (is_none o) ((x, k) ∷ []) []) none

pub some_own : (code : Code) (x : Name) (k : Kind) (v : ℕ) → code.constants x ≡ Some v → own_of code (x ∷ [])
    (k ∷ []) ≡ []
some_own code x k v some = ap (λ o. cond (is_none o) ((x, k) ∷ []) []) some

-- ---- the constants of a scope, with more links

constant_more : (links more : Links) → Tells more links → (o : Option ℕ) (p : Option Rigid) → MeansConstant links o p
    → MeansConstant more o p
constant_more links more tells None None h = tt
constant_more links more tells None (Some r) h = absurd h
constant_more links more tells (Some v) None h = absurd h
constant_more links more tells (Some v) (Some r) h = has_still tells h

pub constants_more : (code : Code) (links more : Links) (around : Constants) → Tells more links
    → MeansConstants code links around → MeansConstants code more around
constants_more code links more around tells means x =
    constant_more links more tells (code.constants x) (lookup (bytes_eq x) around) (means x)
