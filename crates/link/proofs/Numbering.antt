-- The places of names, one piece after the other: `none_yet`, `known_already`, `known_now`, `all_within`.
use Rattle.std.proofs.Common.{◌≡◌, ℕ, zero, suc, ◌+◌, ◌<◌, append_assoc, append-nil, List, [], ◌∷◌, ◌++◌, Bool, true}
use Rattle.std.proofs.Common.{false, if◌then◌else◌, ◌||◌, ◌&&◌, Option, Some, None}
use Rattle.std.proofs.Common.{option_map, length, map, get_or, refl, sym, ap, ◌∙◌, subst, arith, zero-add}
use Rattle.std.proofs.Math.ListN.{replicate}
use Rattle.std.specs.Prelude.{is_some, not, IfSome}
use Rattle.std.specs.List.{filter_map, cons_option, All, range_with_len}
use Rattle.std.proofs.lemmas.Bool.{false≢true}
use Rattle.std.proofs.lemmas.List.{length-map, get_or-map}
use Rattle.std.proofs.lemmas.List.FromFn.{get_or-range_with_len, length-range_with_len}
use Rattle.std.proofs.lemmas.List.Elements.{All-nil, All-cons}
use Rattle.elm_canon.specs.Names.{Name, same_name}
use Rattle.canon_env.proofs.Adding.{one_name}
use Rattle.link.specs.Names.{TopName, same_top}
use Rattle.link.specs.Reached.{declares, place_of, places_used}
use Rattle.link.specs.Link.{first_home}

or_else : Option ℕ → Option ℕ → Option ℕ
or_else None b = b
or_else (Some n) b = Some n

when : Bool → ℕ → Option ℕ
when true n = Some n
when false n = None

-- ---- the last piece

last_of : (each : List (List TopName)) (ns : List TopName) (x : TopName) →
    place_of (each ++ ns ∷ []) x ≡ or_else (place_of each x) (when (declares ns x) (length each))
unfolding or_else when
last_of [] ns x = by (declares ns x)
  where
    by : (b : Bool) → if◌then◌else◌ {A = Option ℕ} b (Some 0) None ≡ when b 0
    by true = refl
    by false = refl
last_of (ms ∷ each) ns x =
    ap (λ o. if declares ms x then Some 0 else option_map suc o) (last_of each ns x)
    ∙ by (declares ms x) (place_of each x) (declares ns x)
  where
    by : (a : Bool) (o : Option ℕ) (b : Bool) →
        (if a then Some 0 else option_map suc (or_else o (when b (length each))))
        ≡ or_else (if a then Some 0 else option_map suc o) (when b (length (ms ∷ each)))
    by true o b = refl
    by false None true = refl
    by false None false = refl
    by false (Some n) b = refl

pub none_yet : (each : List (List TopName)) (x : TopName) → place_of (each ++ [] ∷ []) x ≡ place_of each x
unfolding or_else when
none_yet each x = last_of each [] x ∙ by (place_of each x)
  where
    by : (o : Option ℕ) → or_else o None ≡ o
    by None = refl
    by (Some n) = refl

declares_more : (ns : List TopName) (y x : TopName) → declares (ns ++ y ∷ []) x ≡ (declares ns x || same_top y x)
declares_more [] y x = by (same_top y x)
  where
    by : (b : Bool) → (b || false) ≡ b
    by true = refl
    by false = refl
declares_more (n ∷ ns) y x = ap (λ b. same_top n x || b) (declares_more ns y x)
    ∙ by (same_top n x) (declares ns x) (same_top y x)
  where
    by : (a b c : Bool) → (a || (b || c)) ≡ ((a || b) || c)
    by true b c = refl
    by false b c = refl

last_more : (each : List (List TopName)) (ns : List TopName) (y x : TopName) →
    place_of (each ++ (ns ++ y ∷ []) ∷ []) x ≡ or_else (place_of each x) (when (declares ns x || same_top y x) (length
    each))
last_more each ns y x = last_of each (ns ++ y ∷ []) x ∙ ap (λ b. or_else (place_of each x) (when b (length each)))
    (declares_more ns y x)

both : (a b : Bool) → (a && b) ≡ true → (a ≡ true) × (b ≡ true)
both true b e = (refl, e)
both false b e = absurd (false≢true e)

pub one_top : (y x : TopName) → same_top y x ≡ true → y ≡ x
one_top y x e =
    let p = both (same_name y.0 x.0) (same_name y.1 x.1) e in
    let m = one_name y.0 x.0 p.0 in
    let n = one_name y.1 x.1 p.1 in
    λ i. (m i, n i)

known_case : (o : Option ℕ) (d s : Bool) (n : ℕ) → (s ≡ true → is_some (or_else o (when d n)) ≡ true) →
    or_else o (when d n) ≡ or_else o (when (d || s) n)
unfolding or_else when
known_case (Some m) d s n h = refl
known_case None true s n h = refl
known_case None false true n h = absurd (false≢true (h refl))
known_case None false false n h = refl

now_case : (o : Option ℕ) (d s : Bool) (n : ℕ) → (s ≡ true → is_some (or_else o (when d n)) ≡ false) →
    (if s then Some n else or_else o (when d n)) ≡ or_else o (when (d || s) n)
unfolding or_else when
now_case (Some m) d true n h = absurd (false≢true (sym (h refl)))
now_case (Some m) d false n h = refl
now_case None true true n h = refl
now_case None true false n h = refl
now_case None false true n h = refl
now_case None false false n h = refl

-- a name that is known already
pub known_already : (each : List (List TopName)) (ns : List TopName) (y : TopName) (look : TopName → Option ℕ) →
    is_some (look y) ≡ true →
    ((x : TopName) → look x ≡ place_of (each ++ ns ∷ []) x) → (x : TopName) →
    look x ≡ place_of (each ++ (ns ++ y ∷ []) ∷ []) x
known_already each ns y look there was x =
    was x ∙ last_of each ns x
    ∙ known_case (place_of each x) (declares ns x) (same_top y x) (length each)
    (λ e. ap is_some (sym (was x ∙ last_of each ns x)) ∙ ap (λ z. is_some (look z)) (sym (one_top y x e)) ∙ there)
    ∙ sym (last_more each ns y x)

-- a name that is known from now on
pub known_now : (each : List (List TopName)) (ns : List TopName) (y : TopName) (look new : TopName → Option ℕ) →
    is_some (look y) ≡ false →
    ((x : TopName) → look x ≡ place_of (each ++ ns ∷ []) x) →
    ((x : TopName) → new x ≡ (if same_top y x then Some (length each) else look x)) →
    (x : TopName) → new x ≡ place_of (each ++ (ns ++ y ∷ []) ∷ []) x
known_now each ns y look new none was put x =
    put x ∙ ap (λ o. if same_top y x then Some (length each) else o) (was x ∙ last_of each ns x)
    ∙ now_case (place_of each x) (declares ns x) (same_top y x) (length each)
    (λ e. ap is_some (sym (was x ∙ last_of each ns x)) ∙ ap (λ z. is_some (look z)) (sym (one_top y x e)) ∙ none)
    ∙ sym (last_more each ns y x)

-- ---- what is found is a place

pub place_below : (each : List (List TopName)) (x : TopName) (j : ℕ) → place_of each x ≡ Some j → j < length each
place_below [] x j e = absurd cc
place_below (ns ∷ each) x j e = by (declares ns x) (place_of each x) (place_below each x) e
  where
    by : (b : Bool) (o : Option ℕ) → ((k : ℕ) → o ≡ Some k → k < length each) →
        (if b then Some 0 else option_map suc o) ≡ Some j → j < suc (length each)
    by true o f e = let z : 0 ≡ j = cc in omega arith
    by false None f e = absurd cc
    by false (Some k) f e = let z : suc k ≡ j = cc in let h = f k refl in omega arith

all_by : (n : ℕ) (o : Option ℕ) (js : List ℕ) → ((k : ℕ) → o ≡ Some k → k < n) → All (λ j. j < n) js →
    All (λ j. j < n) (cons_option o js)
all_by n None js f all = all
all_by n (Some k) js f all = All-cons (λ j. j < n) k js (f k refl) all

pub all_within : (each : List (List TopName)) (xs : List TopName) →
    All (λ j. j < length each) (filter_map (place_of each) xs)
all_within each [] = All-nil (λ j. j < length each)
all_within each (x ∷ xs) =
    all_by (length each) (place_of each x) (filter_map (place_of each) xs) (λ k e. place_below each x k e) (all_within
    each xs)

-- ---- marks

pub mark_at : (test : ℕ → Bool) (n i : ℕ) (marks : List Bool) → marks ≡ map test (range_with_len 0 n) → i < n →
    get_or marks i false ≡ test i
mark_at test n i marks e l =
    ap (λ ms. get_or ms i false) e
    ∙ get_or-map test (range_with_len 0 n) i 0 false (omega (arith, l, length-range_with_len 0 n))
    ∙ ap test (get_or-range_with_len 0 n i 0 l ∙ zero-add i)

pub none_marked : (k n : ℕ) → replicate n false ≡ map (λ (i : ℕ). false) (range_with_len k n)
none_marked k zero = refl
none_marked k (suc n) = ap (λ bs. false ∷ bs) (none_marked (k + 1) n)

pub kept_step : {X : Type 0} (xs rest : List X) (d : X) (b c : Bool) → b ≡ c →
    (xs ++ (if b then d ∷ [] else [])) ++ rest ≡ xs ++ (if c then d ∷ rest else rest)
kept_step xs rest d b c e = append_assoc xs (if b then d ∷ [] else []) rest ∙ ap (λ ys. xs ++ ys) (by b)
    ∙ ap (λ a. xs ++ (if a then d ∷ rest else rest)) e
  where
    by : (b : Bool) → (if b then d ∷ [] else []) ++ rest ≡ (if b then d ∷ rest else rest)
    by true = refl
    by false = refl

pub other_step : {X : Type 0} (xs rest : List X) (d : X) (b : Bool) →
    (xs ++ (if not b then d ∷ [] else [])) ++ rest ≡ xs ++ (if b then rest else d ∷ rest)
other_step xs rest d true = ap (λ ys. ys ++ rest) (append-nil xs)
other_step xs rest d false = append_assoc xs (d ∷ []) rest

-- ---- lengths

pub length_used : (names uses : List (List TopName)) → length (places_used names uses) ≡ length uses
length_used names uses = length-map uses (λ us. filter_map (place_of names) us)

pub find_below : (each : List (List TopName)) (x : TopName) (o : Option ℕ) (n : ℕ) → o ≡ place_of each x →
    length each ≡ n → IfSome o (λ j. j < n)
find_below each x None n e l = tt
find_below each x (Some j) n e l = let h = place_below each x j (sym e) in omega (arith, h, l)

pub place_after : (i : ℕ) → i + 1 ≡ suc i
place_after i = omega arith

-- ---- the first port of a name

pub home_either : Option Name → Option Name → Option Name
home_either None b = b
home_either (Some m) b = Some m

home_last : (before : List (Name × Name)) (h y x : Name) →
    first_home (before ++ (h, y) ∷ []) x ≡ home_either (first_home before x) (if same_name y x then Some h else None)
unfolding home_either
home_last [] h y x = refl
home_last (p ∷ before) h y x = by (same_name p.1 x) (home_last before h y x)
  where
    by : (b : Bool) → first_home (before ++ (h, y) ∷ []) x ≡ home_either (first_home before x) (if same_name y x then
        Some h else None) →
        (if b then Some p.0 else first_home (before ++ (h, y) ∷ []) x)
        ≡ home_either (if b then Some p.0 else first_home before x) (if same_name y x then Some h else None)
    by true e = refl
    by false e = e

pub home_known : (before : List (Name × Name)) (h y : Name) → is_some (first_home before y) ≡ true → (x : Name) →
    first_home before x ≡ first_home (before ++ (h, y) ∷ []) x
unfolding home_either
home_known before h y e x = by (first_home before x) (same_name y x) (λ s. ap (λ z. is_some (first_home before z))
    (sym (one_name y x s)) ∙ e) ∙ sym (home_last before h y x)
  where
    by : (o : Option Name) (b : Bool) → (b ≡ true → is_some o ≡ true) → o ≡ home_either o (if b then Some h else None)
    by (Some m) b f = refl
    by None true f = absurd (false≢true (f refl))
    by None false f = refl

pub home_new : (before : List (Name × Name)) (h y : Name) → is_some (first_home before y) ≡ false → (x : Name) →
    (if same_name y x then Some h else first_home before x) ≡ first_home (before ++ (h, y) ∷ []) x
unfolding home_either
home_new before h y e x = by (first_home before x) (same_name y x) (λ s. ap (λ z. is_some (first_home before z)) (sym
    (one_name y x s)) ∙ e) ∙ sym (home_last before h y x)
  where
    by : (o : Option Name) (b : Bool) → (b ≡ true → is_some o ≡ false) →
        (if b then Some h else o) ≡ home_either o (if b then Some h else None)
    by (Some m) true f = absurd (false≢true (sym (f refl)))
    by (Some m) false f = refl
    by None true f = refl
    by None false f = refl
