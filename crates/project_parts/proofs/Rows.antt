-- Rows of numbers.
use Rattle.std.proofs.Common.{◌≡◌, ℕ, zero, suc, ◌+◌, ◌<◌, ◌≤◌, List, [], ◌∷◌, ◌++◌, length, map, take, drop, get_or}
use Rattle.std.proofs.Common.{Option, Some, None, Bool, true, false, cond, refl, sym, ap, subst, ◌∙◌, append-nil}
use Rattle.std.proofs.Common.{append_assoc, drop-cons, arith}
use Rattle.std.specs.Prelude.{if◌then◌else◌, flat_map, option_to_list}
use Rattle.std.specs.List.{filter_map, cons_option, position, position_from}
use Rattle.std.specs.Str.{bytes_eq}
use Rattle.std.proofs.lemmas.Iterator.Adapters.{position_from-zero}
use Rattle.std.proofs.lemmas.List.{take_more, map-append}
use Rattle.std.proofs.lemmas.List.Elements.{filter_map-append}
use Rattle.std.proofs.lemmas.Slice.Eq.{bytes_eq-Decides}
use Rattle.import_graph.specs.Modules.{Import, Module}
use Rattle.project_parts.specs.Modules.{Part, one_name, imported_names, name_of, project_part}
use Rattle.project_parts.specs.View.{part_view}
use Rattle.project_parts.specs.declared.parts.Part as program

flat_more : (is : List Import) (i : Import) → flat_map one_name (is ++ i ∷ []) ≡ flat_map one_name is ++ one_name i
flat_more [] i = append-nil (one_name i)
flat_more (x ∷ is) i =
    ap (λ ns. one_name x ++ ns) (flat_more is i) ∙ sym (append_assoc (one_name x) (flat_map one_name is) (one_name i))

-- one import more
pub row_more : (f : List ℕ → Option ℕ) (is : List Import) (i : Import)
    → filter_map f (flat_map one_name is) ++ filter_map f (one_name i) ≡ filter_map f (flat_map one_name (is ++ i ∷ []))
row_more f is i =
    sym (filter_map-append f (flat_map one_name is) (one_name i)) ∙ ap (filter_map f) (sym (flat_more is i))

as_list : (o : Option ℕ) → option_to_list o ≡ cons_option o []
as_list None = refl
as_list (Some n) = refl

-- one name more
pub one_number : (f : List ℕ → Option ℕ) (xs : List (List ℕ)) {ys zs : List ℕ} (x : List ℕ)
    → zs ≡ ys ++ option_to_list (f x) → ys ≡ filter_map f xs → zs ≡ filter_map f (xs ++ x ∷ [])
one_number f xs {ys} x last before =
    last ∙ ap (λ o. ys ++ o) (as_list (f x)) ∙ ap (λ r. r ++ cons_option (f x) []) before
    ∙ sym (filter_map-append f xs (x ∷ []))

-- by whether the part is of the core library
pub row_is : (f : List ℕ → Option ℕ) (is_core : Bool) (defaults names : List (List ℕ))
    → (if is_core then [] else filter_map f defaults) ++ filter_map f names
    ≡ filter_map f (if is_core then names else defaults ++ names)
row_is f true defaults names = refl
row_is f false defaults names = sym (filter_map-append f defaults names)

same_given : (f g : List ℕ → Option ℕ) → ((x : List ℕ) → f x ≡ g x) → (xs : List (List ℕ))
    → filter_map f xs ≡ filter_map g xs
same_given f g h [] = refl
same_given f g h (x ∷ xs) =
    ap (λ o. cons_option o (filter_map f xs)) (h x) ∙ ap (cons_option (g x)) (same_given f g h xs)

pub rows_same : (f g : List ℕ → Option ℕ) → ((x : List ℕ) → f x ≡ g x) → (ps : List Part)
    → map (λ p. filter_map f (imported_names p)) ps ≡ map (λ p. filter_map g (imported_names p)) ps
rows_same f g h [] = refl
rows_same f g h (p ∷ ps) =
    ap (λ r. r ∷ map (λ q. filter_map f (imported_names q)) ps) (same_given f g h (imported_names p))
    ∙ ap (λ rs. filter_map g (imported_names p) ∷ rs) (rows_same f g h ps)

pub from_start : (x : List ℕ) (xs : List (List ℕ)) → position_from (bytes_eq x) 0 xs ≡ position (bytes_eq x) xs
from_start x xs = sym (position_from-zero (bytes_eq x) xs)

-- ---- numbers of names

eq_back : (x y : List ℕ) → bytes_eq x y ≡ bytes_eq y x
eq_back x y = go (bytes_eq x y) (bytes_eq y x) refl refl
  where
    go : (a b : Bool) → bytes_eq x y ≡ a → bytes_eq y x ≡ b → a ≡ b
    go true true e f = refl
    go false false e f = refl
    go true false e f =
        let s : x ≡ y = (bytes_eq-Decides x y).0 e in
        absurd (let t : bytes_eq y x ≡ true = ap (λ z. bytes_eq z x) (sym s) ∙ (bytes_eq-Decides x x).1 refl in cc)
    go false true e f =
        let s : y ≡ x = (bytes_eq-Decides y x).0 f in
        absurd (let t : bytes_eq x y ≡ true = ap (λ z. bytes_eq z y) (sym s) ∙ (bytes_eq-Decides y y).1 refl in cc)

-- one part more before those that have numbers
pub number_more : (old new : List ℕ → Option ℕ) (parts : List program.Part) (k n : ℕ) (item : program.Part)
    → k < length parts → k + 1 ≡ n → item ≡ get_or parts k item
    → ((x : List ℕ) → new x ≡ (if bytes_eq (name_of (part_view item)) x then Some k else old x))
    → ((x : List ℕ) → old x ≡ position_from (bytes_eq x) n (map name_of (map part_view (drop n parts))))
    → (x : List ℕ) → new x ≡ position_from (bytes_eq x) k (map name_of (map part_view (drop k parts)))
number_more old new parts k n item l up is put before x =
    let name = name_of (part_view item) in
    let next : suc k ≡ n = omega (arith, up) in
    let rest = map name_of (map part_view (drop n parts)) in
    let split : drop k parts ≡ item ∷ drop n parts =
    drop-cons parts k item l ∙ ap (λ y. y ∷ drop (suc k) parts) (sym is) ∙ ap (λ m. item ∷ drop m parts) next in
    put x ∙ ap (λ b. if b then Some k else old x) (eq_back name x)
    ∙ ap (λ o. if bytes_eq x name then Some k else o) (before x)
    ∙ ap (λ m. if bytes_eq x name then Some k else position_from (bytes_eq x) m rest) (sym up)
    ∙ sym (ap (λ ps. position_from (bytes_eq x) k (map name_of (map part_view ps))) split)

-- ---- parts of a project

module _ (f : ℕ → Option Module) where
  one_item : (n : ℕ) → map project_part (option_to_list (f n)) ≡ map project_part (filter_map f (n ∷ []))
  one_item n = at (f n)
    where
      at : (o : Option Module) → map project_part (option_to_list o) ≡ map project_part (cons_option o [])
      at None = refl
      at (Some m) = refl

  -- the module of one number more
  pub project_more : (old now new : List Part) (items order : List ℕ) (i : ℕ) → items ≡ order → i < length items
      → now ≡ old ++ map project_part (filter_map f (take i order))
      → new ≡ now ++ map project_part (option_to_list (f (get_or items i 0)))
      → new ≡ old ++ map project_part (filter_map f (take (i + 1) order))
  project_more old now new items order i same l before put =
      let n = get_or items i 0 in
      let front = filter_map f (take i order) in
      let more : take (i + 1) order ≡ take i order ++ n ∷ [] =
      subst (λ xs. take (i + 1) xs ≡ take i xs ++ n ∷ []) same (take_more items i 0 l) in
      put ∙ ap (λ ps. ps ++ map project_part (option_to_list (f n))) before
      ∙ ap (λ ps. (old ++ map project_part front) ++ ps) (one_item n)
      ∙ append_assoc old (map project_part front) (map project_part (filter_map f (n ∷ [])))
      ∙ ap (λ ps. old ++ ps) (sym (map-append project_part front (filter_map f (n ∷ []))))
      ∙ ap (λ ms. old ++ map project_part ms) (sym (filter_map-append f (take i order) (n ∷ [])))
      ∙ ap (λ ns. old ++ map project_part (filter_map f ns)) (sym more)

pub take_all : {X : Type 0} (xs : List X) (n : ℕ) → length xs ≤ n → take n xs ≡ xs
take_all [] zero l = refl
take_all [] (suc n) l = refl
take_all (x ∷ xs) zero l = absurd (omega (arith, l))
take_all (x ∷ xs) (suc n) l = ap (λ ys. x ∷ ys) (take_all xs n (omega (arith, l)))
