-- Names, each once, and their numbers.
use Rattle.std.proofs.Common.{◌≡◌, ℕ, suc, ◌+◌, ◌<◌, List, [], ◌∷◌, ◌++◌, length, drop, get_or, reverse, Bool, true}
use Rattle.std.proofs.Common.{false, cond, not, Some, None, refl, sym, ap, ◌∙◌, subst, arith}
use Rattle.std.proofs.Common.{add-one, drop-cons, append_assoc}
use Rattle.std.specs.Prelude.{◌||◌, is_some, if◌then◌else◌}
use Rattle.std.specs.Str.{bytes_eq}
use Rattle.std.specs.HashMap as hash
use Rattle.std.specs.HashMap.{HashMap}
use Rattle.std.proofs.lemmas.List.{reverse-append}
use Rattle.elm_type.specs.Types.{Name}
use Rattle.elm_type.specs.Ground.{contains}
use Rattle.type_items.specs.Annotations.{number_of, once}
use Rattle.type_store.proofs.Names.{same_name, equal_itself}
use Rattle.type_schemes.specs.Names.{place_in, IsTable}

-- ---- what is contained

or_assoc : (a b c : Bool) → (a || (b || c)) ≡ ((a || b) || c)
or_assoc true b c = refl
or_assoc false b c = refl

or_swap : (a b : Bool) → (a || (b || false)) ≡ (b || a)
or_swap true true = refl
or_swap true false = refl
or_swap false true = refl
or_swap false false = refl

or_nothing : (b : Bool) → (b || (false || false)) ≡ b
or_nothing true = refl
or_nothing false = refl

contains_append : (x : Name) (ys zs : List Name) → contains x (ys ++ zs) ≡ (contains x ys || contains x zs)
contains_append x [] zs = refl
contains_append x (y ∷ ys) zs =
    ap (λ b. bytes_eq x y || b) (contains_append x ys zs) ∙ or_assoc (bytes_eq x y) (contains x ys) (contains x zs)

contains_reverse : (x : Name) (ys : List Name) → contains x (reverse ys) ≡ contains x ys
contains_reverse x [] = refl
contains_reverse x (y ∷ ys) =
    ap (contains x) (reverse-append (y ∷ []) ys)
    ∙ (contains_append x (reverse ys) (y ∷ [])
    ∙ (ap (λ b. b || (bytes_eq x y || false)) (contains_reverse x ys) ∙ or_swap (contains x ys) (bytes_eq x y)))

-- ---- each once

pub once_step : (xs after : List Name) (a : Name) (rest : List Name)
    → after ≡ (if contains a xs then xs else xs ++ a ∷ [])
    → after ++ once rest (reverse after) ≡ xs ++ once (a ∷ rest) (reverse xs)
once_step xs after a rest e = go (contains a xs) refl e
  where
    go : (b : Bool) → contains a xs ≡ b → after ≡ cond b xs (xs ++ a ∷ [])
        → after ++ once rest (reverse after) ≡ xs ++ once (a ∷ rest) (reverse xs)
    go true h k =
        ap (λ ys. ys ++ once rest (reverse ys)) k
        ∙ ap (λ b. xs ++ cond b (once rest (reverse xs)) (a ∷ once rest (a ∷ reverse xs)))
        (sym (contains_reverse a xs ∙ h))
    go false h k =
        ap (λ ys. ys ++ once rest (reverse ys)) k
        ∙ (ap (λ ys. (xs ++ a ∷ []) ++ once rest ys) (reverse-append xs (a ∷ []))
        ∙ (append_assoc xs (a ∷ []) (once rest (a ∷ reverse xs))
        ∙ ap (λ b. xs ++ cond b (once rest (reverse xs)) (a ∷ once rest (a ∷ reverse xs)))
        (sym (contains_reverse a xs ∙ h))))

-- on the way: what is left of the names
pub once_on : (ns xs after all : List Name) (i : ℕ) (a : Name) → i < length ns → a ≡ get_or ns i a
    → after ≡ (if contains a xs then xs else xs ++ a ∷ [])
    → xs ++ once (drop i ns) (reverse xs) ≡ all → after ++ once (drop (i + 1) ns) (reverse after) ≡ all
once_on ns xs after all i a l is e h =
    let d : drop i ns ≡ a ∷ drop (i + 1) ns = drop-cons ns i a l ∙
    (ap (λ m. m ∷ drop (suc i) ns) (sym is) ∙ ap (λ j. a ∷ drop j ns) (sym (add-one i))) in
    once_step xs after a (drop (i + 1) ns) e ∙ (ap (λ ms. xs ++ once ms (reverse xs)) (sym d) ∙ h)

-- ---- numbers

pub absent_number : (x : Name) (ys : List Name) → contains x ys ≡ false → number_of x ys ≡ length ys
absent_number x [] e = refl
absent_number x (y ∷ ys) e = go (bytes_eq x y) e (absent_number x ys)
  where
    go : (b : Bool) → (b || contains x ys) ≡ false → (contains x ys ≡ false → number_of x ys ≡ length ys)
        → cond (not b) (1 + number_of x ys) 0 ≡ suc (length ys)
    go true h again = absurd (cc)
    go false h again = let k = again h in omega (arith, k)

last_number : (x : Name) (ys : List Name) → contains x ys ≡ false → number_of x (ys ++ x ∷ []) ≡ length ys
last_number x [] e = ap (λ b. cond (not b) (1 + 0) 0) (equal_itself x)
last_number x (y ∷ ys) e = go (bytes_eq x y) e (last_number x ys)
  where
    go : (b : Bool) → (b || contains x ys) ≡ false → (contains x ys ≡ false → number_of x (ys ++ x ∷ []) ≡ length ys)
        → cond (not b) (1 + number_of x (ys ++ x ∷ [])) 0 ≡ suc (length ys)
    go true h again = absurd (cc)
    go false h again = let k = again h in omega (arith, k)

number_stays : (x : Name) (ys more : List Name) → contains x ys ≡ true → number_of x (ys ++ more) ≡ number_of x ys
number_stays x [] more e = absurd (cc)
number_stays x (y ∷ ys) more e = go (bytes_eq x y) e (number_stays x ys more)
  where
    go : (b : Bool) → (b || contains x ys) ≡ true → (contains x ys ≡ true → number_of x (ys ++ more) ≡ number_of x ys)
        → cond (not b) (1 + number_of x (ys ++ more)) 0 ≡ cond (not b) (1 + number_of x ys) 0
    go true h again = refl
    go false h again = ap (λ n. 1 + n) (again h)

-- one name more
module _ (a : Name) (ys : List Name) (new : contains a ys ≡ false) where
  itself : Some (length ys) ≡ place_in a (ys ++ a ∷ [])
  itself =
      ap Some (sym (last_number a ys new))
      ∙ ap (λ b. cond b (Some (number_of a (ys ++ a ∷ []))) None)
      (sym (contains_append a ys (a ∷ []) ∙ (ap (λ b. b || (bytes_eq a a || false)) new ∙ ap (λ b. b || false)
      (equal_itself a))))

  same : (q : Name) → bytes_eq q a ≡ false → contains q (ys ++ a ∷ []) ≡ contains q ys
  same q e = contains_append q ys (a ∷ []) ∙ (ap (λ b. contains q ys || (b || false)) e ∙ or_nothing (contains q ys))

  other : (q : Name) → bytes_eq q a ≡ false → place_in q ys ≡ place_in q (ys ++ a ∷ [])
  other q e = go (contains q ys) refl
    where
      go : (b : Bool) → contains q ys ≡ b → cond (contains q ys)
          (Some (number_of q ys)) None ≡ place_in q (ys ++ a ∷ [])
      go true h =
          ap (λ n. cond (contains q ys) (Some n) None) (sym (number_stays q ys (a ∷ []) h))
          ∙ ap (λ b. cond b (Some (number_of q (ys ++ a ∷ []))) None) (sym (same q e))
      go false h =
          ap (λ b. cond b (Some (number_of q ys)) None) h
          ∙ ap (λ b. cond b (Some (number_of q (ys ++ a ∷ []))) None) (sym (same q e ∙ h))

  turned : (q : Name) → bytes_eq a q ≡ false → bytes_eq q a ≡ false
  turned q e = go (bytes_eq q a) refl
    where
      go : (b : Bool) → bytes_eq q a ≡ b → b ≡ false
      go true h = absurd (let x : true ≡ false = sym (ap (bytes_eq a) (same_name q a h) ∙ equal_itself a) ∙ e in cc)
      go false h = refl

  pub table_more : {S : Type 0} (old after : HashMap Name ℕ S) → IsTable old ys
      → ((q : Name) → hash.get bytes_eq after q ≡ cond (bytes_eq a q) (Some (length ys)) (hash.get bytes_eq old q)) →
      IsTable after (ys ++ a ∷ [])
  table_more old after h more q = more q ∙ (ap (cond (bytes_eq a q) (Some (length ys))) (h q) ∙ go (bytes_eq a q) refl)
    where
      go : (b : Bool) → bytes_eq a q ≡ b → cond b (Some (length ys)) (place_in q ys) ≡ place_in q (ys ++ a ∷ [])
      go true e = subst (λ x. Some (length ys) ≡ place_in x (ys ++ a ∷ [])) (same_name a q e) itself
      go false e = other q (turned q e)

-- what the table says of a name
pub found_number : (x : Name) (ys : List Name) (n : ℕ) → place_in x ys ≡ Some n → n ≡ number_of x ys
found_number x ys n e = go (contains x ys) e
  where
    go : (b : Bool) → cond b (Some (number_of x ys)) None ≡ Some n → n ≡ number_of x ys
    go true h = cc
    go false h = absurd (cc)

pub not_found : (x : Name) (ys : List Name) → place_in x ys ≡ None → contains x ys ≡ false
not_found x ys e = go (contains x ys) e
  where
    go : (b : Bool) → cond b (Some (number_of x ys)) None ≡ None → b ≡ false
    go true h = absurd (cc)
    go false h = refl

pub absent_by : (x : Name) (ys : List Name) (b : Bool) → b ≡ is_some (place_in x ys) → b ≡ false → contains x ys ≡ false
absent_by x ys b e f = go (contains x ys) (sym e ∙ f)
  where
    go : (k : Bool) → is_some (cond k (Some (number_of x ys)) None) ≡ false → k ≡ false
    go true h = absurd (cc)
    go false h = refl

-- one name more in a set
pub seen_more : (a : Name) (ys : List Name) (q : Name)
    → cond (bytes_eq a q) true (contains q ys) ≡ contains q (ys ++ a ∷ [])
seen_more a ys q = go (bytes_eq a q) refl ∙ sym (contains_append q ys (a ∷ []))
  where
    plain_or : (b : Bool) → b ≡ (b || (false || false))
    plain_or true = refl
    plain_or false = refl

    or_true : (b : Bool) → (b || (true || false)) ≡ true
    or_true true = refl
    or_true false = refl

    back : (b : Bool) → bytes_eq a q ≡ false → bytes_eq q a ≡ b → b ≡ false
    back true e h = absurd (let x : true ≡ false = sym (ap (bytes_eq a) (same_name q a h) ∙ equal_itself a) ∙ e in cc)
    back false e h = refl

    go : (b : Bool) → bytes_eq a q ≡ b → cond b true (contains q ys) ≡ (contains q ys || (bytes_eq q a || false))
    go true e =
        sym (ap (λ b. contains q ys || (b || false)) (ap (λ x. bytes_eq x a) (sym (same_name a q e)) ∙ equal_itself a)
        ∙ or_true (contains q ys))
    go false e =
        plain_or (contains q ys) ∙ ap (λ b. contains q ys || (b || false)) (sym (back (bytes_eq q a) e refl))
