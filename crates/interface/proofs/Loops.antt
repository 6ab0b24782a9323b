-- Loops that write and read lists.
use Rattle.std.proofs.Common.{◌≡◌, ℕ, zero, suc, ◌+◌, ◌-◌, ◌<◌, ◌≤◌, ◌&&◌, List, [], ◌∷◌, ◌++◌, length, take, get_or, Option, Some, None, Bool, true, false, refl, sym, ap, subst, ◌∙◌, append_assoc, append-nil, arith}
use Rattle.std.proofs.lemmas.Grind.{common_steps}
use Rattle.std.specs.List.{flat_map, list_all}
use Rattle.interface.specs.Formats.{◌>>=◌, Format, Puts, list, times}
use Rattle.interface.specs.Text.{count_format}
use Rattle.interface.specs.Reading.{Fails}
use Rattle.interface.specs.declared.error.ReadError.{ReadError}
use Rattle.interface.specs.declared.error.ReadError.TheVariants.{NoMemory, Refused}

-- ---- writing

-- the length n of a list and its first i values are added
pub record PutsFirst {A : Type 0} (f : Format A) (old new : List ℕ) (n i : ℕ) (xs : List A) : Type 0 where
  pub bytes : new ≡ old ++ (count_format.put n ++ flat_map f.put xs)
  pub counted : count_format.fits n ≡ true
  pub fit : list_all f.fits xs ≡ true
  pub many : length xs ≡ i

put_more : {A : Type 0} (f : Format A) (xs : List A) (a : A) → flat_map f.put (xs ++ a ∷ []) ≡ flat_map f.put xs ++ f.put a
put_more f [] a = append-nil (f.put a)
put_more f (x ∷ xs) a = ap (λ (bs : List ℕ). f.put x ++ bs) (put_more f xs a) ∙ sym (append_assoc (f.put x) (flat_map f.put xs) (f.put a))

fits_more : {A : Type 0} (f : Format A) (xs : List A) (a : A) → list_all f.fits xs ≡ true → f.fits a ≡ true → list_all f.fits (xs ++ a ∷ []) ≡ true
fits_more f xs a h k = grind (arith, common_steps)

length_more : {A : Type 0} (xs : List A) (a : A) → length (xs ++ a ∷ []) ≡ suc (length xs)
length_more [] a = refl
length_more (x ∷ xs) a = ap suc (length_more xs a)

take_none : {X : Type 0} (xs : List X) → take 0 xs ≡ []
take_none [] = refl
take_none (x ∷ xs) = refl

take_more : {X : Type 0} (xs : List X) (i : ℕ) (x : X) → i < length xs → x ≡ get_or xs i x → take (suc i) xs ≡ take i xs ++ x ∷ []
take_more [] i x lt is = absurd (omega (arith, lt))
take_more {X} (y ∷ ys) zero x lt is = ap (λ (z : X). z ∷ []) (sym is) ∙ ap (λ (zs : List X). zs ++ x ∷ []) (sym (take_none (y ∷ ys)))
take_more {X} (y ∷ ys) (suc i) x lt is = ap (λ (zs : List X). y ∷ zs) (take_more ys i x (omega (arith, lt)) is)

take_all : {X : Type 0} (xs : List X) → take (length xs) xs ≡ xs
take_all [] = refl
take_all {X} (x ∷ xs) = ap (λ (ys : List X). x ∷ ys) (take_all xs)

both : (b c : Bool) → b ≡ true → c ≡ true → (b && c) ≡ true
both true true h k = refl
both true false h k = absurd (cc)
both false true h k = absurd (cc)
both false false h k = absurd (cc)

-- what is seen of a list: of each item in turn
module _ {X A : Type 0} (view : X → A) (views : List X → List A) (none : views [] ≡ []) (more : (xs : List X) (x : X) → views (xs ++ x ∷ []) ≡ views xs ++ view x ∷ [])
    (f : Format A) where
  pub none_put : (items : List X) (old new : List ℕ) (n : ℕ) → Puts count_format old new n → PutsFirst f old new n 0 (views (take 0 items))
  none_put items old new n puts =
      subst (λ (xs : List A). PutsFirst f old new n 0 xs) (sym (ap views (take_none items) ∙ none))
      (record { bytes = puts.0 ∙ ap (λ (bs : List ℕ). old ++ bs) (sym (append-nil (count_format.put n))); counted = puts.1; fit = refl; many = refl })

  pub one_put : (items : List X) (i j : ℕ) (x : X) (old mid new : List ℕ) (n : ℕ) → j ≡ suc i → i < length items → x ≡ get_or items i x → Puts f mid new (view x)
      → PutsFirst f old mid n i (views (take i items)) → PutsFirst f old new n j (views (take j items))
  one_put items i j x old mid new n next lt is puts before =
      let xs : List A = views (take i items) in
      let e : views (take j items) ≡ xs ++ view x ∷ [] = ap (λ (k : ℕ). views (take k items)) next ∙ ap views (take_more items i x lt is) ∙ more (take i items) x in
      subst (λ (ys : List A). PutsFirst f old new n j ys) (sym e)
      (record {
        bytes =
            puts.0 ∙ ap (λ (bs : List ℕ). bs ++ f.put (view x)) before.bytes ∙ append_assoc old (count_format.put n ++ flat_map f.put xs) (f.put (view x))
            ∙ ap (λ (bs : List ℕ). old ++ bs) (append_assoc (count_format.put n) (flat_map f.put xs) (f.put (view x)) ∙ ap (λ (bs : List ℕ). count_format.put n ++ bs) (sym (put_more f xs (view x))));
        counted = before.counted;
        fit = fits_more f xs (view x) before.fit puts.1;
        many = length_more xs (view x) ∙ ap suc before.many ∙ sym next;
      })

  pub all_put : (items : List X) (i : ℕ) (old new : List ℕ) → length items ≤ i → i ≤ length items → PutsFirst f old new (length items) i (views (take i items))
      → Puts (list count_format f) old new (views items)
  all_put items i old new low high before =
      let whole : i ≡ length items = omega (arith, low, high) in
      let xs : List A = views (take i items) in
      let count : length items ≡ length xs = sym (before.many ∙ whole) in
      subst (λ (ys : List A). Puts (list count_format f) old new ys) (ap views (ap (λ (k : ℕ). take k items) whole ∙ take_all items)) (
        before.bytes ∙ ap (λ (k : ℕ). old ++ (count_format.put k ++ flat_map f.put xs)) count,
        both (count_format.fits (length xs)) (list_all f.fits xs) (subst (λ (k : ℕ). count_format.fits k ≡ true) count before.counted) before.fit,
      )

-- ---- reading

-- what was read before, and what is still read
abbrev pub with_front : {A : Type 0} → List A → Option (List A × List ℕ) → Option (List A × List ℕ)
with_front front read = read >>= λ x. Some (front ++ x.0, x.1)

pub begins : {A : Type 0} (get : List ℕ → Option (A × List ℕ)) (front : List A) (n count : ℕ) (bytes : List ℕ) → front ≡ [] → n ≡ count → with_front front (times get n bytes) ≡ times get count bytes
begins {A} get front n count bytes e k =
    ap (λ (xs : List A). with_front xs (times get n bytes)) e ∙ ap (λ (m : ℕ). with_front [] (times get m bytes)) k ∙ at (times get count bytes)
  where
    at : (read : Option (List A × List ℕ)) → with_front [] read ≡ read
    at None = refl
    at (Some x) = refl

regroup : {A : Type 0} (front : List A) (a : A) (read : Option (List A × List ℕ)) → with_front front (read >>= λ x. Some (a ∷ x.0, x.1)) ≡ with_front (front ++ a ∷ []) read
regroup {A} front a (Some x) = ap (λ (as_ : List A). Some (as_, x.1)) (sym (append_assoc front (a ∷ []) x.0))
regroup front a None = refl

pub goes_on : {A : Type 0} (get : List ℕ → Option (A × List ℕ)) (front : List A) (count i : ℕ) (bytes : List ℕ) (a : A) (after : List ℕ) (total : Option (List A × List ℕ)) → i < count → get bytes ≡ Some (a, after)
    → with_front front (times get (count - i) bytes) ≡ total → with_front (front ++ a ∷ []) (times get (count - (i + 1)) after) ≡ total
unfolding times
goes_on {A} get front count i bytes a after total lt h so_far =
    let k : count - i ≡ suc (count - (i + 1)) = omega arith in
    let one : with_front front (times get (count - i) bytes) ≡ with_front (front ++ a ∷ []) (times get (count - (i + 1)) after) = rw (k, h) (regroup front a (times get (count - (i + 1)) after)) in
    sym one ∙ so_far

pub ends : {A : Type 0} (e : ReadError) (get : List ℕ → Option (A × List ℕ)) (front : List A) (count i : ℕ) (bytes : List ℕ) (total : Option (List A × List ℕ)) → i < count → Fails e (get bytes)
    → with_front front (times get (count - i) bytes) ≡ total → Fails e total
unfolding times
ends NoMemory get front count i bytes total lt h so_far = tt
ends Refused get front count i bytes total lt h so_far =
    let k : count - i ≡ suc (count - (i + 1)) = omega arith in
    let one : with_front front (times get (count - i) bytes) ≡ None = rw (k, h) refl in
    sym so_far ∙ one

pub is_done : {A : Type 0} (get : List ℕ → Option (A × List ℕ)) (front : List A) (count i : ℕ) (bytes : List ℕ) (total : Option (List A × List ℕ)) → count ≤ i → with_front front (times get (count - i) bytes) ≡ total → total ≡ Some (front, bytes)
unfolding times
is_done {A} get front count i bytes total le so_far =
    let k : count - i ≡ 0 = omega arith in
    let one : with_front front (times get (count - i) bytes) ≡ Some (front, bytes) = rw k (ap (λ (as_ : List A). Some (as_, bytes)) (append-nil front)) in
    sym so_far ∙ one
