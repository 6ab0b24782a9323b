-- Where the table places each name.
use Rattle.std.proofs.Common.{◌≡◌, ℕ, zero, suc, ◌+◌, ◌<◌, List, [], ◌∷◌, ◌++◌, length, map, Bool, true, false, cond}
use Rattle.std.proofs.Common.{Some, refl, sym, ap, ◌∙◌, arith, length-append}
use Rattle.std.specs.Prelude.{◌||◌, not, filter, slice_get}
use Rattle.std.specs.Str.{bytes_eq}
use Rattle.std.proofs.lemmas.List.{length-map}
use Rattle.elm_type.specs.Types.{Name}
use Rattle.elm_type.specs.Ground.{contains}
use Rattle.type_items.specs.Annotations.{number_of}
use Rattle.type_store.proofs.Names.{same_name}
use Rattle.infer_steps.specs.Codes.{Code}
use Rattle.infer_types.proofs.Numbering.{number_below, number_at}
use Rattle.infer_types.specs.Table.{is_own, own_names, outer_names, table}

-- the number of a name: own ones are counted from the first number on, the others from the second on
abbrev pub placed : Bool → ℕ → ℕ → List Name → List Name → Name → ℕ
placed true own outer owns outers a = own + number_of a owns
placed false own outer owns outers a = outer + number_of a outers

pub first_number : (a x : Name) (xs : List Name) → bytes_eq a x ≡ true → number_of a (x ∷ xs) ≡ 0
first_number a x xs is = ap (λ b. cond (not b) (1 + number_of a xs) 0) is

pub next_number : (a x : Name) (xs : List Name) → bytes_eq a x ≡ false → number_of a (x ∷ xs) ≡ suc (number_of a xs)
next_number a x xs is =
    (let e : 1 + number_of a xs ≡ suc (number_of a xs) = omega arith in ap (λ b. cond (not b) (1 + number_of a xs) 0) is
    ∙ e)

-- what a test keeps is there
pub kept : (test : Name → Bool) (a : Name) (xs : List Name) → contains a xs ≡ true → test a ≡ true
    → contains a (filter test xs) ≡ true
kept test a [] e y = absurd cc
kept test a (x ∷ xs) e y = go (kept test a xs) (bytes_eq a x) refl (test x) refl e
  where
    go : (contains a xs ≡ true → test a ≡ true → contains a (filter test xs) ≡ true) → (b : Bool) → bytes_eq a x ≡ b
        → (c : Bool) → test x ≡ c → (b || contains a xs) ≡ true
        → contains a (cond c (x ∷ filter test xs) (filter test xs)) ≡ true
    go again true is true t h = ap (λ b. b || contains a (filter test xs)) is
    go again true is false t h = absurd (let no : test a ≡ false = ap test (same_name a x is) ∙ t in cc)
    go again false is true t h = ap (λ b. b || contains a (filter test xs)) is ∙ again h y
    go again false is false t h = again h y

module _ (code : Code) (a : Name) where
  abbrev here : Bool
  here = is_own code a

  own_first : (b : Bool) (x : Name) (owns outers : List Name) (own outer : ℕ) → bytes_eq a x ≡ true → b ≡ true
      → own ≡ placed b own outer (x ∷ owns) outers a
  own_first true x owns outers own outer is e = omega (arith, first_number a x owns is)
  own_first false x owns outers own outer is e = absurd cc

  outer_first : (b : Bool) (x : Name) (owns outers : List Name) (own outer : ℕ) → bytes_eq a x ≡ true → b ≡ false
      → outer ≡ placed b own outer owns (x ∷ outers) a
  outer_first true x owns outers own outer is e = absurd cc
  outer_first false x owns outers own outer is e = omega (arith, first_number a x outers is)

  own_next : (b : Bool) (x : Name) (owns outers : List Name) (own outer : ℕ) → bytes_eq a x ≡ false
      → placed b (own + 1) outer owns outers a ≡ placed b own outer (x ∷ owns) outers a
  own_next true x owns outers own outer is = omega (arith, next_number a x owns is)
  own_next false x owns outers own outer is = refl

  outer_next : (b : Bool) (x : Name) (owns outers : List Name) (own outer : ℕ) → bytes_eq a x ≡ false
      → placed b own (outer + 1) owns outers a ≡ placed b own outer owns (x ∷ outers) a
  outer_next true x owns outers own outer is = refl
  outer_next false x owns outers own outer is = omega (arith, next_number a x outers is)

  -- the table has the number of the name at its place
  pub table_at : (xs : List Name) (own outer : ℕ) → contains a xs ≡ true
      → slice_get (table code own outer xs) (number_of a xs)
      ≡ Some (placed here own outer (own_names code xs) (outer_names code xs) a)
  table_at [] own outer e = absurd cc
  table_at (x ∷ xs) own outer e =
      go (table_at xs (own + 1) outer) (table_at xs own (outer + 1)) (bytes_eq a x) refl (is_own code x) refl e
    where
      go : (contains a xs ≡ true → slice_get (table code (own + 1) outer xs) (number_of a xs)
          ≡ Some (placed here (own + 1) outer (own_names code xs) (outer_names code xs) a))
          → (contains a xs ≡ true → slice_get (table code own (outer + 1) xs) (number_of a xs)
          ≡ Some (placed here own (outer + 1) (own_names code xs) (outer_names code xs) a))
          → (b : Bool) → bytes_eq a x ≡ b → (c : Bool) → is_own code x ≡ c → (b || contains a xs) ≡ true
          → slice_get (cond c (own ∷ table code (own + 1) outer xs) (outer ∷ table code own (outer + 1) xs))
          (number_of a (x ∷ xs))
          ≡ Some (placed here own outer (cond c (x ∷ (own_names code xs)) (own_names code xs))
          (cond (not c) (x ∷ (outer_names code xs)) (outer_names code xs)) a)
      go one two true is true none h =
          ap (slice_get (own ∷ table code (own + 1) outer xs)) (first_number a x xs is)
          ∙ ap (λ n. Some n) (own_first here x (own_names code xs) (outer_names code xs) own outer is
          (ap (is_own code) (same_name a x is) ∙ none))
      go one two true is false none h =
          ap (slice_get (outer ∷ table code own (outer + 1) xs)) (first_number a x xs is)
          ∙ ap (λ n. Some n) (outer_first here x (own_names code xs) (outer_names code xs) own outer is
          (ap (is_own code) (same_name a x is) ∙ none))
      go one two false is true none h =
          ap (slice_get (own ∷ table code (own + 1) outer xs)) (next_number a x xs is)
          ∙ (one h ∙ ap (λ n. Some n) (own_next here x (own_names code xs) (outer_names code xs) own outer is))
      go one two false is false none h =
          ap (slice_get (outer ∷ table code own (outer + 1) xs)) (next_number a x xs is)
          ∙ (two h ∙ ap (λ n. Some n) (outer_next here x (own_names code xs) (outer_names code xs) own outer is))

-- ---- what stands at these numbers

pub in_front : {Y : Type 0} (xs ys : List Y) (i : ℕ) → i < length xs → slice_get (xs ++ ys) i ≡ slice_get xs i
in_front [] ys i l = absurd (omega (arith, l))
in_front (x ∷ xs) ys zero l = refl
in_front (x ∷ xs) ys (suc i) l = in_front xs ys i (omega (arith, l))

pub after_front : {Y : Type 0} (xs ys : List Y) (i j : ℕ) → j ≡ length xs + i → slice_get (xs ++ ys) j ≡ slice_get ys i
after_front [] ys i j e = (let same : j ≡ i = omega (arith, e) in ap (slice_get ys) same)
after_front (x ∷ xs) ys i zero e = absurd (omega (arith, e))
after_front (x ∷ xs) ys i (suc j) e = after_front xs ys i j (omega (arith, e))

module _ (code : Code) (xs : List Name) where
  abbrev pub number : Name → ℕ
  number a =
      placed (is_own code a) 0 (length (own_names code xs)) (own_names code xs) (outer_names code xs) a

  pub own_there : (a : Name) → contains a xs ≡ true → is_own code a ≡ true → contains a (own_names code xs) ≡ true
  own_there a e own = kept (is_own code) a xs e own

  pub outer_there : (a : Name) → contains a xs ≡ true → is_own code a ≡ false → contains a (outer_names code xs) ≡ true
  outer_there a e own = kept (λ x. not (is_own code x)) a xs e (ap not own)

  module _ {Y : Type 0} (f : Name → Y) where
    -- own ones first, and then the others
    abbrev pub all_of : List Y
    all_of = map f (own_names code xs) ++ map f (outer_names code xs)

    pub value_at : (a : Name) → contains a xs ≡ true → slice_get all_of (number a) ≡ Some (f a)
    value_at a e = go (is_own code a) refl
      where
        go : (b : Bool) → is_own code a ≡ b
            → slice_get all_of (placed b 0 (length (own_names code xs)) (own_names code xs) (outer_names code xs) a)
            ≡ Some (f a)
        go true own =
            (let there = own_there a e own in
            let z : 0 + number_of a (own_names code xs) ≡ number_of a (own_names code xs) = omega arith in
            let l = number_below a (own_names code xs) there in
            ap (slice_get all_of) z
            ∙ (in_front (map f (own_names code xs)) (map f (outer_names code xs)) (number_of a (own_names code xs))
            (omega (arith, l, length-map (own_names code xs) f))
            ∙ number_at f a (own_names code xs) there))
        go false own =
            after_front (map f (own_names code xs)) (map f (outer_names code xs)) (number_of a (outer_names code xs))
            (length (own_names code xs) + number_of a (outer_names code xs))
            (ap (λ n. n + number_of a (outer_names code xs)) (sym (length-map (own_names code xs) f)))
            ∙ number_at f a (outer_names code xs) (outer_there a e own)

    pub many : length all_of ≡ length (own_names code xs) + length (outer_names code xs)
    many =
        length-append (map f (own_names code xs)) (map f (outer_names code xs))
        ∙ (ap (λ n. n + length (map f (outer_names code xs))) (length-map (own_names code xs) f)
        ∙ ap (λ n. length (own_names code xs) + n) (length-map (outer_names code xs) f))

    pub placed_below : (a : Name) → contains a xs ≡ true → number a < length all_of
    placed_below a e = go (is_own code a) refl
      where
        go : (b : Bool) → is_own code a ≡ b
            → placed b 0 (length (own_names code xs)) (own_names code xs) (outer_names code xs) a < length all_of
        go true own =
            (let l = number_below a (own_names code xs) (own_there a e own) in omega (arith, l, many))
        go false own =
            (let l = number_below a (outer_names code xs) (outer_there a e own) in omega (arith, l, many))
