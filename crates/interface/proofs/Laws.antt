-- What is read is what was written, and what was written is read.
use Rattle.std.proofs.Common.{◌≡◌, ℕ, zero, suc, ◌<◌, ◌≤◌, List, [], ◌∷◌, ◌++◌, length, Option, Some, None, Bool, true}
use Rattle.std.proofs.Common.{false, ◌&&◌, ◌==◌, if◌then◌else◌, refl, sym, ap, ◌∙◌, subst, append_assoc, append-nil, arith}
use Rattle.std.specs.List.{flat_map, list_all}
use Rattle.interface.specs.Formats.{◌>>=◌, Format, pair, made_of, checked, times, list, nothing, Either, First, Other}
use Rattle.interface.specs.Formats.{Forms, form, form_or, choice, whole}

-- what a step that gave something was
pub bind_some : {A B : Type 0} (r : Option A) (f : A → Option B) (y : B) → (r >>= f) ≡ Some y → (x : A) × (r ≡ Some x) × (f x ≡ Some y)
bind_some None f y e = absurd (cc)
bind_some (Some x) f y e = (x, refl, e)

abbrev some : {A : Type 0} → A → Option A
some x = Some x

pub some_is : {A : Type 0} (x y : A) → some x ≡ some y → x ≡ y
some_is x y e = cc

pub both_true : (a b : Bool) → (a && b) ≡ true → (a ≡ true) × (b ≡ true)
both_true true true e = (refl, refl)
both_true true false e = absurd (cc)
both_true false b e = absurd (cc)

pub and_true : (a b : Bool) → a ≡ true → b ≡ true → (a && b) ≡ true
and_true a b e f = ap (λ x. x && b) e ∙ f

-- the bytes are those of the value, which can be written, and then the rest
pub record Takes {A : Type 0} (f : Format A) (bs : List ℕ) (a : A) (rest : List ℕ) : Type 0 where
  pub parts : bs ≡ f.put a ++ rest
  pub fits : f.fits a ≡ true

pub record Lawful {A : Type 0} (f : Format A) : Type 0 where
  pub takes : (bs : List ℕ) (x : A × List ℕ) → f.get bs ≡ Some x → Takes f bs x.0 x.1
  pub again : (a : A) (rest : List ℕ) → f.fits a ≡ true → f.get (f.put a ++ rest) ≡ Some (a, rest)

-- ---- values of parts

pub lawful_pair : {A B : Type 0} (f : Format A) (g : Format B) → Lawful f → Lawful g → Lawful (pair f g)
lawful_pair {A} {B} f g k l = record {
  takes = λ bs x e.
      let a = bind_some (f.get bs) (λ a. g.get a.1 >>= λ b. Some ((a.0, b.0), b.1)) x e in
      let b = bind_some (g.get a.0.1) (λ b. Some ((a.0.0, b.0), b.1)) x a.2 in
      let first = k.takes bs a.0 a.1 in
      let second = l.takes a.0.1 b.0 b.1 in
      let made : (A × B) × List ℕ = ((a.0.0, b.0.0), b.0.1) in
      subst (λ (y : (A × B) × List ℕ). Takes (pair f g) bs y.0 y.1) (some_is made x b.2) (record {
        parts = first.parts ∙ ap (λ (r : List ℕ). f.put a.0.0 ++ r) second.parts ∙ sym (append_assoc (f.put a.0.0) (g.put b.0.0) b.0.1);
        fits = and_true (f.fits a.0.0) (g.fits b.0.0) first.fits second.fits;
      });
  again = λ p rest fits.
      let h = both_true (f.fits p.0) (g.fits p.1) fits in
      ap (pair f g).get (append_assoc (f.put p.0) (g.put p.1) rest)
      ∙ ap (λ (r : Option (A × List ℕ)). r >>= λ a. g.get a.1 >>= λ b. Some ((a.0, b.0), b.1)) (k.again p.0 (g.put p.1 ++ rest) h.0)
      ∙ ap (λ (r : Option (B × List ℕ)). r >>= λ b. Some ((p.0, b.0), b.1)) (l.again p.1 rest h.1);
}

pub lawful_made : {A B : Type 0} (f : Format A) (make : A → B) (parts : B → A) → Lawful f → ((a : A) → parts (make a) ≡ a) → ((b : B) → make (parts b) ≡ b) → Lawful (made_of f make parts)
lawful_made {A} {B} f make parts k back forth = record {
  takes = λ bs x e.
      let a = bind_some (f.get bs) (λ a. Some (make a.0, a.1)) x e in
      let first = k.takes bs a.0 a.1 in
      let made : B × List ℕ = (make a.0.0, a.0.1) in
      subst (λ (y : B × List ℕ). Takes (made_of f make parts) bs y.0 y.1) (some_is made x a.2) (record {
        parts = first.parts ∙ ap (λ (y : A). f.put y ++ a.0.1) (sym (back a.0.0));
        fits = ap f.fits (back a.0.0) ∙ first.fits;
      });
  again = λ b rest fits.
      ap (λ (r : Option (A × List ℕ)). r >>= λ a. Some (make a.0, a.1)) (k.again (parts b) rest fits)
      ∙ ap (λ (y : B). Some (y, rest)) (forth b);
}

pub lawful_checked : {A B : Type 0} (f : Format A) (make : A → Option B) (parts : B → A) → Lawful f → ((a : A) (b : B) → make a ≡ Some b → parts b ≡ a) → ((b : B) → make (parts b) ≡ Some b) → Lawful (checked f make parts)
lawful_checked {A} {B} f make parts k back forth = record {
  takes = λ bs x e.
      let a = bind_some (f.get bs) (λ a. make a.0 >>= λ b. Some (b, a.1)) x e in
      let b = bind_some (make a.0.0) (λ b. Some (b, a.0.1)) x a.2 in
      let first = k.takes bs a.0 a.1 in
      let is = back a.0.0 b.0 b.1 in
      let made : B × List ℕ = (b.0, a.0.1) in
      subst (λ (y : B × List ℕ). Takes (checked f make parts) bs y.0 y.1) (some_is made x b.2) (record {
        parts = first.parts ∙ ap (λ (y : A). f.put y ++ a.0.1) (sym is);
        fits = ap f.fits is ∙ first.fits;
      });
  again = λ b rest fits.
      ap (λ (r : Option (A × List ℕ)). r >>= λ a. make a.0 >>= λ b. Some (b, a.1)) (k.again (parts b) rest fits)
      ∙ ap (λ (r : Option B). r >>= λ b. Some (b, rest)) (forth b);
}

-- ---- lists

times_takes : {A : Type 0} (f : Format A) → Lawful f → (n : ℕ) (bs : List ℕ) (x : List A × List ℕ) → times f.get n bs ≡ Some x
    → (bs ≡ flat_map f.put x.0 ++ x.1) × (length x.0 ≡ n) × (list_all f.fits x.0 ≡ true)
unfolding times
times_takes {A} f k zero bs x e =
    let made : List A × List ℕ = ([], bs) in
    subst (λ (y : List A × List ℕ). (bs ≡ flat_map f.put y.0 ++ y.1) × (length y.0 ≡ 0) × (list_all f.fits y.0 ≡ true)) (some_is made x e) (refl, refl, refl)
times_takes {A} f k (suc n) bs x e =
    let a = bind_some (f.get bs) (λ a. times f.get n a.1 >>= λ as_. Some (a.0 ∷ as_.0, as_.1)) x e in
    let b = bind_some (times f.get n a.0.1) (λ as_. Some (a.0.0 ∷ as_.0, as_.1)) x a.2 in
    let first = k.takes bs a.0 a.1 in
    let second = times_takes f k n a.0.1 b.0 b.1 in
    let made : List A × List ℕ = (a.0.0 ∷ b.0.0, b.0.1) in
    subst (λ (y : List A × List ℕ). (bs ≡ flat_map f.put y.0 ++ y.1) × (length y.0 ≡ suc n) × (list_all f.fits y.0 ≡ true)) (some_is made x b.2)
    (first.parts ∙ ap (λ (r : List ℕ). f.put a.0.0 ++ r) second.0 ∙ sym (append_assoc (f.put a.0.0) (flat_map f.put b.0.0) b.0.1), ap suc second.1, and_true (f.fits a.0.0) (list_all f.fits b.0.0) first.fits second.2)

times_again : {A : Type 0} (f : Format A) → Lawful f → (xs : List A) (rest : List ℕ) → list_all f.fits xs ≡ true → times f.get (length xs) (flat_map f.put xs ++ rest) ≡ Some (xs, rest)
unfolding times
times_again f k [] rest fits = refl
times_again {A} f k (x ∷ xs) rest fits =
    let h = both_true (f.fits x) (list_all f.fits xs) fits in
    ap (times f.get (suc (length xs))) (append_assoc (f.put x) (flat_map f.put xs) rest)
    ∙ ap (λ (r : Option (A × List ℕ)). r >>= λ a. times f.get (length xs) a.1 >>= λ as_. Some (a.0 ∷ as_.0, as_.1)) (k.again x (flat_map f.put xs ++ rest) h.0)
    ∙ ap (λ (r : Option (List A × List ℕ)). r >>= λ as_. Some (x ∷ as_.0, as_.1)) (times_again f k xs rest h.1)

pub lawful_list : {A : Type 0} (count : Format ℕ) (f : Format A) → Lawful count → Lawful f → Lawful (list count f)
lawful_list {A} count f l k = record {
  takes = λ bs x e.
      let n = bind_some (count.get bs) (λ n. times f.get n.0 n.1) x e in
      let first = l.takes bs n.0 n.1 in
      let others = times_takes f k n.0.0 n.0.1 x n.2 in
      record {
        parts = first.parts ∙ ap (λ (m : ℕ). count.put m ++ n.0.1) (sym others.1) ∙ ap (λ (r : List ℕ). count.put (length x.0) ++ r) others.0
            ∙ sym (append_assoc (count.put (length x.0)) (flat_map f.put x.0) x.1);
        fits = and_true (count.fits (length x.0)) (list_all f.fits x.0) (ap count.fits others.1 ∙ first.fits) others.2;
      };
  again = λ xs rest fits.
      let h = both_true (count.fits (length xs)) (list_all f.fits xs) fits in
      ap (list count f).get (append_assoc (count.put (length xs)) (flat_map f.put xs) rest)
      ∙ ap (λ (r : Option (ℕ × List ℕ)). r >>= λ n. times f.get n.0 n.1) (l.again (length xs) (flat_map f.put xs ++ rest) h.0)
      ∙ times_again f k xs rest h.1;
}

-- ---- values of several forms

pub lawful_nothing : Lawful nothing
lawful_nothing = record {
  takes = λ bs x e.
      let made : Unit {0} × List ℕ = (tt, bs) in
      subst (λ (y : Unit {0} × List ℕ). Takes nothing bs y.0 y.1) (some_is made x e) (record { parts = refl; fits = refl });
  again = λ a rest fits. refl;
}

pub record LawfulForms {A : Type 0} (low : ℕ) (c : Forms A) : Type 0 where
  pub above : (a : A) → low ≤ c.number_of a
  pub takes : (t : ℕ) (bs : List ℕ) (x : A × List ℕ) → c.get t bs ≡ Some x → (t ≡ c.number_of x.0) × (bs ≡ c.put x.0 ++ x.1) × (c.fits x.0 ≡ true)
  pub again : (a : A) (rest : List ℕ) → c.fits a ≡ true → c.get (c.number_of a) (c.put a ++ rest) ≡ Some (a, rest)

-- which way a test went
chosen : {A : Type 0} (b : Bool) (x y : Option A) (z : A) → (if b then x else y) ≡ Some z → (P : Type 0) → (b ≡ true → x ≡ Some z → P) → (b ≡ false → y ≡ Some z → P) → P
chosen true x y z e P f g = f refl e
chosen false x y z e P f g = g refl e

same_number : (t k : ℕ) → (t == k) ≡ true → t ≡ k
same_number t k e = grind (arith)

itself : (k : ℕ) → (k == k) ≡ true
itself k = grind (arith)

apart : (t k : ℕ) → k < t → (t == k) ≡ false
apart t k h = grind (arith)

pub lawful_form : {A : Type 0} (k : ℕ) (f : Format A) → Lawful f → LawfulForms k (form k f)
lawful_form {A} k f l = record {
  above = λ a. omega arith;
  takes = λ t bs x e. chosen (t == k) (f.get bs) None x e ((t ≡ k) × (bs ≡ f.put x.0 ++ x.1) × (f.fits x.0 ≡ true))
      (λ h is. let first = l.takes bs x is in (same_number t k h, first.parts, first.fits)) (λ h is. absurd (cc));
  again = λ a rest fits. ap (λ (b : Bool). if b then f.get (f.put a ++ rest) else None) (itself k) ∙ l.again a rest fits;
}

abbrev Taken : {A B : Type 0} → ℕ → Format A → Forms B → ℕ → List ℕ → Either A B × List ℕ → Type 0
Taken k f c t bs x = (t ≡ (form_or k f c).number_of x.0) × (bs ≡ (form_or k f c).put x.0 ++ x.1) × ((form_or k f c).fits x.0 ≡ true)

above_k : {A B : Type 0} (k low : ℕ) (f : Format A) (c : Forms B) → LawfulForms low c → k < low → (a : Either A B) → k ≤ (form_or k f c).number_of a
above_k k low f c m less (First a) = omega arith
above_k k low f c m less (Other b) = omega (arith, m.above b)

first_taken : {A B : Type 0} (k : ℕ) (f : Format A) (c : Forms B) → Lawful f → (t : ℕ) (bs : List ℕ) (x : Either A B × List ℕ) → t ≡ k → (f.get bs >>= λ a. Some (First a.0, a.1)) ≡ Some x → Taken k f c t bs x
first_taken {A} {B} k f c l t bs x h e =
    let a = bind_some (f.get bs) (λ a. Some (First a.0, a.1)) x e in
    let first = l.takes bs a.0 a.1 in
    let made : Either A B × List ℕ = (First a.0.0, a.0.1) in
    subst (λ (y : Either A B × List ℕ). Taken k f c t bs y) (some_is made x a.2) (h, first.parts, first.fits)

other_taken : {A B : Type 0} (k low : ℕ) (f : Format A) (c : Forms B) → LawfulForms low c → (t : ℕ) (bs : List ℕ) (x : Either A B × List ℕ) → (c.get t bs >>= λ b. Some (Other b.0, b.1)) ≡ Some x → Taken k f c t bs x
other_taken {A} {B} k low f c m t bs x e =
    let b = bind_some (c.get t bs) (λ b. Some (Other b.0, b.1)) x e in
    let other = m.takes t bs b.0 b.1 in
    let made : Either A B × List ℕ = (Other b.0.0, b.0.1) in
    subst (λ (y : Either A B × List ℕ). Taken k f c t bs y) (some_is made x b.2) other

or_again : {A B : Type 0} (k low : ℕ) (f : Format A) (c : Forms B) → Lawful f → LawfulForms low c → k < low → (a : Either A B) (rest : List ℕ) → (form_or k f c).fits a ≡ true
    → (form_or k f c).get ((form_or k f c).number_of a) ((form_or k f c).put a ++ rest) ≡ Some (a, rest)
or_again {A} {B} k low f c l m less (First a) rest fits =
    ap (λ (b : Bool). if b then (f.get (f.put a ++ rest) >>= λ a. Some (First a.0, a.1)) else (c.get k (f.put a ++ rest) >>= λ b. Some (Other b.0, b.1))) (itself k)
    ∙ ap (λ (r : Option (A × List ℕ)). r >>= λ a. Some (First a.0, a.1)) (l.again a rest fits)
or_again {A} {B} k low f c l m less (Other b) rest fits =
    ap (λ (d : Bool). if d then (f.get (c.put b ++ rest) >>= λ a. Some (First a.0, a.1)) else (c.get (c.number_of b) (c.put b ++ rest) >>= λ b. Some (Other b.0, b.1))) (apart (c.number_of b) k (omega (arith, m.above b)))
    ∙ ap (λ (r : Option (B × List ℕ)). r >>= λ b. Some (Other b.0, b.1)) (m.again b rest fits)

pub lawful_or : {A B : Type 0} (k low : ℕ) (f : Format A) (c : Forms B) → Lawful f → LawfulForms low c → k < low → LawfulForms k (form_or k f c)
lawful_or k low f c l m less = record {
  above = above_k k low f c m less;
  takes = λ t bs x e. chosen (t == k) (f.get bs >>= λ a. Some (First a.0, a.1)) (c.get t bs >>= λ b. Some (Other b.0, b.1)) x e (Taken k f c t bs x)
      (λ h is. first_taken k f c l t bs x (same_number t k h) is) (λ h is. other_taken k low f c m t bs x is);
  again = or_again k low f c l m less;
}

pub lawful_choice : {A : Type 0} (tag : Format ℕ) (c : Forms A) → Lawful tag → LawfulForms 0 c → Lawful (choice tag c)
lawful_choice {A} tag c l m = record {
  takes = λ bs x e.
      let t = bind_some (tag.get bs) (λ t. c.get t.0 t.1) x e in
      let first = l.takes bs t.0 t.1 in
      let other = m.takes t.0.0 t.0.1 x t.2 in
      record {
        parts = first.parts ∙ ap (λ (n : ℕ). tag.put n ++ t.0.1) other.0 ∙ ap (λ (r : List ℕ). tag.put (c.number_of x.0) ++ r) other.1
            ∙ sym (append_assoc (tag.put (c.number_of x.0)) (c.put x.0) x.1);
        fits = and_true (tag.fits (c.number_of x.0)) (c.fits x.0) (ap tag.fits (sym other.0) ∙ first.fits) other.2;
      };
  again = λ a rest fits.
      let h = both_true (tag.fits (c.number_of a)) (c.fits a) fits in
      ap (choice tag c).get (append_assoc (tag.put (c.number_of a)) (c.put a) rest)
      ∙ ap (λ (r : Option (ℕ × List ℕ)). r >>= λ t. c.get t.0 t.1) (l.again (c.number_of a) (c.put a ++ rest) h.0)
      ∙ m.again a rest h.1;
}

-- ---- whole texts

chosen_none : {A : Type 0} (b : Bool) (x y : A) → (if b then Some x else None) ≡ Some y → (b ≡ true) × (x ≡ y)
chosen_none true x y e = (refl, cc)
chosen_none false x y e = absurd (cc)

nothing_left : (bs : List ℕ) → (length bs == 0) ≡ true → bs ≡ []
nothing_left [] e = refl
nothing_left (b ∷ bs) e = let h : suc (length bs) ≡ 0 = same_number (suc (length bs)) 0 e in absurd (omega arith)

pub whole_takes : {A : Type 0} (f : Format A) → Lawful f → (bs : List ℕ) (a : A) → whole f bs ≡ Some a → (f.put a ≡ bs) × (f.fits a ≡ true)
whole_takes {A} f k bs a e =
    let x = bind_some (f.get bs) (λ x. if length x.1 == 0 then Some x.0 else None) a e in
    let first = k.takes bs x.0 x.1 in
    let done = chosen_none (length x.0.1 == 0) x.0.0 a x.2 in
    let all : bs ≡ f.put x.0.0 = first.parts ∙ ap (λ (r : List ℕ). f.put x.0.0 ++ r) (nothing_left x.0.1 done.0) ∙ append-nil (f.put x.0.0) in
    (sym (all ∙ ap f.put done.1), ap f.fits (sym done.1) ∙ first.fits)

pub whole_again : {A : Type 0} (f : Format A) → Lawful f → (a : A) → f.fits a ≡ true → whole f (f.put a) ≡ Some a
whole_again {A} f k a fits =
    ap (λ (r : Option (A × List ℕ)). r >>= λ x. if length x.1 == 0 then Some x.0 else None) (ap f.get (sym (append-nil (f.put a))) ∙ k.again a [] fits)
