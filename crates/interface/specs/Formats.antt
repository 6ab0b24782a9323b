-- How values are written as bytes and read again: each number in decimal digits with a space after it, and each list
-- after its length.
use Rattle.std.specs.Prelude.{◌≡◌, ℕ, zero, suc, ◌+◌, ◌-◌, ◌*◌, List, [], ◌∷◌, ◌++◌, length, Option, Some, None, Bool, true}
use Rattle.std.specs.Prelude.{false, not, ◌&&◌, ◌==◌, nat_lt, if◌then◌else◌, decimal}
use Rattle.std.specs.List.{flat_map, list_all}

infixl 10 ◌>>=◌
abbrev pub ◌>>=◌ : {A B : Type 0} → Option A → (A → Option B) → Option B
None >>= f = None
(Some x) >>= f = f x

-- the bytes of a value; the value that bytes begin with, and the rest of them; whether a value can be written
pub record Format (A : Type 0) : Type 0 where
  pub put : A → List ℕ
  pub get : List ℕ → Option (A × List ℕ)
  pub fits : A → Bool

-- ---- numbers

abbrev pub is_digit : ℕ → Bool
is_digit b = not (nat_lt b 48) && nat_lt b 58

-- v with one more digit, unless that is more than the most
abbrev pub with_digit : ℕ → ℕ → ℕ → Option ℕ
with_digit most v d = if nat_lt most (v * 10 + d) then None else Some (v * 10 + d)

abbrev pub digit_of : ℕ → ℕ → ℕ → Option ℕ
digit_of most v b = if is_digit b then with_digit most v (b - 48) else None

-- the number whose first digits are those of v, up to the space
unfoldable pub digits_at : ℕ → ℕ → List ℕ → Option (ℕ × List ℕ)
digits_at most v [] = None
digits_at most v (b ∷ bs) = if b == 32 then Some (v, bs) else (digit_of most v b >>= λ w. digits_at most w bs)

-- 0 is one digit
abbrev pub zero_at : List ℕ → Option (ℕ × List ℕ)
zero_at [] = None
zero_at (b ∷ bs) = if b == 32 then Some (0, bs) else None

unfoldable pub number_at : ℕ → List ℕ → Option (ℕ × List ℕ)
number_at most [] = None
number_at most (b ∷ bs) = if b == 48 then zero_at bs else (digit_of most 0 b >>= λ v. digits_at most v bs)

-- a number up to the most
abbrev pub number : ℕ → Format ℕ
number most = record {
  put = λ n. decimal n ++ 32 ∷ [];
  get = number_at most;
  fits = λ n. not (nat_lt most n);
}

-- ---- values of parts

abbrev pub pair : {A B : Type 0} → Format A → Format B → Format (A × B)
pair f g = record {
  put = λ p. f.put p.0 ++ g.put p.1;
  get = λ bs. f.get bs >>= λ a. g.get a.1 >>= λ b. Some ((a.0, b.0), b.1);
  fits = λ p. f.fits p.0 && g.fits p.1;
}

-- what is made of a written value
abbrev pub made_of : {A B : Type 0} → Format A → (A → B) → (B → A) → Format B
made_of f make parts = record {
  put = λ b. f.put (parts b);
  get = λ bs. f.get bs >>= λ a. Some (make a.0, a.1);
  fits = λ b. f.fits (parts b);
}

-- the same, where not every written value makes one
abbrev pub checked : {A B : Type 0} → Format A → (A → Option B) → (B → A) → Format B
checked f make parts = record {
  put = λ b. f.put (parts b);
  get = λ bs. f.get bs >>= λ a. make a.0 >>= λ b. Some (b, a.1);
  fits = λ b. f.fits (parts b);
}

-- so many values
unfoldable pub times : {A : Type 0} → (List ℕ → Option (A × List ℕ)) → ℕ → List ℕ → Option (List A × List ℕ)
times get zero bs = Some ([], bs)
times get (suc n) bs = get bs >>= λ a. times get n a.1 >>= λ as_. Some (a.0 ∷ as_.0, as_.1)

-- values after their number, which is written by the first format
abbrev pub list : {A : Type 0} → Format ℕ → Format A → Format (List A)
list count f = record {
  put = λ xs. count.put (length xs) ++ flat_map f.put xs;
  get = λ bs. count.get bs >>= λ n. times f.get n.0 n.1;
  fits = λ xs. count.fits (length xs) && list_all f.fits xs;
}

-- ---- values of several forms, each after its number

-- nothing is written
abbrev pub nothing : Format (Unit {0})
nothing = record { put = λ _. []; get = λ bs. Some (tt, bs); fits = λ _. true }

pub data Either (A B : Type 0) : Type 0 where
  First : A → Either A B
  Other : B → Either A B

abbrev pub either : {A B C : Type 0} → (A → C) → (B → C) → Either A B → C
either f g (First a) = f a
either f g (Other b) = g b

pub record Forms (A : Type 0) : Type 0 where
  pub number_of : A → ℕ
  pub put : A → List ℕ
  pub get : ℕ → List ℕ → Option (A × List ℕ)
  pub fits : A → Bool

-- the form of number k alone
abbrev pub form : {A : Type 0} → ℕ → Format A → Forms A
form k f = record {
  number_of = λ _. k;
  put = f.put;
  get = λ t bs. if t == k then f.get bs else None;
  fits = f.fits;
}

-- the form of number k, or one of others
abbrev pub form_or : {A B : Type 0} → ℕ → Format A → Forms B → Forms (Either A B)
form_or k f others = record {
  number_of = either (λ _. k) others.number_of;
  put = either f.put others.put;
  get = λ t bs. if t == k then (f.get bs >>= λ a. Some (First a.0, a.1)) else (others.get t bs >>= λ b. Some (Other b.0, b.1));
  fits = either f.fits others.fits;
}

-- the number of the form, which is written by the first format, and the value
abbrev pub choice : {A : Type 0} → Format ℕ → Forms A → Format A
choice tag forms = record {
  put = λ a. tag.put (forms.number_of a) ++ forms.put a;
  get = λ bs. tag.get bs >>= λ t. forms.get t.0 t.1;
  fits = λ a. tag.fits (forms.number_of a) && forms.fits a;
}

-- ---- what calls that write and read do

-- the bytes of a value are added
abbrev pub Puts : {A : Type 0} → Format A → List ℕ → List ℕ → A → Type 0
Puts f old new a = (new ≡ old ++ f.put a) × (f.fits a ≡ true)

-- all of the bytes are those of a value
abbrev pub whole : {A : Type 0} → Format A → List ℕ → Option A
whole f bs = f.get bs >>= λ a. if length a.1 == 0 then Some a.0 else None
