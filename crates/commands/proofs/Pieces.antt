-- Texts that grew by a piece or by a part of one.
use Rattle.std.proofs.Common.{◌≡◌, ◌<◌, ℕ, zero, suc, List, [], ◌∷◌, ◌++◌, length, take, Option, Some, None}
use Rattle.std.proofs.Common.{Result, Ok, Err, refl, sym, ap, ◌∙◌, append_assoc, append-nil}
use Rattle.elm_files.specs.declared.outside.FileError.{FileError}
use Rattle.elm_files.specs.declared.outside.FileError.TheVariants.{Failed, NoMemory}
use Rattle.elm_files.specs.Answers.{FailedIffRose, OnFailed, OnNoMemory}
use Rattle.elm_files.specs.Texts.{LongerByPart, longer}
use Rattle.std.specs.Prelude.{OnOk, IfOk}

-- a part of the first of two pieces is a part of both
take_front : (n : ℕ) (a b : List ℕ) → (m : ℕ) × (take m (a ++ b) ≡ take n a)
take_front zero a b = (0, refl)
take_front (suc n) [] b = (0, refl)
take_front (suc n) (c ∷ a) b = let r = take_front n a b in (suc r.0, ap (λ x. c ∷ x) r.1)

-- and so is the first with a part of the second
take_after : (a : List ℕ) (n : ℕ) (b : List ℕ) → (m : ℕ) × (take m (a ++ b) ≡ a ++ take n b)
take_after [] n b = (n, refl)
take_after (c ∷ a) n b = let r = take_after a n b in (suc r.0, ap (λ x. c ∷ x) r.1)

take_all : (a : List ℕ) → take (length a) a ≡ a
take_all [] = refl
take_all (c ∷ a) = ap (λ x. c ∷ x) (take_all a)

pub longer_nil : (old : Option (List ℕ)) → longer old [] ≡ old
longer_nil None = refl
longer_nil (Some text) = ap Some (append-nil text)

longer_twice : (old : Option (List ℕ)) (a b : List ℕ) → longer (longer old a) b ≡ longer old (a ++ b)
longer_twice None a b = refl
longer_twice (Some text) a b = ap Some (append_assoc text a b)

pub nothing : (old new : Option (List ℕ)) (piece : List ℕ) → new ≡ old → LongerByPart old piece new
nothing old new piece e = (0, e ∙ sym (longer_nil old))

pub all : (old new : Option (List ℕ)) (piece : List ℕ) → new ≡ longer old piece → LongerByPart old piece new
all old new piece e = (length piece, e ∙ sym (ap (λ x. longer old x) (take_all piece)))

pub front : (old new : Option (List ℕ)) (a b : List ℕ) → LongerByPart old a new → LongerByPart old (a ++ b) new
front old new a b h = let r = take_front h.0 a b in (r.0, h.1 ∙ sym (ap (λ x. longer old x) r.1))

pub behind : (old mid new : Option (List ℕ)) (a b : List ℕ) → mid ≡ longer old a → LongerByPart mid b new →
    LongerByPart old (a ++ b) new
behind old mid new a b e h =
    let r = take_after a h.0 b in
    (r.0, h.1 ∙ ap (λ x. longer x (take h.0 b)) e ∙ longer_twice old a (take h.0 b) ∙ sym (ap (λ x. longer old x) r.1))

pub whole : (old mid new : Option (List ℕ)) (a b : List ℕ) → mid ≡ longer old a → new ≡ longer mid b →
    new ≡ longer old (a ++ b)
whole old mid new a b e h = h ∙ ap (λ x. longer x b) e ∙ longer_twice old a b

-- the answer of a put that is an error
abbrev pub failure : FileError → Result (Unit {0}) FileError
failure error = Err error

-- whatever a put answers, a part of the piece is there
pub put : (old new : Option (List ℕ)) (piece : List ℕ) (answer : Result (Unit {0}) FileError) →
    OnOk answer (new ≡ longer old piece) → OnFailed answer (LongerByPart old piece new) →
    OnNoMemory answer (new ≡ old) → LongerByPart old piece new
put old new piece (Ok _) ok part none = all old new piece ok
put old new piece (Err Failed) ok part none = part
put old new piece (Err NoMemory) ok part none = nothing old new piece none

-- a put that failed raised the count, unless it was full
pub failed_rose : (before after : ℕ) → before < 18446744073709551615 → FailedIffRose (failure Failed) before after →
    before < after
failed_rose before after low iff = (iff low).0 tt

-- ---- three pieces, one after the other

module _ (old new : Option (List ℕ)) (a b c : List ℕ) where
  pub first_part : LongerByPart old a new → LongerByPart old (a ++ (b ++ c)) new
  first_part h = front old new a (b ++ c) h

  pub second_part : (mid : Option (List ℕ)) → mid ≡ longer old a → LongerByPart mid b new →
      LongerByPart old (a ++ (b ++ c)) new
  second_part mid e h = behind old mid new a (b ++ c) e (front mid new b c h)

  pub third_part : (mid late : Option (List ℕ)) → mid ≡ longer old a → late ≡ longer mid b → LongerByPart late c new →
      LongerByPart old (a ++ (b ++ c)) new
  third_part mid late e f h = behind old mid new a (b ++ c) e (behind mid late new b c f h)

  pub all_three : (mid late : Option (List ℕ)) (answer : Result (Unit {0}) FileError) → mid ≡ longer old a →
      late ≡ longer mid b → OnOk answer (new ≡ longer late c) → IfOk answer (λ _. new ≡ longer old (a ++ (b ++ c)))
  all_three mid late (Ok _) e f h = whole old mid new a (b ++ c) e (whole mid late new b c f h)
  all_three mid late (Err _) e f h = tt
