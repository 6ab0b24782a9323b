-- A run of which a front part was put: what remains of it.
use Rattle.std.proofs.Common.{◌≡◌, ℕ, zero, suc, List, [], ◌∷◌, ◌++◌, take, length, Option, Some, None, refl, sym, ap}
use Rattle.std.proofs.Common.{◌∙◌, append_assoc, append-nil}
use Rattle.elm_files.specs.Texts.{LongerByPart, longer}
use Rattle.runs.specs.Trace.{Trace}
use Rattle.run_files.specs.Told.{told_text, is_ready}
use Rattle.run_files.specs.declared.course.RunEnd.{RunEnd}
use Rattle.run_files.specs.declared.course.RunEnd.TheVariants.{File, Sink, NoMemory}
use Rattle.run_files.specs.Steps.{PutsPart}
use Rattle.run_files.proofs.Answers.{GoesOnWith}

take_front : (n : ℕ) (a b : List ℕ) → (m : ℕ) × (take m (a ++ b) ≡ take n a)
take_front zero a b = (0, refl)
take_front (suc n) [] b = (0, refl)
take_front (suc n) (c ∷ a) b = let r = take_front n a b in (suc r.0, ap (λ x. c ∷ x) r.1)

take_after : (a : List ℕ) (n : ℕ) (b : List ℕ) → (m : ℕ) × (take m (a ++ b) ≡ a ++ take n b)
take_after [] n b = (n, refl)
take_after (c ∷ a) n b = let r = take_after a n b in (suc r.0, ap (λ x. c ∷ x) r.1)

take_all : (a : List ℕ) → take (length a) a ≡ a
take_all [] = refl
take_all (c ∷ a) = ap (λ x. c ∷ x) (take_all a)

longer_nil : (old : Option (List ℕ)) → longer old [] ≡ old
longer_nil None = refl
longer_nil (Some text) = ap Some (append-nil text)

longer_twice : (old : Option (List ℕ)) (a b : List ℕ) → longer (longer old a) b ≡ longer old (a ++ b)
longer_twice None a b = refl
longer_twice (Some text) a b = ap Some (append_assoc text a b)

pub nothing : (old new : Option (List ℕ)) (piece : List ℕ) → new ≡ old → LongerByPart old piece new
nothing old new piece e = (0, e ∙ sym (longer_nil old))

front_part : (old new : Option (List ℕ)) (a b : List ℕ) → LongerByPart old a new → LongerByPart old (a ++ b) new
front_part old new a b h = let r = take_front h.0 a b in (r.0, h.1 ∙ sym (ap (λ x. longer old x) r.1))

after_part : (old mid new : Option (List ℕ)) (a b : List ℕ) → mid ≡ longer old a → LongerByPart mid b new → LongerByPart old (a ++ b) new
after_part old mid new a b e h =
    let r = take_after a h.0 b in
    (r.0, h.1 ∙ ap (λ x. longer x (take h.0 b)) e ∙ longer_twice old a (take h.0 b) ∙ sym (ap (λ x. longer old x) r.1))

-- of the whole trace this one is left, once the text has grown by the rest
pub record Remains (whole left : Trace) (old now : Option (List ℕ)) : Type 0 where
  pub front : List ℕ
  pub put : now ≡ longer old front
  pub text : told_text whole ≡ front ++ told_text left
  pub ready : is_ready whole ≡ is_ready left

pub at_first : (whole : Trace) (old : Option (List ℕ)) → Remains whole whole old old
at_first whole old = record { front = []; put = sym (longer_nil old); text = refl; ready = refl }

module _ (whole left : Trace) (old now : Option (List ℕ)) (remains : Remains whole left old now) where
  -- a piece more, and the trace goes on
  pub goes_further : (next : Trace) (new : Option (List ℕ)) (piece : List ℕ) → GoesOnWith left piece next → new ≡ longer now piece → Remains whole next old new
  goes_further next new piece on e = record {
    front = remains.front ++ piece;
    put = e ∙ ap (λ x. longer x piece) remains.put ∙ longer_twice old remains.front piece;
    text = remains.text ∙ ap (λ x. remains.front ++ x) on.0 ∙ sym (append_assoc remains.front piece (told_text next));
    ready = remains.ready ∙ on.1;
  }

  -- the last piece
  pub all_put : (new : Option (List ℕ)) (piece : List ℕ) → told_text left ≡ piece → new ≡ longer now piece → new ≡ longer old (told_text whole)
  all_put new piece last e =
      e ∙ ap (λ x. longer x piece) remains.put ∙ longer_twice old remains.front piece ∙ sym (ap (λ x. longer old x) (remains.text ∙ ap (λ x. remains.front ++ x) last))

  pub none_left : told_text left ≡ [] → now ≡ longer old (told_text whole)
  none_left last = remains.put ∙ sym (ap (λ x. longer old x) (remains.text ∙ ap (λ x. remains.front ++ x) last ∙ append-nil remains.front))

  -- a part of the next piece
  part_put : (new : Option (List ℕ)) (piece more : List ℕ) → told_text left ≡ piece ++ more → LongerByPart now piece new → LongerByPart old (told_text whole) new
  part_put new piece more text part =
      let all = after_part old now new remains.front (piece ++ more) remains.put (front_part now new piece more part) in
      (all.0, all.1 ∙ sym (ap (λ x. longer old (take all.0 x)) (remains.text ∙ ap (λ x. remains.front ++ x) text)))

  pub end_at_part : (new : Option (List ℕ)) (piece more : List ℕ) (n m : ℕ) (end : RunEnd) → told_text left ≡ piece ++ more → PutsPart end piece now new n m → PutsPart end (told_text whole) old new n m
  end_at_part new piece more n m (File path) text part = part
  end_at_part new piece more n m Sink text part = (part.0, part_put new piece more text part.1)
  end_at_part new piece more n m NoMemory text part = (part.0, part_put new piece more text part.1)
