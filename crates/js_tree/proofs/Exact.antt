-- Reading is exact: what is read is what the bytes spell, no bytes are two programs' text, and the reader stops where
-- no program's text goes on so.
use Rattle.std.proofs.Common.{◌≡◌, ℕ, List, [], ◌∷◌, ◌++◌, true, refl, ap, sym, ◌∙◌, subst, append_assoc, append-nil}
use Rattle.std.proofs.Common.{◌⊎◌, inl, inr}
use Rattle.js_tree.specs.Tree.{Program}
use Rattle.js_tree.specs.Text.{JsText}
use Rattle.js_tree.specs.Faults.{Begins, IsFaultAt, Place, place_after}
use Rattle.js_tree.specs.Subset.{is_program_spelled}
use Rattle.js_tree.specs.Automaton.{State, Finished, Dead, step, run, start, is_live}
use Rattle.js_tree.proofs.Fronts.{IsFront, state_fits}
use Rattle.js_tree.proofs.Steps.{step_front}
use Rattle.js_tree.proofs.StepFits.{step_fits}
use Rattle.js_tree.proofs.Viable.{viable}
use Rattle.js_tree.proofs.CompleteTree.{read_back}

-- what has been read along a text
pub run_fits : (cs : List ℕ) (s : State) → state_fits s ≡ true → state_fits (run s cs) ≡ true
run_fits [] s h = h
run_fits (c ∷ cs) s h = run_fits cs (step s c) (step_fits s c h)

pub run_front : (cs : List ℕ) (s : State) (f : List ℕ) → state_fits s ≡ true → IsFront s f → IsFront (run s cs) (f ++ cs)
run_front [] s f h q = subst (λ g. IsFront s g) (sym (append-nil f)) q
run_front (c ∷ cs) s f h q = subst (λ g. IsFront (run (step s c) cs) g) (append_assoc f (c ∷ []) cs) (run_front cs (step s c) (f ++ c ∷ []) (step_fits s c h) (step_front s c f h q))

pub run_on : (xs ys : List ℕ) (s : State) → run s (xs ++ ys) ≡ run (run s xs) ys
run_on [] ys s = refl
run_on (x ∷ xs) ys s = run_on xs ys (step s x)

pub dead_stays : (cs : List ℕ) → run Dead cs ≡ Dead
dead_stays [] = refl
dead_stays (c ∷ cs) = dead_stays cs

start_fits : state_fits start ≡ true
start_fits = refl

start_front : IsFront start []
start_front = refl

-- a program that is read is spelled by the bytes
pub read_is_spelled : (bytes : List ℕ) (p : Program) → run start bytes ≡ Finished p → (is_program_spelled p ≡ true) × JsText p bytes
read_is_spelled bytes p e =
    (subst (λ s. state_fits s ≡ true) e (run_fits bytes start start_fits), subst (λ s. IsFront s bytes) e (run_front bytes start [] start_fits start_front))

-- bytes are the text of one program
pub one_program : (bytes : List ℕ) (p q : Program) → is_program_spelled p ≡ true → is_program_spelled q ≡ true → JsText p bytes → JsText q bytes → p ≡ q
one_program bytes p q hp hq tp tq = let e : Finished p ≡ Finished q = sym (read_back p bytes hp tp) ∙ read_back q bytes hq tq in cc

-- where the reader is not dead, some program's text begins so; where it is, none does
pub begins_where_live : (front : List ℕ) → is_live (run start front) ≡ true → Begins front
begins_where_live front l = viable (run start front) front l (run_fits front start start_fits) (run_front front start [] start_fits start_front)

finished_is_not_dead : (p : Program) → Finished p ≡ Dead → ⊥
finished_is_not_dead p e = cc

pub live_or_dead : (s : State) → (is_live s ≡ true) ⊎ (s ≡ Dead)
live_or_dead Dead = inr refl
live_or_dead s = inl refl

pub live_where_begins : (front : List ℕ) → Begins front → is_live (run start front) ≡ true
live_where_begins front b = by_cases (live_or_dead (run start front))
  where
    by_cases : (is_live (run start front) ≡ true) ⊎ (run start front ≡ Dead) → is_live (run start front) ≡ true
    by_cases (inl l) = l
    by_cases (inr d) = let r : Finished b.program ≡ Dead = sym (read_back b.program (front ++ b.rest) b.spelled b.text) ∙ (run_on front b.rest start ∙ (ap (λ t. run t b.rest) d ∙ dead_stays b.rest)) in absurd (finished_is_not_dead b.program r)

-- the reader stops where the bytes stop to be a text: before a character that leads nowhere, or at their end
pub fault_inside : (front : List ℕ) (c : ℕ) (behind : List ℕ) (p : Place) → is_live (run start front) ≡ true → step (run start front) c ≡ Dead → place_after (record { row = 1; column = 1 }) front ≡ p → IsFaultAt (front ++ c ∷ behind) p
fault_inside front c behind p l d e = record {
  front = front;
  rest = c ∷ behind;
  whole = refl;
  begins = begins_where_live front l;
  longest = λ c' behind' q b. no_more c' b (same_first q);
  behind = e;
}
  where
    same_first : {c' : ℕ} {behind' : List ℕ} → c ∷ behind ≡ c' ∷ behind' → c ≡ c'
    same_first q = cc

    dead : (s : State) → is_live s ≡ true → s ≡ Dead → ⊥
    dead s l e = let f : is_live Dead ≡ true = subst (λ t. is_live t ≡ true) e l in absurd cc

    no_more : (c' : ℕ) → Begins (front ++ c' ∷ []) → c ≡ c' → ⊥
    no_more c' b q = dead (run start (front ++ c' ∷ [])) (live_where_begins (front ++ c' ∷ []) b) (run_on front (c' ∷ []) start ∙ (ap (λ x. step (run start front) x) (sym q) ∙ d))

pub fault_at_end : (bytes : List ℕ) (p : Place) → is_live (run start bytes) ≡ true → place_after (record { row = 1; column = 1 }) bytes ≡ p → IsFaultAt bytes p
fault_at_end bytes p l e = record {
  front = bytes;
  rest = [];
  whole = sym (append-nil bytes);
  begins = begins_where_live bytes l;
  longest = λ c behind q b. absurd cc;
  behind = e;
}
