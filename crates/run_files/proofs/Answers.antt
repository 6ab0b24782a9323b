-- What an answer leaves: a program that waits, or one that has ended so; and what is told of it.
use Rattle.std.proofs.Common.{◌≡◌, ℕ, true, false, List, [], ◌∷◌, ◌++◌, refl, sym, ap, ◌∙◌, append_assoc, append-nil}
use Rattle.std.proofs.lemmas.Bool.{true≢false, false≢true}
use Rattle.wire_value.specs.Wire.{Wire}
use Rattle.runs.specs.Ends.{Metered, MVal, MCrashed, MOutOfFuel, MUnsafe, MStuck}
use Rattle.runs.specs.Trace.{Trace, Ready, TurnedAway, Ends, Then, send_all}
use Rattle.runs.specs.Driver.{Stage, At, Start, WrongFlags, Started, Heard, WrongInput, Heard_by, Machine}
use Rattle.js_tree.specs.Tree.{Program}
use Rattle.js_meaning.specs.Values.{JVal}
use Rattle.js_meaning.specs.Run.{j_machine}
use Rattle.js_run.specs.Sessions.{Outcome, Done, Refused, Crashed, OutOfFuel, Unsafe, Stuck, State, Running, Over}
use Rattle.js_run.specs.Sessions.{sends_before, session_on, model_in, sends_in, begun, begin_session, deliver_to}
use Rattle.js_run.specs.Sessions.{answer_heard, answer_input, last_of, refusal_before, told_answer, told}
use Rattle.run_files.specs.Told.{told_text, is_ready, refused_line, last_line, sends_text, send_line}
use Rattle.run_files.specs.Steps.{answer_text, start_text, goes_on, is_done, IsRunning, IsBegun}

-- after an input
abbrev Agrees : {V : Type 0} → State V → Outcome → Type 0
Agrees state Done = IsRunning state
Agrees state Refused = IsRunning state
Agrees state (Crashed t) = state ≡ Over (Crashed t)
Agrees state OutOfFuel = state ≡ Over OutOfFuel
Agrees state Unsafe = state ≡ Over Unsafe
Agrees state Stuck = state ≡ Over Stuck

module _ {V : Type 0} (machine : Machine V) (fuel : ℕ) where
  tell_agrees : (fs : List V) (value main : V) → ((model : V) (left : ℕ) → Agrees (deliver_to machine fuel fs value main model left).0 (deliver_to machine fuel fs value main model left).1.1) → (x : Metered (Stage V))
      → Agrees (session_on x (λ stage left2. sends_before (sends_in stage) (deliver_to machine fuel fs value main (model_in stage) left2))).0 (session_on x (λ stage left2. sends_before (sends_in stage) (deliver_to machine fuel fs value main (model_in stage) left2))).1.1
  tell_agrees fs value main rest (MVal stage left) = rest (model_in stage) left
  tell_agrees fs value main rest (MCrashed t) = refl
  tell_agrees fs value main rest MOutOfFuel = refl
  tell_agrees fs value main rest MUnsafe = refl
  tell_agrees fs value main rest MStuck = refl

  deliver_agrees : (fs : List V) (value main model : V) (left : ℕ) → Agrees (deliver_to machine fuel fs value main model left).0 (deliver_to machine fuel fs value main model left).1.1
  deliver_agrees [] value main model left = tt
  deliver_agrees (f ∷ fs) value main model left = tell_agrees fs value main (λ model2 left2. deliver_agrees fs value main model2 left2) (machine.tell f value main model fuel left)

  heard_agrees : (main model : V) (x : Metered (Heard V))
      → Agrees (session_on x (λ heard left. answer_heard machine fuel heard main model left)).0 (session_on x (λ heard left. answer_heard machine fuel heard main model left)).1.1
  heard_agrees main model (MVal WrongInput left) = tt
  heard_agrees main model (MVal (Heard_by fs value) left) = deliver_agrees fs value main model left
  heard_agrees main model (MCrashed t) = refl
  heard_agrees main model MOutOfFuel = refl
  heard_agrees main model MUnsafe = refl
  heard_agrees main model MStuck = refl

  answer_agrees : (input : List ℕ × Wire) (state : State V) → IsRunning state → Agrees (answer_input machine fuel input state).0 (answer_input machine fuel input state).1.1
  answer_agrees input (Running main model) runs = heard_agrees main model (machine.hear input main model fuel fuel)
  answer_agrees input (Over end) runs = absurd runs

  start_agrees : (x : Metered (Start V)) → IsBegun (session_on x (λ start left. begun start)).0 (session_on x (λ start left. begun start)).1.1
  start_agrees (MVal WrongFlags left) = refl
  start_agrees (MVal (Started main (At model sends)) left) = tt
  start_agrees (MCrashed t) = refl
  start_agrees MOutOfFuel = refl
  start_agrees MUnsafe = refl
  start_agrees MStuck = refl

  pub begin_agrees : IsBegun (begin_session machine fuel).0 (begin_session machine fuel).1.1
  begin_agrees = start_agrees (machine.start fuel fuel)

  told_over : (inputs : List (List ℕ × Wire)) (end : Outcome) → told machine fuel inputs (Over end) ≡ Ends (last_of end)
  told_over [] end = refl
  told_over (i ∷ inputs) end = refl

  pub told_nothing : (state : State V) → IsRunning state → told machine fuel [] state ≡ Ends Ready
  told_nothing (Running main model) runs = refl
  told_nothing (Over end) runs = absurd runs

-- ---- what is told of sends, and after them

told_sends : (sends : List (List ℕ × Wire)) (t : Trace) → told_text (send_all sends t) ≡ sends_text sends ++ told_text t
told_sends [] t = refl
told_sends (s ∷ ss) t = ap (λ x. send_line s.0 s.1 ++ x) (told_sends ss t) ∙ sym (append_assoc (send_line s.0 s.1) (sends_text ss) (told_text t))

ready_sends : (sends : List (List ℕ × Wire)) (t : Trace) → is_ready (send_all sends t) ≡ is_ready t
ready_sends [] t = refl
ready_sends (s ∷ ss) t = ready_sends ss t

-- the trace goes on with this one, after this text
abbrev pub GoesOnWith : Trace → List ℕ → Trace → Type 0
GoesOnWith trace piece next = (told_text trace ≡ piece ++ told_text next) × (is_ready trace ≡ is_ready next)

-- the trace ends after this text, before all inputs were given
abbrev pub EndsWith : Trace → List ℕ → Type 0
EndsWith trace piece = (told_text trace ≡ piece) × (is_ready trace ≡ false)

module _ {V : Type 0} (port : List ℕ) (state : State V) (sends : List (List ℕ × Wire)) (next : State V → Trace) where
  done_next : GoesOnWith (send_all sends (next state)) (sends_text sends ++ []) (next state)
  done_next = (told_sends sends (next state) ∙ sym (ap (λ x. x ++ told_text (next state)) (append-nil (sends_text sends))), ready_sends sends (next state))

  on_next : (end : Outcome) → goes_on end ≡ true → Agrees state end → GoesOnWith (told_answer port (state, (sends, end)) next) (answer_text port (sends, end)) (next state) × IsRunning state
  on_next Done on agrees = (done_next, agrees)
  on_next Refused on agrees = ((told_sends sends (Then (TurnedAway port) (next state)) ∙ sym (append_assoc (sends_text sends) (refused_line port) (told_text (next state))), ready_sends sends (Then (TurnedAway port) (next state))), agrees)
  on_next (Crashed t) on agrees = absurd (false≢true on)
  on_next OutOfFuel on agrees = absurd (false≢true on)
  on_next Unsafe on agrees = absurd (false≢true on)
  on_next Stuck on agrees = absurd (false≢true on)

  ends_here : (end : Outcome) → is_ready (Ends (last_of end)) ≡ false → state ≡ Over end → ((e : Outcome) → next (Over e) ≡ Ends (last_of e)) → EndsWith (send_all sends (next state)) (sends_text sends ++ last_line (last_of end))
  ends_here end late is over =
      let last : next state ≡ Ends (last_of end) = ap next is ∙ over end in
      (told_sends sends (next state) ∙ ap (λ t. sends_text sends ++ told_text t) last, ready_sends sends (next state) ∙ ap is_ready last ∙ late)

  end_next : (end : Outcome) → goes_on end ≡ false → Agrees state end → ((e : Outcome) → next (Over e) ≡ Ends (last_of e)) → EndsWith (told_answer port (state, (sends, end)) next) (answer_text port (sends, end))
  end_next Done on agrees over = absurd (true≢false on)
  end_next Refused on agrees over = absurd (true≢false on)
  end_next (Crashed t) on agrees over = ends_here (Crashed t) refl agrees over
  end_next OutOfFuel on agrees over = ends_here OutOfFuel refl agrees over
  end_next Unsafe on agrees over = ends_here Unsafe refl agrees over
  end_next Stuck on agrees over = ends_here Stuck refl agrees over

  start_next : (end : Outcome) → is_done end ≡ true → IsBegun state end → GoesOnWith (send_all sends (next state)) (start_text (sends, end)) (next state) × IsRunning state
  start_next Done on agrees = (done_next, agrees)
  start_next Refused on agrees = absurd (false≢true on)
  start_next (Crashed t) on agrees = absurd (false≢true on)
  start_next OutOfFuel on agrees = absurd (false≢true on)
  start_next Unsafe on agrees = absurd (false≢true on)
  start_next Stuck on agrees = absurd (false≢true on)

  start_ends : (end : Outcome) → is_done end ≡ false → IsBegun state end → ((e : Outcome) → next (Over e) ≡ Ends (last_of e)) → EndsWith (send_all sends (next state)) (start_text (sends, end))
  start_ends Done on agrees over = absurd (true≢false on)
  start_ends Refused on agrees over = ends_here Refused refl agrees over
  start_ends (Crashed t) on agrees over = ends_here (Crashed t) refl agrees over
  start_ends OutOfFuel on agrees over = ends_here OutOfFuel refl agrees over
  start_ends Unsafe on agrees over = ends_here Unsafe refl agrees over
  start_ends Stuck on agrees over = ends_here Stuck refl agrees over

module _ {V : Type 0} (machine : Machine V) (fuel : ℕ) where
  -- an input after which the next can come
  pub input_on : (input : List ℕ × Wire) (inputs : List (List ℕ × Wire)) (state : State V) → IsRunning state → goes_on (answer_input machine fuel input state).1.1 ≡ true
      → GoesOnWith (told machine fuel (input ∷ inputs) state) (answer_text input.0 (answer_input machine fuel input state).1) (told machine fuel inputs (answer_input machine fuel input state).0) × IsRunning (answer_input machine fuel input state).0
  input_on input inputs (Running main model) runs on =
      let r = answer_input machine fuel input (Running main model) in
      on_next input.0 r.0 r.1.0 (λ s. told machine fuel inputs s) r.1.1 on (answer_agrees machine fuel input (Running main model) runs)
  input_on input inputs (Over end) runs on = absurd runs

  -- and one that is the last
  pub input_ends : (input : List ℕ × Wire) (inputs : List (List ℕ × Wire)) (state : State V) → IsRunning state → goes_on (answer_input machine fuel input state).1.1 ≡ false
      → EndsWith (told machine fuel (input ∷ inputs) state) (answer_text input.0 (answer_input machine fuel input state).1)
  input_ends input inputs (Running main model) runs on =
      let r = answer_input machine fuel input (Running main model) in
      end_next input.0 r.0 r.1.0 (λ s. told machine fuel inputs s) r.1.1 on (answer_agrees machine fuel input (Running main model) runs) (told_over machine fuel inputs)
  input_ends input inputs (Over end) runs on = absurd runs

  -- a start that is done
  pub begin_on : (inputs sends : List (List ℕ × Wire)) (state : State V) (end : Outcome) → IsBegun state end → is_done end ≡ true
      → GoesOnWith (send_all sends (told machine fuel inputs state)) (start_text (sends, end)) (told machine fuel inputs state) × IsRunning state
  begin_on inputs sends state end agrees on = start_next [] state sends (λ s. told machine fuel inputs s) end on agrees

  -- and one that is not
  pub begin_ends : (inputs sends : List (List ℕ × Wire)) (state : State V) (end : Outcome) → IsBegun state end → is_done end ≡ false
      → EndsWith (send_all sends (told machine fuel inputs state)) (start_text (sends, end))
  begin_ends inputs sends state end agrees on = start_ends [] state sends (λ s. told machine fuel inputs s) end on agrees (told_over machine fuel inputs)

-- ---- the flags have no part in what follows the start

module _ (p : Program) (f g : Wire) (fuel : ℕ) where
  tell_same : (fs : List JVal) (value main : JVal) → ((model : JVal) (left : ℕ) → deliver_to (j_machine p f) fuel fs value main model left ≡ deliver_to (j_machine p g) fuel fs value main model left) → (x : Metered (Stage JVal))
      → session_on x (λ stage left2. sends_before (sends_in stage) (deliver_to (j_machine p f) fuel fs value main (model_in stage) left2))
      ≡ session_on x (λ stage left2. sends_before (sends_in stage) (deliver_to (j_machine p g) fuel fs value main (model_in stage) left2))
  tell_same fs value main rest (MVal stage left) = ap (λ r. sends_before (sends_in stage) r) (rest (model_in stage) left)
  tell_same fs value main rest (MCrashed t) = refl
  tell_same fs value main rest MOutOfFuel = refl
  tell_same fs value main rest MUnsafe = refl
  tell_same fs value main rest MStuck = refl

  deliver_same : (fs : List JVal) (value main model : JVal) (left : ℕ) → deliver_to (j_machine p f) fuel fs value main model left ≡ deliver_to (j_machine p g) fuel fs value main model left
  deliver_same [] value main model left = refl
  deliver_same (h ∷ fs) value main model left = tell_same fs value main (λ model2 left2. deliver_same fs value main model2 left2) ((j_machine p f).tell h value main model fuel left)

  heard_same : (main model : JVal) (x : Metered (Heard JVal))
      → session_on x (λ heard left. answer_heard (j_machine p f) fuel heard main model left) ≡ session_on x (λ heard left. answer_heard (j_machine p g) fuel heard main model left)
  heard_same main model (MVal WrongInput left) = refl
  heard_same main model (MVal (Heard_by fs value) left) = deliver_same fs value main model left
  heard_same main model (MCrashed t) = refl
  heard_same main model MOutOfFuel = refl
  heard_same main model MUnsafe = refl
  heard_same main model MStuck = refl

  pub told_same : (inputs : List (List ℕ × Wire)) (state : State JVal) → told (j_machine p f) fuel inputs state ≡ told (j_machine p g) fuel inputs state
  told_same [] (Running main model) = refl
  told_same [] (Over end) = refl
  told_same (i ∷ inputs) (Over end) = refl
  told_same (i ∷ inputs) (Running main model) =
      let r = answer_input (j_machine p f) fuel i (Running main model) in
      ap (λ t. send_all r.1.0 (refusal_before r.1.1 i.0 t)) (told_same inputs r.0)
      ∙ ap (λ a. told_answer i.0 a (λ state. told (j_machine p g) fuel inputs state)) (heard_same main model ((j_machine p f).hear i main model fuel fuel))
