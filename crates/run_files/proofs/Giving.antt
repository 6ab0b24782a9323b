-- One input of a run of which a front part was put.
use Rattle.std.proofs.Common.{◌≡◌, ℕ, Bool, true, false, List, [], ◌∷◌, ◌++◌, Option, ◌+◌, ◌<◌, length, map, drop}
use Rattle.std.proofs.Common.{get_or, refl, sym, ap, ◌∙◌, subst, append-nil}
use Rattle.std.proofs.lemmas.List.{drop_more}
use Rattle.elm_files.specs.Texts.{longer}
use Rattle.wire_value.specs.Wire.{Wire}
use Rattle.wire_value.specs.Wire.{null}
use Rattle.runs.specs.Trace.{Trace, send_all}
use Rattle.js_tree.specs.Tree.{Program}
use Rattle.js_meaning.specs.Values.{JVal}
use Rattle.js_meaning.specs.Run.{j_machine, JsRun}
use Rattle.runs.specs.Driver.{Machine}
use Rattle.js_run.specs.Sessions.{Outcome, Answer, State, answer_input, begin_session, told, told_session}
use Rattle.run_files.specs.Told.{told_text, is_ready}
use Rattle.run_files.specs.declared.given.Input.{Input}
use Rattle.run_files.specs.View.{input_view}
use Rattle.run_files.specs.declared.course.Ended.{Ended}
use Rattle.run_files.specs.declared.course.Ended.TheVariants as ended
use Rattle.run_files.specs.declared.course.RunEnd.{RunEnd}
use Rattle.run_files.specs.Steps.{answer_text, start_text, begun_trace, goes_on, is_done, IsBegun, IsRunning, PutsPart}
use Rattle.run_files.specs.Steps.{Tells}
use Rattle.run_files.proofs.Answers.{input_on, input_ends, begin_on, begin_ends, begin_agrees, told_same}
use Rattle.run_files.proofs.Remains.{Remains, at_first, goes_further, all_put, end_at_part}

module _ {V : Type 0} (m m0 : Machine V) (fuel : ℕ) (whole : Trace) (old now : Option (List ℕ)) (xs rest : List (List ℕ × Wire)) (input : List ℕ × Wire) (state : State V)
    (same : m ≡ m0) (remains : Remains whole (told m0 fuel xs state) old now) (runs : IsRunning state) (next : xs ≡ input ∷ rest) where
  here : Remains whole (told m fuel (input ∷ rest) state) old now
  here = subst (λ k. Remains whole (told k fuel (input ∷ rest) state) old now) (sym same) (subst (λ ys. Remains whole (told m0 fuel ys state) old now) next remains)

  pub given_on : (state2 : State V) (new : Option (List ℕ)) → goes_on (answer_input m fuel input state).1.1 ≡ true → new ≡ longer now (answer_text input.0 (answer_input m fuel input state).1) → state2 ≡ (answer_input m fuel input state).0
      → Remains whole (told m0 fuel rest state2) old new × IsRunning state2
  given_on state2 new on text is =
      let step = input_on m fuel input rest state runs on in
      let further : Remains whole (told m fuel rest (answer_input m fuel input state).0) old new = goes_further whole (told m fuel (input ∷ rest) state) old now here (told m fuel rest (answer_input m fuel input state).0) new (answer_text input.0 (answer_input m fuel input state).1) step.0 text in
      (subst (λ k. Remains whole (told k fuel rest state2) old new) same (subst (λ s. Remains whole (told m fuel rest s) old new) (sym is) further), subst (λ s. IsRunning s) (sym is) step.1)

  pub given_last : (new : Option (List ℕ)) → goes_on (answer_input m fuel input state).1.1 ≡ false → new ≡ longer now (answer_text input.0 (answer_input m fuel input state).1)
      → (is_ready whole ≡ false) × (new ≡ longer old (told_text whole))
  given_last new on text =
      let step = input_ends m fuel input rest state runs on in
      (here.ready ∙ step.1, all_put whole (told m fuel (input ∷ rest) state) old now here new (answer_text input.0 (answer_input m fuel input state).1) step.0 text)

  abbrev Fronts : Type 0
  Fronts = (more : List ℕ) × (told_text (told m fuel (input ∷ rest) state) ≡ answer_text input.0 (answer_input m fuel input state).1 ++ more)

  fronts : (on : Bool) → goes_on (answer_input m fuel input state).1.1 ≡ on → Fronts
  fronts true e = (told_text (told m fuel rest (answer_input m fuel input state).0), (input_on m fuel input rest state runs e).0.0)
  fronts false e = ([], (input_ends m fuel input rest state runs e).0 ∙ sym (append-nil (answer_text input.0 (answer_input m fuel input state).1)))

  pub given_part : (new : Option (List ℕ)) (n count count' : ℕ) (end : RunEnd) → n ≡ count → PutsPart end (answer_text input.0 (answer_input m fuel input state).1) now new n count' → PutsPart end (told_text whole) old new count count'
  given_part new n count count' end e part =
      let f = fronts (goes_on (answer_input m fuel input state).1.1) refl in
      subst (λ k. PutsPart end (told_text whole) old new k count') e (end_at_part whole (told m fuel (input ∷ rest) state) old now here new (answer_text input.0 (answer_input m fuel input state).1) f.0 n count' end f.1 part)

-- the next of the inputs
pub next_given : (inputs : List Input) (i : ℕ) (item : Input) → i < length inputs → item ≡ get_or inputs i item → map input_view (drop i inputs) ≡ input_view item ∷ map input_view (drop (i + 1) inputs)
next_given inputs i item l is = ap (λ is. map input_view is) (drop_more inputs i item l ∙ ap (λ x. x ∷ drop (i + 1) inputs) (sym is))

-- ---- the start

module _ {V : Type 0} (machine : Machine V) (fuel : ℕ) (inputs sends : List (List ℕ × Wire)) (state : State V) (end : Outcome) (begun : IsBegun state end) (old : Option (List ℕ)) where
  abbrev trace : Trace
  trace = begun_trace machine fuel inputs state sends

  abbrev behind : Trace
  behind = told machine fuel inputs state

  pub is_running : is_done end ≡ true → IsRunning state
  is_running on = (begin_on machine fuel inputs sends state end begun on).1

  pub started_last : (now : Option (List ℕ)) → is_done end ≡ false → now ≡ longer old (start_text (sends, end)) → (is_ready trace ≡ false) × (now ≡ longer old (told_text trace))
  started_last now on text = let e = begin_ends machine fuel inputs sends state end begun on in (e.1, all_put trace trace old old (at_first trace old) now (start_text (sends, end)) e.0 text)

  abbrev further : Option (List ℕ) → Type 0
  further now = Remains trace behind old now

  went : (now : Option (List ℕ)) → is_done end ≡ true → now ≡ longer old (start_text (sends, end)) → further now
  went now on text = goes_further trace trace old old (at_first trace old) behind now (start_text (sends, end)) (begin_on machine fuel inputs sends state end begun on).0 text

  told_after : (now new : Option (List ℕ)) (ended : Ended) → further now → Tells ended behind now new → Tells ended trace old new
  told_after now new (ended.Refused line) r t = t
  told_after now new ended.Ready r t = (r.ready ∙ t.0, all_put trace behind old now r new (told_text behind) refl t.1)
  told_after now new ended.Stopped r t = (r.ready ∙ t.0, all_put trace behind old now r new (told_text behind) refl t.1)

  pub started_told : (now new : Option (List ℕ)) (ended : Ended) → is_done end ≡ true → now ≡ longer old (start_text (sends, end)) → Tells ended behind now new → Tells ended trace old new
  started_told now new ended on text t = told_after now new ended (went now on text) t

  pub started_part : (now new : Option (List ℕ)) (n n' : ℕ) (stop : RunEnd) → is_done end ≡ true → now ≡ longer old (start_text (sends, end)) → PutsPart stop (told_text behind) now new n n' → PutsPart stop (told_text trace) old new n n'
  started_part now new n n' stop on text part = end_at_part trace behind old now (went now on text) new (told_text behind) [] n n' stop (sym (append-nil (told_text behind))) part

  start_front : (on : Bool) → is_done end ≡ on → (more : List ℕ) × (told_text trace ≡ start_text (sends, end) ++ more)
  start_front true e = (told_text behind, (begin_on machine fuel inputs sends state end begun e).0.0)
  start_front false e = ([], (begin_ends machine fuel inputs sends state end begun e).0 ∙ sym (append-nil (start_text (sends, end))))

  pub start_part : (new : Option (List ℕ)) (n n' : ℕ) (stop : RunEnd) → PutsPart stop (start_text (sends, end)) old new n n' → PutsPart stop (told_text trace) old new n n'
  start_part new n n' stop part =
      let f = start_front (is_done end) refl in
      end_at_part trace trace old old (at_first trace old) new (start_text (sends, end)) f.0 n n' stop f.1 part

-- ---- the whole session

pub session_begun : (p : Program) (flags : Wire) (fuel : ℕ) (state : State JVal) (answer : Answer) → ◌≡◌ {A = State JVal × Answer} (state, answer) (begin_session (j_machine p flags) fuel) → IsBegun state answer.1
session_begun p flags fuel state answer e = subst (λ (r : State JVal × Answer). IsBegun r.0 r.1.1) (sym e) (begin_agrees (j_machine p flags) fuel)

pub session_trace : (p : Program) (flags : Wire) (fuel : ℕ) (inputs : List (List ℕ × Wire)) (m : Machine JVal) (state : State JVal) (answer : Answer) → m ≡ j_machine p null → ◌≡◌ {A = State JVal × Answer} (state, answer) (begin_session (j_machine p flags) fuel) → told_session (j_machine p flags) fuel inputs ≡ JsRun p flags inputs fuel
    → begun_trace m fuel inputs state answer.0 ≡ JsRun p flags inputs fuel
session_trace p flags fuel inputs m state answer same e law =
    ap (λ k. begun_trace k fuel inputs state answer.0) same
    ∙ ap (λ t. send_all answer.0 t) (told_same p null flags fuel inputs state)
    ∙ ap (λ (r : State JVal × Answer). send_all r.1.0 (told (j_machine p flags) fuel inputs r.0)) e
    ∙ law
