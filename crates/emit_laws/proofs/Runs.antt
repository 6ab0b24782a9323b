-- Runs with more fuel.
use Rattle.std.proofs.Common.{ℕ, ◌≤◌, List, [], ◌∷◌, Option, Some, None}
use Rattle.wire_value.specs.Wire.{Wire}
use Rattle.runs.specs.Ends.{End, Val, Crashed, OutOfFuel, Unsafe, Stuck, with_budget}
use Rattle.runs.specs.Trace.{Trace, Covers, cut_off, same_last, same_event, send_all}
use Rattle.runs.specs.Driver.{Stage, At, Start, WrongFlags, Started, Heard, WrongInput, Heard_by, Nested, go_on, metered}
use Rattle.runs.specs.Driver.{at_stage, deliver, take_in, drive, begin, run}
use Rattle.elm_canon.specs.Names.{Name}
use Rattle.elm_canon.specs.Tree.{Payload}
use Rattle.elm_meaning.specs.Values.{Value, Nil}
use Rattle.elm_meaning.specs.Envs.{lookup}
use Rattle.elm_meaning.specs.Ports.{shape}
use Rattle.elm_meaning.specs.Eval.{Call, call_at}
use Rattle.elm_meaning.specs.Run.{Program, source_nested, with_primitives, out_ports, in_port, start_with}
use Rattle.elm_meaning.specs.Run.{hear_with, hear_at, tell_with, read_flags}
use Rattle.emit_laws.specs.Fuel.{RunsGoOn}
use Rattle.emit_laws.proofs.Extends as ends
use Rattle.emit_laws.proofs.Extends.{Extends, then_extends}
use Rattle.emit_laws.proofs.Fuel.{Grows, declare_extends, call_extends}

-- ---- the steps of a program, by calls of which the second go on

module _ (c d : Call) (grows : Grows c d) where
  start_extends : (outs : List Name) (program : Value) (flags : Option Value) → Extends (start_with c outs program flags) (start_with d outs program flags)
  start_extends outs program None = ends.same
  start_extends outs program (Some flags) =
      then_extends ends.same (λ init. then_extends (grows init flags) (λ pair. ends.same))

  hear_extends : (input : Name × Wire) (program model : Value) (t : Option Payload) → Extends (hear_at c input program model t) (hear_at d input program model t)
  hear_extends input program model None = ends.same
  hear_extends input program model (Some t) = read (shape t input.1)
    where
      read : (v : Option Value) → Extends (hear_with c input.0 program model v) (hear_with d input.0 program model v)
      read None = ends.same
      read (Some v) = then_extends ends.same (λ subscriptions. then_extends (grows subscriptions model) (λ subs. ends.same))

  tell_extends : (outs : List Name) (f v program model : Value) → Extends (tell_with c outs f v program model) (tell_with d outs f v program model)
  tell_extends outs f v program model =
      then_extends (grows f v) (λ message. then_extends ends.same (λ update.
      then_extends (grows update message) (λ step. then_extends (grows step model) (λ pair. ends.same))))

-- ---- whole runs

-- a program by its fuel, which goes on with more
pub record GoesOn {V : Type 0} (p : Nested V) : Type 0 where
  pub start : (n m : ℕ) → n ≤ m → Extends (p.start n) (p.start m)
  pub hear : (n m : ℕ) → n ≤ m → (input : List ℕ × Wire) (program model : V) → Extends (p.hear n input program model) (p.hear m input program model)
  pub tell : (n m : ℕ) → n ≤ m → (f v program model : V) → Extends (p.tell n f v program model) (p.tell m f v program model)

same_covers : {A : Type 0} (a : End A) (k l : ℕ) (f g : A → ℕ → Trace) → ((x : A) → Covers (f x k) (g x l)) → Covers (go_on (with_budget a k) f) (go_on (with_budget a l) g)
same_covers (Val x) k l f g h = h x
same_covers (Crashed t) k l f g h = same_last
same_covers OutOfFuel k l f g h = cut_off
same_covers Unsafe k l f g h = same_last
same_covers Stuck k l f g h = same_last

go_covers : {A : Type 0} {a b : End A} (k l : ℕ) (f g : A → ℕ → Trace) → Extends a b → ((x : A) → Covers (f x k) (g x l)) → Covers (go_on (with_budget a k) f) (go_on (with_budget b l) g)
go_covers k l f g ends.cut_off h = cut_off
go_covers {a = a} k l f g ends.same h = same_covers a k l f g h

send_covers : (ss : List (List ℕ × Wire)) {t u : Trace} → Covers t u → Covers (send_all ss t) (send_all ss u)
send_covers [] h = h
send_covers (s ∷ ss) h = same_event (send_covers ss h)

module _ {V : Type 0} (p : Nested V) (goes : GoesOn p) (n m : ℕ) (h : n ≤ m) where
  stage_covers : (s : Stage V) (f g : V → Trace) → ((model : V) → Covers (f model) (g model)) → Covers (at_stage (metered p) n s f) (at_stage (metered p) m s g)
  stage_covers (At model sends) f g k = send_covers sends (k model)

  deliver_covers : (fs : List V) (value program model : V) (i j : ℕ) (f g : V → Trace) → ((model : V) → Covers (f model) (g model))
      → Covers (deliver (metered p) n fs value program model i f) (deliver (metered p) m fs value program model j g)
  deliver_covers [] value program model i j f g k = k model
  deliver_covers (w ∷ ws) value program model i j f g k =
      go_covers i j (λ stage left. at_stage (metered p) n stage (λ next. deliver (metered p) n ws value program next left f))
      (λ stage left. at_stage (metered p) m stage (λ next. deliver (metered p) m ws value program next left g))
      (goes.tell n m h w value program model) (λ stage. stage_covers stage
      (λ next. deliver (metered p) n ws value program next i f) (λ next. deliver (metered p) m ws value program next j g)
      (λ next. deliver_covers ws value program next i j f g k))

  take_covers : (input : List ℕ × Wire) (heard : Heard V) (program model : V) (i j : ℕ) (f g : V → Trace) → ((model : V) → Covers (f model) (g model))
      → Covers (take_in (metered p) n input heard program model i f) (take_in (metered p) m input heard program model j g)
  take_covers input WrongInput program model i j f g k = same_event (k model)
  take_covers input (Heard_by fs value) program model i j f g k = deliver_covers fs value program model i j f g k

  drive_covers : (inputs : List (List ℕ × Wire)) (program model : V) → Covers (drive (metered p) n inputs program model) (drive (metered p) m inputs program model)
  drive_covers [] program model = same_last
  drive_covers (input ∷ inputs) program model =
      go_covers n m (λ heard left. take_in (metered p) n input heard program model left (λ next. drive (metered p) n inputs program next))
      (λ heard left. take_in (metered p) m input heard program model left (λ next. drive (metered p) m inputs program next))
      (goes.hear n m h input program model)
      (λ heard. take_covers input heard program model n m (λ next. drive (metered p) n inputs program next)
      (λ next. drive (metered p) m inputs program next) (λ next. drive_covers inputs program next))

  begin_covers : (start : Start V) (inputs : List (List ℕ × Wire)) → Covers (begin (metered p) n start inputs) (begin (metered p) m start inputs)
  begin_covers WrongFlags inputs = same_last
  begin_covers (Started program stage) inputs =
      stage_covers stage (λ model. drive (metered p) n inputs program model) (λ model. drive (metered p) m inputs program model)
      (λ model. drive_covers inputs program model)

  pub run_covers : (inputs : List (List ℕ × Wire)) → Covers (run (metered p) inputs n) (run (metered p) inputs m)
  run_covers inputs =
      go_covers n m (λ start left. begin (metered p) n start inputs) (λ start left. begin (metered p) m start inputs)
      (goes.start n m h) (λ start. begin_covers start inputs)

source_goes_on : (p : Program) (flags : Wire) → GoesOn (source_nested p flags)
source_goes_on p flags = record {
  start = λ n m h.
      then_extends (declare_extends (call_at n) (call_at m) (call_extends n m h) p.declarations (with_primitives p.primitives Nil)) (λ env.
      then_extends {a = lookup p.main env} ends.same (λ program.
      start_extends (call_at n) (call_at m) (call_extends n m h) (out_ports p.declarations) program (read_flags p.flags flags)));
  hear = λ n m h input program model.
      hear_extends (call_at n) (call_at m) (call_extends n m h) input program model (in_port input.0 p.declarations);
  tell = λ n m h f v program model.
      tell_extends (call_at n) (call_at m) (call_extends n m h) (out_ports p.declarations) f v program model;
}

pub runs_go_on : RunsGoOn
runs_go_on p flags inputs n m h = run_covers (source_nested p flags) (source_goes_on p flags) n m h inputs
