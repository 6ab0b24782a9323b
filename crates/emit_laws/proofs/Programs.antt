-- Whole programs: each step of the output follows the program's step.
use Rattle.std.proofs.Common.{◌≡◌, ℕ, List, [], ◌∷◌, Bool, true, false, refl, ap, subst, codes, Option, Some, None}
use Rattle.wire_value.specs.Wire.{Wire}
use Rattle.runs.specs.Ends.{End, Val, then_do, MVal, and_then, with_budget}
use Rattle.runs.specs.Driver.{WrongFlags, Started, WrongInput, Heard_by}
use Rattle.runs.specs.Pay.{Follows, gives, unclaimed_stuck}
use Rattle.runs.specs.Alike.{StageAlike, StartAlike, wrong_flags, started, HeardAlike, wrong_input, heard_by, IsAlike}
use Rattle.runs.proofs.Spends.{spends_none, spends_same, follows_after, follows_then}
use Rattle.runs.proofs.SameRuns.{same_runs}
use Rattle.std.specs.Prelude.{if◌then◌else◌}
use Rattle.elm_canon.specs.Names.{Name, same_name}
use Rattle.elm_canon.specs.Tree.{Payload, Maker, RecordMaker, OutPort, InPort, Declaration, Given, Define}
use Rattle.elm_canon.specs.Declarations.{after_declarations}
use Rattle.elm_meaning.specs.Values.{Value, Env, Nil}
use Rattle.elm_meaning.specs.Envs.{lookup}
use Rattle.elm_meaning.specs.Eval.{call_at}
use Rattle.elm_meaning.specs.Run.{Program, Flags, AnyFlags, FlagsOf, out_ports, in_port, top_with, stage_of, part_of, read_flags, start_with, hear_with, hear_at, source_nested}
use Rattle.js_meaning.specs.Values.{JVal, JNil, JEnv, j_find, get_field}
use Rattle.js_meaning.specs.Codecs.{Decoded, decode}
use Rattle.js_meaning.specs.Run.{body_of, j_stage, j_part, on_decoded, j_machine}
use Rattle.js_meaning.specs.Run as js
use Rattle.js_meaning.specs.Eval.{j_eval, j_exec, j_call, j_loop, nowhere, inside}
use Rattle.js_emit.specs.Names.{js_name}
use Rattle.js_emit.specs.Program.{Emit, out_names}
use Rattle.emit_laws.specs.Given.{ProperPayload}
use Rattle.emit_laws.specs.For.{For, for_blank, ForEnv}
use Rattle.emit_laws.specs.Programs.{CanBeSaid, ProperFlags, primitive_scope, ProperProgram, ProgramsAlike}
use Rattle.emit_laws.proofs.Names.{inside_bound, used}
use Rattle.emit_laws.proofs.Envs.{for_nil, looked_up}
use Rattle.emit_laws.proofs.Ends.{follows_end}
use Rattle.emit_laws.proofs.Constructs.{then_then, then_itself}
use Rattle.emit_laws.proofs.Decodes.{ReadFor, both_refuse, both_read, reads}
use Rattle.emit_laws.proofs.Flat.{flat_same, hearers_same, stage_same, record_part}
use Rattle.emit_laws.proofs.Ports.{same_outs, port_found, flags_decoding, main_js, main_value, main_run}
use Rattle.emit_laws.proofs.Tops.{primitives_follow, program_clear}
use Rattle.emit_laws.proofs.Whole.{all_calls}

-- the object of the line of `_main`, for the program that `main` is
data ForMain (kind : Flags) (ds : List Declaration) : Value → JVal → Type 0 where
  for_main : {v : Value} {w : JVal} → For v w → ForMain kind ds v (main_value kind ds w)

-- a part of the program
part_follows : (n : ℕ) (k : Name) {kind : Flags} {ds : List Declaration} {v : Value} {w : JVal} → ForMain kind ds v w → Follows For n (part_of k v) (λ _ m. with_budget (j_part k w) m)
part_follows n k (for_main {v} {w} r) = follows_end (record_part k v w r)

-- what is read from the flags
flags_read : (kind : Flags) → ProperFlags kind → (flags : Wire) → ReadFor (read_flags kind flags) (decode (flags_decoding kind) flags)
flags_read AnyFlags pr flags = both_read for_blank
flags_read (FlagsOf t) pr flags = reads t pr flags

-- what an incoming port carries
port_payload : (port : Name) (ds : List Declaration) (t : Payload) → CanBeSaid ds → in_port port ds ≡ Some t → ProperPayload t
port_payload port [] t said e = absurd (cc)
port_payload port (Given r (InPort other u) ∷ ds) t said e = go (same_name port other) e (port_payload port ds t said.1)
  where
    some_is : {a b : Payload} → Some a ≡ Some b → a ≡ b
    some_is e = cc

    go : (b : Bool) → (if b then Some u else in_port port ds) ≡ Some t → (in_port port ds ≡ Some t → ProperPayload t) → ProperPayload t
    go true e rec = subst (λ z. ProperPayload z) (some_is e) said.0
    go false e rec = rec e
port_payload port (Given r (OutPort x u) ∷ ds) t said e = port_payload port ds t said.1 e
port_payload port (Given r (Maker a) ∷ ds) t said e = port_payload port ds t said.1 e
port_payload port (Given r (RecordMaker ks) ∷ ds) t said e = port_payload port ds t said.1 e
port_payload port (Define g ∷ ds) t said e = port_payload port ds t said e

module _ (p : Program) (proper : ProperProgram p) where
  abbrev MainFor : Value → JVal → Type 0
  MainFor = ForMain p.flags p.declarations

  stage_follows : (n : ℕ) {v : Value} {w : JVal} → For v w → Follows (StageAlike For) n (stage_of (out_ports p.declarations) v) (λ _ m. with_budget (j_stage (out_names p.declarations) w) m)
  stage_follows n {v} {w} r = follows_end (stage_same (out_ports p.declarations) (out_names p.declarations) (same_outs p.declarations) v w r)

  -- the start, after the flags
  begin_follows : (n : ℕ) {o : Option Value} {d : End Decoded} {program : Value} {q : JVal} → ReadFor o d → MainFor program q
      → Follows (StartAlike MainFor For) n (start_with (call_at n) (out_ports p.declarations) program o) (λ b m. and_then (with_budget d m) (λ read m3. on_decoded read (MVal WrongFlags m3) (λ v. and_then (with_budget (j_part (codes "init") q) m3) (λ init m4. and_then (j_call b init v m4) (λ pair m5. and_then (with_budget (j_stage (out_names p.declarations) pair) m5) (λ stage m6. MVal (Started q stage) m6))))))
  begin_follows n both_refuse rq = gives WrongFlags wrong_flags spends_none
  begin_follows n (both_read {v} {w} r) rq =
      follows_then _ _ (part_follows n (codes "init") rq) (λ init i ri.
      follows_then _ _ (all_calls n init v i w ri r) (λ pair k rk.
      follows_then _ _ (stage_follows n rk) (λ s t rs. gives (Started _ t) (started rq rs) spends_none)))

  -- after the constants
  main_begins : (n : ℕ) (flags : Wire) {program : Value} {q : JVal} → MainFor program q
      → Follows (StartAlike MainFor For) n (start_with (call_at n) (out_ports p.declarations) program (read_flags p.flags flags)) (λ b m. and_then (with_budget (get_field (codes "flags") q) m) (λ d m2. and_then (with_budget (decode d flags) m2) (λ read m3. on_decoded read (MVal WrongFlags m3) (λ v. and_then (with_budget (j_part (codes "init") q) m3) (λ init m4. and_then (j_call b init v m4) (λ pair m5. and_then (with_budget (j_stage (out_names p.declarations) pair) m5) (λ stage m6. MVal (Started q stage) m6)))))))
  main_begins n flags (for_main r) = begin_follows n (flags_read p.flags proper.flags flags) (for_main r)

  -- the constants, and the program that `main` is
  main_follows : (n : ℕ) → Follows MainFor n (then_do (top_with (call_at n) p) (λ env. lookup p.main env)) (λ b m. j_exec (j_call b) (j_loop b) nowhere (body_of (Emit p)) (inside (body_of (Emit p)) JNil) m)
  main_follows n =
      primitives_follow n (main_js p.main p.flags p.declarations) (λ env. lookup p.main env) (after_declarations p.declarations (primitive_scope p.primitives)) found p.primitives p.declarations [] proper.primitives refl proper.declarations proper.sayable proper.few Nil (inside (body_of (Emit p)) JNil) (for_nil (inside (body_of (Emit p)) JNil))
      (inside_bound (body_of (Emit p)) (used [] 0) (program_clear p.primitives p.declarations (main_js p.main p.flags p.declarations) proper.primitives proper.declarations) JNil)
    where
      found : (env : Env) (jenv : JEnv) → ForEnv (after_declarations p.declarations (primitive_scope p.primitives)) env jenv → Follows MainFor n (lookup p.main env) (λ b m. j_eval (j_call b) (j_loop b) (main_js p.main p.flags p.declarations) jenv m)
      found env jenv re = follows_after (spends_same (λ b m. main_run (j_call b) (j_loop b) jenv p.main p.flags p.declarations m proper.ports)) (subst (λ o. Follows MainFor n o (λ b m. and_then (with_budget (j_find (js_name p.main) jenv) m) (λ w k. MVal (main_value p.flags p.declarations w) k))) (then_itself (lookup p.main env)) (follows_then (λ v. Val v) (λ b w k. MVal (main_value p.flags p.declarations w) k) (looked_up n p.main proper.main re) (λ v w r. gives (main_value p.flags p.declarations w) (for_main r) spends_none)))

  start_follows : (flags : Wire) (n : ℕ) → Follows (StartAlike MainFor For) n ((source_nested p flags).start n) (j_machine (Emit p) flags).start
  start_follows flags n =
      subst (λ o. Follows (StartAlike MainFor For) n o (j_machine (Emit p) flags).start) (then_then (top_with (call_at n) p) (λ env. lookup p.main env) (λ program. start_with (call_at n) (out_ports p.declarations) program (read_flags p.flags flags)))
      (follows_then _ _ (main_follows n) (λ program q rq. main_begins n flags rq))

  -- ---- inputs

  heard_follows : (n : ℕ) (port : Name) {o : Option Value} {d : End Decoded} {program model : Value} {q k : JVal} → ReadFor o d → MainFor program q → For model k
      → Follows (HeardAlike For) n (hear_with (call_at n) port program model o) (λ b m. and_then (with_budget d m) (λ read m2. on_decoded read (MVal WrongInput m2) (λ v. and_then (with_budget (j_part (codes "subscriptions") q) m2) (λ subscriptions m3. and_then (j_call b subscriptions k m3) (λ subs m4. and_then (with_budget (js.flat subs) m4) (λ ps m5. MVal (Heard_by (js.hearers port ps) v) m5))))))
  heard_follows n port both_refuse rq rk = gives WrongInput wrong_input spends_none
  heard_follows n port {model = model} {k = k} (both_read {v} {w} r) rq rk =
      follows_then _ _ (part_follows n (codes "subscriptions") rq) (λ subscriptions s rs.
      follows_then _ _ (all_calls n subscriptions model s k rs rk) (λ subs t rt.
      follows_then _ _ (follows_end (flat_same subs t rt)) (λ ps qs rp. gives (Heard_by (js.hearers port qs) w) (heard_by (hearers_same port rp) r) spends_none)))

  hear_follows : (flags : Wire) (n : ℕ) (input : Name × Wire) {program model : Value} {q k : JVal} → MainFor program q → For model k → Follows (HeardAlike For) n ((source_nested p flags).hear n input program model) ((j_machine (Emit p) flags).hear input q k)
  hear_follows flags n input {program} {model} {q} {k} (for_main {w} r) rk = go (in_port input.0 p.declarations) refl
    where
      go : (o : Option Payload) → in_port input.0 p.declarations ≡ o → Follows (HeardAlike For) n (hear_at (call_at n) input program model o) ((j_machine (Emit p) flags).hear input (main_value p.flags p.declarations w) k)
      go None e = unclaimed_stuck
      go (Some t) e =
          follows_after (spends_same (λ b m. ap (λ o. and_then (with_budget o m) (λ d m1. and_then (with_budget (decode d input.1) m1) (λ read m2. on_decoded read (MVal WrongInput m2) (λ v. and_then (with_budget (j_part (codes "subscriptions") (main_value p.flags p.declarations w)) m2) (λ subscriptions m3. and_then (j_call b subscriptions k m3) (λ subs m4. and_then (with_budget (js.flat subs) m4) (λ ps m5. MVal (Heard_by (js.hearers input.0 ps) v) m5))))))) (port_found input.0 p.declarations t proper.ports e)))
          (heard_follows n input.0 (reads t (port_payload input.0 p.declarations t proper.sayable e) input.1) (for_main r) rk)

  -- a function's message, and two calls for the update
  tell_follows : (flags : Wire) (n : ℕ) {f v program model : Value} {g w q k : JVal} → For f g → For v w → MainFor program q → For model k → Follows (StageAlike For) n ((source_nested p flags).tell n f v program model) ((j_machine (Emit p) flags).tell g w q k)
  tell_follows flags n {f} {v} {program} {model} {g} {w} {q} {k} rf rv rq rk =
      follows_then _ _ (all_calls n f v g w rf rv) (λ msg x rx.
      follows_then _ _ (part_follows n (codes "update") rq) (λ update u ru.
      follows_then _ _ (all_calls n update msg u x ru rx) (λ h y ry.
      follows_then _ _ (all_calls n h model y k ry rk) (λ pair z rz. stage_follows n rz))))

  alike : (flags : Wire) → IsAlike MainFor For (source_nested p flags) (j_machine (Emit p) flags)
  alike flags = record { start = λ n. start_follows flags n; hear = λ n input rq rk. hear_follows flags n input rq rk; tell = λ n rf rv rq rk. tell_follows flags n rf rv rq rk }

pub programs_alike : ProgramsAlike
programs_alike p proper flags inputs claimed = same_runs (ForMain p.flags p.declarations) For (source_nested p flags) (j_machine (Emit p) flags) (alike p proper flags) inputs claimed
