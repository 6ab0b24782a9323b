-- The start, each input, and whole runs.
use Rattle.std.proofs.Common.{◌≡◌, ℕ, pos, List, [], ◌∷◌, map, Bool, true, false, Option, Some, None, inl, inr, refl, sym, ap, ◌∙◌, subst}
use Rattle.std.specs.Prelude.{codes}
use Rattle.std.specs.Option.{option_map}
use Rattle.std.specs.List.{AllByRecursion, list_any}
use Rattle.std.specs.Str.{bytes_eq}
use Rattle.wire_value.specs.Wire.{Wire}
use Rattle.runs.specs.Ends.{End, Val, Crashed, OutOfFuel, Unsafe, Stuck, then_do, with_budget}
use Rattle.runs.specs.Trace.{Trace, IsRuled, send_all}
use Rattle.runs.specs.Driver.{Stage, At, Start, WrongFlags, Started, Heard, WrongInput, Heard_by, Machine, metered, go_on, at_stage, deliver, take_in, drive, begin}
use Rattle.elm_canon.specs.Names.{Name}
use Rattle.elm_canon.specs.declared.unions.Tag.{Tag}
use Rattle.elm_canon.specs.declared.unions.Tag.TheVariants.{Number}
use Rattle.elm_canon.specs.Unions.{tuple_alternative}
use Rattle.elm_canon.specs.Tree.{Payload}
use Rattle.elm_meaning.specs.Values.{Value, TagV, RecordV, Values, NoValue, MoreValue, Env, Nil, count_of, field_of}
use Rattle.elm_meaning.specs.Envs.{lookup}
use Rattle.elm_meaning.specs.Eval.{Call, call_at}
use Rattle.elm_meaning.specs.Ports.{shape}
use Rattle.elm_meaning.specs.Run.{Program, Flags, AnyFlags, FlagsOf, out_ports, in_port, with_primitives, declare_with, top_with, flat, sends_of, hearers, stage_of}
use Rattle.elm_meaning.specs.Run.{part_of, read_flags, start_with, hear_with, hear_at, tell_with, source_nested, SourceRun}
use Rattle.elm_type.specs.Types.{ElmTypes, types_of, Fields, Record, Closed, NoField, Leaf, Free, Made, Rigid, function, tuple, variable}
use Rattle.elm_type.specs.Classes.{Ground}
use Rattle.elm_type.specs.Rows.{substitute, substitute_all, extend}
use Rattle.elm_type.specs.declared.head.Head.TheVariants as head
use Rattle.type_items.specs.Scopes.{Known, Instance, entry_of, elsewhere}
use Rattle.typed_values.specs.Payloads.{payload_type, cmd_type, sub_type}
use Rattle.typed_values.specs.Frames.{Serves}
use Rattle.typed_values.specs.World.{World, Constructor, Among, MadeBy, variables_of, IsSound}
use Rattle.typed_values.specs.Typed.{EndsWell, Has, HasEach, HaveFields, Fits}
use Rattle.typed_values.specs.Sample.{sample_frame}
use Rattle.typed_values.proofs.Names.{not_both}
use Rattle.typed_values.proofs.Forms.{plain_made, tag_value, record_value}
use Rattle.typed_values.proofs.Fields.{TypeOf, field_found}
use Rattle.typed_values.proofs.Makers.{tuple_made}
use Rattle.typed_values.proofs.Envs.{look_good}
use Rattle.typed_values.proofs.Written.{IfRead, was_read}
use Rattle.type_safety.proofs.Sound.{steps_keep_types}
use Rattle.type_safety.proofs.Progress.{then_well, CallOk, call_good}
use Rattle.program_safety.specs.Parts.{Part, none_but, primitive_names, bound_after}
use Rattle.program_safety.specs.Programs.{step_type, worker_type, program_type, IsProgramMaker, IsWorker, flags_type, IsTypedProgram, IsInput}
use Rattle.program_safety.proofs.Chain.{told_scope, map_ends, none_bound, parts_fit, core_fits}
use Rattle.program_safety.proofs.Flat.{Sent, sends_good, sent_good, Listening, listens_good, hearers_good}

-- ---- traces

ruled_sends : (ss : List (List ℕ × Wire)) (t : Trace) → IsRuled t → IsRuled (send_all ss t)
ruled_sends [] t h = h
ruled_sends (s ∷ ss) t h = ruled_sends ss t h

ruled_on : {X : Type 0} (P : X → Type 0) (o : End X) (left : ℕ) (next : X → ℕ → Trace) → EndsWell P o → ((x : X) (m : ℕ) → P x → IsRuled (next x m)) → IsRuled (go_on (with_budget o left) next)
ruled_on P (Val x) left next h k = k x left h
ruled_on P (Crashed us) left next h k = tt
ruled_on P OutOfFuel left next h k = tt
ruled_on P Unsafe left next h k = tt
ruled_on P Stuck left next h k = absurd h

-- the fields of the record of a program
abbrev fields_in : Ground → Fields Rigid
fields_in (Record fs end) = fs
fields_in (Made h ts) = NoField

abbrev worker_fields : Ground → Ground → Ground → Fields Rigid
worker_fields F M G = fields_in (worker_type F M G)

-- what is a list by its tests alone
abbrev is_list_type : Ground → Bool
is_list_type (Made (head.Named m x) ts) = bytes_eq m (codes "List")
is_list_type _ = false

module _ (w : World) (sound : IsSound w) (worker : IsWorker w) where
  -- ---- the record of a program

  substituted_worker : (L : Leaf ℕ → Ground) (f m g : Leaf ℕ) → substitute L (worker_type (variable f) (variable m) (variable g)) ≡ worker_type (extend NoField (L f)) (extend NoField (L m)) (extend NoField (L g))
  substituted_worker L f m g = refl

  record IsRecordOf (v : Value) (t : Ground) : Type 0 where
    pub parts : Value
    pub is : v ≡ TagV (Number (pos 0)) (MoreValue parts NoValue)
    pub has : Has w parts t

  one_part : (tag : Tag) (vs : Values) (t : Ground) → tag ≡ Number (pos 0) → HasEach w vs (t ∷ []) → IsRecordOf (TagV tag vs) t
  one_part tag NoValue t e h = absurd h
  one_part tag (MoreValue v NoValue) t e h = record { parts = v; is = ap (λ z. TagV z (MoreValue v NoValue)) e; has = h.0 }
  one_part tag (MoreValue v (MoreValue u vs)) t e h = absurd h.1

  three_same : (a b c F M G : Ground) → program_type a b c ≡ program_type F M G → (a ≡ F) × (b ≡ M) × (c ≡ G)
  three_same a b c F M G e =
      let one : a ≡ F = cc in
      let two : b ≡ M = cc in
      let three : c ≡ G = cc in
      (one, two, three)

  named_same : (m x : Name) (us : ElmTypes Rigid) (F M G : Ground) → Made (head.Named m x) us ≡ program_type F M G
      → (m ≡ codes "Platform") × (x ≡ codes "Program") × (Made (head.Named (codes "Platform") (codes "Program")) us ≡ program_type F M G)
  named_same m x us F M G e =
      let p : m ≡ codes "Platform" = cc in
      let q : x ≡ codes "Program" = cc in
      let r : us ≡ types_of (F ∷ M ∷ G ∷ []) = cc in
      (p, q, ap (Made (head.Named (codes "Platform") (codes "Program"))) r)

  fields_made : (c : Constructor) (L : Leaf ℕ → Ground) (F M G : Ground) → IsProgramMaker c → Made (head.Named (codes "Platform") (codes "Program")) (substitute_all L (types_of (variables_of c.arguments))) ≡ program_type F M G
      → map (substitute L) c.fields ≡ worker_type F M G ∷ []
  fields_made c L F M G k e =
      let one = extend NoField (L (Free k.flags)) in
      let two = extend NoField (L (Free k.model)) in
      let three = extend NoField (L (Free k.message)) in
      let args : program_type one two three ≡ program_type F M G =
      sym (ap (λ ns. Made (head.Named (codes "Platform") (codes "Program")) (substitute_all L (types_of (variables_of ns)))) k.arguments_are) ∙ e in
      let r = three_same one two three F M G args in
      ap (map (substitute L)) k.fields_are ∙ (ap (λ z. z ∷ []) (substituted_worker L (Free k.flags) (Free k.model) (Free k.message))
      ∙ (ap (λ z. worker_type z two three ∷ []) r.0 ∙ (ap (λ z. worker_type F z three ∷ []) r.1 ∙ ap (λ z. worker_type F M z ∷ []) r.2)))

  worker_made : (tag : Tag) (vs : Values) (parts : List Ground) (F M G : Ground) → MadeBy w tag vs parts (program_type F M G) → (tag ≡ Number (pos 0)) × (parts ≡ worker_type F M G ∷ [])
  worker_made tag vs parts F M G (inl m) = absurd (let e : tuple parts ≡ program_type F M G = m.is in cc)
  worker_made tag vs parts F M G (inr (inl m)) = not_both true refl (ap is_list_type m.is)
  worker_made tag vs parts F M G (inr (inr m)) =
      let e : Made (head.Named m.home m.name) (substitute_all m.choice (types_of (variables_of m.constructor_.arguments))) ≡ program_type F M G = m.is in
      let names = named_same m.home m.name (substitute_all m.choice (types_of (variables_of m.constructor_.arguments))) F M G e in
      let k = worker.each m.constructor_ (subst (λ z. Among m.constructor_ (w.unions (codes "Platform") z)) names.1 (subst (λ z. Among m.constructor_ (w.unions z m.name)) names.0 m.among)) in
      (sym m.tag_is ∙ k.tag_is, sym m.parts_are ∙ fields_made m.constructor_ m.choice F M G k names.2)

  worker_value : (v : Value) (F M G : Ground) → Has w v (program_type F M G) → IsRecordOf v (worker_type F M G)
  worker_value v F M G h =
      let r = tag_value w sound v (program_type F M G) refl h in
      let k : Has w (TagV r.0 r.1) (program_type F M G) = subst (λ z. Has w z (program_type F M G)) r.2 h in
      let m = worker_made r.0 r.1 k.0 F M G (plain_made w sound r.0 r.1 k.0 (program_type F M G) refl k.1) in
      subst (λ z. IsRecordOf z (worker_type F M G)) (sym r.2) (one_part r.0 r.1 (worker_type F M G) m.0 (subst (HasEach w r.1) m.1 k.2))

  -- its three functions
  part_of_record : (x : Name) (t F M G : Ground) (v : Value) → TypeOf x (worker_fields F M G) t → IsRecordOf v (worker_type F M G) → EndsWell (λ f. Has w f t) (part_of x v)
  part_of_record x t F M G v e p =
      let r = record_value w sound p.parts (worker_type F M G) refl p.has in
      let k : Has w (RecordV r.0) (worker_type F M G) = subst (λ z. Has w z (worker_type F M G)) r.1 p.has in
      let s : Record k.0 Closed ≡ worker_type F M G = k.1 in
      let same : k.0 ≡ worker_fields F M G = cc in
      let f = field_found w x r.0 (worker_fields F M G) t (subst (HaveFields w r.0) same k.2) e in
      subst (λ z. EndsWell (λ f. Has w f t) (part_of x z)) (sym p.is)
      (subst (λ z. EndsWell (λ f. Has w f t) (field_of x z)) (sym r.1) (subst (EndsWell (λ f. Has w f t)) (sym f.is) f.has))

  part_good : (x : Name) (t F M G : Ground) (v : Value) → TypeOf x (worker_fields F M G) t → Has w v (program_type F M G) → EndsWell (λ f. Has w f t) (part_of x v)
  part_good x t F M G v e h = part_of_record x t F M G v e (worker_value v F M G h)

  -- ---- a model and commands

  abbrev StageOk : Ground → Stage Value → Type 0
  StageOk M (At model sends) = Has w model M

  staged : (outs : List Name) (sent : (port : Name) (t : Payload) → w.outs port ≡ Some t → list_any (λ other. bytes_eq port other) outs ≡ true) (M G : Ground) (model command : Value)
      → Has w model M → Has w command (cmd_type G) → EndsWell (StageOk M) (then_do (flat command) (λ ps. then_do (sends_of outs ps) (λ sends. Val (At model sends))))
  staged outs sent M G model command h k =
      then_well (AllByRecursion (Sent w sound outs)) (StageOk M) (flat command) (λ ps. then_do (sends_of outs ps) (λ sends. Val (At model sends))) (sends_good w sound outs sent G command k)
      (λ ps all. then_well (λ _. Unit {0}) (StageOk M) (sends_of outs ps) (λ sends. Val (At model sends)) (sent_good w sound outs ps all) (λ sends _. h))

  pair_staged : (outs : List Name) (sent : (port : Name) (t : Payload) → w.outs port ≡ Some t → list_any (λ other. bytes_eq port other) outs ≡ true) (M G : Ground) (tag : Tag) (vs : Values)
      → tag ≡ (tuple_alternative (count_of vs)).tag → HasEach w vs (M ∷ cmd_type G ∷ []) → EndsWell (StageOk M) (stage_of outs (TagV tag vs))
  pair_staged outs sent M G tag NoValue e h = absurd h
  pair_staged outs sent M G tag (MoreValue model NoValue) e h = absurd h.1
  pair_staged outs sent M G tag (MoreValue model (MoreValue command (MoreValue x xs))) e h = absurd h.1.1
  pair_staged outs sent M G tag (MoreValue model (MoreValue command NoValue)) e h =
      subst (λ z. EndsWell (StageOk M) (stage_of outs (TagV z (MoreValue model (MoreValue command NoValue))))) (sym e) (staged outs sent M G model command h.0 h.1.0)

  stage_good : (outs : List Name) (sent : (port : Name) (t : Payload) → w.outs port ≡ Some t → list_any (λ other. bytes_eq port other) outs ≡ true) (M G : Ground) (v : Value)
      → Has w v (step_type M G) → EndsWell (StageOk M) (stage_of outs v)
  stage_good outs sent M G v h =
      let r = tag_value w sound v (step_type M G) refl h in
      let k : Has w (TagV r.0 r.1) (step_type M G) = subst (λ z. Has w z (step_type M G)) r.2 h in
      let m = tuple_made w sound r.0 r.1 k.0 (M ∷ cmd_type G ∷ []) (plain_made w sound r.0 r.1 k.0 (step_type M G) refl k.1) in
      subst (λ z. EndsWell (StageOk M) (stage_of outs z)) (sym r.2) (pair_staged outs sent M G r.0 r.1 m.1 (subst (HasEach w r.1) m.0 k.2))

  -- ---- steps

  module _ (call : Call) (calls : CallOk w (steps_keep_types w sound) call) (outs : List Name)
      (sent : (port : Name) (t : Payload) → w.outs port ≡ Some t → list_any (λ other. bytes_eq port other) outs ≡ true) (F M G : Ground) (program : Value) (has : Has w program (program_type F M G)) where
    abbrev StartOk : Start Value → Type 0
    StartOk WrongFlags = Unit {0}
    StartOk (Started p stage) = Has w p (program_type F M G) × StageOk M stage

    start_good : (o : Option Value) → IfRead (λ v. Has w v F) o → EndsWell StartOk (start_with call outs program o)
    start_good None h = tt
    start_good (Some flags) h =
        then_well (λ f. Has w f (function F (step_type M G))) StartOk (part_of (codes "init") program) (λ init. then_do (call init flags) (λ pair. then_do (stage_of outs pair) (λ stage. Val (Started program stage))))
        (part_good (codes "init") (function F (step_type M G)) F M G program refl has)
        (λ init i. then_well (λ v. Has w v (step_type M G)) StartOk (call init flags) (λ pair. then_do (stage_of outs pair) (λ stage. Val (Started program stage))) (calls init flags F (step_type M G) i h)
        (λ pair q. then_well (StageOk M) StartOk (stage_of outs pair) (λ stage. Val (Started program stage)) (stage_good outs sent M G pair q) (λ stage s. (has, s))))

    abbrev HeardOk : Payload → Heard Value → Type 0
    HeardOk t WrongInput = Unit {0}
    HeardOk t (Heard_by fs v) = AllByRecursion (λ f. Has w f (function (payload_type t) G)) fs × Has w v (payload_type t)

    hear_good : (port : Name) (t : Payload) (model : Value) (o : Option Value) → w.ins port ≡ Some t → Has w model M → IfRead (λ v. Has w v (payload_type t)) o
        → EndsWell (HeardOk t) (hear_with call port program model o)
    hear_good port t model None is h k = tt
    hear_good port t model (Some v) is h k =
        then_well (λ f. Has w f (function M (sub_type G))) (HeardOk t) (part_of (codes "subscriptions") program) (λ subscriptions. then_do (call subscriptions model) (λ subs. then_do (flat subs) (λ ps. Val (Heard_by (hearers port ps) v))))
        (part_good (codes "subscriptions") (function M (sub_type G)) F M G program refl has)
        (λ f i. then_well (λ x. Has w x (sub_type G)) (HeardOk t) (call f model) (λ subs. then_do (flat subs) (λ ps. Val (Heard_by (hearers port ps) v))) (calls f model M (sub_type G) i h)
        (λ subs q. then_well (AllByRecursion (Listening w sound G)) (HeardOk t) (flat subs) (λ ps. Val (Heard_by (hearers port ps) v)) (listens_good w sound G subs q)
        (λ ps all. (hearers_good w sound port t G ps is all, k))))

    tell_good : (t : Payload) (f v model : Value) → Has w f (function (payload_type t) G) → Has w v (payload_type t) → Has w model M → EndsWell (StageOk M) (tell_with call outs f v program model)
    tell_good t f v model hf hv hm =
        then_well (λ x. Has w x G) (StageOk M) (call f v) (λ message. then_do (part_of (codes "update") program) (λ update. then_do (call update message) (λ step. then_do (call step model) (λ pair. stage_of outs pair)))) (calls f v (payload_type t) G hf hv)
        (λ message i. then_well (λ x. Has w x (function G (function M (step_type M G)))) (StageOk M) (part_of (codes "update") program) (λ update. then_do (call update message) (λ step. then_do (call step model) (λ pair. stage_of outs pair)))
        (part_good (codes "update") (function G (function M (step_type M G))) F M G program refl has)
        (λ update u. then_well (λ x. Has w x (function M (step_type M G))) (StageOk M) (call update message) (λ step. then_do (call step model) (λ pair. stage_of outs pair)) (calls update message G (function M (step_type M G)) u i)
        (λ step s. then_well (λ x. Has w x (step_type M G)) (StageOk M) (call step model) (λ pair. stage_of outs pair) (calls step model M (step_type M G) s hm)
        (λ pair q. stage_good outs sent M G pair q))))

-- ---- whole runs

module _ (w : World) (told : Known) (ts : List Part) (p : Program) (ok : IsTypedProgram w told ts p) (flags : Wire) (n : ℕ) where
  abbrev F : Ground
  F = flags_type p.flags

  abbrev M : Ground
  M = ok.main.model

  abbrev G : Ground
  G = ok.main.message

  abbrev machine : Machine Value
  machine = metered (source_nested p flags)

  calls : CallOk w (steps_keep_types w ok.sound) (call_at n)
  calls = call_good w (steps_keep_types w ok.sound) n

  ruled_stage : (next : Value → Trace) → ((model : Value) → Has w model M → IsRuled (next model)) → (stage : Stage Value) → StageOk w ok.sound ok.worker M stage → IsRuled (at_stage machine n stage next)
  ruled_stage next h (At model sends) k = ruled_sends sends (next model) (h model k)

  ruled_deliver : (t : Payload) (v program : Value) → Has w program (program_type F M G) → Has w v (payload_type t) → (next : Value → Trace) → ((model : Value) → Has w model M → IsRuled (next model))
      → (fs : List Value) (model : Value) (left : ℕ) → AllByRecursion (λ f. Has w f (function (payload_type t) G)) fs → Has w model M → IsRuled (deliver machine n fs v program model left next)
  ruled_deliver t v program hp hv next h [] model left all hm = h model hm
  ruled_deliver t v program hp hv next h (f ∷ fs) model left all hm =
      ruled_on (StageOk w ok.sound ok.worker M) (tell_with (call_at n) (out_ports p.declarations) f v program model) left (λ stage left2. at_stage machine n stage (λ model2. deliver machine n fs v program model2 left2 next))
      (tell_good w ok.sound ok.worker (call_at n) calls (out_ports p.declarations) ok.outs F M G program hp t f v model all.0 hv hm)
      (λ stage left2 k. ruled_stage (λ model2. deliver machine n fs v program model2 left2 next) (λ model2 h2. ruled_deliver t v program hp hv next h fs model2 left2 all.1 h2) stage k)

  ruled_drive : (inputs : List (Name × Wire)) (program model : Value) → AllByRecursion (IsInput p) inputs → Has w program (program_type F M G) → Has w model M → IsRuled (drive machine n inputs program model)
  ruled_drive [] program model all hp hm = tt
  ruled_drive (input ∷ inputs) program model all hp hm =
      let t = all.0.0 in
      ruled_on (HeardOk w ok.sound ok.worker (call_at n) calls (out_ports p.declarations) ok.outs F M G program hp t) (hear_at (call_at n) input program model (in_port input.0 p.declarations)) n
      (λ heard left. take_in machine n input heard program model left (λ model2. drive machine n inputs program model2))
      (subst (λ o. EndsWell (HeardOk w ok.sound ok.worker (call_at n) calls (out_ports p.declarations) ok.outs F M G program hp t) (hear_at (call_at n) input program model o)) (sym all.0.1)
      (hear_good w ok.sound ok.worker (call_at n) calls (out_ports p.declarations) ok.outs F M G program hp input.0 t model (shape t input.1) (ok.ins input.0 t all.0.1) hm (was_read w ok.sound t input.1)))
      (λ heard left k. taken heard left k (λ model2 h2. ruled_drive inputs program model2 all.1 hp h2))
    where
      taken : (heard : Heard Value) (left : ℕ) → HeardOk w ok.sound ok.worker (call_at n) calls (out_ports p.declarations) ok.outs F M G program hp all.0.0 heard
          → ((model2 : Value) → Has w model2 M → IsRuled (drive machine n inputs program model2)) → IsRuled (take_in machine n input heard program model left (λ model2. drive machine n inputs program model2))
      taken WrongInput left k again = again model hm
      taken (Heard_by fs v) left k again = ruled_deliver all.0.0 v program hp k.1 (λ model2. drive machine n inputs program model2) again fs model left k.0 hm

  abbrev ProgramStarts : Start Value → Type 0
  ProgramStarts WrongFlags = Unit {0}
  ProgramStarts (Started program stage) = Has w program (program_type F M G) × StageOk w ok.sound ok.worker M stage

  flags_read : (f : Flags) → p.flags ≡ f → IfRead (λ v. Has w v (flags_type f)) (read_flags f flags)
  flags_read AnyFlags e = ([], inl (inl (record { tag_is = refl; is = refl })), tt)
  flags_read (FlagsOf t) e = was_read w ok.sound t flags

  main_good : (env : Env) → Fits w env (none_but (bound_after ts (primitive_names p.primitives))) (told_scope told) sample_frame → EndsWell (λ v. Has w v (program_type F M G)) (lookup p.main env)
  main_good env f =
      let m = ok.main in
      let found : entry_of (told_scope told) p.main ≡ Some (Instance m.scheme) = ap (elsewhere told) m.name_is ∙ ap (λ o. option_map (λ s. Instance s) o) m.told_is in
      map_ends (λ v. Serves (λ g. Has w v g) (Instance m.scheme) (told_scope told) sample_frame) (λ v. Has w v (program_type F M G)) (lookup p.main env) (look_good w env (none_but (bound_after ts (primitive_names p.primitives))) (told_scope told) p.main (Instance m.scheme) sample_frame f (none_bound (bound_after ts (primitive_names p.primitives)) p.main m.is_bound) found)
      (λ v serves. subst (Has w v) m.is (serves m.frame m.choice m.stands (record { types = tt; constants = tt }) m.chosen))

  starts : EndsWell ProgramStarts (then_do (top_with (call_at n) p) (λ env. then_do (lookup p.main env) (λ program. start_with (call_at n) (out_ports p.declarations) program (read_flags p.flags flags))))
  starts =
      let Fit : Env → Type 0 = λ env. Fits w env (none_but (bound_after ts (primitive_names p.primitives))) (told_scope told) sample_frame in
      let top : EndsWell Fit (top_with (call_at n) p) = subst (λ ds. EndsWell Fit (declare_with (call_at n) ds (with_primitives p.primitives Nil))) (sym ok.declarations)
      (parts_fit w ok.sound told ok.known n ts (primitive_names p.primitives) (with_primitives p.primitives Nil) ok.parts (core_fits w ok.sound told ok.known p.primitives ok.primitives)) in
      then_well Fit ProgramStarts (top_with (call_at n) p) (λ env. then_do (lookup p.main env) (λ program. start_with (call_at n) (out_ports p.declarations) program (read_flags p.flags flags))) top
      (λ env f. then_well (λ v. Has w v (program_type F M G)) ProgramStarts (lookup p.main env) (λ program. start_with (call_at n) (out_ports p.declarations) program (read_flags p.flags flags)) (main_good env f)
      (λ program h. start_as program h))
    where
      start_as : (program : Value) → Has w program (program_type F M G) → EndsWell ProgramStarts (start_with (call_at n) (out_ports p.declarations) program (read_flags p.flags flags))
      start_as program h =
          same_start (start_with (call_at n) (out_ports p.declarations) program (read_flags p.flags flags))
          (start_good w ok.sound ok.worker (call_at n) calls (out_ports p.declarations) ok.outs F M G program h (read_flags p.flags flags) (flags_read p.flags refl))
        where
          same_start : (o : End (Start Value)) → EndsWell (StartOk w ok.sound ok.worker (call_at n) calls (out_ports p.declarations) ok.outs F M G program h) o → EndsWell ProgramStarts o
          same_start (Val WrongFlags) k = tt
          same_start (Val (Started q stage)) k = k
          same_start (Crashed us) k = tt
          same_start OutOfFuel k = tt
          same_start Unsafe k = tt
          same_start Stuck k = k

  pub never_stuck : (inputs : List (Name × Wire)) → AllByRecursion (IsInput p) inputs → IsRuled (SourceRun p flags inputs n)
  never_stuck inputs all =
      ruled_on ProgramStarts ((source_nested p flags).start n) n (λ start left. begin machine n start inputs) starts (λ start left k. begun start k)
    where
      begun : (start : Start Value) → ProgramStarts start → IsRuled (begin machine n start inputs)
      begun WrongFlags k = tt
      begun (Started program stage) k = ruled_stage (λ model. drive machine n inputs program model) (λ model h. ruled_drive inputs program model all k.0 h) stage k.1
