-- The ports of a program on both sides, and the object of the line of `_main`.
use Rattle.std.proofs.Common.{◌≡◌, ℕ, List, [], ◌∷◌, Bool, true, false, refl, sym, ap, ◌∙◌, codes, Some}
use Rattle.std.specs.Prelude.{if◌then◌else◌, ◌||◌}
use Rattle.std.specs.List.{list_any}
use Rattle.std.specs.Str.{bytes_eq}
use Rattle.std.proofs.lemmas.Slice.Eq.{bytes_eq-Decides}
use Rattle.runs.specs.Ends.{End, Val, MVal, and_then, with_budget}
use Rattle.runs.specs.Texts.{units_lt}
use Rattle.elm_canon.specs.Names.{Name, same_name}
use Rattle.elm_canon.specs.declared.reference.Ref.{Ref}
use Rattle.elm_canon.specs.Tree.{Payload, Maker, RecordMaker, OutPort, InPort, Declaration, Given, Define}
use Rattle.elm_canon.specs.Spelled.{are_fields}
use Rattle.elm_meaning.specs.Run.{Flags, AnyFlags, FlagsOf, out_ports, in_port}
use Rattle.js_tree.specs.Tree as js
use Rattle.js_tree.specs.Tree.{Js, JVar, JObject, Fields, NoField, MoreField}
use Rattle.js_meaning.specs.Values.{JVal, JObjV, JCodecV, NoJVal, JFields, NoJField, MoreJField, JEnv, j_find, field_in, has_field, put_field}
use Rattle.js_meaning.specs.Eval.{JCallee, JLoop, j_eval, j_fields}
use Rattle.js_emit.specs.Names.{js_name}
use Rattle.js_emit.specs.Codecs.{decoder, flags_decoder}
use Rattle.js_emit.specs.Program.{put_decoder, in_decoders, put_port, out_names}
use Rattle.emit_laws.specs.Programs.{in_ports}
use Rattle.emit_laws.proofs.Ends.{and_and}
use Rattle.emit_laws.proofs.Objects.{next_field, word_is_not, puts}
use Rattle.emit_laws.proofs.Decodes.{decoding, decoder_is}
use Rattle.emit_laws.proofs.Flat.{SamePorts}

-- ---- outgoing ports

-- the order of tests does not matter
or_swap : (a b c : Bool) → (b || (a || c)) ≡ (a || (b || c))
or_swap true true c = refl
or_swap true false c = refl
or_swap false true c = refl
or_swap false false c = refl

any_put : (p : Name → Bool) (x : Name) (ys : List Name) → list_any p (put_port x ys) ≡ (p x || list_any p ys)
any_put p x [] = refl
any_put p x (y ∷ ys) = go (units_lt y x) (any_put p x ys)
  where
    go : (t : Bool) → list_any p (put_port x ys) ≡ (p x || list_any p ys) → list_any p (if t then y ∷ put_port x ys else x ∷ y ∷ ys) ≡ (p x || (p y || list_any p ys))
    go true rest = ap (λ t. p y || t) rest ∙ or_swap (p x) (p y) (list_any p ys)
    go false rest = refl

pub same_outs : (ds : List Declaration) → SamePorts (out_ports ds) (out_names ds)
same_outs [] port = refl
same_outs (Given r (OutPort x t) ∷ ds) port = ap (λ b. bytes_eq port x || b) (same_outs ds port) ∙ sym (any_put (λ k. bytes_eq port k) x (out_names ds))
same_outs (Given r (InPort x t) ∷ ds) port = same_outs ds port
same_outs (Given r (Maker a) ∷ ds) port = same_outs ds port
same_outs (Given r (RecordMaker ks) ∷ ds) port = same_outs ds port
same_outs (Define g ∷ ds) port = same_outs ds port

-- ---- incoming ports

-- fields with values at once, each name once
data FieldsNow (call : JCallee) (loop : JLoop) (env : JEnv) : Fields → JFields → Type 0 where
  no_fields : FieldsNow call loop env NoField NoJField
  more_fields : {k : Name} {x : Js} {v : JVal} {fs : Fields} {vs : JFields} → ((m : ℕ) → j_eval call loop x env m ≡ MVal v m) → bytes_eq k (codes "__proto__") ≡ false → has_field k vs ≡ false → FieldsNow call loop env fs vs
      → FieldsNow call loop env (MoreField k x fs) (MoreJField k v vs)

fields_now : {call : JCallee} {loop : JLoop} {env : JEnv} {fs : Fields} {vs : JFields} (m : ℕ) → FieldsNow call loop env fs vs → j_fields call loop fs env m ≡ MVal vs m
fields_now m no_fields = refl
fields_now {call} {loop} {env} m (more_fields {k} {x} {v} {fs} {vs} is proto new rest) =
    ap (λ o. and_then o (λ v m1. and_then (j_fields call loop fs env m1) (λ vs m2. with_budget (put_field k v vs) m2))) (is m)
    ∙ ap (λ o. and_then o (λ vs m2. with_budget (put_field k v vs) m2)) (fields_now m rest)
    ∙ ap (λ o. with_budget o m) (puts k v vs proto new)

-- in the order of the names
abbrev put_value : Name → JVal → JFields → JFields
put_value k v NoJField = MoreJField k v NoJField
put_value k v (MoreJField i w fs) = if units_lt i k then MoreJField i w (put_value k v fs) else MoreJField k v (MoreJField i w fs)

split_or : (a b : Bool) → (a || b) ≡ false → (a ≡ false) × (b ≡ false)
split_or true b e = absurd (cc)
split_or false b e = (refl, e)

either_false : (a b : Bool) → a ≡ false → b ≡ false → (a || b) ≡ false
either_false true b e f = e
either_false false b e f = f

turned : (i j : Name) → bytes_eq i j ≡ false → bytes_eq j i ≡ false
turned i j e = go (bytes_eq j i) refl
  where
    go : (t : Bool) → bytes_eq j i ≡ t → t ≡ false
    go true f = let g = (bytes_eq-Decides i j).1 (sym ((bytes_eq-Decides j i).0 f)) in absurd (cc)
    go false f = refl

put_has : (j k : Name) (v : JVal) (fs : JFields) → bytes_eq j k ≡ false → has_field j fs ≡ false → has_field j (put_value k v fs) ≡ false
put_has j k v NoJField e f = ap (λ b. b || false) e
put_has j k v (MoreJField i w fs) e f = let s = split_or (bytes_eq j i) (has_field j fs) f in go (units_lt i k) (put_has j k v fs e s.1) s.0
  where
    go : (b : Bool) → has_field j (put_value k v fs) ≡ false → bytes_eq j i ≡ false → has_field j (if b then MoreJField i w (put_value k v fs) else MoreJField k v (MoreJField i w fs)) ≡ false
    go true rec g = either_false (bytes_eq j i) (has_field j (put_value k v fs)) g rec
    go false rec g = either_false (bytes_eq j k) (bytes_eq j i || has_field j fs) e f

put_found : (j k : Name) (v : JVal) (fs : JFields) → has_field k fs ≡ false → field_in j (put_value k v fs) ≡ (if bytes_eq j k then Val v else field_in j fs)
put_found j k v NoJField e = refl
put_found j k v (MoreJField i w fs) e = let s = split_or (bytes_eq k i) (has_field k fs) e in go (units_lt i k) (put_found j k v fs s.1) s.0
  where
    swap : (a b : Bool) → bytes_eq j i ≡ a → bytes_eq j k ≡ b → bytes_eq k i ≡ false → (if a then Val w else (if b then Val v else field_in j fs)) ≡ (if b then Val v else (if a then Val w else field_in j fs))
    swap true true e f g = let h = (bytes_eq-Decides k i).1 (sym ((bytes_eq-Decides j k).0 f) ∙ (bytes_eq-Decides j i).0 e) in absurd (cc)
    swap true false e f g = refl
    swap false true e f g = refl
    swap false false e f g = refl

    go : (b : Bool) → field_in j (put_value k v fs) ≡ (if bytes_eq j k then Val v else field_in j fs) → bytes_eq k i ≡ false → field_in j (if b then MoreJField i w (put_value k v fs) else MoreJField k v (MoreJField i w fs)) ≡ (if bytes_eq j k then Val v else (if bytes_eq j i then Val w else field_in j fs))
    go true rec g = ap (λ o. if bytes_eq j i then Val w else o) rec ∙ swap (bytes_eq j i) (bytes_eq j k) refl refl g
    go false rec g = refl

put_now : {call : JCallee} {loop : JLoop} {env : JEnv} {fs : Fields} {vs : JFields} (k : Name) (x : Js) (v : JVal) → ((m : ℕ) → j_eval call loop x env m ≡ MVal v m) → bytes_eq k (codes "__proto__") ≡ false → has_field k vs ≡ false → FieldsNow call loop env fs vs
    → FieldsNow call loop env (put_decoder k x fs) (put_value k v vs)
put_now k x v is proto new no_fields = more_fields is proto new no_fields
put_now {call} {loop} {env} k x v is proto new (more_fields {k = i} {x = y} {v = w} {fs} {vs} is2 proto2 new2 rest) =
    let s = split_or (bytes_eq k i) (has_field k vs) new in go (units_lt i k) (put_now k x v is proto s.1 rest) s.0
  where
    go : (b : Bool) → FieldsNow call loop env (put_decoder k x fs) (put_value k v vs) → bytes_eq k i ≡ false → FieldsNow call loop env (if b then MoreField i y (put_decoder k x fs) else MoreField k x (MoreField i y fs)) (if b then MoreJField i w (put_value k v vs) else MoreJField k v (MoreJField i w vs))
    go true rec e = more_fields is2 proto2 (put_has i k v vs (turned k i e) new2) rec
    go false rec e = more_fields is proto new (more_fields is2 proto2 new2 rest)

-- the decoders of the incoming ports
abbrev pub ins_of : List Declaration → JFields
ins_of [] = NoJField
ins_of (Given r (InPort port t) ∷ ds) = put_value port (decoding t) (ins_of ds)
ins_of (_ ∷ ds) = ins_of ds

not_there : (k : Name) (ds : List Declaration) → list_any (same_name k) (in_ports ds) ≡ false → has_field k (ins_of ds) ≡ false
not_there k [] e = refl
not_there k (Given r (InPort port t) ∷ ds) e = let s = split_or (same_name k port) (list_any (same_name k) (in_ports ds)) e in put_has k port (decoding t) (ins_of ds) s.0 (not_there k ds s.1)
not_there k (Given r (OutPort x t) ∷ ds) e = not_there k ds e
not_there k (Given r (Maker a) ∷ ds) e = not_there k ds e
not_there k (Given r (RecordMaker ks) ∷ ds) e = not_there k ds e
not_there k (Define g ∷ ds) e = not_there k ds e

ins_now : (call : JCallee) (loop : JLoop) (env : JEnv) (ds : List Declaration) → are_fields (in_ports ds) ≡ true → FieldsNow call loop env (in_decoders ds) (ins_of ds)
ins_now call loop env [] e = no_fields
ins_now call loop env (Given r (InPort port t) ∷ ds) e =
    let n = next_field port (in_ports ds) e in
    put_now port (decoder t) (decoding t) (decoder_is call loop env t) (word_is_not port (codes "__proto__") n.word refl) (not_there port ds n.new) (ins_now call loop env ds n.rest)
ins_now call loop env (Given r (OutPort x t) ∷ ds) e = ins_now call loop env ds e
ins_now call loop env (Given r (Maker a) ∷ ds) e = ins_now call loop env ds e
ins_now call loop env (Given r (RecordMaker ks) ∷ ds) e = ins_now call loop env ds e
ins_now call loop env (Define g ∷ ds) e = ins_now call loop env ds e

-- what is found for a port
pub port_found : (port : Name) (ds : List Declaration) (t : Payload) → are_fields (in_ports ds) ≡ true → in_port port ds ≡ Some t → field_in port (ins_of ds) ≡ Val (decoding t)
port_found port [] t e is = absurd (cc)
port_found port (Given r (InPort other u) ∷ ds) t e is =
    let n = next_field other (in_ports ds) e in
    put_found port other (decoding u) (ins_of ds) (not_there other ds n.new) ∙ go (same_name port other) is (port_found port ds t n.rest)
  where
    some_is : {a b : Payload} → Some a ≡ Some b → a ≡ b
    some_is e = cc

    go : (b : Bool) → (if b then Some u else in_port port ds) ≡ Some t → (in_port port ds ≡ Some t → field_in port (ins_of ds) ≡ Val (decoding t)) → (if b then Val (decoding u) else field_in port (ins_of ds)) ≡ Val (decoding t)
    go true is rec = ap (λ z. Val (decoding z)) (some_is is)
    go false is rec = rec is
port_found port (Given r (OutPort x u) ∷ ds) t e is = port_found port ds t e is
port_found port (Given r (Maker a) ∷ ds) t e is = port_found port ds t e is
port_found port (Given r (RecordMaker ks) ∷ ds) t e is = port_found port ds t e is
port_found port (Define g ∷ ds) t e is = port_found port ds t e is

-- ---- the line of `_main`

abbrev pub flags_decoding : Flags → JVal
flags_decoding AnyFlags = JCodecV js.DecodeAny NoJVal
flags_decoding (FlagsOf t) = decoding t

flags_decoder_is : (call : JCallee) (loop : JLoop) (env : JEnv) (kind : Flags) (m : ℕ) → j_eval call loop (flags_decoder kind) env m ≡ MVal (flags_decoding kind) m
flags_decoder_is call loop env AnyFlags m = refl
flags_decoder_is call loop env (FlagsOf t) m = decoder_is call loop env t m

abbrev pub main_js : Ref → Flags → List Declaration → Js
main_js main kind ds = JObject (MoreField (codes "program") (JVar (js_name main)) (MoreField (codes "flags") (flags_decoder kind) (MoreField (codes "ins") (JObject (in_decoders ds)) NoField)))

abbrev pub main_value : Flags → List Declaration → JVal → JVal
main_value kind ds w = JObjV (MoreJField (codes "program") w (MoreJField (codes "flags") (flags_decoding kind) (MoreJField (codes "ins") (JObjV (ins_of ds)) NoJField)))

pub main_run : (call : JCallee) (loop : JLoop) (env : JEnv) (main : Ref) (kind : Flags) (ds : List Declaration) (m : ℕ) → are_fields (in_ports ds) ≡ true
    → j_eval call loop (main_js main kind ds) env m ≡ and_then (with_budget (j_find (js_name main) env) m) (λ w k. MVal (main_value kind ds w) k)
main_run call loop env main kind ds m e = and_and (with_budget (j_find (js_name main) env) m) (λ v m1. and_then (j_fields call loop (rest) env m1) (λ vs m2. with_budget (put_field (codes "program") v vs) m2)) (λ vs m1. MVal (JObjV vs) m1) ∙ same (j_find (js_name main) env)
  where
    rest : Fields
    rest = MoreField (codes "flags") (flags_decoder kind) (MoreField (codes "ins") (JObject (in_decoders ds)) NoField)

    rest_now : FieldsNow call loop env (MoreField (codes "flags") (flags_decoder kind) (MoreField (codes "ins") (JObject (in_decoders ds)) NoField)) (MoreJField (codes "flags") (flags_decoding kind) (MoreJField (codes "ins") (JObjV (ins_of ds)) NoJField))
    rest_now = more_fields (flags_decoder_is call loop env kind) refl refl (more_fields (λ k. ap (λ o. and_then o (λ vs m1. MVal (JObjV vs) m1)) (fields_now k (ins_now call loop env ds e))) refl refl no_fields)

    same : (o : End JVal) → and_then (with_budget o m) (λ v m1. and_then (and_then (j_fields call loop (MoreField (codes "flags") (flags_decoder kind) (MoreField (codes "ins") (JObject (in_decoders ds)) NoField)) env m1) (λ vs m2. with_budget (put_field (codes "program") v vs) m2)) (λ vs m1. MVal (JObjV vs) m1)) ≡ and_then (with_budget o m) (λ w k. MVal (main_value kind ds w) k)
    same (Val w) = ap (λ o. and_then (and_then o (λ vs m2. with_budget (put_field (codes "program") w vs) m2)) (λ vs m1. MVal (JObjV vs) m1)) (fields_now m rest_now)
    same _ = refl
