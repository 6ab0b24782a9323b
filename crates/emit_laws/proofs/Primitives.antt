-- Functions without a body do the same with arguments that stand for each other.
use Rattle.std.proofs.Common.{◌≡◌, ℕ, zero, suc, ◌+◌, ◌≤◌, ◌<◌, ℤ, pos, negsuc, List, [], ◌∷◌, Bool, true, false, nat_eq, refl, sym, ap, ◌∙◌, subst, arith, codes}
use Rattle.std.specs.Prelude.{if◌then◌else◌, int_rem, ◌+ℤ◌, ◌==◌, length}
use Rattle.std.proofs.lemmas.Bool.{eqb-true, false_from_ne_true}
use Rattle.std.proofs.lemmas.Bool.Decides.{Decides-eqb}
use Rattle.runs.specs.Ends.{End, Val, Crashed, Unsafe, Stuck, then_do, Metered, MVal, MOutOfFuel, and_then, with_budget}
use Rattle.runs.specs.Pay.{Follows, gives, unclaimed_stuck}
use Rattle.runs.proofs.Spends.{behind, spends_none, spends_same, spends_call, follows_after, follows_then}
use Rattle.runs.specs.Numbers as numbers
use Rattle.runs.specs.Texts as texts
use Rattle.elm_canon.specs.Names as source_names
use Rattle.elm_canon.specs.Tree.{Payload, IntPayload, BoolPayload, TextPayload, MaybePayload, ListPayload, TuplePayload, RecordPayload, NoPayload, MorePayload, Maker, RecordMaker, OutPort, InPort}
use Rattle.elm_meaning.specs.Functions as source
use Rattle.elm_meaning.specs.Functions.{Primitive, Bodiless, Given, Getter, Core, arity_of}
use Rattle.elm_meaning.specs.Values.{Value, IntV, KnownV, WireV, Values, NoValue, MoreValue, append_values, count_of}
use Rattle.elm_meaning.specs.Order.{order_number}
use Rattle.elm_meaning.specs.Ports.{unshape}
use Rattle.elm_meaning.specs.Primitives.{two_ints, primitive, finish, known, of_port}
use Rattle.elm_meaning.specs.Eval.{call_at}
use Rattle.js_tree.specs.Tree as js
use Rattle.js_tree.specs.Tree.{Name, Made, Js, JText, JVar, JCall, JHelper, JProperty, JsList, NoJs, MoreJs, Return}
use Rattle.js_meaning.specs.Values.{JVal, JNumV, JTextV, JObjV, JCloV, JVals, NoJVal, MoreJVal, JEnv, JBind, j_find, get_field}
use Rattle.js_meaning.specs.Numbers as js_numbers
use Rattle.js_meaning.specs.Texts as js_texts
use Rattle.js_meaning.specs.Lists.{tagged}
use Rattle.js_meaning.specs.Helpers.{j_help, on_numbers}
use Rattle.js_meaning.specs.Codecs.{encode}
use Rattle.js_meaning.specs.Eval.{JCallee, JLoop, j_eval, j_evals, j_exec, j_call, j_loop, j_enter, nowhere}
use Rattle.js_emit.specs.Names.{made_names, vars, two}
use Rattle.js_emit.specs.Operators.{helper, finish_js, arrows_of}
use Rattle.js_emit.specs.Codecs.{encoder}
use Rattle.emit_laws.specs.Given.{ProperPayload, ProperBodiless}
use Rattle.emit_laws.specs.For.{For, for_int, for_text, for_number, for_wire, for_known, GivenSo, none_given, one_given}
use Rattle.emit_laws.proofs.Ends.{EndFor, both_give, both_crash, any_unsafe, any_stuck, end_then, follows_end}
use Rattle.emit_laws.proofs.Constructs.{ForAll, for_none, for_more, count_vals}
use Rattle.emit_laws.proofs.Arithmetic.{same_and, same_or, same_xor, same_not, same_left, same_right, same_right_zero, same_digits, same_slice, same_find, same_unit}
use Rattle.emit_laws.proofs.Sameness.{compare_same}
use Rattle.emit_laws.proofs.Objects.{count_js, tagged_run, made_parts, named, for_parts}
use Rattle.emit_laws.proofs.Lists.{record_same}
use Rattle.emit_laws.proofs.Operators.{build_now, build_same, number_same, text_same, field_same}
use Rattle.emit_laws.proofs.Performs.{bare, build_does, object_does, one_run, two_run}
use Rattle.emit_laws.proofs.Encodes.{encoding, encoder_is, Sends, encodes}
use Rattle.emit_laws.proofs.Calls.{paid, follows_behind}
use Rattle.emit_laws.proofs.Follows.{KnownFollows}

-- ---- the functions of the core

two_same : {vs : Values} {ws : JVals} (go : ℤ → ℤ → End ℤ) (h : ℤ → ℤ → End JVal) → ForAll vs ws → ((m n : ℤ) → EndFor For (then_do (go m n) (λ k. Val (IntV k))) (h m n)) → EndFor For (two_ints vs go) (on_numbers ws h)
two_same go h (for_more for_int (for_more for_int for_none)) next = next _ _
two_same go h for_none next = any_stuck
two_same go h (for_more r for_none) next = any_stuck
two_same go h (for_more for_int (for_more _ for_none)) next = any_stuck
two_same go h (for_more _ (for_more q for_none)) next = any_stuck
two_same go h (for_more r (for_more q (for_more s rest))) next = any_stuck

remainder_same : (d x : ℤ) → EndFor For (then_do (numbers.remainder d x) (λ k. Val (IntV k))) (js_numbers.remainder d x)
remainder_same d x = go (numbers.is_zero d)
  where
    go : (t : Bool) → EndFor For (then_do (if t then Unsafe else Val (int_rem x d)) (λ k. Val (IntV k))) (if t then Unsafe else Val (JNumV (int_rem x d)))
    go true = any_unsafe
    go false = both_give for_int

modulo_same : (m x : ℤ) → EndFor For (then_do (numbers.modulo m x) (λ k. Val (IntV k))) (js_numbers.modulo m x)
modulo_same m x = go (numbers.is_zero m) (numbers.are_opposite (int_rem x m) m)
  where
    go : (t s : Bool) → EndFor For (then_do (if t then Crashed (codes "modBy 0") else (if s then Val (int_rem x m +ℤ m) else Val (int_rem x m))) (λ k. Val (IntV k))) (if t then Crashed (codes "modBy 0") else (if s then Val (JNumV (int_rem x m +ℤ m)) else Val (JNumV (int_rem x m))))
    go true s = both_crash
    go false true = both_give for_int
    go false false = both_give for_int

unit_same : (i : ℤ) (t : List ℕ) → EndFor For (then_do (texts.unit_at i t) (λ u. Val (IntV u))) (js_texts.unit_at i t)
unit_same i [] = any_unsafe
unit_same (pos zero) (u ∷ us) = both_give for_int
unit_same (pos (suc i)) (u ∷ us) = unit_same (pos i) us
unit_same (negsuc i) (u ∷ us) = any_unsafe

pub primitive_same : (p : Primitive) {vs : Values} {ws : JVals} → ForAll vs ws → EndFor For (primitive p vs) (j_help (helper p) ws)
primitive_same source.Crash (for_more for_text for_none) = both_crash
primitive_same source.Crash _ = any_stuck
primitive_same source.Remainder r = two_same numbers.remainder js_numbers.remainder r remainder_same
primitive_same source.Modulo r = two_same numbers.modulo js_numbers.modulo r modulo_same
primitive_same source.BitAnd r = two_same _ _ r (λ m n. number_same (same_and m n))
primitive_same source.BitOr r = two_same _ _ r (λ m n. number_same (same_or m n))
primitive_same source.BitXor r = two_same _ _ r (λ m n. number_same (same_xor m n))
primitive_same source.BitNot (for_more (for_int {n}) for_none) = number_same (same_not n)
primitive_same source.BitNot _ = any_stuck
primitive_same source.ShiftLeft r = two_same _ _ r (λ m n. number_same (same_left m n))
primitive_same source.ShiftRight r = two_same _ _ r (λ m n. number_same (same_right m n))
primitive_same source.ShiftRightZero r = two_same _ _ r (λ m n. number_same (same_right_zero m n))
primitive_same source.FromInt (for_more (for_int {n}) for_none) = text_same (same_digits n)
primitive_same source.FromInt _ = any_stuck
primitive_same source.Length (for_more for_text for_none) = both_give for_int
primitive_same source.Length _ = any_stuck
primitive_same source.UnitAt (for_more (for_int {n}) (for_more (for_text {t}) for_none)) = unit_same n t
primitive_same source.UnitAt _ = any_stuck
primitive_same source.FromUnit (for_more (for_int {n}) for_none) = text_same (same_unit n)
primitive_same source.FromUnit _ = any_stuck
primitive_same source.Slice (for_more (for_int {n = a}) (for_more (for_int {n = b}) (for_more (for_text {t}) for_none))) = text_same (same_slice a b t)
primitive_same source.Slice _ = any_stuck
primitive_same source.Find (for_more (for_text {t = p}) (for_more (for_int {n = i}) (for_more (for_text {t}) for_none))) = number_same (same_find p i t)
primitive_same source.Find _ = any_stuck
primitive_same source.Same (for_more r for_none) = both_give r
primitive_same source.Same _ = any_stuck
primitive_same source.Compare (for_more r (for_more q for_none)) = end_then (λ o. Val (IntV (order_number o))) (λ n. Val (JNumV n)) (compare_same r q) (λ o n e. number_same (sym e))
primitive_same source.Compare _ = any_stuck

-- ---- arguments

abbrev append_vals : JVals → JVals → JVals
append_vals NoJVal ws = ws
append_vals (MoreJVal v vs) ws = MoreJVal v (append_vals vs ws)

-- so many made names from that number on have these values
pub data Found (env : JEnv) : ℕ → ℕ → JVals → Type 0 where
  found_none : {a : ℕ} → Found env a 0 NoJVal
  found_more : {a k : ℕ} {w : JVal} {ws : JVals} → j_find (Made a) env ≡ Val w → Found env (suc a) k ws → Found env a (suc k) (MoreJVal w ws)

found_later : {env : JEnv} {a k : ℕ} {ws : JVals} (next : ℕ) (w : JVal) → a + k ≤ next → Found env a k ws → Found (JBind (Made next) w env) a k ws
found_later next w le found_none = found_none
found_later {env} {a} next w le (found_more e more) = found_more (ap (λ t. if t then Val w else j_find (Made a) env) (false_from_ne_true (nat_eq a next) (λ e. let f = eqb-true a next e in absurd (omega arith))) ∙ e) (found_later next w (omega arith) more)

found_last : {env : JEnv} {a k : ℕ} {ws : JVals} {w : JVal} → Found env a k ws → j_find (Made (a + k)) env ≡ Val w → Found env a (suc k) (append_vals ws (MoreJVal w NoJVal))
found_last {env} {a} found_none e = found_more (ap (λ z. j_find (Made z) env) (plain a) ∙ e) found_none
  where
    plain : (a : ℕ) → a ≡ a + 0
    plain a = omega arith
found_last {env} {a} (found_more {k} f more) e = found_more f (found_last more (ap (λ z. j_find (Made z) env) (step a k) ∙ e))
  where
    step : (a k : ℕ) → suc a + k ≡ a + suc k
    step a k = omega arith

found_run : {env : JEnv} {a k : ℕ} {ws : JVals} (call : JCallee) (loop : JLoop) (m : ℕ) → Found env a k ws → j_evals call loop (vars (made_names a k)) env m ≡ MVal ws m
found_run call loop m found_none = refl
found_run {env} call loop m (found_more {a} {k} {w} {ws} e more) =
    ap (λ o. and_then (with_budget o m) (λ v m1. and_then (j_evals call loop (vars (made_names (suc a) k)) env m1) (λ vs m2. MVal (MoreJVal v vs) m2))) e
    ∙ ap (λ o. and_then o (λ vs m2. MVal (MoreJVal w vs) m2)) (found_run call loop m more)

for_last : {vs : Values} {ws : JVals} {v : Value} {w : JVal} → ForAll vs ws → For v w → ForAll (append_values vs (MoreValue v NoValue)) (append_vals ws (MoreJVal w NoJVal))
for_last for_none r = for_more r for_none
for_last (for_more q qs) r = for_more q (for_last qs r)

count_last : (ws : JVals) (w : JVal) → count_vals (append_vals ws (MoreJVal w NoJVal)) ≡ suc (count_vals ws)
count_last NoJVal w = refl
count_last (MoreJVal v vs) w = ap suc (count_last vs w)

count_values_last : (vs : Values) (v : Value) → count_of (append_values vs (MoreValue v NoValue)) ≡ suc (count_of vs)
count_values_last NoValue v = refl
count_values_last (MoreValue u vs) v = ap suc (count_values_last vs v)

count_vars : (a k : ℕ) → count_js (vars (made_names a k)) ≡ k
count_vars a zero = refl
count_vars a (suc k) = ap suc (count_vars (suc a) k)

pub record Arguments (k : ℕ) (vs : Values) (env : JEnv) : Type 0 where
  pub given : JVals
  pub all : ForAll vs given
  pub found : Found env 0 k given
  pub count : count_vals given ≡ k
  pub counted : count_of vs ≡ k

zero_plus : (n : ℕ) → 0 + n ≡ n
zero_plus n = omega arith

pub arguments : {k : ℕ} {vs : Values} {env : JEnv} → GivenSo k vs env → Arguments k vs env
arguments none_given = record { given = NoJVal; all = for_none; found = found_none; count = refl; counted = refl }
arguments (one_given {next} {vs} {more} {v} {w} given rv) =
    let rec = arguments given in
    record {
      given = append_vals rec.given (MoreJVal w NoJVal);
      all = for_last rec.all rv;
      found = found_last (found_later next w (omega arith) rec.found) (ap (λ z. j_find (Made z) (JBind (Made next) w more)) (zero_plus next) ∙ ap (λ t. if t then Val w else j_find (Made next) more) ((Decides-eqb next next).1 refl));
      count = count_last rec.given w ∙ ap suc rec.count;
      counted = count_values_last vs v ∙ ap suc rec.counted;
    }

-- ---- with all its arguments

-- the call of an encoder
codec_enters : (t : Payload) (go : js.Stmts → JEnv → ℕ → Metered JVal) (w : JVal) (m : ℕ) → j_enter go (encoding t) w m ≡ with_budget (encode (encoding t) w) m
codec_enters IntPayload go w m = refl
codec_enters BoolPayload go w m = refl
codec_enters TextPayload go w m = refl
codec_enters (MaybePayload t) go w m = refl
codec_enters (ListPayload t) go w m = refl
codec_enters (TuplePayload NoPayload) go w m = refl
codec_enters (TuplePayload (MorePayload t ts)) go w m = refl
codec_enters (RecordPayload fs) go w m = refl

codec_called : (n : ℕ) (t : Payload) {v : Value} {w : JVal} → ProperPayload t → For v w → Follows Sends n (unshape t v) (λ b m. j_call b (encoding t) w m)
codec_called n t {v} {w} pr r = follows_after (spends_same same) (follows_behind {f = λ b m. with_budget (encode (encoding t) w) m} (follows_end (encodes t pr v w r)))
  where
    same : (b m : ℕ) → j_call b (encoding t) w m ≡ behind (λ b m. with_budget (encode (encoding t) w) m) b m
    same zero m = refl
    same (suc b) zero = refl
    same (suc b) (suc m) = codec_enters t (j_exec (j_call b) (j_loop b) nowhere) w m

module _ (n : ℕ) (env : JEnv) {vs : Values} (ws : JVals) (all : ForAll vs ws) (xs : JsList) (run : (call : JCallee) (loop : JLoop) (m : ℕ) → j_evals call loop xs env m ≡ MVal ws m) where
  -- what does something with the values of the arguments
  does : {o : End Value} (x : Js) (f : JVals → End JVal) → ((call : JCallee) (loop : JLoop) (m : ℕ) → j_eval call loop x env m ≡ and_then (j_evals call loop xs env m) (λ ws k. with_budget (f ws) k)) → EndFor For o (f ws) → Follows For n o (λ b m. j_eval (j_call b) (j_loop b) x env m)
  does x f is same = follows_after (spends_same (λ b m. is (j_call b) (j_loop b) m ∙ ap (λ o. and_then o (λ ws k. with_budget (f ws) k)) (run (j_call b) (j_loop b) m))) (follows_end same)

few_of : (k m : ℕ) → k ≡ m → m < 4294967296 → k < 4294967296
few_of k m e l = omega arith

abbrev first : JsList
first = vars (made_names 0 1)

-- an outgoing port: what is sent is encoded
out_port : (n : ℕ) (port : source_names.Name) (t : Payload) (env : JEnv) {vs : Values} → ProperPayload t → (ws : JVals) → ForAll vs ws → ((call : JCallee) (loop : JLoop) (m : ℕ) → j_evals call loop first env m ≡ MVal ws m) → Follows For n (finish (Given (OutPort port t)) vs) (λ b m. j_eval (j_call b) (j_loop b) (finish_js (Given (OutPort port t)) first) env m)
out_port n port t env pr ws for_none run = unclaimed_stuck
out_port n port t env pr _ (for_more r (for_more q rest)) run = unclaimed_stuck
out_port n port t env pr _ (for_more {v} {w} r for_none) run =
    follows_after (spends_same (λ b m. same (j_call b) (j_loop b) m))
    (follows_then (λ u. Val (of_port port (WireV u))) (λ b u m. MVal (tagged (pos 0) (made_parts 0 (MoreJVal (JTextV port) (MoreJVal u NoJVal)))) m) (codec_called n t pr r) (λ x y s.
    gives _ (for_number (omega arith) (for_parts 0 (for_more for_text (for_more (for_wire s.is s.plain) for_none)))) spends_none))
  where
    call_first : JCallee → JVals → ℕ → Metered JVal
    call_first call (MoreJVal a vs) k = call (encoding t) a k
    call_first call NoJVal k = MOutOfFuel

    same : (call : JCallee) (loop : JLoop) (m : ℕ) → j_eval call loop (finish_js (Given (OutPort port t)) first) env m ≡ and_then (call (encoding t) w m) (λ u m. MVal (tagged (pos 0) (made_parts 0 (MoreJVal (JTextV port) (MoreJVal u NoJVal)))) m)
    same call loop m =
        tagged_run call loop env (pos 0) (two (JText port) (JCall (encoder t) (JVar (Made 0)))) m (omega arith)
        ∙ two_run call loop env (JText port) (JCall (encoder t) (JVar (Made 0))) m (λ vs k. MVal (tagged (pos 0) (made_parts 0 vs)) k)
        ∙ ap (λ o. and_then (and_then o (λ f m1. and_then (j_eval call loop (JVar (Made 0)) env m1) (λ a m2. call f a m2))) (λ u k. MVal (tagged (pos 0) (made_parts 0 (MoreJVal (JTextV port) (MoreJVal u NoJVal)))) k)) (encoder_is call loop env t m)
        ∙ ap (λ o. and_then o (λ u k. MVal (tagged (pos 0) (made_parts 0 (MoreJVal (JTextV port) (MoreJVal u NoJVal)))) k)) (sym (one_run call loop env (JVar (Made 0)) m (λ vs k. call_first call vs k)) ∙ ap (λ o. and_then o (λ vs k. call_first call vs k)) (run call loop m))

-- an incoming one: with the function that makes a message
in_port : (n : ℕ) (port : source_names.Name) (t : Payload) (env : JEnv) {vs : Values} (ws : JVals) → ForAll vs ws → ((call : JCallee) (loop : JLoop) (m : ℕ) → j_evals call loop first env m ≡ MVal ws m) → Follows For n (finish (Given (InPort port t)) vs) (λ b m. j_eval (j_call b) (j_loop b) (finish_js (Given (InPort port t)) first) env m)
in_port n port t env ws for_none run = unclaimed_stuck
in_port n port t env _ (for_more r (for_more q rest)) run = unclaimed_stuck
in_port n port t env _ (for_more {v} {w} r for_none) run =
    gives (tagged (pos 0) (made_parts 0 (MoreJVal (JTextV port) (MoreJVal w NoJVal)))) (for_number (omega arith) (for_parts 0 (for_more for_text (for_more r for_none)))) (spends_same (λ b m. same (j_call b) (j_loop b) m))
  where
    same : (call : JCallee) (loop : JLoop) (m : ℕ) → j_eval call loop (finish_js (Given (InPort port t)) first) env m ≡ MVal (tagged (pos 0) (made_parts 0 (MoreJVal (JTextV port) (MoreJVal w NoJVal)))) m
    same call loop m =
        tagged_run call loop env (pos 0) (two (JText port) (JVar (Made 0))) m (omega arith)
        ∙ ap (λ o. and_then (and_then o (λ vs m2. MVal (MoreJVal (JTextV port) vs) m2)) (λ vs k. MVal (tagged (pos 0) (made_parts 0 vs)) k)) (run call loop m)

-- .x
getter : (n : ℕ) (k : source_names.Name) (env : JEnv) {vs : Values} (ws : JVals) → ForAll vs ws → ((call : JCallee) (loop : JLoop) (m : ℕ) → j_evals call loop first env m ≡ MVal ws m) → Follows For n (finish (Getter k) vs) (λ b m. j_eval (j_call b) (j_loop b) (finish_js (Getter k) first) env m)
getter n k env ws for_none run = unclaimed_stuck
getter n k env _ (for_more r (for_more q rest)) run = unclaimed_stuck
getter n k env _ (for_more {v} {w} r for_none) run =
    does n env (MoreJVal w NoJVal) (for_more r for_none) first run (JProperty (JVar (Made 0)) k) (λ ws. field_of_first ws) (λ call loop m. sym (one_run call loop env (JVar (Made 0)) m (λ ws j. with_budget (field_of_first ws) j))) (field_same k r)
  where
    field_of_first : JVals → End JVal
    field_of_first (MoreJVal a vs) = get_field k a
    field_of_first NoJVal = Stuck

pub finished : (n : ℕ) (f : Bodiless) (env : JEnv) {vs : Values} → ProperBodiless f → Arguments (arity_of f) vs env → Follows For n (finish f vs) (λ b m. j_eval (j_call b) (j_loop b) (finish_js f (vars (made_names 0 (arity_of f)))) env m)
finished n (Given (Maker a)) env pr g =
    does n env g.given g.all (vars (made_names 0 a.arity)) (λ call loop m. found_run call loop m g.found) (finish_js (Given (Maker a)) (vars (made_names 0 a.arity))) (λ ws. Val (build_now a.tag ws)) (λ call loop m. build_does call loop env a.tag a.arity (vars (made_names 0 a.arity)) (count_vars 0 a.arity) pr.1 (bare a pr.0) m)
    (build_same a.tag (few_of _ a.arity g.counted pr.1) g.all)
finished n (Given (RecordMaker ks)) env pr g =
    does n env g.given g.all (vars (made_names 0 (length ks))) (λ call loop m. found_run call loop m g.found) (finish_js (Given (RecordMaker ks)) (vars (made_names 0 (length ks)))) (λ ws. Val (JObjV (named ks ws))) (λ call loop m. object_does call loop env ks (vars (made_names 0 (length ks))) pr (count_vars 0 (length ks)) m)
    (record_same ks pr g.all)
finished n (Given (OutPort port t)) env pr g = out_port n port t env pr g.given g.all (λ call loop m. found_run call loop m g.found)
finished n (Given (InPort port t)) env pr g = in_port n port t env g.given g.all (λ call loop m. found_run call loop m g.found)
finished n (Getter k) env pr g = getter n k env g.given g.all (λ call loop m. found_run call loop m g.found)
finished n (Core p) env pr g =
    does n env g.given g.all (vars (made_names 0 (arity_of (Core p)))) (λ call loop m. found_run call loop m g.found) (finish_js (Core p) (vars (made_names 0 (arity_of (Core p))))) (λ ws. j_help (helper p) ws) (λ call loop m. refl) (primitive_same p g.all)

known_call : (n : ℕ) (f : Bodiless) (vs : Values) (v : Value) → call_at n (KnownV f vs) v ≡ known f (append_values vs (MoreValue v NoValue))
known_call zero f vs v = refl
known_call (suc n) f vs v = refl

-- a call of a function without a body
pub known_follows : (n : ℕ) → KnownFollows n
known_follows n f vs more next zero proper given is v w rv =
    let g = arguments (one_given given rv) in
    let count : arity_of f ≡ suc next = is ∙ one_more next in
    subst (λ o. Follows For n o (behind (paid (JCloV more (Made next) (Return (finish_js f (vars (made_names 0 (arity_of f)))))) w))) (sym (known_call n f vs v))
    (subst (λ t. Follows For n (if t then finish f (append_values vs (MoreValue v NoValue)) else Val (KnownV f (append_values vs (MoreValue v NoValue)))) (behind (paid (JCloV more (Made next) (Return (finish_js f (vars (made_names 0 (arity_of f)))))) w)))
    (sym ((Decides-eqb (count_of (append_values vs (MoreValue v NoValue))) (arity_of f)).1 (g.counted ∙ sym count)))
    (follows_behind (finished n f (JBind (Made next) w more) proper (subst (λ k. Arguments k (append_values vs (MoreValue v NoValue)) (JBind (Made next) w more)) (sym count) g))))
  where
    one_more : (k : ℕ) → k + 1 ≡ suc k
    one_more k = omega arith
known_follows n f vs more next (suc left) proper given is v w rv =
    let g = arguments (one_given given rv) in
    let rest = JCloV (JBind (Made next) w more) (Made (suc next)) (arrows_of (made_names (suc (suc next)) left) (Return (finish_js f (vars (made_names 0 (arity_of f)))))) in
    subst (λ o. Follows For n o (behind (paid (JCloV more (Made next) (arrows_of (made_names (suc next) (suc left)) (Return (finish_js f (vars (made_names 0 (arity_of f))))))) w))) (sym (known_call n f vs v))
    (subst (λ t. Follows For n (if t then finish f (append_values vs (MoreValue v NoValue)) else Val (KnownV f (append_values vs (MoreValue v NoValue)))) (behind (paid (JCloV more (Made next) (arrows_of (made_names (suc next) (suc left)) (Return (finish_js f (vars (made_names 0 (arity_of f))))))) w)))
    (sym (false_from_ne_true (count_of (append_values vs (MoreValue v NoValue)) == arity_of f) (λ e. let c = sym g.counted ∙ eqb-true (count_of (append_values vs (MoreValue v NoValue))) (arity_of f) e ∙ is in absurd (omega arith))))
    (gives rest (for_known (suc next) left proper (one_given given rv) (is ∙ step next left)) (spends_call (λ m. MVal rest m) spends_none)))
  where
    step : (k l : ℕ) → k + suc (suc l) ≡ suc k + suc l
    step k l = omega arith
