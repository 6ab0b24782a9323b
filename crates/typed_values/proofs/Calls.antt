-- Functions without a body: with all their arguments they end as their types say, and before that they wait for more.
use Rattle.std.proofs.Common.{◌≡◌, ℕ, zero, suc, pos, negsuc, Some, ◌+◌, ℤ, List, [], ◌∷◌, ◌++◌, length, Bool, true, false, inl, inr, refl, sym, ap, ◌∙◌, subst, arith, eqb-true, eq-eqb}
use Rattle.std.proofs.lemmas.Slice.Eq.{bytes_eq-Decides}
use Rattle.wire_value.specs.Wire.{Wire}
use Rattle.runs.specs.Texts.{unit_at}
use Rattle.std.specs.Prelude.{◌||◌, not, if◌then◌else◌, ◌==◌, codes, int_rem, ◌+ℤ◌}
use Rattle.std.specs.List.{zip}
use Rattle.runs.specs.Ends.{End, Val, Crashed, OutOfFuel, Unsafe, Stuck, then_do}
use Rattle.runs.specs.Numbers.{is_zero, remainder, modulo, are_opposite, and_bits, or_bits, xor_bits, shift_left, shift_right, shift_right_zero}
use Rattle.elm_canon.specs.Names.{Name}
use Rattle.elm_canon.specs.Tree.{Maker, RecordMaker, OutPort, InPort, Payload}
use Rattle.elm_canon.specs.declared.unions.Alternative.{Alternative}
use Rattle.elm_meaning.specs.Functions as primitives
use Rattle.elm_meaning.specs.Functions.{Primitive, Bodiless, Given, Getter, Core, arity_of, primitive_arity}
use Rattle.elm_meaning.specs.Values.{Value, IntV, TextV, RecordV, KnownV, WireV, Values, NoValue, MoreValue, FieldValues, count_of, append_values, field_of}
use Rattle.elm_meaning.specs.Order.{compares, order_number}
use Rattle.elm_meaning.specs.Ports.{unshape}
use Rattle.elm_meaning.specs.Primitives.{primitive, two_ints, given, of_port, finish, known}
use Rattle.elm_meaning.specs.Operate.{on_ints}
use Rattle.elm_type.specs.Types.{Record, Made, NoField, MoreField, Closed, function, functions, int_type, string_type, char_type}
use Rattle.elm_type.specs.Classes.{Ground}
use Rattle.elm_type.specs.Rows.{extend, has_field, substitute, sorted}
use Rattle.elm_type.specs.Rows as rows
use Rattle.elm_type.specs.Ground.{lacks}
use Rattle.typed_values.specs.Payloads.{payload_type, IsWire, cmd_type, sub_type}
use Rattle.typed_values.specs.World.{World, IsPrimitive, IsMaker, IsGiven, Takes, Knows, IsSound, is_port_tag, sent_type}
use Rattle.typed_values.specs.Typed.{EndsWell, Has, HasEach, HaveFields}
use Rattle.typed_values.specs.Steps.{EndsAs}
use Rattle.typed_values.proofs.Names.{not_both}
use Rattle.typed_values.proofs.Keeping.{and_left}
use Rattle.typed_values.proofs.Rows.{has_inserted}
use Rattle.typed_values.proofs.Forms.{each_count, with_field, int_value, text_value, record_value}
use Rattle.typed_values.proofs.Fields.{not_true, type_inserted, field_found, made}
use Rattle.typed_values.proofs.Unions.{map_length}
use Rattle.typed_values.proofs.Makers.{built_of}
use Rattle.typed_values.proofs.Comparing.{Fine, compare_fine}
use Rattle.typed_values.proofs.Written.{written}

pub fine_well : {X Y : Type 0} (Q : Y → Type 0) (o : End X) (go : X → Y) → Fine o → ((x : X) → Q (go x)) → EndsWell Q (then_do o (λ x. Val (go x)))
fine_well Q (Val x) go h k = k x
fine_well Q (Crashed t) go h k = tt
fine_well Q OutOfFuel go h k = tt
fine_well Q Unsafe go h k = tt
fine_well Q Stuck go h k = absurd h

-- ---- lists of types

append_length : {X : Type 0} (xs ys : List X) → length (xs ++ ys) ≡ length xs + length ys
append_length [] ys = (let z : length ys ≡ 0 + length ys = omega arith in z)
append_length (x ∷ xs) ys =
    let e = append_length xs ys in
    let z : suc (length (xs ++ ys)) ≡ suc (length xs) + length ys = omega (arith, e) in
    z

append_twice : {X : Type 0} (xs ys zs : List X) → (xs ++ ys) ++ zs ≡ xs ++ (ys ++ zs)
append_twice [] ys zs = refl
append_twice (x ∷ xs) ys zs = ap (λ us. x ∷ us) (append_twice xs ys zs)

fewer : {X : Type 0} (xs : List X) (x y : X) (ys : List X) → (length (xs ++ x ∷ []) == length (xs ++ x ∷ y ∷ ys)) ≡ false
fewer xs x y ys = go (length (xs ++ x ∷ []) == length (xs ++ x ∷ y ∷ ys)) refl
  where
    go : (b : Bool) → (length (xs ++ x ∷ []) == length (xs ++ x ∷ y ∷ ys)) ≡ b → b ≡ false
    go false e = refl
    go true e =
        let p = append_length xs (x ∷ []) in
        let q = append_length xs (x ∷ y ∷ ys) in
        let r = eqb-true (length (xs ++ x ∷ [])) (length (xs ++ x ∷ y ∷ ys)) e in
        let z : length xs + 1 ≡ length xs + suc (suc (length ys)) = sym p ∙ (r ∙ q) in
        absurd (omega (arith, z))

each_more : (w : World) (vs : Values) (ts : List Ground) (v : Value) (t : Ground) → HasEach w vs ts → Has w v t → HasEach w (append_values vs (MoreValue v NoValue)) (ts ++ t ∷ [])
each_more w NoValue [] v t h k = (k, tt)
each_more w NoValue (u ∷ ts) v t h k = absurd h
each_more w (MoreValue x vs) [] v t h k = absurd h
each_more w (MoreValue x vs) (u ∷ ts) v t h k = (h.0, each_more w vs ts v t h.1 k)

module _ (w : World) (sound : IsSound w) where
  -- ---- the functions of the fixed text

  two_well : (vs : Values) (go : ℤ → ℤ → End ℤ) → HasEach w vs (int_type ∷ int_type ∷ []) → ((a b : ℤ) → Fine (go a b)) → EndsAs w int_type (two_ints vs go)
  two_well NoValue go h k = absurd h
  two_well (MoreValue v NoValue) go h k = absurd h.1
  two_well (MoreValue v (MoreValue u (MoreValue x vs))) go h k = absurd h.1.1
  two_well (MoreValue v (MoreValue u NoValue)) go h k =
      let a = int_value w sound v int_type refl h.0 in
      let b = int_value w sound u int_type refl h.1.0 in
      subst (λ z. EndsAs w int_type (on_ints z u go)) (sym a.1) (subst (λ z. EndsAs w int_type (on_ints (IntV a.0) z go)) (sym b.1)
      (fine_well (λ v. Has w v int_type) (go a.0 b.0) (λ n. IntV n) (k a.0 b.0) (λ n. refl)))

  -- one argument that is a number, or a text
  one_int : (P : Value → Type 0) (v : Value) → Has w v int_type → ((n : ℤ) → P (IntV n)) → P v
  one_int P v h k = (let r = int_value w sound v int_type refl h in subst P (sym r.1) (k r.0))

  one_text : (P : Value → Type 0) (v : Value) → Has w v string_type → ((us : List ℕ) → P (TextV us)) → P v
  one_text P v h k = (let r = text_value w sound v string_type refl h in subst P (sym r.1) (k r.0))

  one_char : (P : Value → Type 0) (v : Value) → Has w v char_type → ((us : List ℕ) → P (TextV us)) → P v
  one_char P v h k = (let r = text_value w sound v char_type refl h in subst P (sym r.1) (k r.0))

  -- there is one value, or there are so many
  alone : (P : Values → Type 0) (vs : Values) (t : Ground) → HasEach w vs (t ∷ []) → ((v : Value) → Has w v t → P (MoreValue v NoValue)) → P vs
  alone P NoValue t h k = absurd h
  alone P (MoreValue v NoValue) t h k = k v h.0
  alone P (MoreValue v (MoreValue u vs)) t h k = absurd h.1

  before : (P : Values → Type 0) (vs : Values) (t : Ground) (ts : List Ground) → HasEach w vs (t ∷ ts) → ((v : Value) (us : Values) → Has w v t → HasEach w us ts → P (MoreValue v us)) → P vs
  before P NoValue t ts h k = absurd h
  before P (MoreValue v vs) t ts h k = k v vs h.0 h.1

  choice_fine : {X : Type 0} (b : Bool) (one other : End X) → Fine one → Fine other → Fine (if b then one else other)
  choice_fine true one other h k = h
  choice_fine false one other h k = k

  modulo_fine : (a b : ℤ) → Fine (modulo a b)
  modulo_fine a b =
      let same = Val (int_rem b a) in
      let more = Val (int_rem b a +ℤ a) in
      let by_sign : Fine (if are_opposite (int_rem b a) a then more else same) = choice_fine (are_opposite (int_rem b a) a) more same tt tt in
      choice_fine (is_zero a) (Crashed (codes "modBy 0")) (if are_opposite (int_rem b a) a then more else same) tt by_sign

  unit_well : (i : ℤ) (us : List ℕ) → EndsAs w int_type (then_do (unit_at i us) (λ u. Val (IntV u)))
  unit_well i [] = tt
  unit_well (pos zero) (u ∷ us) = refl
  unit_well (pos (suc i)) (u ∷ us) = unit_well (pos i) us
  unit_well (negsuc i) (u ∷ us) = tt

  abbrev Does : Primitive → Ground → Values → Type 0
  Does p r vs = EndsAs w r (primitive p vs)

  primitive_well : (p : Primitive) (ts : List Ground) (r : Ground) (vs : Values) → IsPrimitive p ts r → HasEach w vs ts → Does p r vs
  primitive_well primitives.Crash ts r vs is h =
      alone (Does primitives.Crash r) vs string_type (subst (λ us. HasEach w vs us) is h)
      (λ v t. one_text (λ z. Does primitives.Crash r (MoreValue z NoValue)) v t (λ us. tt))
  primitive_well primitives.Remainder ts r vs is h =
      subst (λ g. Does primitives.Remainder g vs) (sym is.1) (two_well vs remainder (subst (λ us. HasEach w vs us) is.0 h) (λ a b. choice_fine (is_zero a) Unsafe (Val (int_rem b a)) tt tt))
  primitive_well primitives.Modulo ts r vs is h =
      subst (λ g. Does primitives.Modulo g vs) (sym is.1)
      (two_well vs modulo (subst (λ us. HasEach w vs us) is.0 h) modulo_fine)
  primitive_well primitives.BitAnd ts r vs is h =
      subst (λ g. Does primitives.BitAnd g vs) (sym is.1) (two_well vs (λ a b. Val (and_bits a b)) (subst (λ us. HasEach w vs us) is.0 h) (λ a b. tt))
  primitive_well primitives.BitOr ts r vs is h =
      subst (λ g. Does primitives.BitOr g vs) (sym is.1) (two_well vs (λ a b. Val (or_bits a b)) (subst (λ us. HasEach w vs us) is.0 h) (λ a b. tt))
  primitive_well primitives.BitXor ts r vs is h =
      subst (λ g. Does primitives.BitXor g vs) (sym is.1) (two_well vs (λ a b. Val (xor_bits a b)) (subst (λ us. HasEach w vs us) is.0 h) (λ a b. tt))
  primitive_well primitives.BitNot ts r vs is h =
      subst (λ g. Does primitives.BitNot g vs) (sym is.1) (alone (Does primitives.BitNot int_type) vs int_type (subst (λ us. HasEach w vs us) is.0 h)
      (λ v t. one_int (λ z. Does primitives.BitNot int_type (MoreValue z NoValue)) v t (λ n. refl)))
  primitive_well primitives.ShiftLeft ts r vs is h =
      subst (λ g. Does primitives.ShiftLeft g vs) (sym is.1) (two_well vs (λ n a. Val (shift_left n a)) (subst (λ us. HasEach w vs us) is.0 h) (λ a b. tt))
  primitive_well primitives.ShiftRight ts r vs is h =
      subst (λ g. Does primitives.ShiftRight g vs) (sym is.1) (two_well vs (λ n a. Val (shift_right n a)) (subst (λ us. HasEach w vs us) is.0 h) (λ a b. tt))
  primitive_well primitives.ShiftRightZero ts r vs is h =
      subst (λ g. Does primitives.ShiftRightZero g vs) (sym is.1) (two_well vs (λ n a. Val (shift_right_zero n a)) (subst (λ us. HasEach w vs us) is.0 h) (λ a b. tt))
  primitive_well primitives.FromInt ts r vs is h =
      subst (λ g. Does primitives.FromInt g vs) (sym is.1) (alone (Does primitives.FromInt string_type) vs int_type (subst (λ us. HasEach w vs us) is.0 h)
      (λ v t. one_int (λ z. Does primitives.FromInt string_type (MoreValue z NoValue)) v t (λ n. inl refl)))
  primitive_well primitives.Length ts r vs is h =
      subst (λ g. Does primitives.Length g vs) (sym is.1) (alone (Does primitives.Length int_type) vs string_type (subst (λ us. HasEach w vs us) is.0 h)
      (λ v t. one_text (λ z. Does primitives.Length int_type (MoreValue z NoValue)) v t (λ us. refl)))
  primitive_well primitives.UnitAt ts r vs is h =
      subst (λ g. Does primitives.UnitAt g vs) (sym is.1) (elim is.0 [
        | inl text ↦ before (Does primitives.UnitAt int_type) vs int_type (string_type ∷ []) (subst (λ us. HasEach w vs us) text h)
            (λ v us t each. alone (λ z. Does primitives.UnitAt int_type (MoreValue v z)) us string_type each
            (λ x t2. one_int (λ z. Does primitives.UnitAt int_type (MoreValue z (MoreValue x NoValue))) v t
            (λ n. one_text (λ z. Does primitives.UnitAt int_type (MoreValue (IntV n) (MoreValue z NoValue))) x t2 (λ us. unit_well n us))))
        | inr char ↦ before (Does primitives.UnitAt int_type) vs int_type (char_type ∷ []) (subst (λ us. HasEach w vs us) char h)
            (λ v us t each. alone (λ z. Does primitives.UnitAt int_type (MoreValue v z)) us char_type each
            (λ x t2. one_int (λ z. Does primitives.UnitAt int_type (MoreValue z (MoreValue x NoValue))) v t
            (λ n. one_char (λ z. Does primitives.UnitAt int_type (MoreValue (IntV n) (MoreValue z NoValue))) x t2 (λ us. unit_well n us))))
      ])
  primitive_well primitives.FromUnit ts r vs is h =
      subst (λ g. Does primitives.FromUnit g vs) (sym is.1) (alone (Does primitives.FromUnit string_type) vs int_type (subst (λ us. HasEach w vs us) is.0 h)
      (λ v t. one_int (λ z. Does primitives.FromUnit string_type (MoreValue z NoValue)) v t (λ n. inl refl)))
  primitive_well primitives.Slice ts r vs is h =
      subst (λ g. Does primitives.Slice g vs) (sym is.1)
      (before (Does primitives.Slice string_type) vs int_type (int_type ∷ string_type ∷ []) (subst (λ us. HasEach w vs us) is.0 h)
      (λ v us t each. before (λ z. Does primitives.Slice string_type (MoreValue v z)) us int_type (string_type ∷ []) each
      (λ u xs t2 each2. alone (λ z. Does primitives.Slice string_type (MoreValue v (MoreValue u z))) xs string_type each2
      (λ x t3. one_int (λ z. Does primitives.Slice string_type (MoreValue z (MoreValue u (MoreValue x NoValue)))) v t
      (λ m. one_int (λ z. Does primitives.Slice string_type (MoreValue (IntV m) (MoreValue z (MoreValue x NoValue)))) u t2
      (λ n. one_text (λ z. Does primitives.Slice string_type (MoreValue (IntV m) (MoreValue (IntV n) (MoreValue z NoValue)))) x t3 (λ us. inl refl)))))))
  primitive_well primitives.Find ts r vs is h =
      subst (λ g. Does primitives.Find g vs) (sym is.1)
      (before (Does primitives.Find int_type) vs string_type (int_type ∷ string_type ∷ []) (subst (λ us. HasEach w vs us) is.0 h)
      (λ v us t each. before (λ z. Does primitives.Find int_type (MoreValue v z)) us int_type (string_type ∷ []) each
      (λ u xs t2 each2. alone (λ z. Does primitives.Find int_type (MoreValue v (MoreValue u z))) xs string_type each2
      (λ x t3. one_text (λ z. Does primitives.Find int_type (MoreValue z (MoreValue u (MoreValue x NoValue)))) v t
      (λ m. one_int (λ z. Does primitives.Find int_type (MoreValue (TextV m) (MoreValue z (MoreValue x NoValue)))) u t2
      (λ n. one_text (λ z. Does primitives.Find int_type (MoreValue (TextV m) (MoreValue (IntV n) (MoreValue z NoValue)))) x t3 (λ us. refl)))))))
  primitive_well primitives.Same ts r vs (inl is) h =
      subst (λ g. Does primitives.Same g vs) (sym is.1) (alone (Does primitives.Same string_type) vs char_type (subst (λ us. HasEach w vs us) is.0 h)
      (λ v t. one_char (λ z. Does primitives.Same string_type (MoreValue z NoValue)) v t (λ us. inl refl)))
  primitive_well primitives.Same ts r vs (inr is) h =
      subst (λ g. Does primitives.Same g vs) (sym is.1) (alone (Does primitives.Same char_type) vs string_type (subst (λ us. HasEach w vs us) is.0 h)
      (λ v t. one_text (λ z. Does primitives.Same char_type (MoreValue z NoValue)) v t (λ us. inr refl)))
  primitive_well primitives.Compare ts r vs is h =
      subst (λ g. Does primitives.Compare g vs) (sym is.3)
      (before (Does primitives.Compare int_type) vs is.0 (is.0 ∷ []) (subst (λ us. HasEach w vs us) is.1 h)
      (λ v us t each. alone (λ z. Does primitives.Compare int_type (MoreValue v z)) us is.0 each
      (λ u t2. fine_well (λ z. Has w z int_type) (compares v u) (λ order. IntV (order_number order)) (compare_fine w sound v u is.0 is.2 t t2) (λ order. refl))))

  -- ---- with all arguments

  maker_well : (alt : Alternative) (ts : List Ground) (r : Ground) (vs : Values) → IsMaker w alt ts r → HasEach w vs ts → EndsAs w r (given (Maker alt) vs)
  maker_well alt ts r vs m h =
      let c = m.constructor_ in
      let n : count_of vs ≡ c.alternative.arity =
      each_count w vs ts h ∙ (ap length (sym m.parts_are) ∙ (map_length (substitute m.choice) c.fields ∙ (sound.unions m.home m.name).counted c m.among)) in
      subst (λ a. EndsAs w r (given (Maker a) vs)) m.is
      (subst (EndsAs w r) (sym (built_of w sound m.home m.name c vs m.among n)) (
        ts,
        inl (inr (inr (record {
          home = m.home;
          name = m.name;
          constructor_ = c;
          among = m.among;
          tag_is = refl;
          own = ap (λ a. is_port_tag m.home m.name a.tag) m.is ∙ m.own;
          choice = m.choice;
          parts_are = m.parts_are;
          is = m.gives;
        }))),
        h,
      ))

  record_well : (xs : List Name) (ts : List Ground) (r : Ground) (vs : Values) → IsGiven w (RecordMaker xs) ts r → HasEach w vs ts → EndsAs w r (given (RecordMaker xs) vs)
  record_well xs ts r vs m h =
      let o = made w xs ts vs m.0 m.1 h in
      subst (λ e. EndsAs w r (then_do e (λ fs. Val (RecordV fs)))) (sym o.is) (sorted (zip xs ts), sym m.2, o.have)

  field_well : (x : Name) (others : Ground) (r : Ground) (v : Value) → lacks x others ≡ true → Has w v (extend (MoreField x r NoField) others) → EndsAs w r (field_of x v)
  field_well x (Made h ts) r v l has = not_both false l refl
  field_well x (Record gs end) r v l has =
      let own : has_field x (rows.insert_field x r gs) ≡ true = has_inserted x x r gs ∙ ap (λ b. b || has_field x gs) ((bytes_eq-Decides x x).1 refl) in
      let o = record_value w sound v (extend (MoreField x r NoField) (Record gs end)) (with_field x end (rows.insert_field x r gs) own) has in
      subst (λ z. EndsAs w r (field_of x z)) (sym o.1) (go o.0 (subst (λ z. Has w z (extend (MoreField x r NoField) (Record gs end))) o.1 has))
    where
      go : (fs : FieldValues) → Has w (RecordV fs) (extend (MoreField x r NoField) (Record gs end)) → EndsAs w r (field_of x (RecordV fs))
      go fs k =
          let e : Record k.0 Closed ≡ Record (rows.insert_field x r gs) end = k.1 in
          let same : k.0 ≡ rows.insert_field x r gs = cc in
          let f = field_found w x fs (rows.insert_field x r gs) r (subst (λ ts. HaveFields w fs ts) same k.2) (type_inserted x r gs (not_true (has_field x gs) (and_left (not (has_field x gs)) _ l))) in
          subst (EndsAs w r) (sym f.is) f.has

  -- what goes out at a port
  sends_well : (port : Name) (p : Payload) (message : Ground) → w.outs port ≡ Some p → (end : End Wire) → EndsWell (λ x. IsWire p x) end
      → EndsAs w (cmd_type message) (then_do end (λ x. Val (of_port port (WireV x))))
  sends_well port p message out (Val x) h = (
    string_type ∷ sent_type port ∷ [],
    inr (record {
      port = port;
      rest = MoreValue (WireV x) NoValue;
      carried = sent_type port;
      tag_is = refl;
      begins = refl;
      parts_are = refl;
      carries = inl (record { message = message; carried_is = refl; is = refl });
    }),
    (inl refl, (record { port = port; payload = p; out = out; wire_is = h; is = refl }, tt)),
  )
  sends_well port p message out (Crashed t) h = tt
  sends_well port p message out OutOfFuel h = tt
  sends_well port p message out Unsafe h = tt
  sends_well port p message out Stuck h = absurd h

  finish_well : (k : Bodiless) (ts : List Ground) (r : Ground) (vs : Values) → Takes w k ts r → HasEach w vs ts → EndsAs w r (finish k vs)
  finish_well (Given (Maker alt)) ts r vs t h = maker_well alt ts r vs t h
  finish_well (Given (RecordMaker xs)) ts r vs t h = record_well xs ts r vs t h
  finish_well (Given (OutPort port p)) ts r vs t h =
      subst (λ g. EndsAs w g (finish (Given (OutPort port p)) vs)) (sym t.4)
      (alone (λ z. EndsAs w (cmd_type t.0) (finish (Given (OutPort port p)) z)) vs (payload_type p) (subst (λ us. HasEach w vs us) t.3 h)
      (λ v has. sends_well port p t.0 t.1 (unshape p v) (written w sound p v t.2 has)))
  finish_well (Given (InPort port p)) ts r vs t h =
      subst (λ g. EndsAs w g (finish (Given (InPort port p)) vs)) (sym t.3)
      (alone (λ z. EndsAs w (sub_type t.0) (finish (Given (InPort port p)) z)) vs (function (payload_type p) t.0) (subst (λ us. HasEach w vs us) t.2 h) (λ f has. (
        string_type ∷ function (payload_type p) t.0 ∷ [],
        inr (record {
          port = port;
          rest = MoreValue f NoValue;
          carried = function (payload_type p) t.0;
          tag_is = refl;
          begins = refl;
          parts_are = refl;
          carries = inr (record { message = t.0; payload = p; in_ = t.1; carried_is = refl; is = refl });
        }),
        (inl refl, (has, tt)),
      )))
  finish_well (Getter x) ts r vs t h =
      alone (λ z. EndsAs w r (finish (Getter x) z)) vs (extend (MoreField x r NoField) t.others) (subst (λ us. HasEach w vs us) t.argument h)
      (λ v has. field_well x t.others r v t.without has)
  finish_well (Core p) ts r vs t h = primitive_well p ts r vs t h

  -- ---- how many arguments

  primitive_count : (p : Primitive) (ts : List Ground) (r : Ground) → IsPrimitive p ts r → length ts ≡ primitive_arity p
  primitive_count primitives.Crash ts r is = ap length is
  primitive_count primitives.Remainder ts r is = ap length is.0
  primitive_count primitives.Modulo ts r is = ap length is.0
  primitive_count primitives.BitAnd ts r is = ap length is.0
  primitive_count primitives.BitOr ts r is = ap length is.0
  primitive_count primitives.BitXor ts r is = ap length is.0
  primitive_count primitives.BitNot ts r is = ap length is.0
  primitive_count primitives.ShiftLeft ts r is = ap length is.0
  primitive_count primitives.ShiftRight ts r is = ap length is.0
  primitive_count primitives.ShiftRightZero ts r is = ap length is.0
  primitive_count primitives.FromInt ts r is = ap length is.0
  primitive_count primitives.Length ts r is = ap length is.0
  primitive_count primitives.UnitAt ts r is = elim is.0 [ inl text ↦ ap length text | inr char ↦ ap length char ]
  primitive_count primitives.FromUnit ts r is = ap length is.0
  primitive_count primitives.Slice ts r is = ap length is.0
  primitive_count primitives.Find ts r is = ap length is.0
  primitive_count primitives.Same ts r (inl is) = ap length is.0
  primitive_count primitives.Same ts r (inr is) = ap length is.0
  primitive_count primitives.Compare ts r is = ap length is.1

  takes_count : (k : Bodiless) (ts : List Ground) (r : Ground) → Takes w k ts r → length ts ≡ arity_of k
  takes_count (Given (Maker alt)) ts r t =
      ap length (sym t.parts_are) ∙ (map_length (substitute t.choice) t.constructor_.fields ∙ ((sound.unions t.home t.name).counted t.constructor_ t.among ∙ ap (λ a. a.arity) t.is))
  takes_count (Given (RecordMaker xs)) ts r t = t.1
  takes_count (Given (OutPort port p)) ts r t = ap length t.3
  takes_count (Given (InPort port p)) ts r t = ap length t.2
  takes_count (Getter x) ts r t = ap length t.argument
  takes_count (Core p) ts r t = primitive_count p ts r t

  -- ---- with one argument more

  called : (k : Bodiless) (vs : Values) (parts : List Ground) (next : Ground) (later : List Ground) (r : Ground) → Takes w k (parts ++ next ∷ later) r
      → HasEach w vs (parts ++ next ∷ []) → EndsAs w (functions later r) (known k vs)
  called k vs parts next [] r t h =
      subst (λ b. EndsAs w r (if b then finish k vs else Val (KnownV k vs)))
      (sym (eq-eqb (count_of vs) (arity_of k) (each_count w vs (parts ++ next ∷ []) h ∙ takes_count k (parts ++ next ∷ []) r t)))
      (finish_well k (parts ++ next ∷ []) r vs t h)
  called k vs parts next (l ∷ ls) r t h =
      let n : (count_of vs == arity_of k) ≡ false =
      ap (λ m. m == arity_of k) (each_count w vs (parts ++ next ∷ []) h)
      ∙ (sym (ap (λ m. length (parts ++ next ∷ []) == m) (takes_count k (parts ++ next ∷ l ∷ ls) r t)) ∙ fewer parts next l ls) in
      subst (λ b. EndsAs w (functions (l ∷ ls) r) (if b then finish k vs else Val (KnownV k vs))) (sym n) (
        parts ++ next ∷ [],
        record { next = l; later = ls; result = r; takes = subst (λ ts. Takes w k ts r) (sym (append_twice parts (next ∷ []) (l ∷ ls))) t; is = refl },
        h,
      )

  pub knows_well : (k : Bodiless) (vs : Values) (parts : List Ground) (v : Value) (a b : Ground) → HasEach w vs parts → Knows w k parts (function a b) → Has w v a
      → EndsAs w b (known k (append_values vs (MoreValue v NoValue)))
  knows_well k vs parts v a b h m has =
      let e : function m.next (functions m.later m.result) ≡ function a b = m.is in
      let one : m.next ≡ a = cc in
      let rest : functions m.later m.result ≡ b = cc in
      subst (λ g. EndsAs w g (known k (append_values vs (MoreValue v NoValue)))) rest
      (called k (append_values vs (MoreValue v NoValue)) parts m.next m.later m.result m.takes (each_more w vs parts v m.next h (subst (λ g. Has w v g) (sym one) has)))
