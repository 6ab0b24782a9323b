-- What crosses ports: what is read of a wire value has the payload's type, and what has the type can be written.
use Rattle.std.proofs.Common.{◌≡◌, ℕ, pos, List, [], ◌∷◌, map, length, Bool, true, false, Option, Some, None, ◌⊎◌, inl, inr, refl, sym, ap, ◌∙◌, subst}
use Rattle.std.specs.Prelude.{ℤ, if◌then◌else◌, codes, option_and_then, option_map}
use Rattle.std.specs.Str.{bytes_eq}
use Rattle.wire_value.specs.Wire as wire
use Rattle.wire_value.specs.Wire.{Wire, Wires, Members}
use Rattle.wire_value.specs.Exact.{is_exact}
use Rattle.runs.specs.Ends.{End, Val, Crashed, OutOfFuel, Unsafe, Stuck, then_do}
use Rattle.runs.specs.Members.{put_wire}
use Rattle.elm_canon.specs.Names.{Name}
use Rattle.elm_canon.specs.declared.unions.Tag.{Tag}
use Rattle.elm_canon.specs.declared.unions.Tag.TheVariants.{Number}
use Rattle.elm_canon.specs.Unions.{tuple_alternative}
use Rattle.elm_canon.specs.Tree.{Payload, IntPayload, BoolPayload, TextPayload, MaybePayload, ListPayload, TuplePayload}
use Rattle.elm_canon.specs.Tree.{RecordPayload, Payloads, NoPayload, MorePayload, PayloadFields, NoPayloadField}
use Rattle.elm_canon.specs.Tree.{MorePayloadField}
use Rattle.elm_meaning.specs.Values.{Value, IntV, TagV, RecordV, Values, NoValue, MoreValue, FieldValues, just}
use Rattle.elm_meaning.specs.Values.{nothing, unit, nil, list_of, tuple as tuple_of, insert_field, count_of}
use Rattle.elm_meaning.specs.Ports.{unshape, unshape_each, unshape_all, unshape_fields, shape, shape_each, shape_all}
use Rattle.elm_meaning.specs.Ports.{shape_fields, member_at}
use Rattle.elm_type.specs.Types.{Fields, Made, Record, NoField, Closed, Free, Rigid}
use Rattle.elm_type.specs.Types.{MoreType, named, types_of, tuple, list_type, int_type, string_type}
use Rattle.elm_type.specs.Classes.{Ground}
use Rattle.elm_type.specs.Rows.{substitute, extend}
use Rattle.elm_type.specs.Rows as rows
use Rattle.elm_type.specs.declared.head.Head.TheVariants as head
use Rattle.typed_values.specs.Payloads.{payload_type, payload_types, payload_fields, names_field, HasEachOnce, HaveEachOnce}
use Rattle.typed_values.specs.Payloads.{FieldsOnce, IsWire, AllWires, AreWires, AreMembers}
use Rattle.typed_values.specs.World.{World, Constructor, made_type, variables_of, IsSound}
use Rattle.typed_values.specs.Typed.{EndsWell, Has, HasEach, HaveFields}
use Rattle.typed_values.proofs.Names.{not_or, or_not}
use Rattle.typed_values.proofs.Rows.{extend_none, has_inserted}
use Rattle.typed_values.proofs.Forms.{each_count, plain_made, int_value, text_value, tag_value, record_value}
use Rattle.typed_values.proofs.Fields.{turned, TypeOf, type_inserted, type_other, field_found, inserted}
use Rattle.typed_values.proofs.Unions.{of_union}
use Rattle.typed_values.proofs.Makers.{tuple_made}
use Rattle.typed_values.proofs.Comparing.{AllHave, listed, before_has, nil_has}
use Rattle.typed_values.proofs.Truths.{no_values, truths, truth_values}

-- ---- the types of payloads

abbrev maybe : Ground → Ground
maybe t = named (codes "Maybe") (codes "Maybe") (t ∷ [])

abbrev pub payload_list : Payloads → List Ground
payload_list NoPayload = []
payload_list (MorePayload t ts) = payload_type t ∷ payload_list ts

listed_types : (ts : Payloads) → types_of (payload_list ts) ≡ payload_types ts
listed_types NoPayload = refl
listed_types (MorePayload t ts) = ap (MoreType (payload_type t)) (listed_types ts)

-- the fields of a record have their types in the whole
abbrev TypedFields : PayloadFields → Fields Rigid → Type 0
TypedFields NoPayloadField whole = Unit {0}
TypedFields (MorePayloadField k t fs) whole = TypeOf k whole (payload_type t) × TypedFields fs whole

typed_past : (k : Name) (u : Ground) (fs : PayloadFields) (whole : Fields Rigid) → names_field k fs ≡ false → TypedFields fs whole → TypedFields fs (rows.insert_field k u whole)
typed_past k u NoPayloadField whole n h = tt
typed_past k u (MorePayloadField j t fs) whole n h =
    let o = not_or (bytes_eq k j) (names_field k fs) n in
    (type_other j k u whole (turned k j o.0) ∙ h.0, typed_past k u fs whole o.1 h.1)

no_field : (k : Name) (fs : PayloadFields) → names_field k fs ≡ false → rows.has_field k (payload_fields {X = Rigid} fs) ≡ false
no_field k NoPayloadField n = refl
no_field k (MorePayloadField j t fs) n =
    let o = not_or (bytes_eq k j) (names_field k fs) n in
    has_inserted k j (payload_type t) (payload_fields fs) ∙ or_not (bytes_eq k j) (rows.has_field k (payload_fields {X = Rigid} fs)) o.0 (no_field k fs o.1)

fields_typed : (fs : PayloadFields) → FieldsOnce fs → TypedFields fs (payload_fields fs)
fields_typed NoPayloadField h = tt
fields_typed (MorePayloadField k t fs) h = (
  type_inserted k (payload_type t) (payload_fields fs) (no_field k fs h.0),
  typed_past k (payload_type t) fs (payload_fields fs) h.0 (fields_typed fs h.2),
)

-- if there is something, it is such
abbrev pub IfRead : {X : Type 0} → (X → Type 0) → Option X → Type 0
IfRead P None = Unit {0}
IfRead P (Some x) = P x

map_read : {X Y : Type 0} (P : X → Type 0) (Q : Y → Type 0) (f : X → Y) (o : Option X) → IfRead P o → ((x : X) → P x → Q (f x)) → IfRead Q (option_map f o)
map_read P Q f None h k = tt
map_read P Q f (Some x) h k = k x h

then_read : {X Y : Type 0} (P : X → Type 0) (Q : Y → Type 0) (f : X → Option Y) (o : Option X) → IfRead P o → ((x : X) → P x → IfRead Q (f x)) → IfRead Q (option_and_then f o)
then_read P Q f None h k = tt
then_read P Q f (Some x) h k = k x h

then_written : {X Y : Type 0} (P : X → Type 0) (Q : Y → Type 0) (o : End X) (go : X → End Y) → EndsWell P o → ((x : X) → P x → EndsWell Q (go x)) → EndsWell Q (then_do o go)
then_written P Q (Val x) go h k = k x h
then_written P Q (Crashed t) go h k = tt
then_written P Q OutOfFuel go h k = tt
then_written P Q Unsafe go h k = tt
then_written P Q Stuck go h k = absurd h

module _ (w : World) (sound : IsSound w) where
  -- ---- Just and Nothing

  maybe_type : (t : Ground) (c : Constructor) (i : ℕ) → c.arguments ≡ i ∷ [] → substitute (λ _. t) (made_type (codes "Maybe") (codes "Maybe") c) ≡ maybe t
  maybe_type t c i e =
      ap (λ ns. substitute (λ _. t) (named (codes "Maybe") (codes "Maybe") (variables_of ns))) e ∙ ap maybe (extend_none t)

  just_has : (v : Value) (t : Ground) → Has w v t → Has w (just v) (maybe t)
  just_has v t h =
      let c = sound.maybes.just in (
        t ∷ [],
        inl (inr (inr (record {
          home = codes "Maybe";
          name = codes "Maybe";
          constructor_ = c.0;
          among = c.1;
          tag_is = c.2.0;
          own = refl;
          choice = λ _. t;
          parts_are = ap (map (substitute (λ _. t))) c.2.3 ∙ ap (λ z. z ∷ []) (extend_none t);
          is = maybe_type t c.0 c.2.1 c.2.2;
        }))),
        (h, tt),
      )

  nothing_has : (t : Ground) → Has w nothing (maybe t)
  nothing_has t =
      let c = sound.maybes.nothing in (
        [],
        inl (inr (inr (record {
          home = codes "Maybe";
          name = codes "Maybe";
          constructor_ = c.0;
          among = c.1;
          tag_is = c.2.0;
          own = refl;
          choice = λ _. t;
          parts_are = ap (map (substitute (λ _. t))) c.2.3;
          is = maybe_type t c.0 c.2.1 c.2.2;
        }))),
        tt,
      )

  abbrev IsJustOf : Value → Ground → Type 0
  IsJustOf v t = (x : Value) × (v ≡ just x) × Has w x t

  one_value : (tag : Tag) (vs : Values) (t u : Ground) → tag ≡ Number (pos 0) → u ≡ t → HasEach w vs (u ∷ []) → IsJustOf (TagV tag vs) t
  one_value tag NoValue t u e f h = absurd h
  one_value tag (MoreValue x NoValue) t u e f h = (x, ap (λ z. TagV z (MoreValue x NoValue)) e, subst (λ g. Has w x g) f h.0)
  one_value tag (MoreValue x (MoreValue y vs)) t u e f h = absurd h.1

  maybe_value : (v : Value) (t : Ground) → Has w v (maybe t) → IsJustOf v t ⊎ (v ≡ nothing)
  maybe_value v t h =
      let r = tag_value w sound v (maybe t) refl h in
      let tag = r.0 in
      let vs = r.1 in
      let k : Has w (TagV tag vs) (maybe t) = subst (λ z. Has w z (maybe t)) r.2 h in
      let c = sound.maybes.just in
      let u = of_union w sound (codes "Maybe") (codes "Maybe") c.0 (λ _. t) tag vs k.0 (maybe t) c.1 (maybe_type t c.0 c.2.1 c.2.2) (plain_made w sound tag vs k.0 (maybe t) refl k.1) in
      elim (sound.maybes.others u.constructor_ u.among) [
        | inl j ↦ (let z : maybe (extend NoField (u.choice (Free j.1))) ≡ maybe t = sym (ap (λ ns. substitute u.choice (named (codes "Maybe") (codes "Maybe") (variables_of ns))) j.2) ∙ u.is in
            let same : extend NoField (u.choice (Free j.1)) ≡ t = cc in
            let parts : k.0 ≡ extend NoField (u.choice (Free j.1)) ∷ [] = sym u.parts_are ∙ ap (map (substitute u.choice)) j.3 in
            let o = one_value tag vs t (extend NoField (u.choice (Free j.1))) (sym u.tag_is ∙ j.0) same (subst (HasEach w vs) parts k.2) in
            inl (o.0, r.2 ∙ o.1, o.2))
        | inr n ↦ (let parts : k.0 ≡ [] = sym u.parts_are ∙ ap (map (substitute u.choice)) n.3 in
            let none = no_values vs (each_count w vs k.0 k.2 ∙ ap length parts) in
            inr (r.2 ∙ (ap (λ z. TagV z vs) (sym u.tag_is ∙ n.0) ∙ ap (TagV (Number (pos 1))) none)))
      ]

  -- ---- writing

  each_written : (P : Wire → Type 0) (t : Ground) (write : Value → End Wire) → ((v : Value) → Has w v t → EndsWell P (write v)) → (vs : Values) → AllHave w sound vs t → EndsWell (AllWires P) (unshape_each write vs)
  each_written P t write one NoValue h = tt
  each_written P t write one (MoreValue v vs) h =
      then_written P (AllWires P) (write v) (λ x. then_do (unshape_each write vs) (λ xs. Val (wire.more_wires x xs))) (one v h.0)
      (λ x is. then_written (AllWires P) (AllWires P) (unshape_each write vs) (λ xs. Val (wire.more_wires x xs)) (each_written P t write one vs h.1) (λ xs are. (is, are)))

  parts_written : (t : Payload) (ts : Payloads) (v : Value) (tag : Tag) (vs : Values) → v ≡ TagV tag vs → tag ≡ (tuple_alternative (count_of vs)).tag
      → HasEach w vs (payload_list (MorePayload t ts)) → EndsWell (AreWires (MorePayload t ts)) (unshape_all (MorePayload t ts) vs)
      → EndsWell (λ x. IsWire (TuplePayload (MorePayload t ts)) x) (unshape (TuplePayload (MorePayload t ts)) v)
  parts_written t ts v tag NoValue e f h all = absurd h
  parts_written t ts v tag (MoreValue x xs) e f h all =
      subst (λ z. EndsWell (λ y. IsWire (TuplePayload (MorePayload t ts)) y) (unshape (TuplePayload (MorePayload t ts)) z)) (sym (e ∙ ap (λ z. TagV z (MoreValue x xs)) f))
      (then_written (AreWires (MorePayload t ts)) (λ y. IsWire (TuplePayload (MorePayload t ts)) y) (unshape_all (MorePayload t ts) (MoreValue x xs)) (λ ws. Val (wire.list ws))
      all (λ ws are. (ws, refl, are)))

  mutual
    pub written : (t : Payload) (v : Value) → HasEachOnce t → Has w v (payload_type t) → EndsWell (λ x. IsWire t x) (unshape t v)
    written IntPayload v once h = (let r = int_value w sound v int_type refl h in subst (λ z. EndsWell (λ x. IsWire IntPayload x) (unshape IntPayload z)) (sym r.1) (r.0, refl))
    written BoolPayload v once h = (let r = truth_values w sound v h in subst (λ z. EndsWell (λ x. IsWire BoolPayload x) (unshape BoolPayload z)) (sym r.1) (r.0, refl))
    written TextPayload v once h = (let r = text_value w sound v string_type refl h in subst (λ z. EndsWell (λ x. IsWire TextPayload x) (unshape TextPayload z)) (sym r.1) (r.0, refl))
    written (MaybePayload t) v once h = elim (maybe_value v (payload_type t) h) [
      | inl j ↦ subst (λ z. EndsWell (λ x. IsWire (MaybePayload t) x) (unshape (MaybePayload t) z)) (sym j.1)
          (weaker t (unshape t j.0) (written t j.0 once j.2))
      | inr n ↦ subst (λ z. EndsWell (λ x. IsWire (MaybePayload t) x) (unshape (MaybePayload t) z)) (sym n) (inl refl)
    ]
      where
        weaker : (t : Payload) (end : End Wire) → EndsWell (λ x. IsWire t x) end → EndsWell (λ x. IsWire (MaybePayload t) x) end
        weaker t (Val x) k = inr k
        weaker t (Crashed us) k = tt
        weaker t OutOfFuel k = tt
        weaker t Unsafe k = tt
        weaker t Stuck k = absurd k
    written (ListPayload t) v once h =
        let l = listed w sound v (payload_type t) h in
        subst (λ o. EndsWell (λ x. IsWire (ListPayload t) x) (then_do o (λ vs. then_do (unshape_each (λ item. unshape t item) vs) (λ ws. Val (wire.list ws))))) (sym l.is)
        (then_written (AllWires (λ x. IsWire t x)) (λ x. IsWire (ListPayload t) x) (unshape_each (λ item. unshape t item) l.values) (λ ws. Val (wire.list ws))
        (each_written (λ x. IsWire t x) (payload_type t) (λ item. unshape t item) (λ y has. written t y once has) l.values l.have)
        (λ ws all. (ws, refl, all)))
    written (TuplePayload NoPayload) v once h =
        let r = tag_value w sound v (tuple []) refl h in
        let k : Has w (TagV r.0 r.1) (tuple []) = subst (λ z. Has w z (tuple [])) r.2 h in
        let m = tuple_made w sound r.0 r.1 k.0 [] (plain_made w sound r.0 r.1 k.0 (tuple []) refl k.1) in
        let none : r.1 ≡ NoValue = no_values r.1 (each_count w r.1 k.0 k.2 ∙ ap length m.0) in
        let is : v ≡ unit = r.2 ∙ (ap (λ z. TagV r.0 z) none ∙ ap (λ z. TagV z NoValue) (m.1 ∙ ap (λ vs. (tuple_alternative (count_of vs)).tag) none)) in
        subst (λ z. EndsWell (λ x. IsWire (TuplePayload NoPayload) x) (unshape (TuplePayload NoPayload) z)) (sym is) refl
    written (TuplePayload (MorePayload t ts)) v once h =
        let all = payload_list (MorePayload t ts) in
        let h2 : Has w v (tuple all) = subst (λ z. Has w v (Made head.Tuple z)) (sym (listed_types (MorePayload t ts))) h in
        let r = tag_value w sound v (tuple all) refl h2 in
        let k : Has w (TagV r.0 r.1) (tuple all) = subst (λ z. Has w z (tuple all)) r.2 h2 in
        let m = tuple_made w sound r.0 r.1 k.0 all (plain_made w sound r.0 r.1 k.0 (tuple all) refl k.1) in
        parts_written t ts v r.0 r.1 r.2 m.1 (subst (HasEach w r.1) m.0 k.2) (all_written (MorePayload t ts) r.1 once (subst (HasEach w r.1) m.0 k.2))
    written (RecordPayload fs) v once h =
        let r = record_value w sound v (Record (payload_fields fs) Closed) refl h in
        let k : Has w (RecordV r.0) (Record (payload_fields fs) Closed) = subst (λ z. Has w z (Record (payload_fields fs) Closed)) r.1 h in
        let e : Record k.0 Closed ≡ Record (payload_fields fs) Closed = k.1 in
        let same : k.0 ≡ payload_fields fs = cc in
        subst (λ z. EndsWell (λ x. IsWire (RecordPayload fs) x) (unshape (RecordPayload fs) z)) (sym r.1)
        (then_written (AreMembers fs) (λ x. IsWire (RecordPayload fs) x) (unshape_fields fs (RecordV r.0)) (λ ms. Val (wire.object ms))
        (fields_written fs r.0 (payload_fields fs) once (fields_typed fs once) (subst (HaveFields w r.0) same k.2)) (λ ms are. (ms, refl, are)))

    all_written : (ts : Payloads) (vs : Values) → HaveEachOnce ts → HasEach w vs (payload_list ts) → EndsWell (AreWires ts) (unshape_all ts vs)
    all_written NoPayload NoValue once h = refl
    all_written NoPayload (MoreValue v vs) once h = absurd h
    all_written (MorePayload t ts) NoValue once h = absurd h
    all_written (MorePayload t ts) (MoreValue v vs) once h =
        then_written (λ x. IsWire t x) (AreWires (MorePayload t ts)) (unshape t v) (λ x. then_do (unshape_all ts vs) (λ xs. Val (wire.more_wires x xs))) (written t v once.0 h.0)
        (λ x is. then_written (AreWires ts) (AreWires (MorePayload t ts)) (unshape_all ts vs) (λ xs. Val (wire.more_wires x xs)) (all_written ts vs once.1 h.1)
        (λ xs are. (x, xs, refl, is, are)))

    fields_written : (fs : PayloadFields) (gs : FieldValues) (whole : Fields Rigid) → FieldsOnce fs → TypedFields fs whole → HaveFields w gs whole
        → EndsWell (AreMembers fs) (unshape_fields fs (RecordV gs))
    fields_written NoPayloadField gs whole once typed h = refl
    fields_written (MorePayloadField k t fs) gs whole once typed h =
        let f = field_found w k gs whole (payload_type t) h typed.0 in
        subst (λ o. EndsWell (AreMembers (MorePayloadField k t fs)) (then_do o (λ part. then_do (unshape t part) (λ x. then_do (unshape_fields fs (RecordV gs)) (λ ms. Val (put_wire k x ms)))))) (sym f.is)
        (then_written (λ x. IsWire t x) (AreMembers (MorePayloadField k t fs)) (unshape t f.value) (λ x. then_do (unshape_fields fs (RecordV gs)) (λ ms. Val (put_wire k x ms))) (written t f.value once.1 f.has)
        (λ x is. then_written (AreMembers fs) (AreMembers (MorePayloadField k t fs)) (unshape_fields fs (RecordV gs)) (λ ms. Val (put_wire k x ms))
        (fields_written fs gs whole once.2 typed.1 h) (λ ms are. (x, ms, refl, is, are))))

  -- ---- reading

  each_read : (t : Ground) (read : Wire → Option Value) → ((x : Wire) → IfRead (λ v. Has w v t) (read x)) → (ws : Wires) → IfRead (λ vs. AllHave w sound vs t) (shape_each read ws)
  each_read t read one wire.no_wire = tt
  each_read t read one (wire.more_wires x ws) =
      then_read (λ v. Has w v t) (λ vs. AllHave w sound vs t) (λ v. option_map (λ vs. MoreValue v vs) (shape_each read ws)) (read x) (one x)
      (λ v has. map_read (λ vs. AllHave w sound vs t) (λ vs. AllHave w sound vs t) (λ vs. MoreValue v vs) (shape_each read ws) (each_read t read one ws) (λ vs have. (has, have)))

  exact_read : (b : Bool) (n : ℤ) → IfRead (λ v. Has w v int_type) (if b then Some (IntV n) else None)
  exact_read true n = refl
  exact_read false n = tt

  tuple_has : (v : Value) (vs : Values) (ts : List Ground) → HasEach w (MoreValue v vs) ts → Has w (tuple_of (MoreValue v vs)) (tuple ts)
  tuple_has v vs ts h = (ts, inl (inl (record { tag_is = refl; is = refl })), h)

  mutual
    -- a wire value that is read has the payload's type
    pub was_read : (t : Payload) (x : Wire) → IfRead (λ v. Has w v (payload_type t)) (shape t x)
    was_read IntPayload (wire.int n) = exact_read (is_exact n) n
    was_read IntPayload wire.null = tt
    was_read IntPayload (wire.bool b) = tt
    was_read IntPayload (wire.text us) = tt
    was_read IntPayload (wire.list ws) = tt
    was_read IntPayload (wire.object ms) = tt
    was_read BoolPayload (wire.bool b) = truths w sound b
    was_read BoolPayload wire.null = tt
    was_read BoolPayload (wire.int n) = tt
    was_read BoolPayload (wire.text us) = tt
    was_read BoolPayload (wire.list ws) = tt
    was_read BoolPayload (wire.object ms) = tt
    was_read TextPayload (wire.text us) = inl refl
    was_read TextPayload wire.null = tt
    was_read TextPayload (wire.bool b) = tt
    was_read TextPayload (wire.int n) = tt
    was_read TextPayload (wire.list ws) = tt
    was_read TextPayload (wire.object ms) = tt
    was_read (MaybePayload t) wire.null = nothing_has (payload_type t)
    was_read (MaybePayload t) (wire.bool b) = map_read (λ v. Has w v (payload_type t)) (λ v. Has w v (maybe (payload_type t))) (λ v. just v) (shape t (wire.bool b)) (was_read t (wire.bool b)) (λ v has. just_has v (payload_type t) has)
    was_read (MaybePayload t) (wire.int n) = map_read (λ v. Has w v (payload_type t)) (λ v. Has w v (maybe (payload_type t))) (λ v. just v) (shape t (wire.int n)) (was_read t (wire.int n)) (λ v has. just_has v (payload_type t) has)
    was_read (MaybePayload t) (wire.text us) = map_read (λ v. Has w v (payload_type t)) (λ v. Has w v (maybe (payload_type t))) (λ v. just v) (shape t (wire.text us)) (was_read t (wire.text us)) (λ v has. just_has v (payload_type t) has)
    was_read (MaybePayload t) (wire.list ws) = map_read (λ v. Has w v (payload_type t)) (λ v. Has w v (maybe (payload_type t))) (λ v. just v) (shape t (wire.list ws)) (was_read t (wire.list ws)) (λ v has. just_has v (payload_type t) has)
    was_read (MaybePayload t) (wire.object ms) = map_read (λ v. Has w v (payload_type t)) (λ v. Has w v (maybe (payload_type t))) (λ v. just v) (shape t (wire.object ms)) (was_read t (wire.object ms)) (λ v has. just_has v (payload_type t) has)
    was_read (ListPayload t) (wire.list ws) =
        map_read (λ vs. AllHave w sound vs (payload_type t)) (λ v. Has w v (list_type (payload_type t))) (λ vs. list_of vs) (shape_each (λ x. shape t x) ws)
        (each_read (payload_type t) (λ x. shape t x) (λ x. was_read t x) ws) (λ vs have. before_has w sound vs nil (payload_type t) have (nil_has w sound (payload_type t)))
    was_read (ListPayload t) wire.null = tt
    was_read (ListPayload t) (wire.bool b) = tt
    was_read (ListPayload t) (wire.int n) = tt
    was_read (ListPayload t) (wire.text us) = tt
    was_read (ListPayload t) (wire.object ms) = tt
    was_read (TuplePayload NoPayload) wire.null = ([], inl (inl (record { tag_is = refl; is = refl })), tt)
    was_read (TuplePayload NoPayload) (wire.bool b) = tt
    was_read (TuplePayload NoPayload) (wire.int n) = tt
    was_read (TuplePayload NoPayload) (wire.text us) = tt
    was_read (TuplePayload NoPayload) (wire.list ws) = tt
    was_read (TuplePayload NoPayload) (wire.object ms) = tt
    was_read (TuplePayload (MorePayload t ts)) (wire.list ws) =
        map_read (λ vs. HasEach w vs (payload_list (MorePayload t ts))) (λ v. Has w v (payload_type (TuplePayload (MorePayload t ts)))) (λ vs. tuple_of vs) (shape_all (MorePayload t ts) ws)
        (all_read (MorePayload t ts) ws) (λ vs have. some_tuple vs have)
      where
        some_tuple : (vs : Values) → HasEach w vs (payload_list (MorePayload t ts)) → Has w (tuple_of vs) (payload_type (TuplePayload (MorePayload t ts)))
        some_tuple NoValue have = absurd have
        some_tuple (MoreValue v vs) have =
            subst (λ z. Has w (tuple_of (MoreValue v vs)) (Made head.Tuple z)) (listed_types (MorePayload t ts)) (tuple_has v vs (payload_list (MorePayload t ts)) have)
    was_read (TuplePayload (MorePayload t ts)) wire.null = tt
    was_read (TuplePayload (MorePayload t ts)) (wire.bool b) = tt
    was_read (TuplePayload (MorePayload t ts)) (wire.int n) = tt
    was_read (TuplePayload (MorePayload t ts)) (wire.text us) = tt
    was_read (TuplePayload (MorePayload t ts)) (wire.object ms) = tt
    was_read (RecordPayload fs) (wire.object ms) =
        map_read (λ vs. HaveFields w vs (payload_fields fs)) (λ v. Has w v (payload_type (RecordPayload fs))) (λ vs. RecordV vs) (shape_fields fs ms) (fields_read fs ms)
        (λ vs have. (payload_fields fs, refl, have))
    was_read (RecordPayload fs) wire.null = tt
    was_read (RecordPayload fs) (wire.bool b) = tt
    was_read (RecordPayload fs) (wire.int n) = tt
    was_read (RecordPayload fs) (wire.text us) = tt
    was_read (RecordPayload fs) (wire.list ws) = tt

    all_read : (ts : Payloads) (ws : Wires) → IfRead (λ vs. HasEach w vs (payload_list ts)) (shape_all ts ws)
    all_read NoPayload ws = tt
    all_read (MorePayload t ts) wire.no_wire = tt
    all_read (MorePayload t ts) (wire.more_wires x ws) =
        then_read (λ v. Has w v (payload_type t)) (λ vs. HasEach w vs (payload_list (MorePayload t ts))) (λ v. option_map (λ vs. MoreValue v vs) (shape_all ts ws)) (shape t x) (was_read t x)
        (λ v has. map_read (λ vs. HasEach w vs (payload_list ts)) (λ vs. HasEach w vs (payload_list (MorePayload t ts))) (λ vs. MoreValue v vs) (shape_all ts ws) (all_read ts ws) (λ vs have. (has, have)))

    fields_read : (fs : PayloadFields) (ms : Members) → IfRead (λ vs. HaveFields w vs (payload_fields fs)) (shape_fields fs ms)
    fields_read NoPayloadField ms = tt
    fields_read (MorePayloadField k t fs) ms =
        then_read (λ x. Unit {0}) (λ vs. HaveFields w vs (payload_fields (MorePayloadField k t fs)))
        (λ x. option_and_then (λ v. option_map (λ vs. insert_field k v vs) (shape_fields fs ms)) (shape t x)) (member_at k ms) (anything (member_at k ms))
        (λ x _. then_read (λ v. Has w v (payload_type t)) (λ vs. HaveFields w vs (payload_fields (MorePayloadField k t fs))) (λ v. option_map (λ vs. insert_field k v vs) (shape_fields fs ms)) (shape t x) (was_read t x)
        (λ v has. map_read (λ vs. HaveFields w vs (payload_fields fs)) (λ vs. HaveFields w vs (payload_fields (MorePayloadField k t fs))) (λ vs. insert_field k v vs) (shape_fields fs ms) (fields_read fs ms)
        (λ vs have. inserted w k v (payload_type t) vs (payload_fields fs) have has)))
      where
        anything : {X : Type 0} (o : Option X) → IfRead (λ x. Unit {0}) o
        anything None = tt
        anything (Some x) = tt
