-- Commands and subscriptions, laid flat: each is of a port, with what belongs to the port.
use Rattle.std.proofs.Common.{◌≡◌, ℕ, pos, List, [], ◌∷◌, ◌++◌, map, Bool, true, false, ◌⊎◌, inl, inr, refl, sym, ap, ◌∙◌, subst}
use Rattle.std.specs.Prelude.{Some, if◌then◌else◌}
use Rattle.std.specs.List.{AllByRecursion, list_any}
use Rattle.std.specs.Str.{bytes_eq}
use Rattle.wire_value.specs.Wire.{Wire}
use Rattle.runs.specs.Ends.{End, Val, Stuck, then_do}
use Rattle.elm_canon.specs.Names.{Name}
use Rattle.elm_canon.specs.declared.unions.Tag.{Tag}
use Rattle.elm_canon.specs.declared.unions.Tag.TheVariants.{Number}
use Rattle.elm_canon.specs.Tree.{Payload}
use Rattle.elm_meaning.specs.Seen.{same_tag}
use Rattle.elm_meaning.specs.Values.{Value, IntV, TextV, TagV, RecordV, CloV, KnownV, WireV, Values, NoValue, MoreValue}
use Rattle.elm_meaning.specs.Run.{flat, flat_all, sends_of, hearers}
use Rattle.elm_type.specs.Types.{function, list_type, string_type}
use Rattle.elm_type.specs.Classes.{Ground}
use Rattle.elm_type.specs.Rows.{substitute}
use Rattle.typed_values.specs.Payloads.{payload_type, cmd_type, sub_type}
use Rattle.typed_values.specs.World.{World, IsSound, MadeBy, OfPort, Sends, Listens, sent_type, is_ported, is_port_tag}
use Rattle.typed_values.specs.Typed.{EndsWell, Has, HasEach}
use Rattle.typed_values.proofs.Names.{not_both}
use Rattle.typed_values.proofs.Keeping.{and_both}
use Rattle.typed_values.proofs.Forms.{Ints, Texts, Tags, Records, Calls, form, value_form, is_port_ground, plain_made}
use Rattle.typed_values.proofs.Makers.{list_made}
use Rattle.typed_values.proofs.Sent.{ported_made, call_type, no_sent_call, unlike}
use Rattle.std.proofs.lemmas.Slice.Eq.{bytes_eq-Decides}
use Rattle.std.specs.Prelude.{ℤ}
use Rattle.elm_canon.specs.Tree.{Patterns, Expr}
use Rattle.elm_meaning.specs.Functions.{Bodiless}
use Rattle.elm_meaning.specs.Values.{FieldValues, Env}
use Rattle.elm_type.specs.Types.{functions}
use Rattle.type_safety.proofs.Progress.{then_well}

abbrev Parcels : Type 0
Parcels = List (Name × Value)

all_append : {X : Type 0} (P : X → Type 0) (xs ys : List X) → AllByRecursion P xs → AllByRecursion P ys → AllByRecursion P (xs ++ ys)
all_append P [] ys h k = k
all_append P (x ∷ xs) ys h k = (h.0, all_append P xs ys h.1 k)

module _ (w : World) (sound : IsSound w) where
  -- a batch has a list of its kind
  batch_parts : (tag : Tag) (vs : Values) (parts : List Ground) (g : Ground) → is_port_ground g ≡ true → MadeBy w tag vs parts g → (tag ≡ Number (pos 1)) × (parts ≡ list_type g ∷ [])
  batch_parts tag vs parts g port (inl m) = not_both (is_port_ground g) port (sym (ap is_port_ground m.is))
  batch_parts tag vs parts g port (inr (inl m)) = not_both (is_port_ground g) port (sym (ap is_port_ground m.is))
  batch_parts tag vs parts g port (inr (inr m)) =
      let ported : is_ported m.home m.name ≡ true = ap is_port_ground m.is ∙ port in
      let b = ported_made w sound m.home m.name m.constructor_ ported m.among
      (λ e. not_both (is_port_tag m.home m.name tag) (and_both (is_ported m.home m.name) (same_tag tag (Number (pos 0))) ported (ap (λ z. same_tag z (Number (pos 0))) (sym m.tag_is ∙ e))) m.own) in
      (sym m.tag_is ∙ b.tag_is, sym m.parts_are ∙ (ap (map (substitute m.choice)) b.fields_are ∙ ap (λ z. list_type z ∷ []) m.is))

  -- what is laid flat, where of one port it is such
  module _ (g : Ground) (ported : is_port_ground g ≡ true) (tags : form g ≡ Tags) (P : Name × Value → Type 0)
      (one : (port : Name) (v : Value) (carried : Ground) → Sends port carried g ⊎ Listens w port carried g → Has w v carried → P (port, v)) where
    abbrev Flat : End Parcels → Type 0
    Flat o = EndsWell (AllByRecursion P) o

    of_port : (tag : Tag) (v u : Value) (parts : List Ground) → OfPort w tag (MoreValue v (MoreValue u NoValue)) parts g → HasEach w (MoreValue v (MoreValue u NoValue)) parts
        → Flat (flat (TagV tag (MoreValue v (MoreValue u NoValue))))
    of_port tag v u parts m h =
        let e : MoreValue v (MoreValue u NoValue) ≡ MoreValue (TextV m.port) m.rest = m.begins in
        let v_is : v ≡ TextV m.port = cc in
        let k : HasEach w (MoreValue v (MoreValue u NoValue)) (string_type ∷ m.carried ∷ []) = subst (HasEach w (MoreValue v (MoreValue u NoValue))) m.parts_are h in
        subst (λ z. Flat (flat (TagV z (MoreValue v (MoreValue u NoValue))))) (sym m.tag_is)
        (subst (λ z. Flat (flat (TagV (Number (pos 0)) (MoreValue z (MoreValue u NoValue))))) (sym v_is) (one m.port u m.carried m.carries k.1.0, tt))

    -- nothing but what has a tag is of these types
    abbrev NoTag : Value → Ground → Type 0
    NoTag v t = Has w v t → form t ≡ Tags → ⊥

    int_no : (n : ℤ) (t : Ground) → NoTag (IntV n) t
    int_no n t h e = (let z : Tags ≡ Ints = sym e ∙ value_form w sound (IntV n) t h in cc)

    text_no : (us : List ℕ) (t : Ground) → NoTag (TextV us) t
    text_no us t h e = (let z : Tags ≡ Texts = sym e ∙ value_form w sound (TextV us) t h in cc)

    record_no : (fs : FieldValues) (t : Ground) → NoTag (RecordV fs) t
    record_no fs t h e = (let z : Tags ≡ Records = sym e ∙ value_form w sound (RecordV fs) t h in cc)

    closure_no : (env : Env) (qs : Patterns) (b : Expr) (t : Ground) → NoTag (CloV env qs b) t
    closure_no env qs b t h e = (let z : Tags ≡ Calls = sym e ∙ value_form w sound (CloV env qs b) t h in cc)

    known_no : (k : Bodiless) (vs : Values) (t : Ground) → NoTag (KnownV k vs) t
    known_no k vs t h e = (let z : Tags ≡ Calls = sym e ∙ value_form w sound (KnownV k vs) t h in cc)

    wire_no : (x : Wire) (t : Ground) → NoTag (WireV x) t
    wire_no x t h e = (let z : Tags ≡ Calls = sym e ∙ value_form w sound (WireV x) t h in cc)

    batch_has : (tag : Tag) (vs : Values) (parts : List Ground) → MadeBy w tag vs parts g → HasEach w vs parts → HasEach w vs (list_type g ∷ [])
    batch_has tag vs parts m h = subst (HasEach w vs) (batch_parts tag vs parts g ported m).1 h

    list_has : (tag : Tag) (vs : Values) → Has w (TagV tag vs) (list_type g) → ((tag ≡ Number (pos 0)) × HasEach w vs []) ⊎ ((tag ≡ Number (pos 1)) × HasEach w vs (g ∷ list_type g ∷ []))
    list_has tag vs h = elim (list_made w sound tag vs h.0 g (plain_made w sound tag vs h.0 (list_type g) refl h.1)) [
      | inl n ↦ inl (n.0, subst (HasEach w vs) n.1 h.2)
      | inr c ↦ inr (c.0, subst (HasEach w vs) c.1 h.2)
    ]

    mutual
      pub flat_good : (v : Value) → Has w v g → Flat (flat v)
      flat_good (IntV n) h = absurd (int_no n g h tags)
      flat_good (TextV us) h = absurd (text_no us g h tags)
      flat_good (RecordV fs) h = absurd (record_no fs g h tags)
      flat_good (CloV env qs e) h = absurd (closure_no env qs e g h tags)
      flat_good (KnownV f vs) h = absurd (known_no f vs g h tags)
      flat_good (WireV x) h = absurd (wire_no x g h tags)
      flat_good (TagV tag NoValue) h = elim h.1 [
        | inl m ↦ absurd (batch_has tag NoValue h.0 m h.2)
        | inr m ↦ absurd (subst (HasEach w NoValue) m.parts_are h.2)
      ]
      flat_good (TagV tag (MoreValue list NoValue)) h = elim h.1 [
        | inl m ↦ subst (λ z. Flat (flat (TagV z (MoreValue list NoValue)))) (sym (batch_parts tag (MoreValue list NoValue) h.0 g ported m).0)
            (all_good list (batch_has tag (MoreValue list NoValue) h.0 m h.2).0)
        | inr m ↦ absurd (subst (HasEach w (MoreValue list NoValue)) m.parts_are h.2).1
      ]
      flat_good (TagV tag (MoreValue v (MoreValue u NoValue))) h = elim h.1 [
        | inl m ↦ absurd (batch_has tag (MoreValue v (MoreValue u NoValue)) h.0 m h.2).1
        | inr m ↦ of_port tag v u h.0 m h.2
      ]
      flat_good (TagV tag (MoreValue v (MoreValue u (MoreValue x xs)))) h = elim h.1 [
        | inl m ↦ absurd (batch_has tag (MoreValue v (MoreValue u (MoreValue x xs))) h.0 m h.2).1
        | inr m ↦ absurd (subst (HasEach w (MoreValue v (MoreValue u (MoreValue x xs)))) m.parts_are h.2).1.1
      ]

      all_good : (v : Value) → Has w v (list_type g) → Flat (flat_all v)
      all_good (IntV n) h = absurd (int_no n (list_type g) h refl)
      all_good (TextV us) h = absurd (text_no us (list_type g) h refl)
      all_good (RecordV fs) h = absurd (record_no fs (list_type g) h refl)
      all_good (CloV env qs e) h = absurd (closure_no env qs e (list_type g) h refl)
      all_good (KnownV f vs) h = absurd (known_no f vs (list_type g) h refl)
      all_good (WireV x) h = absurd (wire_no x (list_type g) h refl)
      all_good (TagV tag NoValue) h = elim (list_has tag NoValue h) [
        | inl n ↦ subst (λ z. Flat (flat_all (TagV z NoValue))) (sym n.0) tt
        | inr c ↦ absurd c.1
      ]
      all_good (TagV tag (MoreValue v NoValue)) h = elim (list_has tag (MoreValue v NoValue) h) [ inl n ↦ absurd n.1 | inr c ↦ absurd c.1.1 ]
      all_good (TagV tag (MoreValue v (MoreValue rest NoValue))) h = elim (list_has tag (MoreValue v (MoreValue rest NoValue)) h) [
        | inl n ↦ absurd n.1
        | inr c ↦ subst (λ z. Flat (flat_all (TagV z (MoreValue v (MoreValue rest NoValue))))) (sym c.0)
            (then_well (AllByRecursion P) (AllByRecursion P) (flat v) (λ ps. then_do (flat_all rest) (λ qs. Val (ps ++ qs))) (flat_good v c.1.0)
            (λ ps all. then_well (AllByRecursion P) (AllByRecursion P) (flat_all rest) (λ qs. Val (ps ++ qs)) (all_good rest c.1.1.0) (λ qs more. all_append P ps qs all more)))
      ]
      all_good (TagV tag (MoreValue v (MoreValue u (MoreValue x xs)))) h = elim (list_has tag (MoreValue v (MoreValue u (MoreValue x xs))) h) [ inl n ↦ absurd n.1 | inr c ↦ absurd c.1.1.1 ]

  -- ---- commands

  -- what goes out, on a port of the program
  abbrev pub Sent : List Name → Name × Value → Type 0
  Sent outs p = (x : Wire) × (p.1 ≡ WireV x) × (list_any (λ other. bytes_eq p.0 other) outs ≡ true)

  -- what goes out at a port is a wire value
  sent_wire : (port : Name) (v : Value) → Has w v (sent_type port) → (x : Wire) × (v ≡ WireV x) × (t : Payload) × (w.outs port ≡ Some t)
  sent_wire port (WireV x) h =
      let e : sent_type h.port ≡ sent_type port = h.is in
      let p : h.port ≡ port = cc in
      (x, refl, h.payload, subst (λ z. w.outs z ≡ Some h.payload) p h.out)
  sent_wire port (CloV env qs b) h = (let c = call_type w sound qs h.parameters h.result h.frame h.scope.known h.here h.patterns_at h.first (sent_type port) h.some h.patterns h.is in no_sent_call w sound port c.0 c.1 (sent_type port) c.2 refl)
  sent_wire port (KnownV f vs) h = no_sent_call w sound port h.1.next (functions h.1.later h.1.result) (sent_type port) h.1.is refl
  sent_wire port (IntV n) h = absurd (let z : Calls ≡ Ints = value_form w sound (IntV n) (sent_type port) h in cc)
  sent_wire port (TextV us) h = absurd (let z : Calls ≡ Texts = value_form w sound (TextV us) (sent_type port) h in cc)
  sent_wire port (TagV tag vs) h = absurd (let z : Calls ≡ Tags = value_form w sound (TagV tag vs) (sent_type port) h in cc)
  sent_wire port (RecordV fs) h = absurd (let z : Calls ≡ Records = value_form w sound (RecordV fs) (sent_type port) h in cc)

  pub sends_good : (outs : List Name) → ((port : Name) (t : Payload) → w.outs port ≡ Some t → list_any (λ other. bytes_eq port other) outs ≡ true) → (message : Ground) (v : Value)
      → Has w v (cmd_type message) → EndsWell (AllByRecursion (Sent outs)) (flat v)
  sends_good outs all message v h = flat_good (cmd_type message) refl refl (Sent outs) (λ port u carried c k. go port u carried c k) v h
    where
      go : (port : Name) (u : Value) (carried : Ground) → Sends port carried (cmd_type message) ⊎ Listens w port carried (cmd_type message) → Has w u carried → Sent outs (port, u)
      go port u carried (inl s) k = (let r = sent_wire port u (subst (λ z. Has w u z) s.carried_is k) in (r.0, r.1, all port r.2 r.3))
      go port u carried (inr l) k = unlike message l.message (sym l.is)

  pub sent_good : (outs : List Name) (ps : Parcels) → AllByRecursion (Sent outs) ps → EndsWell (λ _. Unit {0}) (sends_of outs ps)
  sent_good outs [] all = tt
  sent_good outs (p ∷ ps) all =
      subst (λ z. EndsWell (λ _. Unit {0}) (sends_of outs ((p.0, z) ∷ ps))) (sym all.0.1)
      (subst (λ b. EndsWell (λ _. Unit {0}) (if b then then_do (sends_of outs ps) (λ ws. Val ((p.0, all.0.0) ∷ ws)) else Stuck)) (sym all.0.2)
      (then_well (λ _. Unit {0}) (λ _. Unit {0}) (sends_of outs ps) (λ ws. Val ((p.0, all.0.0) ∷ ws)) (sent_good outs ps all.1) (λ ws _. tt)))

  -- ---- subscriptions

  abbrev pub Listening : Ground → Name × Value → Type 0
  Listening message p = (t : Payload) × (w.ins p.0 ≡ Some t) × Has w p.1 (function (payload_type t) message)

  pub listens_good : (message : Ground) (v : Value) → Has w v (sub_type message) → EndsWell (AllByRecursion (Listening message)) (flat v)
  listens_good message v h = flat_good (sub_type message) refl refl (Listening message) (λ port u carried c k. go port u carried c k) v h
    where
      go : (port : Name) (u : Value) (carried : Ground) → Sends port carried (sub_type message) ⊎ Listens w port carried (sub_type message) → Has w u carried → Listening message (port, u)
      go port u carried (inl s) k = unlike s.message message s.is
      go port u carried (inr l) k =
          let e : sub_type l.message ≡ sub_type message = l.is in
          let same : l.message ≡ message = cc in
          (l.payload, l.in_, subst (λ z. Has w u (function (payload_type l.payload) z)) same (subst (λ z. Has w u z) l.carried_is k))

  -- of one port
  pub hearers_good : (port : Name) (t : Payload) (message : Ground) (ps : Parcels) → w.ins port ≡ Some t → AllByRecursion (Listening message) ps
      → AllByRecursion (λ f. Has w f (function (payload_type t) message)) (hearers port ps)
  hearers_good port t message [] is all = tt
  hearers_good port t message (p ∷ ps) is all = go (bytes_eq p.0 port) refl (hearers_good port t message ps is all.1)
    where
      go : (b : Bool) → bytes_eq p.0 port ≡ b → AllByRecursion (λ f. Has w f (function (payload_type t) message)) (hearers port ps)
          → AllByRecursion (λ f. Has w f (function (payload_type t) message)) (if b then p.1 ∷ hearers port ps else hearers port ps)
      go false e rest = rest
      go true e rest =
          let q : p.0 ≡ port = (bytes_eq-Decides p.0 port).0 e in
          let z : Some all.0.0 ≡ Some t = sym (subst (λ n. w.ins n ≡ Some all.0.0) q all.0.1) ∙ is in
          let same : all.0.0 ≡ t = cc in
          (subst (λ u. Has w p.1 (function (payload_type u) message)) same all.0.2, rest)
