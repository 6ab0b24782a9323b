-- What goes out at ports: wire values of one payload are compared, and what ports make has its types from the port.
use Rattle.std.proofs.Common.{◌≡◌, ℕ, map, List, [], ◌∷◌, pos, Bool, true, false, Option, Some, ◌⊎◌, inl, inr, refl, sym, ap, ◌∙◌, subst}
use Rattle.std.specs.Prelude.{◌||◌, ◌&&◌, if◌then◌else◌, codes}
use Rattle.std.specs.Str.{bytes_eq}
use Rattle.std.proofs.lemmas.Slice.Eq.{bytes_eq-Decides}
use Rattle.wire_value.specs.Wire as wire
use Rattle.wire_value.specs.Wire.{Wire, Wires, Members}
use Rattle.runs.specs.Ends.{End, Val, Crashed, OutOfFuel, Unsafe, Stuck, then_do}
use Rattle.runs.specs.Texts.{units_lt}
use Rattle.runs.specs.Members.{put_wire}
use Rattle.elm_canon.specs.Names.{Name, same_name}
use Rattle.elm_canon.specs.declared.unions.Tag.TheVariants.{Number}
use Rattle.elm_canon.specs.Tree.{Payload, IntPayload, BoolPayload, TextPayload, MaybePayload, ListPayload, TuplePayload}
use Rattle.elm_canon.specs.Tree.{RecordPayload, Payloads, NoPayload, MorePayload, PayloadFields, NoPayloadField}
use Rattle.elm_canon.specs.Tree.{MorePayloadField, Patterns, NoPattern, MorePattern}
use Rattle.elm_canon.specs.Proper.{has_parameter}
use Rattle.elm_meaning.specs.Values.{Value, IntV, TextV, TagV, RecordV, CloV, KnownV, WireV}
use Rattle.elm_meaning.specs.Seen.{see}
use Rattle.elm_meaning.specs.Equal.{equal, same_wire, same_wires, same_members, member_names, same_names}
use Rattle.elm_base.specs.declared.position.Pos.{Pos}
use Rattle.elm_type.specs.Types.{ElmTypes, Made, Rigid, function, functions}
use Rattle.elm_type.specs.Classes.{Ground, meets}
use Rattle.elm_type.specs.declared.class.Class.TheVariants.{Comparable}
use Rattle.elm_type.specs.declared.head.Head.TheVariants as head
use Rattle.type_items.specs.Items.{Place, Wanted}
use Rattle.type_items.specs.Scopes.{Known}
use Rattle.type_items.specs.Patterns.{patterns_items}
use Rattle.type_items.specs.Solutions.{Solves}
use Rattle.typed_values.specs.Payloads.{payload_type, cmd_type, sub_type, IsWire, AllWires, AreWires, AreMembers}
use Rattle.typed_values.specs.Frames.{Frame, of}
use Rattle.typed_values.specs.World.{World, Constructor, Among, IsSound, is_ported, IsCarrier, IsBatch, sent_type, Sends, Listens}
use Rattle.typed_values.specs.Typed.{EndsWell, Has}
use Rattle.typed_values.proofs.Names.{yes_or_no, not_both}
use Rattle.typed_values.proofs.Keeping.{and_left, and_right, and_both}
use Rattle.typed_values.proofs.Patterns.{no_nonsense}
use Rattle.typed_values.proofs.Forms.{Ints, Texts, Tags, Records, Calls, value_form}

-- the end is not Stuck
abbrev Safe : {X : Type 0} → End X → Type 0
Safe end = EndsWell (λ _. Unit {0}) end

-- ---- wire values of one payload

abbrev Compared : Wire → Wire → Type 0
Compared v w = Safe (same_wire v w)

null_first : (w : Wire) → Compared wire.null w
null_first wire.null = tt
null_first (wire.bool b) = tt
null_first (wire.int n) = tt
null_first (wire.text t) = tt
null_first (wire.list ws) = tt
null_first (wire.object ms) = tt

null_second : (v : Wire) → Compared v wire.null
null_second wire.null = tt
null_second (wire.bool b) = tt
null_second (wire.int n) = tt
null_second (wire.text t) = tt
null_second (wire.list ws) = tt
null_second (wire.object ms) = tt

and_then_safe : (o p : End Bool) → Safe o → Safe p → Safe (then_do o (λ same. if same then p else Val false))
and_then_safe (Val true) p h k = k
and_then_safe (Val false) p h k = tt
and_then_safe (Crashed t) p h k = tt
and_then_safe OutOfFuel p h k = tt
and_then_safe Unsafe p h k = tt
and_then_safe Stuck p h k = absurd h

each_compared : (P : Wire → Type 0) → ((v w : Wire) → P v → P w → Compared v w) → (ws xs : Wires) → AllWires P ws → AllWires P xs → Safe (same_wires ws xs)
each_compared P one wire.no_wire wire.no_wire h k = tt
each_compared P one wire.no_wire (wire.more_wires x xs) h k = tt
each_compared P one (wire.more_wires w ws) wire.no_wire h k = tt
each_compared P one (wire.more_wires w ws) (wire.more_wires x xs) h k =
    and_then_safe (same_wire w x) (same_wires ws xs) (one w x h.0 k.0) (each_compared P one ws xs h.1 k.1)

-- members of the same names, which can be compared one by one
abbrev Paired : Members → Members → Type 0
Paired wire.no_member wire.no_member = Unit {0}
Paired wire.no_member (wire.more_members j x ns) = ⊥
Paired (wire.more_members i w ms) wire.no_member = ⊥
Paired (wire.more_members i w ms) (wire.more_members j x ns) = (i ≡ j) × Compared w x × Paired ms ns

paired_put : (k : Name) (v w : Wire) (ms ns : Members) → Paired ms ns → Compared v w → Paired (put_wire k v ms) (put_wire k w ns)
paired_put k v w wire.no_member wire.no_member h c = (refl, c, tt)
paired_put k v w wire.no_member (wire.more_members j y ns) h c = absurd h
paired_put k v w (wire.more_members i x ms) wire.no_member h c = absurd h
paired_put k v w (wire.more_members i x ms) (wire.more_members j y ns) h c =
    subst (λ z. Paired (put_wire k v (wire.more_members i x ms)) (put_wire k w (wire.more_members z y ns))) h.0 (go (units_lt i k) (paired_put k v w ms ns h.2 c))
  where
    go : (b : Bool) → Paired (put_wire k v ms) (put_wire k w ns)
        → Paired (if b then wire.more_members i x (put_wire k v ms) else wire.more_members k v (wire.more_members i x ms))
        (if b then wire.more_members i y (put_wire k w ns) else wire.more_members k w (wire.more_members i y ns))
    go true again = (refl, h.1, again)
    go false again = (refl, c, (refl, h.1, h.2))

paired_names : (ms ns : Members) → Paired ms ns → same_names (member_names ms) (member_names ns) ≡ true
paired_names wire.no_member wire.no_member h = refl
paired_names wire.no_member (wire.more_members j y ns) h = absurd h
paired_names (wire.more_members i x ms) wire.no_member h = absurd h
paired_names (wire.more_members i x ms) (wire.more_members j y ns) h =
    and_both (same_name i j) (same_names (member_names ms) (member_names ns)) ((bytes_eq-Decides i j).1 h.0) (paired_names ms ns h.2)

paired_safe : (ms ns : Members) → Paired ms ns → Safe (same_members ms ns)
paired_safe wire.no_member wire.no_member h = tt
paired_safe wire.no_member (wire.more_members j y ns) h = absurd h
paired_safe (wire.more_members i x ms) wire.no_member h = absurd h
paired_safe (wire.more_members i x ms) (wire.more_members j y ns) h = and_then_safe (same_wire x y) (same_members ms ns) h.1 (paired_safe ms ns h.2)

objects_safe : (ms ns : Members) → Paired ms ns → Compared (wire.object ms) (wire.object ns)
objects_safe ms ns h =
    subst (λ b. Safe (if b then same_members ms ns else Stuck)) (sym (paired_names ms ns h)) (paired_safe ms ns h)

two : (v w x y : Wire) → v ≡ x → w ≡ y → Compared x y → Compared v w
two v w x y e f h = subst (λ z. Compared z w) (sym e) (subst (λ z. Compared x z) (sym f) h)

mutual
  pub compared : (t : Payload) (v w : Wire) → IsWire t v → IsWire t w → Compared v w
  compared IntPayload v w h k = two v w (wire.int h.0) (wire.int k.0) h.1 k.1 tt
  compared BoolPayload v w h k = two v w (wire.bool h.0) (wire.bool k.0) h.1 k.1 tt
  compared TextPayload v w h k = two v w (wire.text h.0) (wire.text k.0) h.1 k.1 tt
  compared (MaybePayload t) v w (inl e) k = subst (λ z. Compared z w) (sym e) (null_first w)
  compared (MaybePayload t) v w (inr h) (inl f) = subst (λ z. Compared v z) (sym f) (null_second v)
  compared (MaybePayload t) v w (inr h) (inr k) = compared t v w h k
  compared (ListPayload t) v w h k =
      two v w (wire.list h.0) (wire.list k.0) h.1 k.1 (each_compared (λ x. IsWire t x) (λ x y. compared t x y) h.0 k.0 h.2 k.2)
  compared (TuplePayload NoPayload) v w h k = two v w wire.null wire.null h k tt
  compared (TuplePayload (MorePayload t ts)) v w h k =
      two v w (wire.list h.0) (wire.list k.0) h.1 k.1 (all_compared (MorePayload t ts) h.0 k.0 h.2 k.2)
  compared (RecordPayload fs) v w h k =
      two v w (wire.object h.0) (wire.object k.0) h.1 k.1 (objects_safe h.0 k.0 (members_compared fs h.0 k.0 h.2 k.2))

  all_compared : (ts : Payloads) (ws xs : Wires) → AreWires ts ws → AreWires ts xs → Safe (same_wires ws xs)
  all_compared NoPayload ws xs h k =
      subst (λ z. Safe (same_wires z xs)) (sym h) (subst (λ z. Safe (same_wires wire.no_wire z)) (sym k) tt)
  all_compared (MorePayload t ts) ws xs h k =
      subst (λ z. Safe (same_wires z xs)) (sym h.2) (subst (λ z. Safe (same_wires (wire.more_wires h.0 h.1) z)) (sym k.2)
      (and_then_safe (same_wire h.0 k.0) (same_wires h.1 k.1) (compared t h.0 k.0 h.3 k.3) (all_compared ts h.1 k.1 h.4 k.4)))

  members_compared : (fs : PayloadFields) (ms ns : Members) → AreMembers fs ms → AreMembers fs ns → Paired ms ns
  members_compared NoPayloadField ms ns h k = subst (λ z. Paired z ns) (sym h) (subst (λ z. Paired wire.no_member z) (sym k) tt)
  members_compared (MorePayloadField j t fs) ms ns h k =
      subst (λ z. Paired z ns) (sym h.2) (subst (λ z. Paired (put_wire j h.0 h.1) z) (sym k.2)
      (paired_put j h.0 k.0 h.1 k.1 (members_compared fs h.1 k.1 h.4 k.4) (compared t h.0 k.0 h.3 k.3)))

-- ---- commands and subscriptions

-- the names are those of commands, or those of subscriptions
pub ported_names : (m x : Name) → is_ported m x ≡ true
    → ((m ≡ codes "Platform.Cmd") × (x ≡ codes "Cmd")) ⊎ ((m ≡ codes "Platform.Sub") × (x ≡ codes "Sub"))
ported_names m x e = elim (yes_or_no (bytes_eq m (codes "Platform.Cmd") && bytes_eq x (codes "Cmd"))) [
  | inl y ↦ inl (both m (codes "Platform.Cmd") x (codes "Cmd") y)
  | inr n ↦ inr (both m (codes "Platform.Sub") x (codes "Sub")
      (sym (ap (λ b. b || (bytes_eq m (codes "Platform.Sub") && bytes_eq x (codes "Sub"))) n) ∙ e))
]
  where
    both : (m n x y : Name) → (bytes_eq m n && bytes_eq x y) ≡ true → (m ≡ n) × (x ≡ y)
    both m n x y e = (
      (bytes_eq-Decides m n).0 (and_left (bytes_eq m n) (bytes_eq x y) e),
      (bytes_eq-Decides x y).0 (and_right (bytes_eq m n) (bytes_eq x y) e),
    )

pub ported_order : (m x : Name) (ts : ElmTypes Rigid) → is_ported m x ≡ true → meets Comparable (Made (head.Named m x) ts) ≡ false
ported_order m x ts e = elim (ported_names m x e) [
  | inl p ↦ ap (λ z. meets Comparable (Made (head.Named z x) ts)) p.0 ∙ ap (λ z. meets Comparable (Made (head.Named (codes "Platform.Cmd") z) ts)) p.1
  | inr p ↦ ap (λ z. meets Comparable (Made (head.Named z x) ts)) p.0 ∙ ap (λ z. meets Comparable (Made (head.Named (codes "Platform.Sub") z) ts)) p.1
]

-- a command is no subscription
abbrev is_command : Ground → Bool
is_command (Made (head.Named m x) ts) = bytes_eq m (codes "Platform.Cmd")
is_command _ = false

pub unlike : {X : Type 0} (x y : Ground) → cmd_type x ≡ sub_type y → X
unlike x y z = not_both true refl (ap is_command z)

module _ (w : World) (sound : IsSound w) where
  -- what is not made by ports is a batch
  pub ported_made : (m x : Name) (c : Constructor) → is_ported m x ≡ true → Among c (w.unions m x) → (c.alternative.tag ≡ Number (pos 0) → ⊥) → IsBatch m x c
  ported_made m x c e among none = elim (ported_names m x e) [
    | inl p ↦ go (codes "Platform.Cmd") (codes "Cmd") p.0 p.1 (sound.commands).others
    | inr p ↦ go (codes "Platform.Sub") (codes "Sub") p.0 p.1 (sound.subscriptions).others
  ]
    where
      go : (n y : Name) → m ≡ n → x ≡ y → ((d : Constructor) → Among d (w.unions n y) → IsCarrier d ⊎ IsBatch n y d) → IsBatch m x c
      go n y p q others = elim (others c (subst (λ z. Among c (w.unions n z)) q (subst (λ z. Among c (w.unions z x)) p among))) [
        | inl k ↦ absurd (none k.tag_is)
        | inr b ↦ subst (λ z. IsBatch m z c) (sym q) (subst (λ z. IsBatch z y c) (sym p) b)
      ]

  one_out : {X : Type 0} (o : Option X) (a b : X) → o ≡ Some a → o ≡ Some b → a ≡ b
  one_out o a b e f = (let z : Some a ≡ Some b = sym e ∙ f in cc)

  pub carried_same : (p q : Name) (a b g : Ground) → p ≡ q → Sends p a g ⊎ Listens w p a g → Sends q b g ⊎ Listens w q b g → a ≡ b
  carried_same p q a b g e (inl s) (inl t) = s.carried_is ∙ (ap sent_type e ∙ sym t.carried_is)
  carried_same p q a b g e (inl s) (inr t) = unlike s.message t.message (s.is ∙ sym t.is)
  carried_same p q a b g e (inr s) (inl t) = unlike t.message s.message (t.is ∙ sym s.is)
  carried_same p q a b g e (inr s) (inr t) =
      let one : s.payload ≡ t.payload = one_out (w.ins q) s.payload t.payload (subst (λ z. w.ins z ≡ Some s.payload) e s.in_) t.in_ in
      let f : sub_type s.message ≡ sub_type t.message = s.is ∙ sym t.is in
      let two : s.message ≡ t.message = cc in
      s.carried_is ∙ (ap (λ z. function (payload_type z) s.message) one ∙ (ap (λ z. function (payload_type t.payload) z) two ∙ sym t.carried_is))

  -- what is called has the type of a function
  pub call_type : (qs : Patterns) (ts : List Wanted) (r : Wanted) (f : Frame) (known : Known) (here : Pos) (p : Place) (i : ℕ) (g : Ground) → has_parameter qs ≡ true
      → Solves f.values (patterns_items qs known here p i ts) → functions (map (of f) ts) (of f r) ≡ g → (a : Ground) × (b : Ground) × (function a b ≡ g)
  call_type NoPattern ts r f known here p i g some sol is = not_both false some refl
  call_type (MorePattern q qs) [] r f known here p i g some sol is = no_nonsense f here sol
  call_type (MorePattern q qs) (t ∷ ts) r f known here p i g some sol is = (of f t, functions (map (of f) ts) (of f r), is)

  pub no_sent_call : {X : Type 0} (port : Name) (a b g : Ground) → function a b ≡ g → sent_type port ≡ g → X
  no_sent_call port a b g e f = absurd (let z : function a b ≡ sent_type port = e ∙ sym f in cc)

  -- what goes out at one port is compared
  pub sent_equal : (v : Wire) (u : Value) (g : Ground) → Has w (WireV v) g → Has w u g → Safe (equal (see (WireV v)) (see u))
  sent_equal v (WireV x) g h k =
      let e : sent_type h.port ≡ sent_type k.port = h.is ∙ sym k.is in
      let ports : h.port ≡ k.port = cc in
      let same : h.payload ≡ k.payload = one_out (w.outs k.port) h.payload k.payload (subst (λ z. w.outs z ≡ Some h.payload) ports h.out) k.out in
      compared k.payload v x (subst (λ z. IsWire z v) same h.wire_is) k.wire_is
  sent_equal v (CloV env qs e) g h k =
      let c = call_type qs k.parameters k.result k.frame k.scope.known k.here k.patterns_at k.first g k.some k.patterns k.is in
      no_sent_call h.port c.0 c.1 g c.2 h.is
  sent_equal v (KnownV f vs) g h k = no_sent_call h.port k.1.next (functions k.1.later k.1.result) g k.1.is h.is
  sent_equal v (IntV n) g h k = absurd (let z : Calls ≡ Ints = sym (value_form w sound (WireV v) g h) ∙ value_form w sound (IntV n) g k in cc)
  sent_equal v (TextV us) g h k = absurd (let z : Calls ≡ Texts = sym (value_form w sound (WireV v) g h) ∙ value_form w sound (TextV us) g k in cc)
  sent_equal v (TagV tag vs) g h k = absurd (let z : Calls ≡ Tags = sym (value_form w sound (WireV v) g h) ∙ value_form w sound (TagV tag vs) g k in cc)
  sent_equal v (RecordV fs) g h k = absurd (let z : Calls ≡ Records = sym (value_form w sound (WireV v) g h) ∙ value_form w sound (RecordV fs) g k in cc)
