-- The type at the front of nodes, by its first node; and what it is to a port.
use Rattle.std.proofs.Common.{◌≡◌, ℕ, zero, suc, ◌+◌, ◌-◌, ◌<◌, ◌≤◌, List, [], ◌∷◌, ◌++◌, Option, Some, None}
use Rattle.std.proofs.Common.{option_map, map, length, drop, get_or, append_assoc}
use Rattle.std.specs.Prelude.{IfSome}
use Rattle.std.proofs.Common.{refl, sym, ap, ◌∙◌, arith, Bool, true, false, if◌then◌else◌, codes}
use Rattle.elm_canon.specs.Names.{Name}
use Rattle.elm_canon.specs.Tree.{Payload, Payloads, PayloadFields, NamedType, TupleType, RecordType, TuplePayload}
use Rattle.elm_canon.specs.Tree.{NoPayload, RecordPayload}
use Rattle.elm_canon.specs.Tree.{MaybePayload, ListPayload}
use Rattle.canon_type.specs.Ports.{is_type}
use Rattle.elm_type.specs.Types.{ElmType, ElmTypes, Fields, Closed, Over, Made, Record, NoType, MoreType, Leaf, count}
use Rattle.elm_type.specs.Types.{count_fields}
use Rattle.elm_type.specs.Spelling.{spell, spell_all, spell_fields}
use Rattle.elm_type.specs.declared.head.Head.{Head}
use Rattle.elm_type.specs.declared.node.Node.{Node}
use Rattle.elm_type.specs.declared.node.Leaf as leaf
use Rattle.elm_type.specs.declared.node.Node.TheVariants as node
use Rattle.std.specs.declared.alloc.Global.{Global}
use Rattle.std.specs.declared.vec.Vec.{Vec}
use Rattle.elm_canon.specs.Tree.{annotations_of as plain_annotations}
use Rattle.elm_canon.specs.View.{annotation_view}
use Rattle.elm_canon.specs.declared.tree.Annotation.{Annotation}
use Rattle.elm_canon.specs.declared.tree.Annotation.TheVariants as annotation
use Rattle.elm_canon.proofs.Views.{named_type}
use Rattle.port_payload.specs.Payloads.{payload_within, payloads_within, fields_within, plain_payload, payload_around}
use Rattle.port_payload.specs.Payloads.{payload_of}
use Rattle.port_payload.specs.EntryTypePayloads.{annotation_of, annotations_of, field_types_of}
use Rattle.port_payload.specs.Fronts.{Front, FrontOfAll, FrontOfFields}

pub made_front : (h : Head) (n : ℕ) (ns : List Node) (t : ElmType (Leaf ℕ)) (rest : List Node) →
    node.Made h n ∷ ns ≡ spell t ++ rest →
    (ts : ElmTypes (Leaf ℕ)) × (t ≡ Made h ts) × (ns ≡ spell_all ts ++ rest) × (count ts ≡ n)
unfolding spell
made_front h n ns (Made g ts) rest e =
    let hs : h ≡ g = cc in
    let ks : n ≡ count ts = cc in
    let tail : ns ≡ spell_all ts ++ rest = cc in
    (ts, ap (λ k. Made k ts) (sym hs), tail, sym ks)
made_front h n ns (Record fs Closed) rest e = absurd cc
made_front h n ns (Record fs (Over x)) rest e = absurd cc

pub record_front : (n : ℕ) (ns : List Node) (t : ElmType (Leaf ℕ)) (rest : List Node) →
    node.Record n ∷ ns ≡ spell t ++ rest →
    (fs : Fields (Leaf ℕ)) × (t ≡ Record fs Closed) × (ns ≡ spell_fields fs ++ rest) × (count_fields fs ≡ n)
unfolding spell
record_front n ns (Made g ts) rest e = absurd cc
record_front n ns (Record fs Closed) rest e =
    let ks : n ≡ count_fields fs = cc in
    let tail : ns ≡ spell_fields fs ++ rest = cc in
    (fs, refl, tail, sym ks)
record_front n ns (Record fs (Over x)) rest e = absurd cc

-- ---- what has no payload

pub no_node : (n : ℕ) (t : ElmType (Leaf ℕ)) (rest : List Node) → [] ≡ spell t ++ rest →
    None ≡ payload_within n (annotation_of t)
unfolding spell
no_node n (Made g ts) rest e = absurd cc
no_node n (Record fs Closed) rest e = absurd cc
no_node n (Record fs (Over x)) rest e = absurd cc

pub field_node : (n : ℕ) (k : Name) (ns : List Node) (t : ElmType (Leaf ℕ)) (rest : List Node) →
    node.Field k ∷ ns ≡ spell t ++ rest → None ≡ payload_within n (annotation_of t)
unfolding spell
field_node n k ns (Made g ts) rest e = absurd cc
field_node n k ns (Record fs Closed) rest e = absurd cc
field_node n k ns (Record fs (Over x)) rest e = absurd cc

-- ---- named types

pub named_none : (n : ℕ) (m x : Name) (ts : ElmTypes (Leaf ℕ)) → count ts ≡ 0 →
    payload_within n (NamedType m x (annotations_of ts)) ≡ plain_payload m x
named_none n m x NoType e = refl
named_none n m x (MoreType t ts) e = absurd (omega arith)

pub named_many : (n : ℕ) (m x : Name) (ts : ElmTypes (Leaf ℕ)) → 1 < count ts →
    payload_within n (NamedType m x (annotations_of ts)) ≡ None
named_many n m x NoType e = absurd (omega arith)
named_many n m x (MoreType t NoType) e = absurd (omega arith)
named_many zero m x (MoreType t (MoreType u ts)) e = refl
named_many (suc n) m x (MoreType t (MoreType u ts)) e = refl

pub named_end : (m x : Name) (ts : ElmTypes (Leaf ℕ)) → (count ts ≡ 0 → ⊥) →
    payload_within 0 (NamedType m x (annotations_of ts)) ≡ None
named_end m x NoType e = absurd (e refl)
named_end m x (MoreType t ts) e = refl

pub one_type : (ts : ElmTypes (Leaf ℕ)) → count ts ≡ 1 → (t : ElmType (Leaf ℕ)) × (ts ≡ MoreType t NoType)
one_type NoType e = absurd (omega arith)
one_type (MoreType t NoType) e = (t, refl)
one_type (MoreType t (MoreType u ts)) e = absurd (omega arith)

less : (n : ℕ) → suc n - 1 ≡ n
less n = omega arith

pub named_one : (n : ℕ) (m x : Name) (t : ElmType (Leaf ℕ)) → (n ≡ 0 → ⊥) →
    payload_within n (NamedType m x (annotations_of (MoreType t NoType)))
    ≡ payload_around m x (payload_within (n - 1) (annotation_of t))
named_one zero m x t h = absurd (h refl)
named_one (suc n) m x t h = ap (λ k. payload_around m x (payload_within k (annotation_of t))) (sym (less n))

-- nothing is around what does not cross
pub around_none : (m x : Name) → payload_around m x None ≡ None
around_none m x = by (is_maybe) (is_list)
  where
    is_maybe : Bool
    is_maybe = is_type (codes "Maybe") (codes "Maybe") m x

    is_list : Bool
    is_list = is_type (codes "List") (codes "List") m x

    by : (a b : Bool) → (if a then option_map MaybePayload None else (if b then option_map ListPayload None else
        None)) ≡ None
    by true b = refl
    by false true = refl
    by false false = refl

-- ---- tuples and records

pub tuple_none : (n : ℕ) (ts : ElmTypes (Leaf ℕ)) → count ts ≡ 0 →
    payload_within n (TupleType (annotations_of ts)) ≡ Some (TuplePayload NoPayload)
tuple_none n NoType e = refl
tuple_none n (MoreType t ts) e = absurd (omega arith)

pub tuple_end : (ts : ElmTypes (Leaf ℕ)) → (count ts ≡ 0 → ⊥) → payload_within 0 (TupleType (annotations_of ts)) ≡ None
tuple_end NoType e = absurd (e refl)
tuple_end (MoreType t ts) e = refl

pub tuple_some : (n : ℕ) (ts : ElmTypes (Leaf ℕ)) → (count ts ≡ 0 → ⊥) → (n ≡ 0 → ⊥) →
    payload_within n (TupleType (annotations_of ts)) ≡ option_map TuplePayload (payloads_within (n - 1)
    (annotations_of ts))
tuple_some n NoType e h = absurd (e refl)
tuple_some zero (MoreType t ts) e h = absurd (h refl)
tuple_some (suc n) (MoreType t ts) e h =
    ap (λ k. option_map TuplePayload (payloads_within k (annotations_of (MoreType t ts)))) (sym (less n))

pub record_end : (fs : Fields (Leaf ℕ)) → payload_within 0 (RecordType (field_types_of fs)) ≡ None
record_end fs = refl

pub record_some : (n : ℕ) (fs : Fields (Leaf ℕ)) → (n ≡ 0 → ⊥) →
    payload_within n (RecordType (field_types_of fs)) ≡ option_map RecordPayload (fields_within (n - 1)
    (field_types_of fs))
record_some zero fs h = absurd (h refl)
record_some (suc n) fs h = ap (λ k. option_map RecordPayload (fields_within k (field_types_of fs))) (sym (less n))

-- ---- as an annotation

pub plain_is : (m x : Name) (ts : Vec Annotation Global) → ts.items ≡ [] →
    payload_of (annotation_view (annotation.Named m x ts)) ≡ plain_payload m x
unfolding payload_of
plain_is m x ts e =
    ap (payload_within 100) (named_type m x ts ∙ ap (λ us. NamedType m x (plain_annotations (map annotation_view us)))
    e)

-- ---- nodes at a place

front_suc : (nodes : List Node) (at : ℕ) (x : Node) → at < length nodes → x ≡ get_or nodes at x →
    drop at nodes ≡ x ∷ drop (suc at) nodes
front_suc [] at x l e = absurd (omega arith)
front_suc (n ∷ nodes) zero x l e = ap (λ y. y ∷ nodes) (sym e)
front_suc (n ∷ nodes) (suc at) x l e = front_suc nodes at x (omega arith) e

next_place : (at : ℕ) → suc at ≡ at + 1
next_place at = omega arith

pub front_at : (nodes : List Node) (at : ℕ) (x : Node) → at < length nodes → x ≡ get_or nodes at x →
    drop at nodes ≡ x ∷ drop (at + 1) nodes
front_at nodes at x l e = front_suc nodes at x l e ∙ ap (λ k. x ∷ drop k nodes) (next_place at)

pub front_past : (nodes : List Node) (at : ℕ) → length nodes ≤ at → drop at nodes ≡ []
front_past [] zero l = refl
front_past [] (suc at) l = refl
front_past (n ∷ nodes) zero l = absurd (omega arith)
front_past (n ∷ nodes) (suc at) l = front_past nodes at (omega arith)

-- past the end there is no type
pub past_end : (nodes : List Node) (at levels : ℕ) → length nodes ≤ at → (t : ElmType (Leaf ℕ)) (rest : List Node) →
    Front nodes at t rest →
    None ≡ payload_within levels (annotation_of t)
past_end nodes at levels l t rest f = no_node levels t rest (sym (front_past nodes at l) ∙ f)

pub made_so : (nodes : List Node) (at n levels : ℕ) (h : Head) (x : Node) (p : Option Payload) → at < length nodes →
    x ≡ get_or nodes at x → x ≡ node.Made h n →
    ((ts : ElmTypes (Leaf ℕ)) (rest : List Node) → FrontOfAll nodes (at + 1) n ts rest →
    p ≡ payload_within levels (annotation_of (Made h ts))) →
    (t : ElmType (Leaf ℕ)) (rest : List Node) → Front nodes at t rest → p ≡ payload_within levels (annotation_of t)
made_so nodes at n levels h x p l is made so t rest f =
    let m = made_front h n (drop (at + 1) nodes) t rest (ap (λ y. y ∷ drop (at + 1) nodes) (sym made)
    ∙ sym (front_at nodes at x l is) ∙ f) in
    so m.0 rest (m.2, m.3) ∙ ap (λ u. payload_within levels (annotation_of u)) (sym m.1)

pub made_ends : (nodes : List Node) (at n after : ℕ) (h : Head) (x : Node) → at < length nodes →
    x ≡ get_or nodes at x → x ≡ node.Made h n →
    ((ts : ElmTypes (Leaf ℕ)) (rest : List Node) → FrontOfAll nodes (at + 1) n ts rest → drop after nodes ≡ rest) →
    (t : ElmType (Leaf ℕ)) (rest : List Node) → Front nodes at t rest → drop after nodes ≡ rest
made_ends nodes at n after h x l is made so t rest f =
    let m = made_front h n (drop (at + 1) nodes) t rest (ap (λ y. y ∷ drop (at + 1) nodes) (sym made)
    ∙ sym (front_at nodes at x l is) ∙ f) in
    so m.0 rest (m.2, m.3)

pub record_so : (nodes : List Node) (at n levels : ℕ) (x : Node) (p : Option Payload) → at < length nodes →
    x ≡ get_or nodes at x → x ≡ node.Record n →
    ((fs : Fields (Leaf ℕ)) (rest : List Node) → FrontOfFields nodes (at + 1) n fs rest →
    p ≡ payload_within levels (RecordType (field_types_of fs))) →
    (t : ElmType (Leaf ℕ)) (rest : List Node) → Front nodes at t rest → p ≡ payload_within levels (annotation_of t)
record_so nodes at n levels x p l is made so t rest f =
    let m = record_front n (drop (at + 1) nodes) t rest (ap (λ y. y ∷ drop (at + 1) nodes) (sym made)
    ∙ sym (front_at nodes at x l is) ∙ f) in
    so m.0 rest (m.2, m.3) ∙ ap (λ u. payload_within levels (annotation_of u)) (sym m.1)

pub record_ends : (nodes : List Node) (at n after : ℕ) (x : Node) → at < length nodes → x ≡ get_or nodes at x →
    x ≡ node.Record n →
    ((fs : Fields (Leaf ℕ)) (rest : List Node) → FrontOfFields nodes (at + 1) n fs rest → drop after nodes ≡ rest) →
    (t : ElmType (Leaf ℕ)) (rest : List Node) → Front nodes at t rest → drop after nodes ≡ rest
record_ends nodes at n after x l is made so t rest f =
    let m = record_front n (drop (at + 1) nodes) t rest (ap (λ y. y ∷ drop (at + 1) nodes) (sym made)
    ∙ sym (front_at nodes at x l is) ∙ f) in
    so m.0 rest (m.2, m.3)

open_front : (y : leaf.Leaf) (n levels : ℕ) (ns : List Node) (t : ElmType (Leaf ℕ)) (rest : List Node) →
    node.Open y n ∷ ns ≡ spell t ++ rest →
    None ≡ payload_within levels (annotation_of t)
unfolding spell
open_front y n levels ns (Made g ts) rest e = absurd cc
open_front y n levels ns (Record fs Closed) rest e = absurd cc
open_front y n levels ns (Record fs (Over z)) rest e = refl

pub open_so : (nodes : List Node) (at n levels : ℕ) (y : leaf.Leaf) (x : Node) → at < length nodes →
    x ≡ get_or nodes at x → x ≡ node.Open y n →
    (t : ElmType (Leaf ℕ)) (rest : List Node) → Front nodes at t rest → None ≡ payload_within levels (annotation_of t)
open_so nodes at n levels y x l is made t rest f =
    open_front y n levels (drop (at + 1) nodes) t rest (ap (λ z. z ∷ drop (at + 1) nodes) (sym made)
    ∙ sym (front_at nodes at x l is) ∙ f)

pub field_so : (nodes : List Node) (at levels : ℕ) (k : Name) (x : Node) → at < length nodes → x ≡ get_or nodes at x →
    x ≡ node.Field k →
    (t : ElmType (Leaf ℕ)) (rest : List Node) → Front nodes at t rest → None ≡ payload_within levels (annotation_of t)
field_so nodes at levels k x l is made t rest f =
    field_node levels k (drop (at + 1) nodes) t rest (ap (λ z. z ∷ drop (at + 1) nodes) (sym made)
    ∙ sym (front_at nodes at x l is) ∙ f)

-- ---- named types, tuples and records by the nodes of their parts

pub plain_all : (nodes : List Node) (at count_ levels : ℕ) (m x : Name) (p : Option Payload) → p ≡ plain_payload m x →
    count_ ≡ 0 →
    (ts : ElmTypes (Leaf ℕ)) (rest : List Node) → FrontOfAll nodes at count_ ts rest →
    p ≡ payload_within levels (NamedType m x (annotations_of ts))
plain_all nodes at n levels m x p e z ts rest f = e ∙ sym (named_none levels m x ts (f.1 ∙ z))

pub none_ends : (nodes : List Node) (at n : ℕ) → n ≡ 0 → (ts : ElmTypes (Leaf ℕ)) (rest : List Node) →
    FrontOfAll nodes at n ts rest → drop at nodes ≡ rest
unfolding spell
none_ends nodes at n z NoType rest f = f.0
none_ends nodes at n z (MoreType t ts) rest f = absurd (omega (arith, f.1, z))

pub many_none : (nodes : List Node) (at n levels : ℕ) (m x : Name) → 1 < n →
    (ts : ElmTypes (Leaf ℕ)) (rest : List Node) → FrontOfAll nodes at n ts rest →
    None ≡ payload_within levels (NamedType m x (annotations_of ts))
many_none nodes at n levels m x l ts rest f = sym (named_many levels m x ts (omega (arith, f.1, l)))

pub deep_none : (nodes : List Node) (at n levels : ℕ) (m x : Name) → (n ≡ 0 → ⊥) → levels ≡ 0 →
    (ts : ElmTypes (Leaf ℕ)) (rest : List Node) → FrontOfAll nodes at n ts rest →
    None ≡ payload_within levels (NamedType m x (annotations_of ts))
deep_none nodes at n levels m x h z ts rest f =
    sym (ap (λ k. payload_within k (NamedType m x (annotations_of ts))) z ∙ named_end m x ts (λ e. h (sym f.1 ∙ e)))

one_left : (t : ElmType (Leaf ℕ)) (rest : List Node) → spell_all (MoreType t NoType) ++ rest ≡ spell t ++ rest
unfolding spell
one_left t rest = append_assoc (spell t) [] rest

pub one_front : (nodes : List Node) (at n : ℕ) → n ≡ 1 → (ts : ElmTypes (Leaf ℕ)) (rest : List Node) →
    FrontOfAll nodes at n ts rest →
    (t : ElmType (Leaf ℕ)) × (ts ≡ MoreType t NoType) × Front nodes at t rest
one_front nodes at n e ts rest f =
    let o = one_type ts (f.1 ∙ e) in
    (o.0, o.1, f.0 ∙ ap (λ us. spell_all us ++ rest) o.1 ∙ one_left o.0 rest)

pub around_so : (nodes : List Node) (at n levels : ℕ) (m x : Name) (p q : Option Payload) → n ≡ 1 → (levels ≡ 0 → ⊥) →
    p ≡ payload_around m x q →
    ((t : ElmType (Leaf ℕ)) (rest : List Node) → Front nodes at t rest →
    q ≡ payload_within (levels - 1) (annotation_of t)) →
    (ts : ElmTypes (Leaf ℕ)) (rest : List Node) → FrontOfAll nodes at n ts rest →
    p ≡ payload_within levels (NamedType m x (annotations_of ts))
around_so nodes at n levels m x p q e h is so ts rest f =
    let o = one_front nodes at n e ts rest f in
    is ∙ ap (payload_around m x) (so o.0 rest o.2) ∙ sym (named_one levels m x o.0 h)
    ∙ ap (λ us. payload_within levels (NamedType m x (annotations_of us))) (sym o.1)

pub one_ends : (nodes : List Node) (at n after : ℕ) → n ≡ 1 →
    ((t : ElmType (Leaf ℕ)) (rest : List Node) → Front nodes at t rest → drop after nodes ≡ rest) →
    (ts : ElmTypes (Leaf ℕ)) (rest : List Node) → FrontOfAll nodes at n ts rest → drop after nodes ≡ rest
one_ends nodes at n after e so ts rest f = let o = one_front nodes at n e ts rest f in so o.0 rest o.2

pub unit_so : (nodes : List Node) (at n levels : ℕ) (p : Payload) → p ≡ TuplePayload NoPayload → n ≡ 0 →
    (ts : ElmTypes (Leaf ℕ)) (rest : List Node) →
    FrontOfAll nodes at n ts rest → Some p ≡ payload_within levels (TupleType (annotations_of ts))
unit_so nodes at n levels p e z ts rest f = ap Some e ∙ sym (tuple_none levels ts (f.1 ∙ z))

pub tuple_deep : (nodes : List Node) (at n levels : ℕ) → (n ≡ 0 → ⊥) → levels ≡ 0 →
    (ts : ElmTypes (Leaf ℕ)) (rest : List Node) → FrontOfAll nodes at n ts rest →
    None ≡ payload_within levels (TupleType (annotations_of ts))
tuple_deep nodes at n levels h z ts rest f =
    sym (ap (λ k. payload_within k (TupleType (annotations_of ts))) z ∙ tuple_end ts (λ e. h (sym f.1 ∙ e)))

pub tuple_so : (nodes : List Node) (at n levels : ℕ) (p : Option Payload) (q : Option Payloads) → (n ≡ 0 → ⊥) →
    (levels ≡ 0 → ⊥) → p ≡ option_map TuplePayload q →
    ((ts : ElmTypes (Leaf ℕ)) (rest : List Node) → FrontOfAll nodes at n ts rest →
    q ≡ payloads_within (levels - 1) (annotations_of ts)) →
    (ts : ElmTypes (Leaf ℕ)) (rest : List Node) → FrontOfAll nodes at n ts rest →
    p ≡ payload_within levels (TupleType (annotations_of ts))
tuple_so nodes at n levels p q h g is so ts rest f =
    is ∙ ap (option_map TuplePayload) (so ts rest f) ∙ sym (tuple_some levels ts (λ e. h (sym f.1 ∙ e)) g)

pub record_deep : (nodes : List Node) (at n levels : ℕ) → levels ≡ 0 → (fs : Fields (Leaf ℕ)) (rest : List Node) →
    FrontOfFields nodes at n fs rest →
    None ≡ payload_within levels (RecordType (field_types_of fs))
record_deep nodes at n levels z fs rest f = sym (ap (λ k. payload_within k (RecordType (field_types_of fs))) z
    ∙ record_end fs)

pub fields_so : (nodes : List Node) (at n levels : ℕ) (p : Option Payload) (q : Option PayloadFields) → (levels ≡ 0 →
    ⊥) → p ≡ option_map RecordPayload q →
    ((fs : Fields (Leaf ℕ)) (rest : List Node) → FrontOfFields nodes at n fs rest →
    q ≡ fields_within (levels - 1) (field_types_of fs)) →
    (fs : Fields (Leaf ℕ)) (rest : List Node) → FrontOfFields nodes at n fs rest →
    p ≡ payload_within levels (RecordType (field_types_of fs))
fields_so nodes at n levels p q g is so fs rest f = is ∙ ap (option_map RecordPayload) (so fs rest f)
    ∙ sym (record_some levels fs g)

-- ---- a field's name

pub named_here : (nodes : List Node) (at : ℕ) (x : Node) (k : Name) → at < length nodes → x ≡ get_or nodes at x →
    x ≡ node.Field k →
    (j : Name) (ns : List Node) → drop at nodes ≡ node.Field j ∷ ns → (Some k ≡ Some j) × (drop (at + 1) nodes ≡ ns)
named_here nodes at x k l is made j ns e =
    let h : node.Field k ∷ drop (at + 1) nodes ≡ node.Field j ∷ ns =
    ap (λ y. y ∷ drop (at + 1) nodes) (sym made) ∙ sym (front_at nodes at x l is) ∙ e in
    let s : k ≡ j = cc in
    let r : drop (at + 1) nodes ≡ ns = cc in
    (ap Some s, r)

pub not_named : (nodes : List Node) (at : ℕ) (x : Node) → at < length nodes → x ≡ get_or nodes at x → ((j : Name) →
    x ≡ node.Field j → ⊥) →
    (j : Name) (ns : List Node) → drop at nodes ≡ node.Field j ∷ ns → ⊥
not_named nodes at x l is never j ns e =
    let h : x ∷ drop (at + 1) nodes ≡ node.Field j ∷ ns = sym (front_at nodes at x l is) ∙ e in
    let s : x ≡ node.Field j = cc in
    never j s

pub not_past : (nodes : List Node) (at : ℕ) → length nodes ≤ at → (j : Name) (ns : List Node) →
    drop at nodes ≡ node.Field j ∷ ns → ⊥
not_past nodes at l j ns e = let h : [] ≡ node.Field j ∷ ns = sym (front_past nodes at l) ∙ e in absurd cc

-- ---- options

pub if_some : {X : Type 0} (o : Option X) (x : X) (P : Type 0) → o ≡ Some x → IfSome o (λ _. P) → P
if_some None x P e h = absurd cc
if_some (Some y) x P e h = h

pub for_some : {X : Type 0} (o : Option X) {P : Type 0} → P → IfSome o (λ _. P)
for_some None p = tt
for_some (Some x) p = p

pub some_map : {X : Type 0} (o : Option X) {P Q : Type 0} → (P → Q) → IfSome o (λ _. P) → IfSome o (λ _. Q)
some_map None f h = tt
some_map (Some x) f h = f h
