-- Parts and fields one after the other: what was read so far, and what is left.
use Rattle.std.proofs.Common.{◌≡◌, ℕ, ◌+◌, ◌<◌, List, [], ◌∷◌, ◌++◌, drop, Option, Some, None, option_map}
use Rattle.std.proofs.Common.{refl, sym, ap, ◌∙◌, arith, append_assoc}
use Rattle.elm_canon.specs.Names.{Name}
use Rattle.elm_canon.specs.Tree.{Payload, Payloads, MorePayload, NoPayload, PayloadFields, MorePayloadField}
use Rattle.elm_canon.specs.Tree.{NoPayloadField}
use Rattle.elm_canon.specs.Tree.{payloads_of, payload_fields_of}
use Rattle.elm_type.specs.Types.{ElmType, ElmTypes, Fields, NoType, MoreType, NoField, MoreField, Leaf, count}
use Rattle.elm_type.specs.Types.{count_fields}
use Rattle.elm_type.specs.Spelling.{spell, spell_all, spell_fields}
use Rattle.elm_type.specs.declared.node.Node.{Node}
use Rattle.elm_type.specs.declared.node.Node.TheVariants as node
use Rattle.port_payload.specs.Payloads.{payload_within, payloads_within, fields_within, and_payload, and_field}
use Rattle.port_payload.proofs.Within.{before, before_fields}
use Rattle.port_payload.specs.EntryTypePayloads.{annotation_of, annotations_of, field_types_of}
use Rattle.port_payload.specs.Fronts.{Front, FrontOfAll, FrontOfFields}

before_none : (ps : List Payload) → before ps NoPayload ≡ payloads_of ps
before_none [] = refl
before_none (p ∷ ps) = ap (MorePayload p) (before_none ps)

before_push : (ps : List Payload) (p : Payload) (qs : Payloads) →
    before ps (MorePayload p qs) ≡ before (ps ++ p ∷ []) qs
before_push [] p qs = refl
before_push (q ∷ ps) p qs = ap (MorePayload q) (before_push ps p qs)

-- ---- parts

-- of the parts some are left, from the place `at` on; those before them, i in number, are these payloads
pub record Left (nodes : List Node) (n at i all : ℕ) (ps : List Payload) (ts : ElmTypes (Leaf ℕ)) (rest : List Node) :
    Type 0 where
  pub us : ElmTypes (Leaf ℕ)
  pub front : drop at nodes ≡ spell_all us ++ rest
  pub number : count us + i ≡ all
  pub payloads : payloads_within n (annotations_of ts) ≡ option_map (before ps) (payloads_within n (annotations_of us))

abbrev pub AllLeft : List Node → ℕ → ℕ → ℕ → ℕ → ℕ → List Payload → Type 0
AllLeft nodes n start at i all ps = (ts : ElmTypes (Leaf ℕ)) (rest : List Node) → FrontOfAll nodes start all ts rest →
    Left nodes n at i all ps ts rest

some_before : (o : Option Payloads) → o ≡ option_map (before []) o
some_before None = refl
some_before (Some qs) = refl

pub parts_begin : (nodes : List Node) (n start all : ℕ) → AllLeft nodes n start start 0 all []
parts_begin nodes n start all ts rest f = record {
  us = ts;
  front = f.0;
  number = omega (arith, f.1);
  payloads = some_before (payloads_within n (annotations_of ts));
}

pub part_next : (nodes : List Node) (n start at after i all : ℕ) (ps : List Payload) (p : Payload) →
    AllLeft nodes n start at i all ps → i < all →
    ((t : ElmType (Leaf ℕ)) (rest : List Node) → Front nodes at t rest → Some p ≡ payload_within n (annotation_of t)) →
    ((t : ElmType (Leaf ℕ)) (rest : List Node) → Front nodes at t rest → drop after nodes ≡ rest) →
    AllLeft nodes n start after (i + 1) all (ps ++ p ∷ [])
unfolding spell
part_next nodes n start at after i all ps p left less is end ts rest f = go (left ts rest f)
  where
    go : Left nodes n at i all ps ts rest → Left nodes n after (i + 1) all (ps ++ p ∷ []) ts rest
    go l = by l.us l.front l.number l.payloads
      where
        by : (us : ElmTypes (Leaf ℕ)) → drop at nodes ≡ spell_all us ++ rest → count us + i ≡ all →
            payloads_within n (annotations_of ts) ≡ option_map (before ps) (payloads_within n (annotations_of us)) →
            Left nodes n after (i + 1) all (ps ++ p ∷ []) ts rest
        by NoType front number payloads = absurd (omega (arith, number, less))
        by (MoreType t us) front number payloads = record {
          us = us;
          front = end t (spell_all us ++ rest) there;
          number = omega (arith, number);
          payloads = payloads ∙ ap (λ o. option_map (before ps) (and_payload o (payloads_within n (annotations_of
              us)))) (sym (is t (spell_all us ++ rest) there))
              ∙ pushed (payloads_within n (annotations_of us));
        }
          where
            there : drop at nodes ≡ spell t ++ (spell_all us ++ rest)
            there = front ∙ append_assoc (spell t) (spell_all us) rest

            pushed : (o : Option Payloads) → option_map (before ps) (option_map (MorePayload p) o) ≡ option_map
                (before (ps ++ p ∷ [])) o
            pushed None = refl
            pushed (Some qs) = ap Some (before_push ps p qs)

pub part_stops : (nodes : List Node) (n start at i all : ℕ) (ps : List Payload) → AllLeft nodes n start at i all ps →
    i < all →
    ((t : ElmType (Leaf ℕ)) (rest : List Node) → Front nodes at t rest → None ≡ payload_within n (annotation_of t)) →
    (ts : ElmTypes (Leaf ℕ)) (rest : List Node) → FrontOfAll nodes start all ts rest →
    None ≡ payloads_within n (annotations_of ts)
unfolding spell
part_stops nodes n start at i all ps left less is ts rest f = go (left ts rest f)
  where
    go : Left nodes n at i all ps ts rest → None ≡ payloads_within n (annotations_of ts)
    go l = by l.us l.front l.number l.payloads
      where
        by : (us : ElmTypes (Leaf ℕ)) → drop at nodes ≡ spell_all us ++ rest → count us + i ≡ all →
            payloads_within n (annotations_of ts) ≡ option_map (before ps) (payloads_within n (annotations_of us)) →
            None ≡ payloads_within n (annotations_of ts)
        by NoType front number payloads = absurd (omega (arith, number, less))
        by (MoreType t us) front number payloads =
            sym (payloads ∙ ap (λ o. option_map (before ps) (and_payload o (payloads_within n (annotations_of us))))
            (sym (is t (spell_all us ++ rest) (front ∙ append_assoc (spell t) (spell_all us) rest))))

pub parts_end : (nodes : List Node) (n start at i all : ℕ) (ps : List Payload) → AllLeft nodes n start at i all ps →
    all ≡ i →
    (ts : ElmTypes (Leaf ℕ)) (rest : List Node) → FrontOfAll nodes start all ts rest →
    (Some (payloads_of ps) ≡ payloads_within n (annotations_of ts)) × (drop at nodes ≡ rest)
unfolding spell
parts_end nodes n start at i all ps left same ts rest f = go (left ts rest f)
  where
    go : Left nodes n at i all ps ts rest → (Some (payloads_of ps) ≡ payloads_within n (annotations_of ts)) × (drop at
        nodes ≡ rest)
    go l = by l.us l.front l.number l.payloads
      where
        by : (us : ElmTypes (Leaf ℕ)) → drop at nodes ≡ spell_all us ++ rest → count us + i ≡ all →
            payloads_within n (annotations_of ts) ≡ option_map (before ps) (payloads_within n (annotations_of us)) →
            (Some (payloads_of ps) ≡ payloads_within n (annotations_of ts)) × (drop at nodes ≡ rest)
        by NoType front number payloads = (sym (payloads ∙ ap Some (before_none ps)), front)
        by (MoreType t us) front number payloads = absurd (omega (arith, number, same))

-- ---- fields

before_no_field : (fs : List (Name × Payload)) → before_fields fs NoPayloadField ≡ payload_fields_of fs
before_no_field [] = refl
before_no_field (f ∷ fs) = ap (MorePayloadField f.0 f.1) (before_no_field fs)

before_push_field : (fs : List (Name × Payload)) (f : Name × Payload) (gs : PayloadFields) →
    before_fields fs (MorePayloadField f.0 f.1 gs) ≡ before_fields (fs ++ f ∷ []) gs
before_push_field [] f gs = refl
before_push_field (g ∷ fs) f gs = ap (MorePayloadField g.0 g.1) (before_push_field fs f gs)

pub record FieldsLeft (nodes : List Node) (n at i all : ℕ) (ps : List (Name × Payload)) (fs : Fields (Leaf ℕ)) (rest :
    List Node) : Type 0 where
  pub gs : Fields (Leaf ℕ)
  pub front : drop at nodes ≡ spell_fields gs ++ rest
  pub number : count_fields gs + i ≡ all
  pub payloads : fields_within n (field_types_of fs) ≡ option_map (before_fields ps) (fields_within n (field_types_of
      gs))

abbrev pub AllFieldsLeft : List Node → ℕ → ℕ → ℕ → ℕ → ℕ → List (Name × Payload) → Type 0
AllFieldsLeft nodes n start at i all ps =
    (fs : Fields (Leaf ℕ)) (rest : List Node) → FrontOfFields nodes start all fs rest →
    FieldsLeft nodes n at i all ps fs rest

some_before_fields : (o : Option PayloadFields) → o ≡ option_map (before_fields []) o
some_before_fields None = refl
some_before_fields (Some qs) = refl

pub fields_begin : (nodes : List Node) (n start all : ℕ) → AllFieldsLeft nodes n start start 0 all []
fields_begin nodes n start all fs rest f = record {
  gs = fs;
  front = f.0;
  number = omega (arith, f.1);
  payloads = some_before_fields (fields_within n (field_types_of fs));
}

-- the next field: its name, its type at the place behind, and those after it
pub record FieldAt (nodes : List Node) (n at i all : ℕ) (ps : List (Name × Payload)) (fs : Fields (Leaf ℕ)) (rest :
    List Node) : Type 0 where
  pub k : Name
  pub t : ElmType (Leaf ℕ)
  pub gs : Fields (Leaf ℕ)
  pub front : drop at nodes ≡ node.Field k ∷ (spell t ++ (spell_fields gs ++ rest))
  pub number : count_fields gs + (i + 1) ≡ all
  pub payloads : fields_within n (field_types_of fs)
      ≡ option_map (before_fields ps) (and_field k (payload_within n (annotation_of t)) (fields_within n
      (field_types_of gs)))

pub field_at : (nodes : List Node) (n start at i all : ℕ) (ps : List (Name × Payload)) →
    AllFieldsLeft nodes n start at i all ps → i < all →
    (fs : Fields (Leaf ℕ)) (rest : List Node) → FrontOfFields nodes start all fs rest →
    FieldAt nodes n at i all ps fs rest
unfolding spell
field_at nodes n start at i all ps left less fs rest f = go (left fs rest f)
  where
    go : FieldsLeft nodes n at i all ps fs rest → FieldAt nodes n at i all ps fs rest
    go l = by l.gs l.front l.number l.payloads
      where
        by : (gs : Fields (Leaf ℕ)) → drop at nodes ≡ spell_fields gs ++ rest → count_fields gs + i ≡ all →
            fields_within n (field_types_of fs) ≡ option_map (before_fields ps) (fields_within n (field_types_of gs)) →
            FieldAt nodes n at i all ps fs rest
        by NoField front number payloads = absurd (omega (arith, number, less))
        by (MoreField k t gs) front number payloads = record {
          k = k;
          t = t;
          gs = gs;
          front = front ∙ ap (λ ns. node.Field k ∷ ns) (append_assoc (spell t) (spell_fields gs) rest);
          number = omega (arith, number);
          payloads = payloads;
        }

pub field_next : (nodes : List Node) (n start at middle after i all : ℕ) (ps : List (Name × Payload)) (x : Name) (p :
    Payload) →
    AllFieldsLeft nodes n start at i all ps → i < all →
    ((k : Name) (ns : List Node) → drop at nodes ≡ node.Field k ∷ ns → (Some x ≡ Some k) × (drop middle nodes ≡ ns)) →
    ((t : ElmType (Leaf ℕ)) (rest : List Node) → Front nodes middle t rest →
    Some p ≡ payload_within n (annotation_of t)) →
    ((t : ElmType (Leaf ℕ)) (rest : List Node) → Front nodes middle t rest → drop after nodes ≡ rest) →
    AllFieldsLeft nodes n start after (i + 1) all (ps ++ (x, p) ∷ [])
field_next nodes n start at middle after i all ps x p left less named is end fs rest f = record {
  gs = l.gs;
  front = end l.t (spell_fields l.gs ++ rest) there;
  number = l.number;
  payloads = l.payloads
      ∙ ap (λ o. option_map (before_fields ps) (and_field l.k o (fields_within n (field_types_of l.gs)))) (sym (is l.t
      (spell_fields l.gs ++ rest) there))
      ∙ ap (λ k. option_map (before_fields ps) (option_map (MorePayloadField k p) (fields_within n (field_types_of
      l.gs)))) (sym same)
      ∙ pushed (fields_within n (field_types_of l.gs));
}
  where
    l : FieldAt nodes n at i all ps fs rest
    l = field_at nodes n start at i all ps left less fs rest f

    name : (Some x ≡ Some l.k) × (drop middle nodes ≡ spell l.t ++ (spell_fields l.gs ++ rest))
    name = named l.k (spell l.t ++ (spell_fields l.gs ++ rest)) l.front

    same : x ≡ l.k
    same = let e = name.0 in cc

    there : drop middle nodes ≡ spell l.t ++ (spell_fields l.gs ++ rest)
    there = name.1

    pushed : (o : Option PayloadFields) → option_map (before_fields ps) (option_map (MorePayloadField x p) o) ≡
        option_map (before_fields (ps ++ (x, p) ∷ [])) o
    pushed None = refl
    pushed (Some qs) = ap Some (before_push_field ps (x, p) qs)

pub field_stops : (nodes : List Node) (n start at middle i all : ℕ) (ps : List (Name × Payload)) (x : Name) →
    AllFieldsLeft nodes n start at i all ps → i < all →
    ((k : Name) (ns : List Node) → drop at nodes ≡ node.Field k ∷ ns → (Some x ≡ Some k) × (drop middle nodes ≡ ns)) →
    ((t : ElmType (Leaf ℕ)) (rest : List Node) → Front nodes middle t rest →
    None ≡ payload_within n (annotation_of t)) →
    (fs : Fields (Leaf ℕ)) (rest : List Node) → FrontOfFields nodes start all fs rest →
    None ≡ fields_within n (field_types_of fs)
field_stops nodes n start at middle i all ps x left less named is fs rest f =
    let l = field_at nodes n start at i all ps left less fs rest f in
    sym (l.payloads ∙ ap (λ o. option_map (before_fields ps) (and_field l.k o (fields_within n (field_types_of l.gs))))
    (sym (is l.t (spell_fields l.gs ++ rest) (named l.k (spell l.t ++ (spell_fields l.gs ++ rest)) l.front).1)))

-- where a field stands, its name is told
pub field_named : (nodes : List Node) (n start at middle i all : ℕ) (ps : List (Name × Payload)) →
    AllFieldsLeft nodes n start at i all ps → i < all →
    ((k : Name) (ns : List Node) → drop at nodes ≡ node.Field k ∷ ns → (None ≡ Some k) × (drop middle nodes ≡ ns)) →
    (fs : Fields (Leaf ℕ)) (rest : List Node) → FrontOfFields nodes start all fs rest → ⊥
field_named nodes n start at middle i all ps left less named fs rest f =
    let l = field_at nodes n start at i all ps left less fs rest f in
    let e = (named l.k (spell l.t ++ (spell_fields l.gs ++ rest)) l.front).0 in absurd cc

pub fields_end : (nodes : List Node) (n start at i all : ℕ) (ps : List (Name × Payload)) →
    AllFieldsLeft nodes n start at i all ps → all ≡ i →
    (fs : Fields (Leaf ℕ)) (rest : List Node) → FrontOfFields nodes start all fs rest →
    (Some (payload_fields_of ps) ≡ fields_within n (field_types_of fs)) × (drop at nodes ≡ rest)
unfolding spell
fields_end nodes n start at i all ps left same fs rest f = go (left fs rest f)
  where
    go : FieldsLeft nodes n at i all ps fs rest → (Some (payload_fields_of ps) ≡ fields_within n (field_types_of fs))
        × (drop at nodes ≡ rest)
    go l = by l.gs l.front l.number l.payloads
      where
        by : (gs : Fields (Leaf ℕ)) → drop at nodes ≡ spell_fields gs ++ rest → count_fields gs + i ≡ all →
            fields_within n (field_types_of fs) ≡ option_map (before_fields ps) (fields_within n (field_types_of gs)) →
            (Some (payload_fields_of ps) ≡ fields_within n (field_types_of fs)) × (drop at nodes ≡ rest)
        by NoField front number payloads = (sym (payloads ∙ ap Some (before_no_field ps)), front)
        by (MoreField k t gs) front number payloads = absurd (omega (arith, number, same))
