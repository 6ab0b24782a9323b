-- The types of programs, and what their flags are: `is_program`, `renamed_program`, `program_instance`.
use Rattle.std.proofs.Common.{◌≡◌, ℕ, List, [], Bool, true, false, Option, Some, None, ◌⊎◌, inl, inr, codes, refl}
use Rattle.std.proofs.Common.{sym, ap, ◌∙◌, subst, if◌then◌else◌}
use Rattle.std.specs.Prelude.{option_and_then}
use Rattle.elm_canon.specs.Tree.{Payload}
use Rattle.elm_meaning.specs.Run.{Flags, AnyFlags, FlagsOf}
use Rattle.elm_type.specs.Types.{ElmType, Made, Record, NoType, MoreType, Leaf, Kind, Scheme, tuple, renamed}
use Rattle.elm_type.specs.Classes.{Ground}
use Rattle.elm_type.specs.Rows.{substitute}
use Rattle.elm_type.specs.declared.head.Head.{Head}
use Rattle.elm_type.specs.declared.head.Head.TheVariants as head
use Rattle.canon_type.specs.Ports.{is_type}
use Rattle.told_modules.proofs.Payloads.{type_is}
use Rattle.port_payload.specs.EntryTypePayloads.{has_fields, with_fields, type_payload}
use Rattle.port_payload.specs.Entry.{IsProgram, text_of, is_unit, flags_in, with_payload, with_flags}
use Rattle.port_payload.specs.Entry.{entry_by, entry_type}
use Rattle.port_payload.specs.Payloads.{payload_of}
use Rattle.program_safety.specs.Programs.{program_type, flags_type}
use Rattle.build_safety.proofs.MainPayloads.{payload_is, same_annotation}

-- flags of the type are read so
abbrev pub Reads : {X : Type 0} → ElmType X → Flags → Type 0
Reads t flags =
    (t ≡ tuple []) × (flags ≡ AnyFlags) ⊎ (p : Payload) × (type_payload t ≡ Some p) × (flags ≡ FlagsOf p)

-- the type of programs of such flags
pub record IsProgramType {X : Type 0} (t : ElmType X) (flags : Flags) : Type 0 where
  pub by : ElmType X
  pub model : ElmType X
  pub message : ElmType X
  pub is : t ≡ program_type by model message
  pub reads : Reads by flags

-- ---- what the type of a `main` says

unit_is : {X : Type 0} (h : Head) → h ≡ head.Tuple → ◌≡◌ {A = ElmType X} (Made h NoType) (tuple [])
unit_is h e = ap (λ z. Made z NoType) e

is_unit_type : (t : ElmType (Leaf ℕ)) → is_unit t ≡ true → t ≡ tuple []
is_unit_type (Made head.Tuple NoType) e = refl
is_unit_type (Made head.Tuple (MoreType t ts)) e = absurd cc
is_unit_type (Made head.Function ts) e = absurd cc
is_unit_type (Made (head.Named m x) ts) e = absurd cc
is_unit_type (Record fs end) e = absurd cc

payload_said : (text : List ℕ) (q : Option Payload) (flags : Flags) →
    with_payload text (option_and_then with_fields q) ≡ IsProgram flags →
    (p : Payload) × (q ≡ Some p) × (flags ≡ FlagsOf p)
payload_said text None flags e = absurd cc
payload_said text (Some p) flags e = by (has_fields p) e
  where
    by : (b : Bool) → with_payload text (if b then Some p else None) ≡ IsProgram flags →
        (q : Payload) × (Some p ≡ Some q) × (flags ≡ FlagsOf q)
    by true f = (p, refl, (let h : FlagsOf p ≡ flags = cc in sym h))
    by false f = absurd cc

flags_said : (ks : List Kind) (t : ElmType (Leaf ℕ)) (flags : Flags) → with_flags ks t ≡ IsProgram flags →
    Reads t flags
flags_said ks t flags e = by (is_unit t) refl e
  where
    by : (b : Bool) → is_unit t ≡ b →
        (if b then IsProgram AnyFlags
        else with_payload (text_of ks t) (option_and_then with_fields (type_payload t))) ≡ IsProgram flags →
        Reads t flags
    by true u f = inl (is_unit_type t u, (let h : AnyFlags ≡ flags = cc in sym h))
    by false u f = inr (payload_said (text_of ks t) (type_payload t) flags f)

type_said : (s : Scheme) (t : ElmType (Leaf ℕ)) (flags : Flags) → entry_by s (flags_in t) ≡ IsProgram flags →
    IsProgramType t flags
type_said s (Made (head.Named m x) NoType) flags e = absurd cc
type_said s (Made (head.Named m x) (MoreType a NoType)) flags e = absurd cc
type_said s (Made (head.Named m x) (MoreType a (MoreType b NoType))) flags e = absurd cc
type_said s (Made (head.Named m x) (MoreType a (MoreType b (MoreType c NoType)))) flags e =
    by (is_type (codes "Platform") (codes "Program") m x) refl e
  where
    by : (q : Bool) → is_type (codes "Platform") (codes "Program") m x ≡ q →
        entry_by s (if q then Some a else None) ≡ IsProgram flags →
        IsProgramType (Made (head.Named m x) (MoreType a (MoreType b (MoreType c NoType)))) flags
    by true g f =
        let n = type_is (codes "Platform") (codes "Program") m x g in
        record {
          by = a;
          model = b;
          message = c;
          is = ap (λ z. Made (head.Named z x) (MoreType a (MoreType b (MoreType c NoType)))) n.0
              ∙ ap (λ z. Made (head.Named (codes "Platform") z) (MoreType a (MoreType b (MoreType c NoType)))) n.1;
          reads = flags_said s.kinds a flags f;
        }
    by false g f = absurd cc
type_said s (Made (head.Named m x) (MoreType a (MoreType b (MoreType c (MoreType d ts))))) flags e = absurd cc
type_said s (Made head.Function ts) flags e = absurd cc
type_said s (Made head.Tuple ts) flags e = absurd cc
type_said s (Record fs end) flags e = absurd cc

pub is_program : (s : Scheme) (flags : Flags) → entry_type s ≡ IsProgram flags → IsProgramType s.type flags
unfolding entry_type
is_program s flags e = type_said s s.type flags e

-- ---- with other names for variables

module _ {X Y : Type 0} (f : X → Y) where
  unit_renamed : (t : ElmType X) → renamed f t ≡ tuple [] → t ≡ tuple []
  unit_renamed (Made h NoType) e = unit_is h cc
  unit_renamed (Made h (MoreType t ts)) e = absurd cc
  unit_renamed (Record fs end) e = absurd cc

  reads_renamed : (t : ElmType X) (flags : Flags) → Reads (renamed f t) flags → Reads t flags
  reads_renamed t flags (inl r) = inl (unit_renamed t r.0, r.1)
  reads_renamed t flags (inr r) = inr (r.0, ap payload_of (sym (same_annotation f t)) ∙ r.1, r.2)

  pub renamed_program : (t : ElmType X) (flags : Flags) → IsProgramType (renamed f t) flags → IsProgramType t flags
  renamed_program (Made h NoType) flags p = absurd (let e = p.is in cc)
  renamed_program (Made h (MoreType a NoType)) flags p = absurd (let e = p.is in cc)
  renamed_program (Made h (MoreType a (MoreType b NoType))) flags p = absurd (let e = p.is in cc)
  renamed_program (Made h (MoreType a (MoreType b (MoreType c NoType)))) flags p =
      let e = p.is in
      let head_is : h ≡ head.Named (codes "Platform") (codes "Program") = cc in
      let first : renamed f a ≡ p.by = cc in
      record {
        by = a;
        model = b;
        message = c;
        is = ap (λ z. Made z (MoreType a (MoreType b (MoreType c NoType)))) head_is;
        reads = reads_renamed a flags (subst (λ z. Reads z flags) (sym first) p.reads);
      }
  renamed_program (Made h (MoreType a (MoreType b (MoreType c (MoreType d ts))))) flags p =
      absurd (let e = p.is in cc)
  renamed_program (Record fs end) flags p = absurd (let e = p.is in cc)

-- ---- with types in the places of variables

module _ {X : Type 0} (L : X → Ground) where
  flags_are : (t : ElmType X) (flags : Flags) → Reads t flags → substitute L t ≡ flags_type flags
  flags_are t flags (inl r) = ap (substitute L) r.0 ∙ ap flags_type (sym r.1)
  flags_are t flags (inr r) = payload_is L t r.0 r.1 ∙ ap flags_type (sym r.2)

  pub program_instance : (t : ElmType X) (flags : Flags) (p : IsProgramType t flags) →
      substitute L t ≡ program_type (flags_type flags) (substitute L p.model) (substitute L p.message)
  program_instance t flags p =
      ap (substitute L) p.is
      ∙ ap (λ z. program_type z (substitute L p.model) (substitute L p.message)) (flags_are p.by flags p.reads)
