-- Functions without a body, and types that cross a port, that the output can say: constructors and tuples have fewer
-- than 2 ^ 32 parts, and a record's fields are words, each once.
use Rattle.std.specs.Prelude.{◌≡◌, ◌<◌, ℕ, suc, List, [], ◌∷◌, true}
use Rattle.elm_canon.specs.Names.{Name}
use Rattle.elm_canon.specs.Tree.{Maker, RecordMaker, OutPort, InPort, Payload, IntPayload, BoolPayload, TextPayload}
use Rattle.elm_canon.specs.Tree.{MaybePayload, ListPayload, TuplePayload, RecordPayload, Payloads, NoPayload}
use Rattle.elm_canon.specs.Tree.{MorePayload, PayloadFields, NoPayloadField, MorePayloadField}
use Rattle.elm_canon.specs.Spelled.{are_fields}
use Rattle.elm_canon.specs.Constructors.{is_exact_alternative}
use Rattle.elm_meaning.specs.Functions.{Bodiless, Given, Getter, Core}

abbrev pub count_payloads : Payloads → ℕ
count_payloads NoPayload = 0
count_payloads (MorePayload t ts) = suc (count_payloads ts)

abbrev pub payload_names : PayloadFields → List Name
payload_names NoPayloadField = []
payload_names (MorePayloadField k t fs) = k ∷ payload_names fs

abbrev mutual
  pub ProperPayload : Payload → Type 0
  ProperPayload IntPayload = Unit {0}
  ProperPayload BoolPayload = Unit {0}
  ProperPayload TextPayload = Unit {0}
  ProperPayload (MaybePayload t) = ProperPayload t
  ProperPayload (ListPayload t) = ProperPayload t
  ProperPayload (TuplePayload ts) = (count_payloads ts < 4294967296) × ProperPayloads ts
  ProperPayload (RecordPayload fs) = (are_fields (payload_names fs) ≡ true) × ProperPayloadFields fs

  pub ProperPayloads : Payloads → Type 0
  ProperPayloads NoPayload = Unit {0}
  ProperPayloads (MorePayload t ts) = ProperPayload t × ProperPayloads ts

  pub ProperPayloadFields : PayloadFields → Type 0
  ProperPayloadFields NoPayloadField = Unit {0}
  ProperPayloadFields (MorePayloadField k t fs) = ProperPayload t × ProperPayloadFields fs

abbrev pub ProperBodiless : Bodiless → Type 0
ProperBodiless (Given (Maker a)) = (is_exact_alternative a ≡ true) × (a.arity < 4294967296)
ProperBodiless (Given (RecordMaker ks)) = are_fields ks ≡ true
ProperBodiless (Given (OutPort port t)) = ProperPayload t
ProperBodiless (Given (InPort port t)) = ProperPayload t
ProperBodiless (Getter k) = Unit {0}
ProperBodiless (Core p) = Unit {0}
