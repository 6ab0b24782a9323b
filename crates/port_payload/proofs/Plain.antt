-- Types that are told by their names: `as_int` and its kin.
use Rattle.std.proofs.Common.{◌≡◌, [], length, true, false, Some, if◌then◌else◌, refl, sym, ap, ◌∙◌, codes, arith, ◌∷◌, Bool}
use Rattle.elm_canon.specs.Names.{Name}
use Rattle.elm_canon.specs.Tree.{Payload, IntPayload, BoolPayload, TextPayload, MaybePayload, ListPayload}
use Rattle.canon_type.specs.Ports.{is_type}
use Rattle.port_payload.specs.Payloads.{plain_payload, payload_around, variable_payload}

if_yes : {A : Type 0} {b : Bool} (x y : A) → b ≡ true → x ≡ (if b then x else y)
if_yes {A} {b} x y h = sym (ap (λ c. if c then x else y) h)

if_no : {A : Type 0} {b : Bool} (x y : A) → b ≡ false → y ≡ (if b then x else y)
if_no {A} {b} x y h = sym (ap (λ c. if c then x else y) h)

pub as_int : (m x : Name) → is_type (codes "Basics") (codes "Int") m x ≡ true → Some IntPayload ≡ plain_payload m x
as_int m x h = if_yes _ _ h

pub as_bool : (m x : Name) → is_type (codes "Basics") (codes "Int") m x ≡ false →
    is_type (codes "Basics") (codes "Bool") m x ≡ true → Some BoolPayload ≡ plain_payload m x
as_bool m x a h = if_yes _ _ h ∙ if_no _ _ a

pub as_text : (m x : Name) → is_type (codes "Basics") (codes "Int") m x ≡ false →
    is_type (codes "Basics") (codes "Bool") m x ≡ false → is_type (codes "String") (codes "String") m x ≡ true →
    Some TextPayload ≡ plain_payload m x
as_text m x a b h = if_yes _ _ h ∙ if_no _ _ b ∙ if_no _ _ a

pub as_maybe : (m x : Name) (p : Payload) → is_type (codes "Maybe") (codes "Maybe") m x ≡ true →
    Some (MaybePayload p) ≡ payload_around m x (Some p)
as_maybe m x p h = if_yes _ _ h

pub as_list : (m x : Name) (p : Payload) → is_type (codes "Maybe") (codes "Maybe") m x ≡ false →
    is_type (codes "List") (codes "List") m x ≡ true → Some (ListPayload p) ≡ payload_around m x (Some p)
as_list m x p a h = if_yes _ _ h ∙ if_no _ _ a

pub as_blank : (x : Name) → length x ≡ 0 → Some IntPayload ≡ variable_payload x
as_blank [] h = refl
as_blank (c ∷ cs) h = absurd (omega arith)
