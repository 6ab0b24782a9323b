-- Commands and subscriptions are laid flat alike, and commands send the same.
use Rattle.std.proofs.Common.{◌≡◌, ℕ, zero, suc, pos, List, [], ◌∷◌, ◌++◌, Bool, true, false, refl, sym, ap, subst, arith, codes}
use Rattle.std.specs.Prelude.{if◌then◌else◌}
use Rattle.std.specs.List.{list_any}
use Rattle.std.specs.Str.{bytes_eq}
use Rattle.wire_value.specs.Wire.{Wire}
use Rattle.runs.specs.Ends.{End, Val, Stuck, then_do}
use Rattle.runs.specs.Driver.{At}
use Rattle.runs.specs.Alike.{AllAlike, none_alike, more_alike, StageAlike, at_alike}
use Rattle.elm_canon.specs.Names.{Name}
use Rattle.elm_canon.specs.declared.unions.Tag.TheVariants.{Number}
use Rattle.elm_meaning.specs.Values.{Value, TextV, TagV, NoValue, MoreValue}
use Rattle.elm_meaning.specs.Run.{flat, flat_all, sends_of, hearers, stage_of, part_of}
use Rattle.js_meaning.specs.Values.{JVal, JTextV, NoJField, MoreJField, get_field}
use Rattle.js_meaning.specs.Lists.{part_name, tagged}
use Rattle.js_meaning.specs.Run.{wire_of, Parcels, readings, j_stage}
use Rattle.js_meaning.specs.Run as js
use Rattle.emit_laws.specs.For.{For, for_text, for_number, for_wire, no_part, more_part}
use Rattle.emit_laws.proofs.Ends.{EndFor, both_give, any_stuck, end_then}
use Rattle.emit_laws.proofs.Sights.{part_is}
use Rattle.emit_laws.proofs.Operators.{field_same}

-- each for the same port
pub data ParcelsFor : List (Name × Value) → Parcels → Type 0 where
  no_parcels : ParcelsFor [] []
  more_parcels : {port : Name} {v : Value} {x : JVal} {ps : List (Name × Value)} {qs : Parcels} → For v x → ParcelsFor ps qs → ParcelsFor ((port, v) ∷ ps) ((port, x) ∷ qs)

one_batch : {ps rs : List (Name × Value)} {qs ss : Parcels} → ParcelsFor ps qs → ParcelsFor rs ss → ParcelsFor (ps ++ rs) (qs ++ ss)
one_batch no_parcels more = more
one_batch (more_parcels r rest) more = more_parcels r (one_batch rest more)

-- by the names of the two parts
abbrev Pair : Name → Name → ℕ → JVal → JVal → JVal
Pair a b k v w = tagged (pos k) (MoreJField a v (MoreJField b w NoJField))

abbrev One : Name → ℕ → JVal → JVal
One a k v = tagged (pos k) (MoreJField a v NoJField)

named_pair : (P : JVal → Type 0) (k : ℕ) (v w : JVal) → P (Pair (codes "a0") (codes "a1") k v w) → P (Pair (part_name 0) (part_name 1) k v w)
named_pair P k v w p = subst (λ a. P (Pair a (part_name 1) k v w)) (sym (part_is 0 (omega arith))) (subst (λ b. P (Pair (codes "a0") b k v w)) (sym (part_is 1 (omega arith))) p)

named_one : (P : JVal → Type 0) (k : ℕ) (v : JVal) → P (One (codes "a0") k v) → P (One (part_name 0) k v)
named_one P k v p = subst (λ a. P (One a k v)) (sym (part_is 0 (omega arith))) p

mutual
  pub flat_same : (v : Value) (w : JVal) → For v w → EndFor ParcelsFor (flat v) (js.flat w)
  flat_same (TagV (Number (pos zero)) (MoreValue (TextV port) (MoreValue v NoValue))) _ (for_number few (more_part for_text (more_part {w = x} r no_part))) =
      named_pair (λ z. EndFor ParcelsFor (Val ((port, v) ∷ [])) (js.flat z)) 0 (JTextV port) x (both_give (more_parcels r no_parcels))
  flat_same (TagV (Number (pos (suc zero))) (MoreValue list NoValue)) _ (for_number few (more_part {w = x} r no_part)) =
      named_one (λ z. EndFor ParcelsFor (flat_all list) (js.flat z)) 1 x (flat_all_same list x r)
  flat_same _ w r = any_stuck

  flat_all_same : (v : Value) (w : JVal) → For v w → EndFor ParcelsFor (flat_all v) (readings w).1
  flat_all_same (TagV (Number (pos zero)) NoValue) _ (for_number few no_part) = both_give no_parcels
  flat_all_same (TagV (Number (pos (suc zero))) (MoreValue v (MoreValue rest NoValue))) _ (for_number few (more_part {w = x} r (more_part {w = y} q no_part))) =
      named_pair (λ z. EndFor ParcelsFor (then_do (flat v) (λ ps. then_do (flat_all rest) (λ qs. Val (ps ++ qs)))) (readings z).1) 1 x y
      (end_then (λ ps. then_do (flat_all rest) (λ qs. Val (ps ++ qs))) (λ ps. then_do (readings y).1 (λ qs. Val (ps ++ qs))) (flat_same v x r) (λ ps qs s.
      end_then (λ rs. Val (ps ++ rs)) (λ rs. Val (qs ++ rs)) (flat_all_same rest y q) (λ rs ss t. both_give (one_batch s t))))
  flat_all_same _ w r = any_stuck

-- ---- commands

-- the same ports, in whatever order
abbrev pub SamePorts : List Name → List (List ℕ) → Type 0
SamePorts outs outs' = (port : Name) → list_any (λ other. bytes_eq port other) outs ≡ list_any (λ k. bytes_eq port k) outs'

abbrev Equal : End (List (Name × Wire)) → End (List (List ℕ × Wire)) → Type 0
Equal o p = EndFor (λ (a : List (Name × Wire)) (b : List (List ℕ × Wire)). a ≡ b) o p

pub sends_same : (outs : List Name) (outs' : List (List ℕ)) {ps : List (Name × Value)} {qs : Parcels} → SamePorts outs outs' → ParcelsFor ps qs → Equal (sends_of outs ps) (js.sends_of outs' qs)
sends_same outs outs' ports no_parcels = both_give refl
sends_same outs outs' ports (more_parcels {port} {ps} {qs} (for_wire {w} {v = x} e u) rest) =
    subst (λ t. Equal (if list_any (λ other. bytes_eq port other) outs then then_do (sends_of outs ps) (λ ws. Val ((port, w) ∷ ws)) else Stuck) (if t then then_do (wire_of x) (λ y. then_do (js.sends_of outs' qs) (λ ws. Val ((port, y) ∷ ws))) else Stuck)) (ports port)
    (go (list_any (λ other. bytes_eq port other) outs) (sends_same outs outs' ports rest))
  where
    go : (t : Bool) → Equal (sends_of outs ps) (js.sends_of outs' qs) → Equal (if t then then_do (sends_of outs ps) (λ ws. Val ((port, w) ∷ ws)) else Stuck) (if t then then_do (wire_of x) (λ y. then_do (js.sends_of outs' qs) (λ ws. Val ((port, y) ∷ ws))) else Stuck)
    go true rec = subst (λ o. Equal (then_do (sends_of outs ps) (λ ws. Val ((port, w) ∷ ws))) (then_do o (λ y. then_do (js.sends_of outs' qs) (λ ws. Val ((port, y) ∷ ws))))) (sym e) (end_then (λ ws. Val ((port, w) ∷ ws)) (λ ws. Val ((port, w) ∷ ws)) rec (λ a b s. both_give (ap (λ z. (port, w) ∷ z) s)))
    go false rec = any_stuck
sends_same outs outs' ports (more_parcels _ rest) = any_stuck

-- the model and the commands
pub stage_same : (outs : List Name) (outs' : List (List ℕ)) → SamePorts outs outs' → (v : Value) (w : JVal) → For v w → EndFor (StageAlike For) (stage_of outs v) (j_stage outs' w)
stage_same outs outs' ports (TagV (Number (pos zero)) (MoreValue model (MoreValue command NoValue))) _ (for_number few (more_part {w = x} r (more_part {w = y} q no_part))) =
    named_pair (λ z. EndFor (StageAlike For) (then_do (flat command) (λ ps. then_do (sends_of outs ps) (λ sends. Val (At model sends)))) (j_stage outs' z)) 0 x y
    (end_then (λ ps. then_do (sends_of outs ps) (λ sends. Val (At model sends))) (λ ps. then_do (js.sends_of outs' ps) (λ sends. Val (At x sends))) (flat_same command y q) (λ ps qs s.
    end_then (λ sends. Val (At model sends)) (λ sends. Val (At x sends)) (sends_same outs outs' ports s) (λ a b e. both_give (at_alike r e))))
stage_same outs outs' ports _ w r = any_stuck

-- ---- subscriptions

pub hearers_same : (port : Name) {ps : List (Name × Value)} {qs : Parcels} → ParcelsFor ps qs → AllAlike For (hearers port ps) (js.hearers port qs)
hearers_same port no_parcels = none_alike
hearers_same port (more_parcels {port = other} {v} {x} {ps} {qs} r rest) = go (bytes_eq other port) (hearers_same port rest)
  where
    go : (t : Bool) → AllAlike For (hearers port ps) (js.hearers port qs) → AllAlike For (if t then v ∷ hearers port ps else hearers port ps) (if t then x ∷ js.hearers port qs else js.hearers port qs)
    go true rec = more_alike r rec
    go false rec = rec

-- ---- the record that a program is made of

pub record_part : (k : Name) (v : Value) (w : JVal) → For v w → EndFor For (part_of k v) (then_do (get_field (codes "a0") w) (λ parts. get_field k parts))
record_part k (TagV (Number (pos zero)) (MoreValue parts NoValue)) _ (for_number few (more_part {w = x} r no_part)) =
    named_one (λ z. EndFor For (part_of k (TagV (Number (pos zero)) (MoreValue parts NoValue))) (then_do (get_field (codes "a0") z) (λ parts. get_field k parts))) 0 x (field_same k r)
record_part k _ w r = any_stuck
