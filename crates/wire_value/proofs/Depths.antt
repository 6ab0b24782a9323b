-- Room for so many levels is a bound on the depth.
use Rattle.std.proofs.Common.{◌≡◌, ℕ, zero, suc, Bool, true, false, nat_le, if◌then◌else◌, ◌&&◌, Option, Some, None}
use Rattle.std.proofs.Common.{option_map, option_and_then, refl, sym, ap, ◌∙◌, arith}
use Rattle.std.proofs.lemmas.Bool.Decides.{nat_tests}
use Rattle.std.specs.Prelude.{max}
use Rattle.serde_json.specs.Data.{Data, null, boolean, number, string, array, object, Items, no_items, item, Members}
use Rattle.serde_json.specs.Data.{no_members, member, depth, items_depth, members_depth}
use Rattle.wire_value.specs.Wire as wire
use Rattle.wire_value.specs.Wire.{Wire}
use Rattle.elm_base.specs.Units.{text_units}
use Rattle.wire_value.specs.FromJson.{wire_of, items_of, members_of, put, from_json}
use Rattle.wire_value.specs.Within.{wire_within, items_within, members_within}

abbrev guarded : {A : Type 0} → Bool → Option A → Option A
guarded b o = if b then o else None

never : {A B : Type 0} (o : Option A) → option_and_then {T = A} {U = B} (λ _. None) o ≡ None
never None = refl
never (Some x) = refl

both : {A B : Type 0} (a b : Bool) (f : A → Option B) (o : Option A) → option_and_then (λ w. guarded b (f w)) (guarded a o) ≡ guarded (a && b) (option_and_then f o)
both true true f o = refl
both true false f o = never o
both false b f o = refl

mapped : {A B : Type 0} (b : Bool) (f : A → B) (o : Option A) → option_map f (guarded b o) ≡ guarded b (option_map f o)
mapped true f o = refl
mapped false f o = refl

pub congruent : {A B : Type 0} (f g : A → Option B) (o : Option A) → ((x : A) → f x ≡ g x) → option_and_then f o ≡ option_and_then g o
congruent f g None e = refl
congruent f g (Some x) e = e x

max_within : (a b n : ℕ) → nat_le (max a b) n ≡ (nat_le a n && nat_le b n)
max_within a b n = grind (arith, nat_tests)

suc_within : (a n : ℕ) → nat_le (suc a) (suc n) ≡ nat_le a n
suc_within a n = grind (arith, nat_tests)

none_within : (a : ℕ) → nat_le (suc a) 0 ≡ false
none_within a = grind (arith, nat_tests)

all_within : (n : ℕ) → nat_le 0 n ≡ true
all_within n = grind (arith, nat_tests)

mutual
  pub within-depth : (n : ℕ) (d : Data) → wire_within n d ≡ guarded (nat_le (depth d) n) (wire_of d)
  within-depth n null = rw (all_within n) refl
  within-depth n (boolean b) = rw (all_within n) refl
  within-depth n (number x) = rw (all_within n) refl
  within-depth n (string s) = rw (all_within n) refl
  within-depth zero (array ds) = rw (none_within (items_depth ds)) refl
  within-depth (suc n) (array ds) = ap (option_map wire.list) (items-depth n ds) ∙ (mapped (nat_le (items_depth ds) n) wire.list (items_of ds) ∙ ap (λ b. guarded b (option_map wire.list (items_of ds))) (sym (suc_within (items_depth ds) n)))
  within-depth zero (object ms) = rw (none_within (members_depth ms)) refl
  within-depth (suc n) (object ms) =
      ap (option_map wire.object) (members-depth n ms wire.no_member)
      ∙ (mapped (nat_le (members_depth ms) n) wire.object (members_of ms wire.no_member) ∙ ap (λ b. guarded b (option_map wire.object (members_of ms wire.no_member))) (sym (suc_within (members_depth ms) n)))

  items-depth : (n : ℕ) (ds : Items) → items_within n ds ≡ guarded (nat_le (items_depth ds) n) (items_of ds)
  items-depth n no_items = rw (all_within n) refl
  items-depth n (item d ds) =
      congruent _ (λ w. guarded (nat_le (items_depth ds) n) (option_map (wire.more_wires w) (items_of ds))) (wire_within n d) (λ w. ap (option_map (wire.more_wires w)) (items-depth n ds) ∙ mapped (nat_le (items_depth ds) n) (wire.more_wires w) (items_of ds))
      ∙ (ap (option_and_then (λ w. guarded (nat_le (items_depth ds) n) (option_map (wire.more_wires w) (items_of ds)))) (within-depth n d)
      ∙ (both (nat_le (depth d) n) (nat_le (items_depth ds) n) (λ w. option_map (wire.more_wires w) (items_of ds)) (wire_of d)
      ∙ ap (λ b. guarded b (items_of (item d ds))) (sym (max_within (depth d) (items_depth ds) n))))

  members-depth : (n : ℕ) (ms : Members) (found : wire.Members) → members_within n ms found ≡ guarded (nat_le (members_depth ms) n) (members_of ms found)
  members-depth n no_members found = rw (all_within n) refl
  members-depth n (member k d ms) found =
      congruent _ (λ w. guarded (nat_le (members_depth ms) n) (members_of ms (put (text_units k) w found))) (wire_within n d) (λ w. members-depth n ms (put (text_units k) w found))
      ∙ (ap (option_and_then (λ w. guarded (nat_le (members_depth ms) n) (members_of ms (put (text_units k) w found)))) (within-depth n d)
      ∙ (both (nat_le (depth d) n) (nat_le (members_depth ms) n) (λ w. members_of ms (put (text_units k) w found)) (wire_of d)
      ∙ ap (λ b. guarded b (members_of (member k d ms) found)) (sym (max_within (depth d) (members_depth ms) n))))

pub from_json_within : (d : Data) → wire_within 100 d ≡ from_json d
from_json_within d = within-depth 100 d
