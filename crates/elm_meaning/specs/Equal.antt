-- Equality: == and /=. (elm/core 1.0.5: Basics.) It is structural and ends at the first difference: the fields of
-- constructors are compared from left to right, those of records in the order of their names. Dictionaries are equal
-- where their keys and values are, commands where their ports and what they send are. Where a function is reached it
-- crashes. Values of different types have no rule.
use Rattle.std.specs.Prelude.{List, [], ◌∷◌, Bool, true, false, if◌then◌else◌, ◌&&◌, codes}
use Rattle.std.specs.Str.{bytes_eq}
use Rattle.wire_value.specs.Wire as wire
use Rattle.wire_value.specs.Wire.{Wire, no_wire, more_wires, no_member, more_members}
use Rattle.runs.specs.Ends.{End, Val, Crashed, Stuck, then_do}
use Rattle.runs.specs.Numbers.{is_number}
use Rattle.elm_canon.specs.Names.{Name, same_name}
use Rattle.elm_canon.specs.declared.unions.Tag.{Tag}
use Rattle.elm_meaning.specs.Values.{Value}
use Rattle.elm_meaning.specs.Seen.{Seen, FunctionS, IntS, TextS, TagS, RecordS, DictS, WireS, Seens, NoSeen, MoreSeen, see}
use Rattle.elm_meaning.specs.Seen.{same_bool, same_tag, same_kind, same_count}

-- ---- what commands send

abbrev pub member_names : wire.Members → List Name
member_names no_member = []
member_names (more_members k w ms) = k ∷ member_names ms

abbrev pub same_names : List Name → List Name → Bool
same_names [] [] = true
same_names (x ∷ xs) (y ∷ ys) = same_name x y && same_names xs ys
same_names _ _ = false

-- wire values of one type; null is equal to null alone
abbrev mutual
  pub same_wire : Wire → Wire → End Bool
  same_wire wire.null wire.null = Val true
  same_wire wire.null w = Val false
  same_wire v wire.null = Val false
  same_wire (wire.bool a) (wire.bool b) = Val (same_bool a b)
  same_wire (wire.int m) (wire.int n) = Val (is_number m n)
  same_wire (wire.text s) (wire.text t) = Val (bytes_eq s t)
  same_wire (wire.list ws) (wire.list xs) = same_wires ws xs
  same_wire (wire.object ms) (wire.object ns) =
      if same_names (member_names ms) (member_names ns) then same_members ms ns else Stuck
  same_wire _ _ = Stuck

  pub same_wires : wire.Wires → wire.Wires → End Bool
  same_wires no_wire no_wire = Val true
  same_wires (more_wires w ws) (more_wires x xs) =
      then_do (same_wire w x) (λ same. if same then same_wires ws xs else Val false)
  same_wires _ _ = Val false

  pub same_members : wire.Members → wire.Members → End Bool
  same_members (more_members j w ms) (more_members k x ns) =
      then_do (same_wire w x) (λ same. if same then same_members ms ns else Val false)
  same_members _ _ = Val true

-- ---- values

-- constructors of one union: where they are the same the fields decide
abbrev pub by_tags : {A : Type 0} → Tag → Tag → Seens → Seens → End A → End A → End A
by_tags j k xs ys same different =
    if same_tag j k then (if same_count xs ys then same else Stuck)
    else (if same_kind j k then different else Stuck)

abbrev mutual
  pub equal : Seen → Seen → End Bool
  equal FunctionS y = Crashed (codes "equality of functions")
  equal (IntS m) (IntS n) = Val (is_number m n)
  equal (TextS s) (TextS t) = Val (bytes_eq s t)
  equal (TagS j xs) (TagS k ys) = by_tags j k xs ys (equal_all xs ys) (Val false)
  equal (RecordS ks xs) (RecordS ls ys) = if same_names ks ls then equal_all xs ys else Stuck
  equal (DictS xs) (DictS ys) = equal_all xs ys
  equal (WireS v) (WireS w) = same_wire v w
  equal _ _ = Stuck

  pub equal_all : Seens → Seens → End Bool
  equal_all NoSeen NoSeen = Val true
  equal_all (MoreSeen x xs) (MoreSeen y ys) =
      then_do (equal x y) (λ same. if same then equal_all xs ys else Val false)
  equal_all _ _ = Val false

abbrev pub equals : Value → Value → End Bool
equals v w = equal (see v) (see w)
