-- Equality.
use Rattle.std.proofs.Common.{◌≡◌, Bool, true, false, refl, sym, ap, ◌∙◌, subst}
use Rattle.std.specs.Prelude.{if◌then◌else◌}
use Rattle.std.specs.Str.{bytes_eq}
use Rattle.std.proofs.lemmas.Slice.Eq.{bytes_eq-Decides}
use Rattle.wire_value.specs.Wire as wire
use Rattle.wire_value.specs.Wire.{Wire, no_wire, more_wires, no_member, more_members}
use Rattle.runs.specs.Ends.{End, Val, Crashed, OutOfFuel, Unsafe, Stuck, then_do}
use Rattle.runs.specs.Numbers.{is_number}
use Rattle.elm_canon.specs.declared.unions.Tag.{Tag}
use Rattle.elm_meaning.specs.Seen.{Seen, FunctionS, IntS, TextS, TagS, RecordS, DictS, OddS, WireS, Seens, NoSeen}
use Rattle.elm_meaning.specs.Seen.{MoreSeen, see, same_bool, same_tag, same_kind, same_count}
use Rattle.elm_meaning.specs.Equal.{member_names, same_names, same_wire, same_wires, same_members, equal, equal_all}
use Rattle.emit_laws.specs.Comparing.{is_plain, are_plain, EqualsItself, EqualTurns, EqualsAlike}
use Rattle.emit_laws.proofs.Tests.{left_so, right_so, number_Decides, bool_Decides, turned, names_Decides, names_itself}
use Rattle.emit_laws.proofs.Tests.{names_same, tag_Decides, tag_itself, tag_same, kind_turned, count_turned, count_itself}

-- ---- what is equal looks the same

abbrev pub Alike : {X : Type 0} → X → X → End Bool → Type 0
Alike x y (Val true) = x ≡ y
Alike x y (Val false) = Unit {0}
Alike x y (Crashed t) = Unit {0}
Alike x y OutOfFuel = Unit {0}
Alike x y Unsafe = Unit {0}
Alike x y Stuck = Unit {0}

test_alike : {X : Type 0} (x y : X) (b : Bool) → (b ≡ true → x ≡ y) → Alike x y (Val b)
test_alike x y true h = h refl
test_alike x y false h = tt

-- under a constructor
map_alike : {X Y : Type 0} (f : X → Y) (x y : X) (o : End Bool) → Alike x y o → Alike (f x) (f y) o
map_alike f x y (Val true) h = ap f h
map_alike f x y (Val false) h = tt
map_alike f x y (Crashed t) h = tt
map_alike f x y OutOfFuel h = tt
map_alike f x y Unsafe h = tt
map_alike f x y Stuck h = tt

-- a first part, and then the rest
then_alike : {X Y Z : Type 0} (f : X → Y → Z) (x y : X) (u v : Y) (o p : End Bool) → Alike x y o → Alike u v p
    → Alike (f x u) (f y v) (then_do o (λ same. if same then p else Val false))
then_alike f x y u v (Val true) (Val true) h k = ap (λ z. f z u) h ∙ ap (λ z. f y z) k
then_alike f x y u v (Val true) (Val false) h k = tt
then_alike f x y u v (Val true) (Crashed t) h k = tt
then_alike f x y u v (Val true) OutOfFuel h k = tt
then_alike f x y u v (Val true) Unsafe h k = tt
then_alike f x y u v (Val true) Stuck h k = tt
then_alike f x y u v (Val false) p h k = tt
then_alike f x y u v (Crashed t) p h k = tt
then_alike f x y u v OutOfFuel p h k = tt
then_alike f x y u v Unsafe p h k = tt
then_alike f x y u v Stuck p h k = tt

-- where a test holds that makes them alike in one part
if_alike : {X Y Z : Type 0} (f : X → Y → Z) (x y : X) (u v : Y) (b : Bool) (o : End Bool) → (b ≡ true → x ≡ y) → Alike u v o
    → Alike (f x u) (f y v) (if b then o else Stuck)
if_alike f x y u v true (Val true) h k = ap (λ z. f z u) (h refl) ∙ ap (λ z. f y z) k
if_alike f x y u v true (Val false) h k = tt
if_alike f x y u v true (Crashed t) h k = tt
if_alike f x y u v true OutOfFuel h k = tt
if_alike f x y u v true Unsafe h k = tt
if_alike f x y u v true Stuck h k = tt
if_alike f x y u v false o h k = tt

-- objects, whose members are alike where they have the same names
object_alike : (ms ns : wire.Members) (b : Bool) → (b ≡ true → Alike ms ns (same_members ms ns))
    → Alike (wire.object ms) (wire.object ns) (if b then same_members ms ns else Stuck)
object_alike ms ns true h = map_alike wire.object ms ns (same_members ms ns) (h refl)
object_alike ms ns false h = tt

mutual
  wire_alike : (v w : Wire) → Alike v w (same_wire v w)
  wire_alike wire.null wire.null = refl
  wire_alike wire.null (wire.bool b) = tt
  wire_alike wire.null (wire.int n) = tt
  wire_alike wire.null (wire.text t) = tt
  wire_alike wire.null (wire.list xs) = tt
  wire_alike wire.null (wire.object ns) = tt
  wire_alike (wire.bool a) (wire.bool b) = test_alike (wire.bool a) (wire.bool b) (same_bool a b) (λ e. ap wire.bool ((bool_Decides a b).0 e))
  wire_alike (wire.int m) (wire.int n) = test_alike (wire.int m) (wire.int n) (is_number m n) (λ e. ap wire.int ((number_Decides m n).0 e))
  wire_alike (wire.text s) (wire.text t) = test_alike (wire.text s) (wire.text t) (bytes_eq s t) (λ e. ap wire.text ((bytes_eq-Decides s t).0 e))
  wire_alike (wire.list ws) (wire.list xs) = map_alike wire.list ws xs (same_wires ws xs) (wires_alike ws xs)
  wire_alike (wire.object ms) (wire.object ns) = object_alike ms ns (same_names (member_names ms) (member_names ns)) (λ e. members_alike ms ns e)
  wire_alike (wire.bool a) wire.null = tt
  wire_alike (wire.bool a) (wire.int n) = tt
  wire_alike (wire.bool a) (wire.text t) = tt
  wire_alike (wire.bool a) (wire.list xs) = tt
  wire_alike (wire.bool a) (wire.object ns) = tt
  wire_alike (wire.int m) wire.null = tt
  wire_alike (wire.int m) (wire.bool b) = tt
  wire_alike (wire.int m) (wire.text t) = tt
  wire_alike (wire.int m) (wire.list xs) = tt
  wire_alike (wire.int m) (wire.object ns) = tt
  wire_alike (wire.text s) wire.null = tt
  wire_alike (wire.text s) (wire.bool b) = tt
  wire_alike (wire.text s) (wire.int n) = tt
  wire_alike (wire.text s) (wire.list xs) = tt
  wire_alike (wire.text s) (wire.object ns) = tt
  wire_alike (wire.list ws) wire.null = tt
  wire_alike (wire.list ws) (wire.bool b) = tt
  wire_alike (wire.list ws) (wire.int n) = tt
  wire_alike (wire.list ws) (wire.text t) = tt
  wire_alike (wire.list ws) (wire.object ns) = tt
  wire_alike (wire.object ms) wire.null = tt
  wire_alike (wire.object ms) (wire.bool b) = tt
  wire_alike (wire.object ms) (wire.int n) = tt
  wire_alike (wire.object ms) (wire.text t) = tt
  wire_alike (wire.object ms) (wire.list xs) = tt

  wires_alike : (ws xs : wire.Wires) → Alike ws xs (same_wires ws xs)
  wires_alike no_wire no_wire = refl
  wires_alike no_wire (more_wires x xs) = tt
  wires_alike (more_wires w ws) no_wire = tt
  wires_alike (more_wires w ws) (more_wires x xs) =
      then_alike more_wires w x ws xs (same_wire w x) (same_wires ws xs) (wire_alike w x) (wires_alike ws xs)

  members_alike : (ms ns : wire.Members) → same_names (member_names ms) (member_names ns) ≡ true → Alike ms ns (same_members ms ns)
  members_alike no_member no_member e = refl
  members_alike no_member (more_members k x ns) e = absurd (let w : false ≡ true = e in cc)
  members_alike (more_members j w ms) no_member e = absurd (let w : false ≡ true = e in cc)
  members_alike (more_members j w ms) (more_members k x ns) e =
      let f : j ≡ k = (bytes_eq-Decides j k).0 (left_so (bytes_eq j k) (same_names (member_names ms) (member_names ns)) e) in
      subst (λ i. Alike (more_members j w ms) (more_members i x ns) (then_do (same_wire w x) (λ same. if same then same_members ms ns else Val false))) f
      (then_alike (more_members j) w x ms ns (same_wire w x) (same_members ms ns) (wire_alike w x)
      (members_alike ms ns (right_so (bytes_eq j k) (same_names (member_names ms) (member_names ns)) e)))

tags_alike : (j k : Tag) (xs ys : Seens) (o : End Bool) (b c d : Bool) → (b ≡ true → j ≡ k) → Alike xs ys o
    → Alike (TagS j xs) (TagS k ys) (if b then (if c then o else Stuck) else (if d then Val false else Stuck))
tags_alike j k xs ys o true true d h a = if_alike TagS j k xs ys true o h a
tags_alike j k xs ys o true false d h a = tt
tags_alike j k xs ys o false c true h a = tt
tags_alike j k xs ys o false c false h a = tt

mutual
  pub alike : (x y : Seen) → Alike x y (equal x y)
  alike (IntS m) (IntS n) = test_alike (IntS m) (IntS n) (is_number m n) (λ e. ap IntS ((number_Decides m n).0 e))
  alike (TextS s) (TextS t) = test_alike (TextS s) (TextS t) (bytes_eq s t) (λ e. ap TextS ((bytes_eq-Decides s t).0 e))
  alike (TagS j xs) (TagS k ys) =
      tags_alike j k xs ys (equal_all xs ys) (same_tag j k) (same_count xs ys) (same_kind j k) (tag_same j k) (all_alike xs ys)
  alike (RecordS ks xs) (RecordS ls ys) =
      if_alike RecordS ks ls xs ys (same_names ks ls) (equal_all xs ys) (names_same ks ls) (all_alike xs ys)
  alike (DictS xs) (DictS ys) = map_alike DictS xs ys (equal_all xs ys) (all_alike xs ys)
  alike (WireS v) (WireS w) = map_alike WireS v w (same_wire v w) (wire_alike v w)
  alike _ _ = tt

  all_alike : (xs ys : Seens) → Alike xs ys (equal_all xs ys)
  all_alike NoSeen NoSeen = refl
  all_alike NoSeen (MoreSeen y ys) = tt
  all_alike (MoreSeen x xs) NoSeen = tt
  all_alike (MoreSeen x xs) (MoreSeen y ys) =
      then_alike MoreSeen x y xs ys (equal x y) (equal_all xs ys) (alike x y) (all_alike xs ys)

pub equals_alike : EqualsAlike
equals_alike v w e = subst (Alike (see v) (see w)) e (alike (see v) (see w))

-- ---- turned around

-- a value stays
abbrev Stays : End Bool → End Bool → Type 0
Stays (Val b) p = p ≡ Val b
Stays (Crashed t) p = Unit {0}
Stays OutOfFuel p = Unit {0}
Stays Unsafe p = Unit {0}
Stays Stuck p = Unit {0}

then_stays : (o p q r : End Bool) → Stays o p → Stays q r
    → Stays (then_do o (λ same. if same then q else Val false)) (then_do p (λ same. if same then r else Val false))
then_stays (Val true) p q r h k = subst (λ z. Stays q (then_do z (λ same. if same then r else Val false))) (sym h) k
then_stays (Val false) p q r h k = ap (λ z. then_do z (λ same. if same then r else Val false)) h
then_stays (Crashed t) p q r h k = tt
then_stays OutOfFuel p q r h k = tt
then_stays Unsafe p q r h k = tt
then_stays Stuck p q r h k = tt

-- tests that give the same
test_stays : (b c : Bool) → b ≡ c → Stays (Val b) (Val c)
test_stays b c e = ap (λ z. Val z) (sym e)

if_stays : (b c : Bool) (o p : End Bool) → b ≡ c → Stays o p → Stays (if b then o else Stuck) (if c then p else Stuck)
if_stays true true o p e h = h
if_stays true false o p e h = absurd (let w : true ≡ false = e in cc)
if_stays false c o p e h = tt

tags_stay : (b c : Bool) (m n : End Bool) (d f : Bool) → b ≡ c → Stays m n → d ≡ f
    → Stays (if b then m else (if d then Val false else Stuck)) (if c then n else (if f then Val false else Stuck))
tags_stay true true m n d f e h g = h
tags_stay true false m n d f e h g = absurd (let w : true ≡ false = e in cc)
tags_stay false true m n d f e h g = absurd (let w : false ≡ true = e in cc)
tags_stay false false m n true true e h g = refl
tags_stay false false m n true false e h g = absurd (let w : true ≡ false = g in cc)
tags_stay false false m n false f e h g = tt

mutual
  wire_stays : (v w : Wire) → Stays (same_wire v w) (same_wire w v)
  wire_stays wire.null wire.null = refl
  wire_stays wire.null (wire.bool b) = refl
  wire_stays wire.null (wire.int n) = refl
  wire_stays wire.null (wire.text t) = refl
  wire_stays wire.null (wire.list xs) = refl
  wire_stays wire.null (wire.object ns) = refl
  wire_stays (wire.bool a) wire.null = refl
  wire_stays (wire.bool a) (wire.bool b) = test_stays (same_bool a b) (same_bool b a) (turned same_bool bool_Decides a b)
  wire_stays (wire.int m) wire.null = refl
  wire_stays (wire.int m) (wire.int n) = test_stays (is_number m n) (is_number n m) (turned is_number number_Decides m n)
  wire_stays (wire.text s) wire.null = refl
  wire_stays (wire.text s) (wire.text t) = test_stays (bytes_eq s t) (bytes_eq t s) (turned bytes_eq bytes_eq-Decides s t)
  wire_stays (wire.list ws) wire.null = refl
  wire_stays (wire.list ws) (wire.list xs) = wires_stay ws xs
  wire_stays (wire.object ms) wire.null = refl
  wire_stays (wire.object ms) (wire.object ns) =
      if_stays (same_names (member_names ms) (member_names ns)) (same_names (member_names ns) (member_names ms)) (same_members ms ns) (same_members ns ms)
      (turned same_names names_Decides (member_names ms) (member_names ns)) (members_stay ms ns)
  wire_stays _ _ = tt

  wires_stay : (ws xs : wire.Wires) → Stays (same_wires ws xs) (same_wires xs ws)
  wires_stay no_wire no_wire = refl
  wires_stay no_wire (more_wires x xs) = refl
  wires_stay (more_wires w ws) no_wire = refl
  wires_stay (more_wires w ws) (more_wires x xs) =
      then_stays (same_wire w x) (same_wire x w) (same_wires ws xs) (same_wires xs ws) (wire_stays w x) (wires_stay ws xs)

  members_stay : (ms ns : wire.Members) → Stays (same_members ms ns) (same_members ns ms)
  members_stay no_member no_member = refl
  members_stay no_member (more_members k x ns) = refl
  members_stay (more_members j w ms) no_member = refl
  members_stay (more_members j w ms) (more_members k x ns) =
      then_stays (same_wire w x) (same_wire x w) (same_members ms ns) (same_members ns ms) (wire_stays w x) (members_stay ms ns)

mutual
  equal_stays : (x y : Seen) → Stays (equal x y) (equal y x)
  equal_stays (IntS m) (IntS n) = test_stays (is_number m n) (is_number n m) (turned is_number number_Decides m n)
  equal_stays (TextS s) (TextS t) = test_stays (bytes_eq s t) (bytes_eq t s) (turned bytes_eq bytes_eq-Decides s t)
  equal_stays (TagS j xs) (TagS k ys) =
      tags_stay (same_tag j k) (same_tag k j) (if same_count xs ys then equal_all xs ys else Stuck) (if same_count ys xs then equal_all ys xs else Stuck)
      (same_kind j k) (same_kind k j) (turned same_tag tag_Decides j k)
      (if_stays (same_count xs ys) (same_count ys xs) (equal_all xs ys) (equal_all ys xs) (count_turned xs ys) (all_stay xs ys)) (kind_turned j k)
  equal_stays (RecordS ks xs) (RecordS ls ys) =
      if_stays (same_names ks ls) (same_names ls ks) (equal_all xs ys) (equal_all ys xs) (turned same_names names_Decides ks ls) (all_stay xs ys)
  equal_stays (DictS xs) (DictS ys) = all_stay xs ys
  equal_stays (WireS v) (WireS w) = wire_stays v w
  equal_stays _ _ = tt

  all_stay : (xs ys : Seens) → Stays (equal_all xs ys) (equal_all ys xs)
  all_stay NoSeen NoSeen = refl
  all_stay NoSeen (MoreSeen y ys) = refl
  all_stay (MoreSeen x xs) NoSeen = refl
  all_stay (MoreSeen x xs) (MoreSeen y ys) =
      then_stays (equal x y) (equal y x) (equal_all xs ys) (equal_all ys xs) (equal_stays x y) (all_stay xs ys)

pub equal_turns : EqualTurns
equal_turns v w b e = subst (λ z. Stays z (equal (see w) (see v))) e (equal_stays (see v) (see w))

-- ---- itself

then_itself : (o p : End Bool) → o ≡ Val true → p ≡ Val true → then_do o (λ same. if same then p else Val false) ≡ Val true
then_itself o p e f = ap (λ z. then_do z (λ same. if same then p else Val false)) e ∙ f

if_itself : (b : Bool) (o other : End Bool) → b ≡ true → o ≡ Val true → (if b then o else other) ≡ Val true
if_itself b o other e f = ap (λ (z : Bool). if z then o else other) e ∙ f

mutual
  wire_itself : (w : Wire) → same_wire w w ≡ Val true
  wire_itself wire.null = refl
  wire_itself (wire.bool b) = ap (λ z. Val z) ((bool_Decides b b).1 refl)
  wire_itself (wire.int n) = ap (λ z. Val z) ((number_Decides n n).1 refl)
  wire_itself (wire.text t) = ap (λ z. Val z) ((bytes_eq-Decides t t).1 refl)
  wire_itself (wire.list ws) = wires_itself ws
  wire_itself (wire.object ms) = if_itself (same_names (member_names ms) (member_names ms)) (same_members ms ms) Stuck (names_itself (member_names ms)) (members_itself ms)

  wires_itself : (ws : wire.Wires) → same_wires ws ws ≡ Val true
  wires_itself no_wire = refl
  wires_itself (more_wires w ws) = then_itself (same_wire w w) (same_wires ws ws) (wire_itself w) (wires_itself ws)

  members_itself : (ms : wire.Members) → same_members ms ms ≡ Val true
  members_itself no_member = refl
  members_itself (more_members k w ms) = then_itself (same_wire w w) (same_members ms ms) (wire_itself w) (members_itself ms)

mutual
  itself : (x : Seen) → is_plain x ≡ true → equal x x ≡ Val true
  itself FunctionS h = absurd (let w : false ≡ true = h in cc)
  itself (IntS n) h = ap (λ z. Val z) ((number_Decides n n).1 refl)
  itself (TextS t) h = ap (λ z. Val z) ((bytes_eq-Decides t t).1 refl)
  itself (TagS tag xs) h =
      if_itself (same_tag tag tag) (if same_count xs xs then equal_all xs xs else Stuck) (if same_kind tag tag then Val false else Stuck) (tag_itself tag)
      (if_itself (same_count xs xs) (equal_all xs xs) Stuck (count_itself xs) (all_itself xs h))
  itself (RecordS ks xs) h = if_itself (same_names ks ks) (equal_all xs xs) Stuck (names_itself ks) (all_itself xs h)
  itself (DictS xs) h = all_itself xs h
  itself OddS h = absurd (let w : false ≡ true = h in cc)
  itself (WireS w) h = wire_itself w

  all_itself : (xs : Seens) → are_plain xs ≡ true → equal_all xs xs ≡ Val true
  all_itself NoSeen h = refl
  all_itself (MoreSeen x xs) h =
      then_itself (equal x x) (equal_all xs xs) (itself x (left_so (is_plain x) (are_plain xs) h)) (all_itself xs (right_so (is_plain x) (are_plain xs) h))

pub equals_itself : EqualsItself
equals_itself v h = itself (see v) h
