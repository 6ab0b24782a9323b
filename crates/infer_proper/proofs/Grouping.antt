-- Type groups: a pattern with its value is alone in its own.
use Rattle.std.proofs.Common.{◌≡◌, ℕ, zero, suc, ◌+◌, ◌<◌, ◌≤◌, List, [], ◌∷◌, length, map, Bool, true, false, cond}
use Rattle.std.proofs.Common.{Option, Some, None, refl, sym, ap, ◌∙◌, subst, ◌⊎◌, inl, inr, arith}
use Rattle.std.specs.Prelude.{◌&&◌, ◌||◌, slice_get, slice_index_or, filter}
use Rattle.std.specs.List.{AllByRecursion, Contains, enumerate_from, list_any}
use Rattle.std.proofs.lemmas.List.{length-map}
use Rattle.std.proofs.lemmas.Option.{same_Some}
use Rattle.decl_groups.specs.Groups.{Uses, Reaches, here, through, IsGroup, IsOrder, all_placed, next}
use Rattle.decl_groups.specs.Groups.{Ascends}
use Rattle.decl_groups.proofs.Basics.{no_member, first_member, later_member, member_cases}
use Rattle.decl_groups.specs.InOrder.{ordered_groups, AreWithin}
use Rattle.decl_groups.proofs.Ordering.{order_is}
use Rattle.elm_canon.specs.declared.reference.Ref.{Ref}
use Rattle.elm_canon.specs.Tree.{Groups, Group, Together, Constant, Destructure, groups_of}
use Rattle.elm_canon.specs.Proper.{Scope, among, IsIn, ProperGroups}
use Rattle.elm_canon.specs.Declarations.{is_destructuring}
use Rattle.type_items.specs.Definitions.{Definition, in_written_order, is_inferred_for, used_places, all_uses}
use Rattle.type_items.specs.Expressions.{definitions}
use Rattle.infer_order.specs.Spots.{in_group, at_spot, has_titles}
use Rattle.infer_order.specs.Order.{Spots, group_list, HasTitle, StandsAlone}
use Rattle.elm_canon.specs.Apart.{NamesApart}
use Rattle.infer_proper.specs.Simple.{ApartAreSimple, TitledAreSimple}
use Rattle.elm_canon.proofs.Among.{first, later}
use Rattle.infer_proper.proofs.Counting.{has_name, count_ordered, one_place, groups_once}
use Rattle.infer_proper.proofs.Levels.{not_later}

-- ---- uses

and_right : (a b : Bool) → (a && b) ≡ true → b ≡ true
and_right true b e = e
and_right false b e = absurd cc

-- one of the names is used
record UsedName (names used : List Ref) : Type 0 where
  name : Ref
  there : IsIn name names
  is : IsIn name used

used_name : (names used : List Ref) → list_any (λ y. among y used) names ≡ true → UsedName names used
used_name [] used e = absurd cc
used_name (y ∷ ys) used e = go (among y used) refl e (λ h. used_name ys used h)
  where
    go : (b : Bool) → among y used ≡ b → (b || list_any (λ z. among z used) ys) ≡ true
        → (list_any (λ z. among z used) ys ≡ true → UsedName ys used) → UsedName (y ∷ ys) used
    go true is h again = record { name = y; there = first y ys; is = is }
    go false is h again =
        let r = again h in
        record { name = r.name; there = later r.name y ys r.there; is = r.is }

-- the definition of a number that is used
record UsedAt (k : ℕ) (ds : List Definition) (used : List Ref) (j : ℕ) : Type 0 where
  place : ℕ
  is : j ≡ k + place
  definition : Definition
  at : slice_get ds place ≡ Some definition
  inferred : is_inferred_for used definition ≡ true

used_at : (k : ℕ) (ds : List Definition) (used : List Ref) (j : ℕ)
    → Contains (map (λ d. d.0) (filter (λ d. is_inferred_for used d.1) (enumerate_from k ds))) j → UsedAt k ds used j
used_at k [] used j m = absurd (no_member j m)
used_at k (d ∷ ds) used j m = go (is_inferred_for used d) refl m (used_at (k + 1) ds used j)
  where
    rest : List (ℕ × Definition)
    rest = filter (λ d. is_inferred_for used d.1) (enumerate_from (k + 1) ds)

    on : UsedAt (k + 1) ds used j → UsedAt k (d ∷ ds) used j
    on r = record {
      place = suc r.place;
      is = let e = r.is in omega (arith, e);
      definition = r.definition;
      at = r.at;
      inferred = r.inferred;
    }

    go : (b : Bool) → is_inferred_for used d ≡ b → Contains (map (λ d. d.0) (cond b ((k, d) ∷ rest) rest)) j
        → (Contains (map (λ d. d.0) rest) j → UsedAt (k + 1) ds used j) → UsedAt k (d ∷ ds) used j
    go true is h again = elim (member_cases k j (map (λ d. d.0) rest) h) [
      | inl e ↦ record { place = zero; is = omega (arith, e); definition = d; at = refl; inferred = is }
      | inr c ↦ on (again c)
    ]
    go false is h again = on (again h)

-- ---- lists

record ListedAt {X Y : Type 0} (f : X → List Y) (xs : List X) (i : ℕ) (y : Y) : Type 0 where
  item : X
  at : slice_get xs i ≡ Some item
  there : Contains (f item) y

listed_at : {X Y : Type 0} (f : X → List Y) (xs : List X) (i : ℕ) (y : Y)
    → Contains (slice_index_or (map f xs) i []) y → ListedAt f xs i y
listed_at f [] i y m = absurd (no_member y m)
listed_at f (x ∷ xs) zero y m = record { item = x; at = refl; there = m }
listed_at f (x ∷ xs) (suc i) y m = let r = listed_at f xs i y m in record { item = r.item; at = r.at; there = r.there }

get_within : {X : Type 0} (xs : List X) (i : ℕ) (x : X) → slice_get xs i ≡ Some x → i < length xs
get_within [] i x e = absurd cc
get_within (y ∷ xs) zero x e = omega arith
get_within (y ∷ xs) (suc i) x e = let l = get_within xs i x e in omega (arith, l)

record HasItem {X : Type 0} (xs : List X) (i : ℕ) : Type 0 where
  item : X
  at : slice_get xs i ≡ Some item

has_item : {X : Type 0} (xs : List X) (i : ℕ) → i < length xs → HasItem xs i
has_item [] i l = absurd (omega (arith, l))
has_item (x ∷ xs) zero l = record { item = x; at = refl }
has_item (x ∷ xs) (suc i) l = let r = has_item xs i (omega (arith, l)) in record { item = r.item; at = r.at }

record MadeBy {X Y : Type 0} (f : X → Option Y) (xs : List X) (i : ℕ) (y : Y) : Type 0 where
  from : X
  at : slice_get xs i ≡ Some from
  is : f from ≡ Some y

made_by : {X Y : Type 0} (f : X → Option Y) (xs : List X) (ys : List Y) → map f xs ≡ map (λ y. Some y) ys
    → (i : ℕ) (y : Y) → slice_get ys i ≡ Some y → MadeBy f xs i y
made_by f [] [] e i y at = absurd cc
made_by f [] (z ∷ ys) e i y at = absurd cc
made_by f (x ∷ xs) [] e i y at = absurd cc
made_by f (x ∷ xs) (z ∷ ys) e zero y at =
    let both : (f x ∷ map f xs) ≡ (Some z ∷ map (λ y. Some y) ys) = e in
    let one : f x ≡ Some z = cc in
    record { from = x; at = refl; is = one ∙ at }
made_by f (x ∷ xs) (z ∷ ys) e (suc i) y at =
    let both : (f x ∷ map f xs) ≡ (Some z ∷ map (λ y. Some y) ys) = e in
    let rest : map f xs ≡ map (λ y. Some y) ys = cc in
    let r = made_by f xs ys rest i y at in
    record { from = r.from; at = r.at; is = r.is }

all_members : (P : ℕ → Type 0) (xs : List ℕ) → ((i : ℕ) → Contains xs i → P i) → AllByRecursion P xs
all_members P [] f = tt
all_members P (x ∷ xs) f = (f x (first_member x xs), all_members P xs (λ i m. f i (later_member x i xs m)))

-- ---- reaching

joined : {uses : List (List ℕ)} {i j k : ℕ} → Reaches uses i j → Reaches uses j k → Reaches uses i k
joined here r = r
joined (through u q) r = through u (joined q r)

record UsesLast (uses : List (List ℕ)) (j : ℕ) : Type 0 where
  before : ℕ
  last : Uses uses before j

last_use : {uses : List (List ℕ)} {i j : ℕ} → Reaches uses i j → (i ≡ j) ⊎ UsesLast uses j
last_use here = inl refl
last_use {uses} {i} {j} (through u r) = elim (last_use r) [
  | inl e ↦ inr (record { before = i; last = subst (λ k. Uses uses i k) e u })
  | inr l ↦ inr l
]

-- ---- a group that is a pattern has one definition

only_one : (o : Option Group) → has_titles o ≡ false → (k l : ℕ) (d e : Definition) → in_group o k ≡ Some d
    → in_group o l ≡ Some e → d ≡ e
only_one None h k l d e at there = absurd cc
only_one (Some (Together fs)) h k l d e at there = absurd cc
only_one (Some (Constant title b)) h k l d e at there = absurd cc
only_one (Some (Destructure q b)) h zero zero d e at there = sym (same_Some _ d at) ∙ same_Some _ e there
only_one (Some (Destructure q b)) h zero (suc l) d e at there = absurd cc
only_one (Some (Destructure q b)) h (suc k) l d e at there = absurd cc

abbrev level_of : Option (ℕ × ℕ) → ℕ
level_of None = 0
level_of (Some s) = s.0

-- ---- the type groups

module _ (scope : Scope) (gs : Groups) (proper : ProperGroups scope gs) (apart : NamesApart gs) (spots : Spots)
    (are : map (λ s. at_spot (group_list gs) s.0 s.1) spots ≡ map (λ d. Some d) (in_written_order (definitions gs)))
  where
    abbrev ds : List Definition
    ds = in_written_order (definitions gs)

    abbrev uses : List (List ℕ)
    uses = all_uses ds

    abbrev level : ℕ → ℕ
    level i = level_of (slice_get spots i)

    record UseOf (i j : ℕ) : Type 0 where
      user : Definition
      at : slice_get ds i ≡ Some user
      given : Definition
      there : slice_get ds j ≡ Some given
      name : UsedName given.names user.uses

    use_of : (i j : ℕ) → Uses uses i j → UseOf i j
    use_of i j u = record {
      user = a.item;
      at = a.at;
      given = b.definition;
      there = subst (λ k. slice_get ds k ≡ Some b.definition) (sym place) b.at;
      name = used_name b.definition.names a.item.uses
          (and_right _ (list_any (λ y. among y a.item.uses) b.definition.names) b.inferred);
    }
      where
        a : ListedAt (λ (d : Definition). used_places ds d.uses) ds i j
        a = listed_at (λ (d : Definition). used_places ds d.uses) ds i j u

        b : UsedAt 0 ds a.item.uses j
        b = used_at 0 ds a.item.uses j a.there

        place : j ≡ b.place
        place = let e = b.is in omega (arith, e)

    within : AreWithin uses
    within i j u =
        let r = use_of i j u in
        let l = get_within ds j r.given r.there in
        subst (λ n. j < n) (sym (length-map ds (λ (d : Definition). used_places ds d.uses))) l

    -- the spot of a definition
    spot_of : (i : ℕ) (d : Definition) → slice_get ds i ≡ Some d
        → MadeBy (λ (s : ℕ × ℕ). at_spot (group_list gs) s.0 s.1) spots i d
    spot_of i d at = made_by (λ (s : ℕ × ℕ). at_spot (group_list gs) s.0 s.1) spots ds are i d at

    level_falls : (i j : ℕ) → Uses uses i j → level j ≤ level i
    level_falls i j u =
        let r = use_of i j u in
        let s = spot_of i r.user r.at in
        let t = spot_of j r.given r.there in
        let k = not_later r.name.name scope gs proper apart s.from.0 s.from.1 t.from.0 t.from.1 r.user r.given s.is t.is
        r.name.there r.name.is in
        let a : level i ≡ s.from.0 = ap level_of s.at in
        let b : level j ≡ t.from.0 = ap level_of t.at in
        omega (arith, k, a, b)

    reach_falls : {i j : ℕ} → Reaches uses i j → level j ≤ level i
    reach_falls here = omega arith
    reach_falls {i} {j} (through {j = m} u r) =
        let a = level_falls i m u in
        let b = reach_falls r in
        omega (arith, a, b)

    module _ (g : List ℕ) (is : IsGroup uses g) where
      inside : (i : ℕ) → Contains g i → i < length ds
      inside i m =
          let l = ((is.members i).0 m).0 in
          let n = length-map ds (λ (d : Definition). used_places ds d.uses) in
          omega (arith, l, n)

      reach_all : (i j : ℕ) → Contains g i → Contains g j → Reaches uses i j
      reach_all i j m n = joined ((is.members i).0 m).1.1 ((is.members j).0 n).1.0

      -- with a pattern there is no other one
      one_member : (i j : ℕ) → Contains g i → Contains g j → has_titles (slice_get (group_list gs) (level i)) ≡ false
          → i ≡ j
      one_member i j m n pattern = elim (last_use (reach_all i j m n)) [
        | inl e ↦ e
        | inr u ↦ same u
      ]
        where
          a : HasItem ds i
          a = has_item ds i (inside i m)

          b : HasItem ds j
          b = has_item ds j (inside j n)

          s : MadeBy (λ (s : ℕ × ℕ). at_spot (group_list gs) s.0 s.1) spots i a.item
          s = spot_of i a.item a.at

          t : MadeBy (λ (s : ℕ × ℕ). at_spot (group_list gs) s.0 s.1) spots j b.item
          t = spot_of j b.item b.at

          first_level : level i ≡ s.from.0
          first_level = ap level_of s.at

          one_level : t.from.0 ≡ s.from.0
          one_level =
              let x = reach_falls (reach_all i j m n) in
              let y = reach_falls (reach_all j i n m) in
              let z : level j ≡ t.from.0 = ap level_of t.at in
              omega (arith, x, y, first_level, z)

          alike : a.item ≡ b.item
          alike =
              only_one (slice_get (group_list gs) s.from.0)
              (subst (λ k. has_titles (slice_get (group_list gs) k) ≡ false) first_level pattern) s.from.1 t.from.1
              a.item b.item s.is (subst (λ k. in_group (slice_get (group_list gs) k) t.from.1 ≡ Some b.item) one_level t.is)

          same : UsesLast uses j → i ≡ j
          same u =
              let r = use_of u.before j u.last in
              let given : r.given ≡ b.item = same_Some r.given b.item (sym r.there ∙ b.at) in
              let x = r.name.name in
              let there : IsIn x b.item.names = subst (λ (d : Definition). IsIn x d.names) given r.name.there in
              let at : IsIn x a.item.names = subst (λ (d : Definition). IsIn x d.names) (sym alike) there in
              let few = (groups_once x scope gs proper).0 in
              let fewer = count_ordered (has_name x) (definitions gs) in
              one_place (has_name x) ds i j a.item b.item (omega (arith, few, fewer)) a.at b.at at there

    titled : (g : List ℕ) → IsGroup uses g → (a b : ℕ) (rest : List ℕ) → g ≡ a ∷ b ∷ rest → (i : ℕ) → Contains g i
        → (o : Option (ℕ × ℕ)) → slice_get spots i ≡ o → HasTitle (group_list gs) o
    titled g is a b rest e i m None at = tt
    titled g is a b rest e i m (Some s) at = go (has_titles (slice_get (group_list gs) s.0)) refl
      where
        level_is : level i ≡ s.0
        level_is = ap level_of at

        first_there : Contains g a
        first_there = subst (λ l. Contains l a) (sym e) (first_member a (b ∷ rest))

        second_there : Contains g b
        second_there = subst (λ l. Contains l b) (sym e) (later_member a b (b ∷ rest) (first_member b rest))

        go : (c : Bool) → has_titles (slice_get (group_list gs) s.0) ≡ c
            → has_titles (slice_get (group_list gs) s.0) ≡ true
        go true k = k
        go false k =
            let pattern : has_titles (slice_get (group_list gs) (level i)) ≡ false =
            ap (λ n. has_titles (slice_get (group_list gs) n)) level_is ∙ k in
            let x : i ≡ a = one_member g is i a m first_there pattern in
            let y : i ≡ b = one_member g is i b m second_there pattern in
            let up : a < b = (subst (λ l. Ascends l) e is.ascends) 0 1 (omega arith) (omega arith) in
            absurd (omega (arith, x, y, up))

    alone : (g : List ℕ) → IsGroup uses g → StandsAlone (group_list gs) spots g
    alone g is = go g refl
      where
        go : (l : List ℕ) → g ≡ l → StandsAlone (group_list gs) spots g
        go [] e = inl (subst (λ l. length l ≤ 1) (sym e) (omega arith))
        go (a ∷ []) e = inl (subst (λ l. length l ≤ 1) (sym e) (omega arith))
        go (a ∷ b ∷ rest) e =
            inr (all_members (λ i. HasTitle (group_list gs) (slice_get spots i)) g
            (λ i m. titled g is a b rest e i m (slice_get spots i) refl))

    all_alone : {placed : List ℕ} {groups : List (List ℕ)} → IsOrder uses placed groups
        → AllByRecursion (StandsAlone (group_list gs) spots) groups
    all_alone (all_placed f) = tt
    all_alone (next {group = g} n o) = (alone g n.ready.is_group, all_alone o)

    pub groups_alone : AllByRecursion (StandsAlone (group_list gs) spots) (ordered_groups uses)
    groups_alone = all_alone (order_is uses within)

pub apart_are_simple : ApartAreSimple
apart_are_simple scope gs proper apart = record { each = λ spots are. groups_alone scope gs proper apart spots are }

-- ---- without patterns

list_back : (gs : List Group) → group_list (groups_of gs) ≡ gs
list_back [] = refl
list_back (g ∷ gs) = ap (λ l. g ∷ l) (list_back gs)

all_titled : (gs : List Group) → AllByRecursion (λ g. is_destructuring g ≡ false) gs → (i : ℕ)
    → has_titles (slice_get gs i) ≡ true
all_titled [] h i = refl
all_titled (Together fs ∷ gs) h zero = refl
all_titled (Constant title e ∷ gs) h zero = refl
all_titled (Destructure q e ∷ gs) h zero = absurd (let no = h.0 in cc)
all_titled (g ∷ gs) h (suc i) = all_titled gs h.1 i

pub titled_are_simple : TitledAreSimple
titled_are_simple gs h = record { each = λ spots are. groups (ordered_groups _) spots }
  where
    spot : (o : Option (ℕ × ℕ)) → HasTitle (group_list (groups_of gs)) o
    spot None = tt
    spot (Some s) =
        subst (λ l. has_titles (slice_get l s.0) ≡ true) (sym (list_back gs)) (all_titled gs h s.0)

    groups : (groups : List (List ℕ)) (spots : Spots)
        → AllByRecursion (StandsAlone (group_list (groups_of gs)) spots) groups
    groups [] spots = tt
    groups (g ∷ rest) spots = (
      inr (all_members (λ i. HasTitle (group_list (groups_of gs)) (slice_get spots i)) g
          (λ i m. spot (slice_get spots i))),
      groups rest spots,
    )
