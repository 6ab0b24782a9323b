-- Where no group is a ring, the order of groups is that of the modules.
use Rattle.std.proofs.Common.{◌≡◌, ℕ, ◌<◌, ◌≤◌, List, [], ◌∷◌, ◌++◌, ◌⊎◌, inl, inr, ⊎_elim, length, Bool, true, false}
use Rattle.std.proofs.Common.{eqb, ◌||◌, Some, None, refl, sym, ap, subst, ◌∙◌, arith}
use Rattle.std.specs.List.{Contains, list_any}
use Rattle.std.proofs.lemmas.Bool.{false≢true}
use Rattle.std.proofs.lemmas.Bool.Decides.{eqb_tells}
use Rattle.std.proofs.lemmas.List.Elements.{Contains-push_cases, Contains-append_cases, Contains-get_or}
use Rattle.std.proofs.lemmas.List.{get_or_default}
use Rattle.decl_groups.specs.Groups as groups
use Rattle.decl_groups.specs.Groups.{list_at, Uses, Reaches, here, through, Together, Ascends, IsGroup, position_of}
use Rattle.decl_groups.proofs.Basics.{no_member, first_member, later_member, member_cases, ascends_head}
use Rattle.import_graph.specs.Order.{IsReady, IsNext, IsOrder, all_placed, next, ReachesItself, IsRing}
use Rattle.import_graph.specs.Rings.{is_ring, IsLeast, joined}
use Rattle.import_graph.proofs.OneOrder.{joins}

-- a group that is no ring is one module, which does not import itself
record IsOne (uses : List (List ℕ)) (group : List ℕ) : Type 0 where
  module_ : ℕ
  alone : group ≡ module_ ∷ []
  apart : Uses uses module_ module_ → ⊥

pub any_member : (xs : List ℕ) (m : ℕ) → list_any (λ j. eqb j m) xs ≡ false → Contains xs m → ⊥
any_member [] m e c = no_member m c
any_member (x ∷ xs) m e c = ⊎_elim (λ s. first s) (λ k. any_member xs m (or_right _ _ e) k) (member_cases x m xs c)
  where
    or_right : (a b : Bool) → (a || b) ≡ false → b ≡ false
    or_right true b e = absurd (false≢true (sym e))
    or_right false b e = e

    or_left : (a b : Bool) → (a || b) ≡ false → a ≡ false
    or_left true b e = absurd (false≢true (sym e))
    or_left false b e = refl

    first : x ≡ m → ⊥
    first s = elim (eqb_tells x m) [ inl t ↦ false≢true (sym (or_left _ _ e) ∙ t.0) | inr f ↦ f.1 s ]

one_of : (uses : List (List ℕ)) (group : List ℕ) → 0 < length group → is_ring uses group ≡ false → IsOne uses group
one_of uses [] some e = absurd (omega arith)
one_of uses (m ∷ []) some e = record { module_ = m; alone = refl; apart = any_member (list_at uses m) m e }
one_of uses (m ∷ n ∷ more) some e = absurd (false≢true (sym e))

abbrev pub NoRings : List (List ℕ) → List (List ℕ) → Type 0
NoRings uses gs = (g : List ℕ) → Contains gs g → is_ring uses g ≡ false

later_rings : (uses : List (List ℕ)) (g : List ℕ) (gs : List (List ℕ)) → NoRings uses (g ∷ gs) → NoRings uses gs
later_rings uses g gs none h m = none h (later_member g h gs m)

first_is_one : (uses : List (List ℕ)) (g : List ℕ) (gs : List (List ℕ)) → IsGroup uses g → NoRings uses (g ∷ gs) → IsOne uses g
first_is_one uses g gs is none = one_of uses g is.not_empty (none g (first_member g gs))

pub only_member : (m i : ℕ) → Contains (m ∷ []) i → m ≡ i
only_member m i c = ⊎_elim (λ e. e) (λ k. absurd (no_member i k)) (member_cases m i [] c)

-- each module is placed, or is a group alone
covered : {uses : List (List ℕ)} {placed : List ℕ} {gs : List (List ℕ)} → groups.IsOrder uses placed gs → NoRings uses gs →
    (i : ℕ) → i < length uses → Contains placed i ⊎ IsGroup uses (i ∷ [])
covered (groups.all_placed f) none i l = inl (f i l)
covered {uses} {placed} (groups.next {group = g} {rest = rest} n o) none i l =
    let one = first_is_one uses g rest n.ready.is_group none in
    let m = one.module_ in
    ⊎_elim
    (λ c. ⊎_elim inl
    (λ e. inr (subst (λ x. IsGroup uses (x ∷ [])) e (subst (IsGroup uses) one.alone n.ready.is_group)))
    (Contains-push_cases placed m i (subst (λ h. Contains (placed ++ h) i) one.alone c)))
    inr
    (covered o (later_rings uses g rest none) i l)

-- a module that is ready is a ready group
ready_group : {uses : List (List ℕ)} {placed : List ℕ} {gs : List (List ℕ)} {m : ℕ} → groups.IsOrder uses placed gs → NoRings uses gs →
    IsReady uses placed m → groups.IsReady uses placed (m ∷ [])
ready_group {uses} {placed} {m = m} o none r = record {
  is_group = ⊎_elim (λ c. absurd (r.not_placed c)) (λ g. g) (covered o none m r.within);
  not_placed = λ i c p. r.not_placed (subst (Contains placed) (sym (only_member m i c)) p);
  used = λ i j c u. inl (r.imports j (subst (λ x. Uses uses x j) (sym (only_member m i c)) u));
}

next_module : {uses : List (List ℕ)} {placed : List ℕ} {gs : List (List ℕ)} {m : ℕ} → groups.IsOrder uses placed gs → NoRings uses gs →
    groups.IsNext uses placed (m ∷ []) → (Uses uses m m → ⊥) → IsNext uses placed m
next_module {uses} {placed} {m = m} o none n apart = record {
  ready = record {
    within = ((n.ready.is_group.members m).0 (first_member m [])).0;
    not_placed = n.ready.not_placed m (first_member m []);
    imports = λ j u. ⊎_elim (λ p. p) (λ c. absurd (apart (subst (λ x. Uses uses m x) (sym (only_member m j c)) u))) (n.ready.used m j (first_member m []) u);
  };
  least = λ other r. n.least (other ∷ []) (ready_group o none r);
}

pub modules_ordered : {uses : List (List ℕ)} {placed : List ℕ} {gs : List (List ℕ)} → groups.IsOrder uses placed gs → NoRings uses gs → IsOrder uses placed (joined gs)
modules_ordered (groups.all_placed f) none = all_placed f
modules_ordered {uses} {placed} (groups.next {group = g} {rest = rest} n o) none =
    let one = first_is_one uses g rest n.ready.is_group none in
    let m = one.module_ in
    let is_next = next_module (groups.next n o) none (subst (groups.IsNext uses placed) one.alone n) one.apart in
    let more = subst (λ h. IsOrder uses (placed ++ h) (joined rest)) one.alone (modules_ordered o (later_rings uses g rest none)) in
    subst (λ h. IsOrder uses placed (h ++ joined rest)) (sym one.alone) (next is_next more)

-- ---- rings

pub any_is_member : (xs : List ℕ) (m : ℕ) → list_any (λ j. eqb j m) xs ≡ true → Contains xs m
any_is_member [] m e = absurd (false≢true e)
any_is_member (x ∷ xs) m e =
    elim (eqb_tells x m) [
      | inl t ↦ subst (Contains (x ∷ xs)) t.1 (first_member x xs)
      | inr f ↦ later_member x m xs (any_is_member xs m (rw f.0 at e))
    ]

pub group_in : {uses : List (List ℕ)} {placed : List ℕ} {gs : List (List ℕ)} → groups.IsOrder uses placed gs → (g : List ℕ) → Contains gs g → IsGroup uses g
group_in (groups.all_placed f) g c = absurd (no_member g c)
group_in {uses} (groups.next {group = h} {rest = rest} n o) g c =
    ⊎_elim (λ e. subst (IsGroup uses) e n.ready.is_group) (λ k. group_in o g k) (member_cases h g rest c)

record IsAmong (gs : List (List ℕ)) (i : ℕ) : Type 0 where
  group : List ℕ
  there : Contains gs group
  member : Contains group i

grouped : {uses : List (List ℕ)} {placed : List ℕ} {gs : List (List ℕ)} → groups.IsOrder uses placed gs → (i : ℕ) → i < length uses → Contains placed i ⊎ IsAmong gs i
grouped (groups.all_placed f) i l = inl (f i l)
grouped {placed = placed} (groups.next {group = g} {rest = rest} n o) i l =
    ⊎_elim
    (λ c. ⊎_elim inl (λ k. inr (record { group = g; there = first_member g rest; member = k })) (Contains-append_cases placed g i c))
    (λ a. inr (record { group = a.group; there = later_member g a.group rest a.there; member = a.member }))
    (grouped o i l)

-- a group of a module that reaches itself is a ring
member_any : (xs : List ℕ) (m : ℕ) → Contains xs m → list_any (λ j. eqb j m) xs ≡ true
member_any [] m c = absurd (no_member m c)
member_any (x ∷ xs) m c =
    ⊎_elim
    (λ e. ap (λ b. b || list_any (λ j. eqb j m) xs) (same x m e))
    (λ k. ap (λ b. eqb x m || b) (member_any xs m k) ∙ or_true (eqb x m))
    (member_cases x m xs c)
  where
    same : (x m : ℕ) → x ≡ m → eqb x m ≡ true
    same x m e = elim (eqb_tells x m) [ inl t ↦ t.0 | inr f ↦ absurd (f.1 e) ]

    or_true : (b : Bool) → (b || true) ≡ true
    or_true true = refl
    or_true false = refl

itself_ring : {uses : List (List ℕ)} (g : List ℕ) (i : ℕ) → ((j : ℕ) → Uses uses i j → j < length uses) → IsGroup uses g → Contains g i → ReachesItself uses i → is_ring uses g ≡ true
itself_ring [] i w is c r = absurd (no_member i c)
itself_ring (m ∷ n ∷ more) i w is c r = refl
itself_ring {uses} (m ∷ []) i w is c r =
    let e : m ≡ i = only_member m i c in
    let j = r.0 in
    let together : Together uses m j = (subst (λ x. Reaches uses x j) (sym e) (through r.1 here), subst (Reaches uses j) (sym e) r.2) in
    let there = (is.members j).1 (w j r.1, together) in
    let back : m ≡ j = only_member m j there in
    member_any (list_at uses m) m (subst (λ x. Uses uses m x) (sym back) (subst (λ x. Uses uses x j) (sym e) r.1))

-- the first of a ring reaches itself
ring_itself : {uses : List (List ℕ)} (g : List ℕ) → IsGroup uses g → is_ring uses g ≡ true → ReachesItself uses (position_of g)
ring_itself [] is e = absurd (false≢true e)
ring_itself {uses} (m ∷ []) is e = (m, any_is_member (list_at uses m) m e, here)
ring_itself {uses} (m ∷ n ∷ more) is e =
    let t = ((is.members n).0 (later_member m n (n ∷ more) (first_member n more))).1 in
    let apart : m < n = is.ascends 0 1 (omega arith) (omega arith) in
    go t.0 t.1 apart
  where
    go : {m n : ℕ} → Reaches uses m n → Reaches uses n m → m < n → ReachesItself uses m
    go here back l = absurd (omega arith)
    go (through {j = j} u r) back l = (j, u, joins r back)

position_least : (g : List ℕ) (i : ℕ) → Ascends g → Contains g i → position_of g ≤ i
position_least [] i a c = absurd (no_member i c)
position_least (x ∷ xs) i a c = ⊎_elim (λ e. omega (arith, e)) (λ k. omega (arith, ascends_head x i xs a k)) (member_cases x i xs c)

member_place : (gs : List (List ℕ)) (g : List ℕ) → Contains gs g → (k : ℕ) × (k < length gs) × (list_at gs k ≡ g)
member_place gs g c = (c.0, c.1, get_or_default gs c.0 [] g c.1 ∙ c.2)

-- the group at the place is the ring
pub ring_is : {uses : List (List ℕ)} {gs : List (List ℕ)} (place : ℕ) → groups.IsOrder uses [] gs → ((i j : ℕ) → Uses uses i j → j < length uses) →
    IsLeast uses gs (length gs) (Some place) → IsRing uses (list_at gs place)
ring_is {uses} {gs} place o w least =
    let is = group_in o (list_at gs place) (Contains-get_or gs place [] least.0) in
    record { is_group = is; reaches_itself = ring_itself (list_at gs place) is least.1; least = lowest }
  where
    lowest : (i : ℕ) → i < length uses → ReachesItself uses i → position_of (list_at gs place) ≤ i
    lowest i l r = ⊎_elim (λ c. absurd (no_member i c)) (λ a. at a (member_place gs a.group a.there)) (grouped o i l)
      where
        at : (a : IsAmong gs i) → (k : ℕ) × (k < length gs) × (list_at gs k ≡ a.group) → position_of (list_at gs place) ≤ i
        at a p =
            let g = group_in o a.group a.there in
            let ring = itself_ring a.group i (w i) g a.member r in
            let first : position_of (list_at gs place) ≤ position_of (list_at gs p.0) = least.2 p.0 p.1 (subst (λ h. is_ring uses h ≡ true) (sym p.2) ring) in
            let low : position_of a.group ≤ i = position_least a.group i g.ascends a.member in
            omega (arith, first, low, ap position_of p.2)

-- no group is a ring
pub no_rings : (uses : List (List ℕ)) (gs : List (List ℕ)) → IsLeast uses gs (length gs) None → NoRings uses gs
no_rings uses gs none g c = let p = member_place gs g c in subst (λ h. is_ring uses h ≡ false) p.2 (none p.0 p.1)
