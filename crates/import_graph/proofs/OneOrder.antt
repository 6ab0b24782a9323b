-- One order or one ring, and never both.
use Rattle.std.proofs.Common.{◌≡◌, ℕ, ◌<◌, ◌≤◌, List, [], ◌∷◌, ◌++◌, length, ⊎_elim, refl, sym, ap, subst, arith}
use Rattle.std.specs.List.{Contains}
use Rattle.std.proofs.lemmas.List.Elements.{Contains-push_cases}
use Rattle.decl_groups.specs.Groups.{Uses, Reaches, here, through, Together, position_of}
use Rattle.decl_groups.proofs.Unique.{same_group, first_of_group}
use Rattle.import_graph.specs.Order.{IsNext, IsOrder, all_placed, next, ReachesItself, IsRing}

-- ---- one order

same_next : {uses : List (List ℕ)} {placed : List ℕ} {m n : ℕ} → IsNext uses placed m → IsNext uses placed n → m ≡ n
same_next {m = m} {n = n} a b =
    let l : m ≤ n = a.least n b.ready in
    let r : n ≤ m = b.least m a.ready in
    omega arith

none_next : {uses : List (List ℕ)} {placed : List ℕ} {m : ℕ} → ((i : ℕ) → i < length uses → Contains placed i) → IsNext uses placed m → ⊥
none_next {m = m} all n = n.ready.not_placed (all m n.ready.within)

pub one_order : {uses : List (List ℕ)} {placed order other : List ℕ} → IsOrder uses placed order → IsOrder uses placed other → order ≡ other
one_order (all_placed f) (all_placed g) = refl
one_order (all_placed f) (next n o) = absurd (none_next f n)
one_order (next n o) (all_placed f) = absurd (none_next f n)
one_order {uses} {placed} (next {m = m} {rest = rest} n o) (next {m = l} {rest = others} k p) =
    let e = same_next n k in
    rw e (ap (λ more. l ∷ more) (one_order o (subst (λ x. IsOrder uses (placed ++ x ∷ []) others) (sym e) p)))

-- ---- one ring

pub one_ring : {uses : List (List ℕ)} {ring other : List ℕ} → IsRing uses ring → IsRing uses other → ring ≡ other
one_ring {uses} {ring} {other} r o =
    let there = (o.is_group.members (position_of other)).0 (first_of_group other o.is_group.not_empty) in
    let here = (r.is_group.members (position_of ring)).0 (first_of_group ring r.is_group.not_empty) in
    let l : position_of ring ≤ position_of other = r.least (position_of other) there.0 o.reaches_itself in
    let g : position_of other ≤ position_of ring = o.least (position_of ring) here.0 r.reaches_itself in
    same_group r.is_group o.is_group (omega arith)

-- ---- never both

pub joins : {uses : List (List ℕ)} {i j k : ℕ} → Reaches uses i j → Reaches uses j k → Reaches uses i k
joins here r = r
joins (through u s) r = through u (joins s r)

-- a module of a ring imports one of the ring
ring_import : {uses : List (List ℕ)} {m x : ℕ} → ReachesItself uses m → Reaches uses x m → Reaches uses m x → (j : ℕ) × Uses uses x j × Together uses m j
ring_import itself here back = (itself.0, itself.1, (through itself.1 here, itself.2))
ring_import itself (through {j = j} u r) back = (j, u, (joins back (through u here), r))

none_placed : {uses : List (List ℕ)} {placed order : List ℕ} {m : ℕ} → m < length uses → ReachesItself uses m →
    ((i : ℕ) → Together uses m i → Contains placed i → ⊥) → IsOrder uses placed order → ⊥
none_placed {m = m} within itself none (all_placed f) = none m (here, here) (f m within)
none_placed {uses} {placed} {m = m} within itself none (next {m = x} n o) =
    none_placed within itself (λ i t c. ⊎_elim (none i t) (λ e. stuck (subst (Together uses m) (sym e) t)) (Contains-push_cases placed x i c)) o
  where
    stuck : Together uses m x → ⊥
    stuck t = let u = ring_import itself t.1 t.0 in none u.0 u.2 (n.ready.imports u.0 u.1)

pub not_both : {uses : List (List ℕ)} {order ring : List ℕ} → IsOrder uses [] order → IsRing uses ring → ⊥
not_both {ring = ring} o r =
    let first = (r.is_group.members (position_of ring)).0 (first_of_group ring r.is_group.not_empty) in
    none_placed first.0 r.reaches_itself (λ i t c. omega (arith, c.1)) o
