-- How many types are still to come: `after_type`, `after_less`, `read_on`.
use Rattle.std.proofs.Common.{◌≡◌, ℕ, zero, suc, ◌+◌, ◌-◌, ◌≤◌, ◌<◌, List, [], ◌∷◌, ◌++◌, length, Option, Some}
use Rattle.std.proofs.Common.{None, take, drop}
use Rattle.std.proofs.Common.{refl, sym, ap, ◌∙◌, arith, append_assoc, Bool, true, false, if◌then◌else◌, ◌&&◌}
use Rattle.std.proofs.Common.{codes}
use Rattle.std.proofs.Common.{length-append, length-drop}
use Rattle.std.specs.Prelude.{◌==◌, is_some}
use Rattle.std.proofs.Math.Seq.{take-append_seam}
use Rattle.std.proofs.lemmas.Bool.{eqb-true, false≢true}
use Rattle.elm_type.specs.Types.{ElmType, ElmTypes, Fields, Closed, Over, Made, Record, NoType, MoreType, NoField}
use Rattle.elm_type.specs.Types.{MoreField, Leaf, count, count_fields}
use Rattle.elm_type.specs.Spelling.{spell, spell_all, spell_fields, type_of, AreSpelled}
use Rattle.elm_type.specs.declared.head.Head.{Head}
use Rattle.elm_type.specs.declared.head.Head.TheVariants as head
use Rattle.elm_type.specs.declared.node.Leaf as leaf
use Rattle.canon_type.specs.Ports.{is_type}
use Rattle.port_payload.specs.Entry.{flags_in, is_unit}
use Rattle.elm_type.specs.declared.node.Node.{Node}
use Rattle.elm_type.specs.declared.node.Node.TheVariants as node
use Rattle.port_payload.specs.Fronts.{after, first_is, is_program_node, is_unit_node}

swap : (p n : ℕ) → p + n ≡ n + p
swap p n = omega arith

none_more : (p : ℕ) → 0 + p ≡ p
none_more p = omega arith

one_more : (n p : ℕ) → suc n + p ≡ suc (n + p)
one_more n p = omega arith

mutual
  unfolding spell

  pub after_type : (t : ElmType (Leaf ℕ)) (p : ℕ) (ns : List Node) → after (suc p) (spell t ++ ns) ≡ after p ns
  after_type (Made h ts) p ns = ap (λ k. after k (spell_all ts ++ ns)) (swap p (count ts)) ∙ after_types ts p ns
  after_type (Record fs Closed) p ns =
      ap (λ k. after k (spell_fields fs ++ ns)) (swap p (count_fields fs)) ∙ after_fields fs p ns
  after_type (Record fs (Over x)) p ns =
      ap (λ k. after k (spell_fields fs ++ ns)) (swap p (count_fields fs)) ∙ after_fields fs p ns

  after_types : (ts : ElmTypes (Leaf ℕ)) (p : ℕ) (ns : List Node) →
      after (count ts + p) (spell_all ts ++ ns) ≡ after p ns
  after_types NoType p ns = ap (λ k. after k ns) (none_more p)
  after_types (MoreType t ts) p ns =
      ap (after (suc (count ts) + p)) (append_assoc (spell t) (spell_all ts) ns)
      ∙ ap (λ k. after k (spell t ++ (spell_all ts ++ ns))) (one_more (count ts) p)
      ∙ after_type t (count ts + p) (spell_all ts ++ ns) ∙ after_types ts p ns

  after_fields : (fs : Fields (Leaf ℕ)) (p : ℕ) (ns : List Node) →
      after (count_fields fs + p) (spell_fields fs ++ ns) ≡ after p ns
  after_fields NoField p ns = ap (λ k. after k ns) (none_more p)
  after_fields (MoreField k t fs) p ns =
      ap (λ j. after j (node.Field k ∷ ((spell t ++ spell_fields fs) ++ ns))) (one_more (count_fields fs) p)
      ∙ ap (after (suc (count_fields fs + p))) (append_assoc (spell t) (spell_fields fs) ns)
      ∙ after_type t (count_fields fs + p) (spell_fields fs ++ ns) ∙ after_fields fs p ns

-- no more types are to come than there are nodes
pub after_less : (p : ℕ) (ns rest : List Node) → after p ns ≡ Some rest → p ≤ length ns
after_less zero ns rest e = omega arith
after_less (suc p) [] rest e = absurd cc
after_less (suc p) (node.Made h n ∷ ns) rest e = let l = after_less (p + n) ns rest e in omega (arith, l)
after_less (suc p) (node.Record n ∷ ns) rest e = let l = after_less (p + n) ns rest e in omega (arith, l)
after_less (suc p) (node.Open x n ∷ ns) rest e = let l = after_less (p + n) ns rest e in omega (arith, l)
after_less (suc p) (node.Field k ∷ ns) rest e = let l = after_less (suc p) ns rest e in omega (arith, l)

-- ---- one node

pub fits_made : (most left n : ℕ) (h : Head) (x : Node) → x ≡ node.Made h n → 0 < left →
    ((ns : List Node) × (rest : List Node) × (after left (x ∷ ns) ≡ Some rest) × (length ns ≤ most)) →
    left - 1 + n ≤ most
fits_made most zero n h x e l s = absurd (omega arith)
fits_made most (suc p) n h x e l s =
    let a : after (p + n) s.0 ≡ Some s.1 = ap (λ y. after (suc p) (y ∷ s.0)) (sym e) ∙ s.2 in
    let b = after_less (p + n) s.0 s.1 a in omega (arith, b, s.3)

pub fits_record : (most left n : ℕ) (x : Node) → x ≡ node.Record n → 0 < left →
    ((ns : List Node) × (rest : List Node) × (after left (x ∷ ns) ≡ Some rest) × (length ns ≤ most)) →
    left - 1 + n ≤ most
fits_record most zero n x e l s = absurd (omega arith)
fits_record most (suc p) n x e l s =
    let a : after (p + n) s.0 ≡ Some s.1 = ap (λ y. after (suc p) (y ∷ s.0)) (sym e) ∙ s.2 in
    let b = after_less (p + n) s.0 s.1 a in omega (arith, b, s.3)

pub fits_open : (most left n : ℕ) (y : leaf.Leaf) (x : Node) → x ≡ node.Open y n → 0 < left →
    ((ns : List Node) × (rest : List Node) × (after left (x ∷ ns) ≡ Some rest) × (length ns ≤ most)) →
    left - 1 + n ≤ most
fits_open most zero n y x e l s = absurd (omega arith)
fits_open most (suc p) n y x e l s =
    let a : after (p + n) s.0 ≡ Some s.1 = ap (λ y. after (suc p) (y ∷ s.0)) (sym e) ∙ s.2 in
    let b = after_less (p + n) s.0 s.1 a in omega (arith, b, s.3)

-- ---- the flags of a program

apart : (a b : ℕ) → (a ≡ b → ⊥) → (a == b) ≡ false
apart a b f = by (a == b) refl
  where
    by : (c : Bool) → (a == b) ≡ c → c ≡ false
    by true e = absurd (f (eqb-true a b e))
    by false e = refl

pub program_first : (t : ElmType (Leaf ℕ)) → first_is is_program_node (spell t) ≡ is_some (flags_in t)
unfolding spell
program_first (Made (head.Named m x) NoType) = refl
program_first (Made (head.Named m x) (MoreType a NoType)) = refl
program_first (Made (head.Named m x) (MoreType a (MoreType b NoType))) = refl
program_first (Made (head.Named m x) (MoreType a (MoreType b (MoreType c NoType)))) = by (is_type (codes "Platform")
    (codes "Program") m x)
  where
    by : (b : Bool) → b ≡ is_some (if b then Some a else None)
    by true = refl
    by false = refl
program_first (Made (head.Named m x) (MoreType a (MoreType b (MoreType c (MoreType d ts))))) = not_three (count ts)
  where
    not_three : (n : ℕ) → ((suc (suc (suc (suc n))) == 3) && is_type (codes "Platform") (codes "Program") m x) ≡ false
    not_three n =
        ap (λ c. c && is_type (codes "Platform") (codes "Program") m x) (apart (suc (suc (suc (suc n)))) 3 (λ e.
        absurd (omega (arith, e))))
program_first (Made head.Function ts) = by (count ts == 3)
  where
    by : (b : Bool) → (b && false) ≡ false
    by true = refl
    by false = refl
program_first (Made head.Tuple ts) = by (count ts == 3)
  where
    by : (b : Bool) → (b && false) ≡ false
    by true = refl
    by false = refl
program_first (Record fs Closed) = refl
program_first (Record fs (Over x)) = refl

-- the flags begin at the second node
pub flags_second : (t flags : ElmType (Leaf ℕ)) → flags_in t ≡ Some flags →
    (rest : List Node) × (drop 1 (spell t) ≡ spell flags ++ rest)
unfolding spell
flags_second (Made (head.Named m x) NoType) flags e = absurd cc
flags_second (Made (head.Named m x) (MoreType a NoType)) flags e = absurd cc
flags_second (Made (head.Named m x) (MoreType a (MoreType b NoType))) flags e = absurd cc
flags_second (Made (head.Named m x) (MoreType a (MoreType b (MoreType c NoType)))) flags e =
    by (is_type (codes "Platform") (codes "Program") m x) e
  where
    by : (p : Bool) → (if p then Some a else None) ≡ Some flags →
        (rest : List Node) × (spell a ++ spell_all (MoreType b (MoreType c NoType)) ≡ spell flags ++ rest)
    by true h = let s : a ≡ flags = cc in (
      spell_all (MoreType b (MoreType c NoType)),
      ap (λ u. spell u ++ spell_all
          (MoreType b (MoreType c NoType))) s,
    )
    by false h = absurd cc
flags_second (Made (head.Named m x) (MoreType a (MoreType b (MoreType c (MoreType d ts))))) flags e = absurd cc
flags_second (Made head.Function ts) flags e = absurd cc
flags_second (Made head.Tuple ts) flags e = absurd cc
flags_second (Record fs Closed) flags e = absurd cc
flags_second (Record fs (Over x)) flags e = absurd cc

pub unit_first : (t : ElmType (Leaf ℕ)) (rest : List Node) → first_is is_unit_node (spell t ++ rest) ≡ is_unit t
unfolding spell
unit_first (Made (head.Named m x) ts) rest = by (count ts == 0)
  where
    by : (b : Bool) → (b && false) ≡ false
    by true = refl
    by false = refl
unit_first (Made head.Function ts) rest = by (count ts == 0)
  where
    by : (b : Bool) → (b && false) ≡ false
    by true = refl
    by false = refl
unit_first (Made head.Tuple NoType) rest = refl
unit_first (Made head.Tuple (MoreType a ts)) rest = ap (λ c. c && true) (apart (suc (count ts)) 0 (λ e. absurd (omega
    (arith, e))))
unit_first (Record fs Closed) rest = refl
unit_first (Record fs (Over x)) rest = refl

-- the nodes from the second one on, up to what follows, are those of the flags
pub flags_are : (nodes : List Node) (flags : ElmType (Leaf ℕ)) (end : ℕ) → AreSpelled nodes →
    flags_in (type_of nodes) ≡ Some flags →
    after 1 (drop 1 nodes) ≡ Some (drop end nodes) → 1 ≤ end → end ≤ length nodes →
    take (end - 1) (drop 1 nodes) ≡ spell flags
flags_are nodes flags end s e a low high =
    let f = flags_second (type_of nodes) flags e in
    let at : drop 1 nodes ≡ spell flags ++ f.0 = ap (drop 1) (sym s) ∙ f.1 in
    let rest : f.0 ≡ drop end nodes = let h : Some f.0 ≡ Some (drop end nodes) =
    sym (ap (after 1) at ∙ after_type flags 0 f.0) ∙ a in cc in
    taken (spell flags) f.0 (drop 1 nodes) (end - 1) at
    (let x = ap length rest in let y = ap length at in
    omega (arith, x, y, length-append (spell flags) f.0, length-drop 1 nodes, length-drop end nodes, low, high))
  where
    taken : (xs ys zs : List Node) (n : ℕ) → zs ≡ xs ++ ys → n ≡ length xs → take n zs ≡ xs
    taken xs ys zs n e l = ap (λ k. take k zs) l ∙ ap (take (length xs)) e ∙ take-append_seam xs ys

-- where a type is to come there is a node
pub some_left : (left : ℕ) (nodes : List Node) (at : ℕ) (rest : List Node) → 0 < left →
    after left (drop at nodes) ≡ Some rest → at < length nodes
some_left zero nodes at rest l e = absurd (omega arith)
some_left (suc p) [] zero rest l e = absurd cc
some_left (suc p) [] (suc at) rest l e = absurd cc
some_left (suc p) (n ∷ nodes) zero rest l e = omega arith
some_left (suc p) (n ∷ nodes) (suc at) rest l e = let h = some_left (suc p) nodes at rest l e in omega (arith, h)

pub rest_short : (nodes : List Node) (at : ℕ) → length (drop at nodes) ≤ length nodes
rest_short nodes at = omega (arith, length-drop at nodes)

-- the flags of a program, and what follows them
pub flags_end : (nodes : List Node) (flags : ElmType (Leaf ℕ)) → AreSpelled nodes →
    flags_in (type_of nodes) ≡ Some flags →
    (rest : List Node) × (drop 1 nodes ≡ spell flags ++ rest) × (after 1 (drop 1 nodes) ≡ Some rest)
flags_end nodes flags s e =
    let f = flags_second (type_of nodes) flags e in
    let at : drop 1 nodes ≡ spell flags ++ f.0 = ap (drop 1) (sym s) ∙ f.1 in
    (f.0, at, ap (after 1) at ∙ after_type flags 0 f.0)

pub unit_is : (nodes : List Node) (flags : ElmType (Leaf ℕ)) → AreSpelled nodes →
    flags_in (type_of nodes) ≡ Some flags →
    first_is is_unit_node (drop 1 nodes) ≡ is_unit flags
unit_is nodes flags s e = let f = flags_end nodes flags s e in ap (first_is is_unit_node) f.1 ∙ unit_first flags f.0

pub program_is : (nodes : List Node) → AreSpelled nodes → first_is is_program_node nodes ≡ is_some (flags_in (type_of
    nodes))
program_is nodes s = ap (first_is is_program_node) (sym s) ∙ program_first (type_of nodes)

pub some_of : {X : Type 0} (o : Option X) → is_some o ≡ true → (x : X) × (o ≡ Some x)
some_of None e = absurd (false≢true e)
some_of (Some x) e = (x, refl)

pub none_of : {X : Type 0} (o : Option X) → is_some o ≡ false → o ≡ None
none_of None e = refl
none_of (Some x) e = absurd (false≢true (sym e))
