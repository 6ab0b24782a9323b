-- Which nodes are those of a type.
use Rattle.std.proofs.Common.{◌≡◌, ℕ, zero, suc, List, [], ◌∷◌, ◌++◌, take, drop, Option, Some, None, Bool, true, false, if◌then◌else◌, refl, sym, ap, ◌∙◌, subst, append_assoc, append-nil}
use Rattle.elm_type.specs.Types.{Name, ElmType, ElmTypes, Fields, End, Closed, Over, Made, Record, NoType, MoreType, NoField}
use Rattle.elm_type.specs.Types.{MoreField, count, count_fields, Leaf}
use Rattle.elm_type.specs.Spelling.{leaf_of, leaf_node, record_node, spell, spell_all, spell_fields, Read, read_types, read_fields}
use Rattle.elm_type.specs.Spelling.{read_node, read, first_read, type_of, AreSpelled}
use Rattle.elm_type.specs.declared.head.Head.{Head}
use Rattle.elm_type.specs.declared.node.Leaf as stored
use Rattle.elm_type.specs.declared.node.Leaf.TheVariants as leaf
use Rattle.elm_type.specs.declared.node.Node.{Node}
use Rattle.elm_type.specs.declared.node.Node.TheVariants as node
use Rattle.elm_type.proofs.Reading.{type_spelled}
use Rattle.interface.specs.Formats.{◌>>=◌}
use Rattle.interface.specs.Shapes.{left_after_fields, left_after_parts, shaped, shapes_of, is_one, type_at}
use Rattle.interface.proofs.Laws.{bind_some, some_is}

-- ---- nodes of a type have a shape

abbrev with : Bool → List Bool → Option (List Bool)
with b shapes = Some (b ∷ shapes)

-- so many shapes in front
abbrev fronted : Bool → ℕ → List Bool → List Bool
fronted b zero shapes = shapes
fronted b (suc n) shapes = b ∷ fronted b n shapes

left_after_all_parts : (n : ℕ) (shapes : List Bool) → left_after_parts n (fronted false n shapes) ≡ Some shapes
left_after_all_parts zero shapes = refl
left_after_all_parts (suc n) shapes = left_after_all_parts n shapes

left_after_all_fields : (n : ℕ) (shapes : List Bool) → left_after_fields n (fronted true n shapes) ≡ Some shapes
left_after_all_fields zero shapes = refl
left_after_all_fields (suc n) shapes = left_after_all_fields n shapes

abbrev fronts : Bool → ℕ → Option (List Bool) → Option (List Bool)
fronts b n r = r >>= λ shapes. Some (fronted b n shapes)

more_front : (b : Bool) (n : ℕ) (r : Option (List Bool)) → (fronts b n r >>= with b) ≡ fronts b (suc n) r
more_front b n None = refl
more_front b n (Some shapes) = refl

made_front : (h : Head) (n : ℕ) (r : Option (List Bool)) → (fronts false n r >>= shaped (node.Made h n)) ≡ (r >>= with false)
made_front h n None = refl
made_front h n (Some shapes) = ap (λ (o : Option (List Bool)). o >>= λ rest. Some (false ∷ rest)) (left_after_all_parts n shapes)

record_front : (n : ℕ) (end : End (Leaf ℕ)) (r : Option (List Bool)) → (fronts true n r >>= shaped (record_node n end)) ≡ (r >>= with false)
record_front n Closed None = refl
record_front n Closed (Some shapes) = ap (λ (o : Option (List Bool)). o >>= λ rest. Some (false ∷ rest)) (left_after_all_fields n shapes)
record_front n (Over x) None = refl
record_front n (Over x) (Some shapes) = ap (λ (o : Option (List Bool)). o >>= λ rest. Some (false ∷ rest)) (left_after_all_fields n shapes)

field_front : (k : Name) (r : Option (List Bool)) → ((r >>= with false) >>= shaped (node.Field k)) ≡ (r >>= with true)
field_front k None = refl
field_front k (Some shapes) = refl

no_front : (b : Bool) (r : Option (List Bool)) → r ≡ fronts b 0 r
no_front b None = refl
no_front b (Some shapes) = refl

mutual
  unfolding spell shapes_of

  shapes_spelled : (t : ElmType (Leaf ℕ)) (ns : List Node) → shapes_of (spell t ++ ns) ≡ (shapes_of ns >>= with false)
  shapes_spelled (Made h ts) ns =
      ap (λ (r : Option (List Bool)). r >>= shaped (node.Made h (count ts))) (shapes_parts ts ns) ∙ made_front h (count ts) (shapes_of ns)
  shapes_spelled (Record fs end) ns =
      ap (λ (r : Option (List Bool)). r >>= shaped (record_node (count_fields fs) end)) (shapes_fields fs ns) ∙ record_front (count_fields fs) end (shapes_of ns)

  shapes_parts : (ts : ElmTypes (Leaf ℕ)) (ns : List Node) → shapes_of (spell_all ts ++ ns) ≡ fronts false (count ts) (shapes_of ns)
  shapes_parts NoType ns = no_front false (shapes_of ns)
  shapes_parts (MoreType t ts) ns =
      ap shapes_of (append_assoc (spell t) (spell_all ts) ns) ∙ shapes_spelled t (spell_all ts ++ ns)
      ∙ ap (λ (r : Option (List Bool)). r >>= with false) (shapes_parts ts ns) ∙ more_front false (count ts) (shapes_of ns)

  shapes_fields : (fs : Fields (Leaf ℕ)) (ns : List Node) → shapes_of (spell_fields fs ++ ns) ≡ fronts true (count_fields fs) (shapes_of ns)
  shapes_fields NoField ns = no_front true (shapes_of ns)
  shapes_fields (MoreField k t fs) ns =
      ap (λ (qs : List Node). shapes_of qs >>= shaped (node.Field k)) (append_assoc (spell t) (spell_fields fs) ns)
      ∙ ap (λ (r : Option (List Bool)). r >>= shaped (node.Field k)) (shapes_spelled t (spell_fields fs ++ ns)) ∙ field_front k (shapes_of (spell_fields fs ++ ns))
      ∙ ap (λ (r : Option (List Bool)). r >>= with true) (shapes_fields fs ns) ∙ more_front true (count_fields fs) (shapes_of ns)

pub type_forth : (t : ElmType (Leaf ℕ)) → type_at (spell t) ≡ Some t
unfolding shapes_of
type_forth t =
    ap (λ (r : Option (List Bool)). r >>= λ shapes. if is_one shapes then Some (type_of (spell t)) else None) (ap shapes_of (sym (append-nil (spell t))) ∙ shapes_spelled t [])
    ∙ ap (λ (u : ElmType (Leaf ℕ)). Some u) (type_spelled t)

-- ---- nodes with a shape are those of types

-- the nodes of a type that was read, after the name of its field if it has one
abbrev spelled_read : List Bool → Read → List Node
spelled_read [] rs = []
spelled_read (b ∷ bs) [] = []
spelled_read (false ∷ bs) (r ∷ rs) = spell r.1 ++ spelled_read bs rs
spelled_read (true ∷ bs) (r ∷ rs) = node.Field r.0 ∷ (spell r.1 ++ spelled_read bs rs)

-- as many types as shapes
abbrev Matched : List Bool → Read → Type 0
Matched [] [] = Unit {0}
Matched [] (r ∷ rs) = ⊥
Matched (b ∷ bs) [] = ⊥
Matched (b ∷ bs) (r ∷ rs) = Matched bs rs

-- the first types without names are the parts of one
record Parted (n : ℕ) (bs cs : List Bool) (rs : Read) : Type 0 where
  counted : count (read_types (take n rs)) ≡ n
  matched : Matched cs (drop n rs)
  spelled : spell_all (read_types (take n rs)) ++ spelled_read cs (drop n rs) ≡ spelled_read bs rs

parted : (n : ℕ) (bs cs : List Bool) (rs : Read) → Matched bs rs → left_after_parts n bs ≡ Some cs → Parted n bs cs rs
unfolding spell
parted zero bs cs rs m e =
    subst (λ (ds : List Bool). Parted 0 bs ds rs) (some_is bs cs e) (record { counted = refl; matched = m; spelled = refl })
parted (suc n) [] cs rs m e = absurd (cc)
parted (suc n) (true ∷ bs) cs rs m e = absurd (cc)
parted (suc n) (false ∷ bs) cs [] m e = absurd m
parted (suc n) (false ∷ bs) cs (r ∷ rs) m e =
    let h = parted n bs cs rs m e in
    record {
      counted = ap suc h.counted;
      matched = h.matched;
      spelled = append_assoc (spell r.1) (spell_all (read_types (take n rs))) (spelled_read cs (drop n rs)) ∙ ap (λ (ns : List Node). spell r.1 ++ ns) h.spelled;
    }

record Fielded (n : ℕ) (bs cs : List Bool) (rs : Read) : Type 0 where
  counted : count_fields (read_fields (take n rs)) ≡ n
  matched : Matched cs (drop n rs)
  spelled : spell_fields (read_fields (take n rs)) ++ spelled_read cs (drop n rs) ≡ spelled_read bs rs

fielded : (n : ℕ) (bs cs : List Bool) (rs : Read) → Matched bs rs → left_after_fields n bs ≡ Some cs → Fielded n bs cs rs
unfolding spell
fielded zero bs cs rs m e =
    subst (λ (ds : List Bool). Fielded 0 bs ds rs) (some_is bs cs e) (record { counted = refl; matched = m; spelled = refl })
fielded (suc n) [] cs rs m e = absurd (cc)
fielded (suc n) (false ∷ bs) cs rs m e = absurd (cc)
fielded (suc n) (true ∷ bs) cs [] m e = absurd m
fielded (suc n) (true ∷ bs) cs (r ∷ rs) m e =
    let h = fielded n bs cs rs m e in
    record {
      counted = ap suc h.counted;
      matched = h.matched;
      spelled = ap (λ (ns : List Node). node.Field r.0 ∷ ns) (append_assoc (spell r.1) (spell_fields (read_fields (take n rs))) (spelled_read cs (drop n rs)) ∙ ap (λ (ns : List Node). spell r.1 ++ ns) h.spelled);
    }

-- the types that were read have these shapes, and these nodes
record Spelt (bs : List Bool) (rs : Read) (ns : List Node) : Type 0 where
  matched : Matched bs rs
  spelled : spelled_read bs rs ≡ ns

leaf_same : (x : stored.Leaf) → leaf_node (leaf_of x) ≡ x
leaf_same (leaf.Free i) = refl
leaf_same (leaf.Fixed r) = refl

made_spelt : (h : Head) (n : ℕ) (bs cs : List Bool) (rs : Read) (ns : List Node) → Spelt bs rs ns → left_after_parts n bs ≡ Some cs
    → Spelt (false ∷ cs) (read_node (node.Made h n) rs) (node.Made h n ∷ ns)
unfolding spell
made_spelt h n bs cs rs ns s e =
    let p = parted n bs cs rs s.matched e in
    record {
      matched = p.matched;
      spelled = ap (λ (k : ℕ). node.Made h k ∷ (spell_all (read_types (take n rs)) ++ spelled_read cs (drop n rs))) p.counted ∙ ap (λ (ms : List Node). node.Made h n ∷ ms) (p.spelled ∙ s.spelled);
    }

record_spelt : (n : ℕ) (bs cs : List Bool) (rs : Read) (ns : List Node) → Spelt bs rs ns → left_after_fields n bs ≡ Some cs
    → Spelt (false ∷ cs) (read_node (node.Record n) rs) (node.Record n ∷ ns)
unfolding spell
record_spelt n bs cs rs ns s e =
    let p = fielded n bs cs rs s.matched e in
    record {
      matched = p.matched;
      spelled = ap (λ (k : ℕ). node.Record k ∷ (spell_fields (read_fields (take n rs)) ++ spelled_read cs (drop n rs))) p.counted ∙ ap (λ (ms : List Node). node.Record n ∷ ms) (p.spelled ∙ s.spelled);
    }

open_spelt : (x : stored.Leaf) (n : ℕ) (bs cs : List Bool) (rs : Read) (ns : List Node) → Spelt bs rs ns → left_after_fields n bs ≡ Some cs
    → Spelt (false ∷ cs) (read_node (node.Open x n) rs) (node.Open x n ∷ ns)
unfolding spell
open_spelt x n bs cs rs ns s e =
    let p = fielded n bs cs rs s.matched e in
    record {
      matched = p.matched;
      spelled = ap (λ (y : stored.Leaf). node.Open y (count_fields (read_fields (take n rs))) ∷ (spell_fields (read_fields (take n rs)) ++ spelled_read cs (drop n rs))) (leaf_same x)
          ∙ ap (λ (k : ℕ). node.Open x k ∷ (spell_fields (read_fields (take n rs)) ++ spelled_read cs (drop n rs))) p.counted ∙ ap (λ (ms : List Node). node.Open x n ∷ ms) (p.spelled ∙ s.spelled);
    }

field_spelt : (k : Name) (bs cs : List Bool) (rs : Read) (ns : List Node) → Spelt bs rs ns → left_after_parts 1 bs ≡ Some cs
    → Spelt (true ∷ cs) (read_node (node.Field k) rs) (node.Field k ∷ ns)
field_spelt k [] cs rs ns s e = absurd (cc)
field_spelt k (true ∷ bs) cs rs ns s e = absurd (cc)
field_spelt k (false ∷ bs) cs [] ns s e = absurd s.matched
field_spelt k (false ∷ bs) cs (r ∷ rs) ns s e =
    subst (λ (ds : List Bool). Spelt (true ∷ ds) (read_node (node.Field k) (r ∷ rs)) (node.Field k ∷ ns)) (some_is bs cs e)
    (record { matched = s.matched; spelled = ap (λ (ms : List Node). node.Field k ∷ ms) s.spelled })

node_spelt : (n : Node) (bs cs : List Bool) (rs : Read) (ns : List Node) → Spelt bs rs ns → shaped n bs ≡ Some cs → Spelt cs (read_node n rs) (n ∷ ns)
node_spelt (node.Made h n) bs cs rs ns s e =
    let ds = bind_some (left_after_parts n bs) (λ rest. Some (false ∷ rest)) cs e in
    subst (λ (es : List Bool). Spelt es (read_node (node.Made h n) rs) (node.Made h n ∷ ns)) (some_is (false ∷ ds.0) cs ds.2) (made_spelt h n bs ds.0 rs ns s ds.1)
node_spelt (node.Record n) bs cs rs ns s e =
    let ds = bind_some (left_after_fields n bs) (λ rest. Some (false ∷ rest)) cs e in
    subst (λ (es : List Bool). Spelt es (read_node (node.Record n) rs) (node.Record n ∷ ns)) (some_is (false ∷ ds.0) cs ds.2) (record_spelt n bs ds.0 rs ns s ds.1)
node_spelt (node.Open x n) bs cs rs ns s e =
    let ds = bind_some (left_after_fields n bs) (λ rest. Some (false ∷ rest)) cs e in
    subst (λ (es : List Bool). Spelt es (read_node (node.Open x n) rs) (node.Open x n ∷ ns)) (some_is (false ∷ ds.0) cs ds.2) (open_spelt x n bs ds.0 rs ns s ds.1)
node_spelt (node.Field k) bs cs rs ns s e =
    let ds = bind_some (left_after_parts 1 bs) (λ rest. Some (true ∷ rest)) cs e in
    subst (λ (es : List Bool). Spelt es (read_node (node.Field k) rs) (node.Field k ∷ ns)) (some_is (true ∷ ds.0) cs ds.2) (field_spelt k bs ds.0 rs ns s ds.1)

shapes_spelt : (ns : List Node) (bs : List Bool) → shapes_of ns ≡ Some bs → Spelt bs (read ns) ns
unfolding shapes_of read
shapes_spelt [] bs e = subst (λ (cs : List Bool). Spelt cs [] []) (some_is [] bs e) (record { matched = tt; spelled = refl })
shapes_spelt (n ∷ ns) bs e =
    let cs = bind_some (shapes_of ns) (shaped n) bs e in
    node_spelt n cs.0 bs (read ns) ns (shapes_spelt ns cs.0 cs.1) cs.2

one_spelt : (bs : List Bool) (rs : Read) (ns : List Node) → is_one bs ≡ true → Spelt bs rs ns → spell (first_read rs) ≡ ns
one_spelt [] rs ns one s = absurd (cc)
one_spelt (true ∷ bs) rs ns one s = absurd (cc)
one_spelt (false ∷ b ∷ bs) rs ns one s = absurd (cc)
one_spelt (false ∷ []) [] ns one s = absurd s.matched
one_spelt (false ∷ []) (r ∷ rs) ns one s = sym (append-nil (spell r.1)) ∙ s.spelled

chosen_some : {A : Type 0} (b : Bool) (x y : A) → (if b then Some x else None) ≡ Some y → (b ≡ true) × (x ≡ y)
chosen_some true x y e = (refl, cc)
chosen_some false x y e = absurd (cc)

-- such nodes are spelled
pub are_spelled : (ns : List Node) (bs : List Bool) → shapes_of ns ≡ Some bs → is_one bs ≡ true → AreSpelled ns
unfolding type_of
are_spelled ns bs e one = one_spelt bs (read ns) ns one (shapes_spelt ns bs e)

pub type_back : (ns : List Node) (t : ElmType (Leaf ℕ)) → type_at ns ≡ Some t → spell t ≡ ns
type_back ns t e =
    let bs = bind_some (shapes_of ns) (λ shapes. if is_one shapes then Some (type_of ns) else None) t e in
    let g = chosen_some (is_one bs.0) (type_of ns) t bs.2 in
    ap spell (sym g.1) ∙ are_spelled ns bs.0 bs.1 g.0
