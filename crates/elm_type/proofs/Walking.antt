-- A walk over the nodes of a type.
use Rattle.std.proofs.Common.{◌≡◌, ℕ, zero, suc, ◌+◌, ◌≤◌, ◌<◌, List, [], ◌∷◌, ◌++◌, length, drop, get_or, refl, sym}
use Rattle.std.proofs.Common.{◌∙◌, ap, subst, arith, append_assoc, append-nil, drop-cons, add-one}
use Rattle.std.proofs.lemmas.List.{drop_all}
use Rattle.elm_type.specs.Types.{Name, ElmType, ElmTypes, Fields, End, Closed, Over, Made, Record, NoType, MoreType}
use Rattle.elm_type.specs.Types.{NoField, MoreField, count, count_fields, Leaf}
use Rattle.elm_type.specs.Spelling.{Read, read_node, read, record_node, spell, spell_all, spell_fields, type_of}
use Rattle.elm_type.specs.Spelling.{AreSpelled, with_name}
use Rattle.elm_type.specs.declared.node.Node.{Node}
use Rattle.elm_type.proofs.Reading.{read_spelled}
use Rattle.elm_type.specs.Text.{text_in}
use Rattle.elm_type.specs.Frames.{pending, wanted, frame, parts_of, Wrote}
use Rattle.elm_type.specs.declared.frame.Around.TheVariants.{Alone}
use Rattle.elm_type.specs.declared.frame.Kind.TheVariants.{Single}
use Rattle.elm_type.specs.declared.frame.Closing.TheVariants.{Nothing}
use Rattle.elm_type.specs.declared.frame.Frame.{Frame}

-- after each node stand its parts
Complete : List Node → Type 0
Complete [] = Unit {0}
Complete (n ∷ ns) = (parts_of n ≤ length (read ns)) × Complete ns

parts_record : (n : ℕ) (end : End (Leaf ℕ)) → parts_of (record_node n end) ≡ n
parts_record n Closed = refl
parts_record n (Over x) = refl

length_spelled : (t : ElmType (Leaf ℕ)) (ns : List Node) → length (read (spell t ++ ns)) ≡ suc (length (read ns))
length_spelled t ns = ap length (read_spelled t ns)

length_all : (ts : ElmTypes (Leaf ℕ)) (ns : List Node) → length (read (spell_all ts ++ ns)) ≡ count ts + length (read ns)
unfolding spell
length_all NoType ns = omega arith
length_all (MoreType t ts) ns =
    ap (λ ms. length (read ms)) (append_assoc (spell t) (spell_all ts) ns)
    ∙ (length_spelled t (spell_all ts ++ ns) ∙ (ap suc (length_all ts ns) ∙ omega arith))

length_named : (x : Name) (rs : Read) → length (with_name x rs) ≡ length rs
length_named x [] = refl
length_named x (r ∷ rs) = refl

length_fields : (fs : Fields (Leaf ℕ)) (ns : List Node) → length (read (spell_fields fs ++ ns)) ≡ count_fields fs + length (read ns)
unfolding spell read
length_fields NoField ns = omega arith
length_fields (MoreField k t fs) ns =
    ap (λ ms. length (with_name k (read ms))) (append_assoc (spell t) (spell_fields fs) ns)
    ∙ (length_named k (read (spell t ++ (spell_fields fs ++ ns)))
    ∙ (length_spelled t (spell_fields fs ++ ns) ∙ (ap suc (length_fields fs ns) ∙ omega arith)))

mutual
  unfolding spell Complete

  complete_spelled : (t : ElmType (Leaf ℕ)) (ns : List Node) → Complete ns → Complete (spell t ++ ns)
  complete_spelled (Made h ts) ns c = (omega (arith, length_all ts ns), complete_all ts ns c)
  complete_spelled (Record fs end) ns c = (omega (arith, length_fields fs ns, parts_record (count_fields fs) end), complete_fields fs ns c)

  complete_all : (ts : ElmTypes (Leaf ℕ)) (ns : List Node) → Complete ns → Complete (spell_all ts ++ ns)
  complete_all NoType ns c = c
  complete_all (MoreType t ts) ns c = subst Complete (sym (append_assoc (spell t) (spell_all ts) ns)) (complete_spelled t (spell_all ts ++ ns) (complete_all ts ns c))

  complete_fields : (fs : Fields (Leaf ℕ)) (ns : List Node) → Complete ns → Complete (spell_fields fs ++ ns)
  complete_fields NoField ns c = c
  complete_fields (MoreField k t fs) ns c =
      let e = append_assoc (spell t) (spell_fields fs) ns in
      let h : 1 ≤ length (read ((spell t ++ spell_fields fs) ++ ns)) = omega (arith, ap (λ ms. length (read ms)) e, length_spelled t (spell_fields fs ++ ns)) in
      (h, subst Complete (sym e) (complete_spelled t (spell_fields fs ++ ns) (complete_fields fs ns c)))

complete_at : (ns : List Node) (i : ℕ) (d : Node) → i < length ns → Complete ns → parts_of (get_or ns i d) ≤ length (read (drop (suc i) ns))
unfolding Complete
complete_at [] i d less c = absurd (omega arith)
complete_at (n ∷ ns) zero d less c = c.0
complete_at (n ∷ ns) (suc i) d less c = complete_at ns i d (omega arith) c.1

-- of nodes of a type
complete : (ns : List Node) → AreSpelled ns → Complete ns
unfolding Complete
complete ns e = subst Complete (append-nil (spell (type_of ns)) ∙ e) (complete_spelled (type_of ns) [] tt)

whole_read : (ns : List Node) → AreSpelled ns → read ns ≡ ([], type_of ns) ∷ []
unfolding read
whole_read ns e = ap read (sym (append-nil (spell (type_of ns)) ∙ e)) ∙ read_spelled (type_of ns) []

pub walk_begins : (name : Leaf ℕ → Name) (ns : List Node) → AreSpelled ns → pending name (frame Single 1 Nothing ∷ []) (read ns) ≡ text_in name Alone (type_of ns)
unfolding pending
walk_begins name ns e =
    ap (pending name (frame Single 1 Nothing ∷ [])) (whole_read ns e)
    ∙ (append-nil (text_in name Alone (type_of ns) ++ []) ∙ append-nil (text_in name Alone (type_of ns)))

pub walk_room : (ns : List Node) → AreSpelled ns → 1 ≤ length (read ns)
walk_room ns e = let h : length (read ns) ≡ 1 = ap length (whole_read ns e) in omega arith

read_at : (ns : List Node) (i : ℕ) (n : Node) → i < length ns → n ≡ get_or ns i n → read (drop i ns) ≡ read_node n (read (drop (i + 1) ns))
unfolding read
read_at ns i n less is =
    ap read (drop-cons ns i n less) ∙ (ap (λ m. read_node m (read (drop (suc i) ns))) (sym is) ∙ ap (λ j. read_node n (read (drop j ns))) (sym (add-one i)))

parts_at : (ns : List Node) (i : ℕ) (n : Node) → i < length ns → n ≡ get_or ns i n → AreSpelled ns → parts_of n ≤ length (read (drop (i + 1) ns))
parts_at ns i n less is e =
    let k : parts_of (get_or ns i n) ≤ length (read (drop (suc i) ns)) = complete_at ns i n less (complete ns e) in
    let m : parts_of n ≡ parts_of (get_or ns i n) = ap parts_of is in
    let l : length (read (drop (i + 1) ns)) ≡ length (read (drop (suc i) ns)) = ap (λ j. length (read (drop j ns))) (add-one i) in
    omega arith

-- one node more
pub walk_text : (name : Leaf ℕ → Name) (ns : List Node) (i : ℕ) (n : Node) (p q whole : Name) (fs gs : List Frame) → i < length ns → n ≡ get_or ns i n → AreSpelled ns →
    Wrote name n p q fs gs → wanted fs ≤ length (read (drop i ns)) → p ++ pending name fs (read (drop i ns)) ≡ whole → q ++ pending name gs (read (drop (i + 1) ns)) ≡ whole
walk_text name ns i n p q whole fs gs less is e w room h =
    let r = read_at ns i n less is in
    let k : length (read (drop i ns)) ≡ length (read_node n (read (drop (i + 1) ns))) = ap length r in
    w.text (read (drop (i + 1) ns)) (parts_at ns i n less is e) (omega arith) ∙ (ap (λ rs. p ++ pending name fs rs) (sym r) ∙ h)

pub walk_wanted : (name : Leaf ℕ → Name) (ns : List Node) (i : ℕ) (n : Node) (p q : Name) (fs gs : List Frame) → i < length ns → n ≡ get_or ns i n → AreSpelled ns →
    Wrote name n p q fs gs → wanted fs ≤ length (read (drop i ns)) → wanted gs ≤ length (read (drop (i + 1) ns))
walk_wanted name ns i n p q fs gs less is e w room =
    let r = read_at ns i n less is in
    let k : length (read (drop i ns)) ≡ length (read_node n (read (drop (i + 1) ns))) = ap length r in
    w.room (read (drop (i + 1) ns)) (parts_at ns i n less is e) (omega arith)

-- after the last
pub walk_ends : (name : Leaf ℕ → Name) (ns : List Node) (i : ℕ) (p whole : Name) (fs : List Frame) → length ns ≤ i →
    p ++ pending name fs (read (drop i ns)) ≡ whole → p ++ pending name fs [] ≡ whole
unfolding read
walk_ends name ns i p whole fs less h = ap (λ ms. p ++ pending name fs (read ms)) (sym (drop_all i ns less)) ∙ h
