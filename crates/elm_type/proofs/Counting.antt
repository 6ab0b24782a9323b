-- How many nodes a type has that a list of nodes begins with: parts that wait are counted.
use Rattle.std.proofs.Common.{◌≡◌, ℕ, suc, ◌+◌, ◌-◌, ◌<◌, ◌≤◌, List, [], ◌∷◌, ◌++◌, length, drop, get_or, refl, sym, ap}
use Rattle.std.proofs.Common.{◌∙◌, arith, append-nil, append_assoc}
use Rattle.std.proofs.Common.{length-append, drop-cons}
use Rattle.elm_type.specs.Types.{Name, ElmType, ElmTypes, Fields, End, Closed, Over, Made, Record, NoType, MoreType}
use Rattle.elm_type.specs.Types.{NoField, MoreField, count, count_fields, Leaf}
use Rattle.elm_type.specs.Spelling.{record_node, spell, spell_all, spell_fields}
use Rattle.elm_type.specs.declared.node.Node.{Node}
use Rattle.elm_type.specs.declared.node.Node.TheVariants as node
use Rattle.elm_type.specs.Parts.{following}

-- a part that waits: a type, or a field
data Piece : Type 0 where
  Whole : ElmType (Leaf ℕ) → Piece
  Named : Name → ElmType (Leaf ℕ) → Piece

abbrev nodes_of : List Piece → List Node
nodes_of [] = []
nodes_of (Whole t ∷ ps) = spell t ++ nodes_of ps
nodes_of (Named k t ∷ ps) = node.Field k ∷ (spell t ++ nodes_of ps)

abbrev wholes : ElmTypes (Leaf ℕ) → List Piece → List Piece
wholes NoType ps = ps
wholes (MoreType t ts) ps = Whole t ∷ wholes ts ps

abbrev named : Fields (Leaf ℕ) → List Piece → List Piece
named NoField ps = ps
named (MoreField k t fs) ps = Named k t ∷ named fs ps

wholes_nodes : (ts : ElmTypes (Leaf ℕ)) (ps : List Piece) → nodes_of (wholes ts ps) ≡ spell_all ts ++ nodes_of ps
unfolding spell
wholes_nodes NoType ps = refl
wholes_nodes (MoreType t ts) ps =
    ap (λ ns. spell t ++ ns) (wholes_nodes ts ps) ∙ sym (append_assoc (spell t) (spell_all ts) (nodes_of ps))

named_nodes : (fs : Fields (Leaf ℕ)) (ps : List Piece) → nodes_of (named fs ps) ≡ spell_fields fs ++ nodes_of ps
unfolding spell
named_nodes NoField ps = refl
named_nodes (MoreField k t fs) ps =
    ap (λ ns. node.Field k ∷ (spell t ++ ns)) (named_nodes fs ps)
    ∙ ap (λ ns. node.Field k ∷ ns) (sym (append_assoc (spell t) (spell_fields fs) (nodes_of ps)))

wholes_count : (ts : ElmTypes (Leaf ℕ)) (ps : List Piece) → length (wholes ts ps) ≡ count ts + length ps
wholes_count NoType ps = omega arith
wholes_count (MoreType t ts) ps = omega (arith, wholes_count ts ps)

named_count : (fs : Fields (Leaf ℕ)) (ps : List Piece) → length (named fs ps) ≡ count_fields fs + length ps
named_count NoField ps = omega arith
named_count (MoreField k t fs) ps = omega (arith, named_count fs ps)

-- the first node of a part, and what waits after it
abbrev first_node : Piece → Node
first_node (Whole (Made h ts)) = node.Made h (count ts)
first_node (Whole (Record fs end)) = record_node (count_fields fs) end
first_node (Named k t) = node.Field k

abbrev opened : Piece → List Piece → List Piece
opened (Whole (Made h ts)) ps = wholes ts ps
opened (Whole (Record fs end)) ps = named fs ps
opened (Named k t) ps = Whole t ∷ ps

opened_nodes : (p : Piece) (ps : List Piece) → nodes_of (p ∷ ps) ≡ first_node p ∷ nodes_of (opened p ps)
unfolding spell
opened_nodes (Whole (Made h ts)) ps = ap (λ ns. node.Made h (count ts) ∷ ns) (sym (wholes_nodes ts ps))
opened_nodes (Whole (Record fs end)) ps = ap (λ ns. record_node (count_fields fs) end ∷ ns) (sym (named_nodes fs ps))
opened_nodes (Named k t) ps = refl

record_following : (n : ℕ) (end : End (Leaf ℕ)) → following (record_node n end) ≡ n
record_following n Closed = refl
record_following n (Over x) = refl

opened_count : (p : Piece) (ps : List Piece) → length (opened p ps) ≡ following (first_node p) + length ps
opened_count (Whole (Made h ts)) ps = wholes_count ts ps
opened_count (Whole (Record fs end)) ps =
    named_count fs ps ∙ ap (λ n. n + length ps) (sym (record_following (count_fields fs) end))
opened_count (Named k t) ps = omega arith

-- each part has a node
some_nodes : (ps : List Piece) → length ps ≤ length (nodes_of ps)
unfolding spell
some_nodes [] = omega arith
some_nodes (Whole (Made h ts) ∷ ps) = omega (arith, some_nodes ps, length-append (spell_all ts) (nodes_of ps))
some_nodes (Whole (Record fs end) ∷ ps) = omega (arith, some_nodes ps, length-append (spell_fields fs) (nodes_of ps))
some_nodes (Named k t ∷ ps) = omega (arith, some_nodes ps, length-append (spell t) (nodes_of ps))

-- so many parts wait after so many nodes
pub record Waiting (ns : List Node) (t : ElmType (Leaf ℕ)) (rest : List Node) (i needed : ℕ) : Type 0 where
  pieces : List Piece
  number : length pieces ≡ needed
  left : drop i ns ≡ nodes_of pieces ++ rest
  so_far : i + length (nodes_of pieces) ≡ length (spell t)

abbrev pub AllWaiting : List Node → ℕ → ℕ → Type 0
AllWaiting ns i needed = (t : ElmType (Leaf ℕ)) (rest : List Node) → ns ≡ spell t ++ rest → Waiting ns t rest i needed

pub waits_first : (ns : List Node) → AllWaiting ns 0 1
waits_first ns t rest is = record {
  pieces = Whole t ∷ [];
  number = refl;
  left = is ∙ ap (λ ms. ms ++ rest) (sym (append-nil (spell t)));
  so_far = omega (arith, ap length (append-nil (spell t)));
}

heads : {X : Type 0} (x y : X) (xs ys : List X) → x ∷ xs ≡ y ∷ ys → x ≡ y
heads x y xs ys e = ap (λ zs. get_or zs 0 x) e

tails : {X : Type 0} (x y : X) (xs ys : List X) → x ∷ xs ≡ y ∷ ys → xs ≡ ys
tails x y xs ys e = ap (λ zs. drop 1 zs) e

pub waits_next : (ns : List Node) (i needed after : ℕ) (n : Node) → i < length ns → n ≡ get_or ns i n → (needed ≡ 0 → ⊥)
    → ((needed - 1) + following n ≤ length ns → after ≡ (needed - 1) + following n)
    → AllWaiting ns i needed → AllWaiting ns (i + 1) after
waits_next ns i needed after n l is some adds w t rest e = go x.pieces x.number x.left x.so_far
  where
    x : Waiting ns t rest i needed
    x = w t rest e

    go : (ps : List Piece) → length ps ≡ needed → drop i ns ≡ nodes_of ps ++ rest
        → i + length (nodes_of ps) ≡ length (spell t) → Waiting ns t rest (i + 1) after
    go [] number left so_far = absurd (some (sym number))
    go (p ∷ ps) number left so_far =
        let split : n ∷ drop (suc i) ns ≡ first_node p ∷ (nodes_of (opened p ps) ++ rest) =
        ap (λ m. m ∷ drop (suc i) ns) is ∙ (sym (drop-cons ns i n l) ∙
        (left ∙ ap (λ ms. ms ++ rest) (opened_nodes p ps))) in
        let same : n ≡ first_node p = heads n (first_node p) (drop (suc i) ns) (nodes_of (opened p ps) ++ rest) split in
        let others : drop (suc i) ns ≡ nodes_of (opened p ps) ++ rest = tails n (first_node p) (drop (suc i) ns)
        (nodes_of (opened p ps) ++ rest) split in
        let one : suc i ≡ i + 1 = omega arith in
        let many : length (opened p ps) ≡ (needed - 1) + following n = omega
        (arith, opened_count p ps, number, ap following same) in
        let whole : length (nodes_of (p ∷ ps)) ≡ suc (length (nodes_of (opened p ps))) = ap length (opened_nodes p ps)
        in
        let total : length ns ≡ length (spell t) + length rest = ap length e ∙ length-append (spell t) rest in
        record {
          pieces = opened p ps;
          number = many ∙ sym (adds (omega (arith, many, some_nodes (opened p ps), whole, so_far, total)));
          left = ap (λ k. drop k ns) (sym one) ∙ others;
          so_far = omega (arith, whole, so_far);
        }

-- none waits
pub all_there : (ns : List Node) (i needed : ℕ) → needed ≡ 0 → AllWaiting ns i needed → (t : ElmType (Leaf ℕ))
    (rest : List Node) → ns ≡ spell t ++ rest → i ≡ length (spell t)
all_there ns i needed none w t rest e = go x.pieces x.number x.so_far
  where
    x : Waiting ns t rest i needed
    x = w t rest e

    go : (ps : List Piece) → length ps ≡ needed → i + length (nodes_of ps) ≡ length (spell t) → i ≡ length (spell t)
    go [] number so_far = omega (arith, so_far)
    go (p ∷ ps) number so_far = absurd (omega (arith, number, none))

past : {X : Type 0} (xs : List X) → drop (length xs) xs ≡ []
past [] = refl
past (x ∷ xs) = past xs

-- no node is left
pub all_passed : (ns : List Node) (i needed : ℕ) → i ≡ length ns → AllWaiting ns i needed → (t : ElmType (Leaf ℕ))
    (rest : List Node) → ns ≡ spell t ++ rest → length ns ≡ length (spell t)
all_passed ns i needed end w t rest e =
    let x = w t rest e in
    let left : drop (length ns) ns ≡ nodes_of x.pieces ++ rest = ap (λ k. drop k ns) (sym end) ∙ x.left in
    omega (arith, ap length left, ap length (past ns), length-append (nodes_of x.pieces) rest, x.so_far, end)
