-- The nodes of a type of pairs.
use Rattle.std.proofs.Common.{◌≡◌, ℕ, ◌≤◌, List, [], ◌∷◌, ◌++◌, length, take, drop, refl, sym, ap, ◌∙◌, arith}
use Rattle.std.proofs.Common.{append-nil}
use Rattle.std.proofs.Common.{length-append}
use Rattle.elm_type.specs.Types.{ElmType, tuple, Leaf}
use Rattle.elm_type.specs.Spelling.{spell, type_of, AreSpelled}
use Rattle.elm_type.specs.declared.head.Head.TheVariants as head
use Rattle.elm_type.specs.declared.node.Node.{Node}
use Rattle.elm_type.specs.declared.node.Node.TheVariants as node
use Rattle.elm_type.proofs.Reading.{spelled_by, spelled_type}

take_first : {X : Type 0} (xs ys : List X) → take (length xs) (xs ++ ys) ≡ xs
take_first [] ys = refl
take_first (x ∷ xs) ys = ap (λ zs. x ∷ zs) (take_first xs ys)

drop_first : {X : Type 0} (xs ys : List X) → drop (length xs) (xs ++ ys) ≡ ys
drop_first [] ys = refl
drop_first (x ∷ xs) ys = drop_first xs ys

pair_nodes : (l r : ElmType (Leaf ℕ)) → spell (tuple (l ∷ r ∷ [])) ≡ node.Made head.Tuple 2 ∷ (spell l ++ spell r)
unfolding spell
pair_nodes l r = ap (λ ns. node.Made head.Tuple 2 ∷ (spell l ++ ns)) (append-nil (spell r))

module _ (ns : List Node) (spelled : AreSpelled ns) (l r : ElmType (Leaf ℕ)) (is : type_of ns ≡ tuple (l ∷ r ∷ []))
  where
    nodes_are : ns ≡ node.Made head.Tuple 2 ∷ (spell l ++ spell r)
    nodes_are = sym spelled ∙ (ap spell is ∙ pair_nodes l r)

    -- there is a first node
    pub some : 1 ≤ length ns
    some = omega (arith, ap length nodes_are)

    -- the others are those of the parts
    pub parts_are : drop 1 ns ≡ spell l ++ spell r
    parts_are = ap (drop 1) nodes_are

    module _ (parts : List Node) (same : parts ≡ drop 1 ns) (n : ℕ)
        (count : (t : ElmType (Leaf ℕ)) (rest : List Node) → parts ≡ spell t ++ rest → n ≡ length (spell t)) where
      both : parts ≡ spell l ++ spell r
      both = same ∙ parts_are

      number : n ≡ length (spell l)
      number = count l (spell r) both

      pub within : n ≤ length parts
      within = omega (arith, number, ap length both, length-append (spell l) (spell r))

      left_are : take n parts ≡ spell l
      left_are = ap (λ k. take k parts) number ∙ (ap (take (length (spell l))) both ∙ take_first (spell l) (spell r))

      right_are : drop n parts ≡ spell r
      right_are = ap (λ k. drop k parts) number ∙ (ap (drop (length (spell l))) both ∙ drop_first (spell l) (spell r))

      module _ (ls rs : List Node) (a : ls ≡ take n parts) (b : rs ≡ drop n parts) where
        pub left_spelled : AreSpelled ls
        left_spelled = spelled_by ls l (sym (a ∙ left_are))

        pub right_spelled : AreSpelled rs
        right_spelled = spelled_by rs r (sym (b ∙ right_are))

        pub halves_are : type_of ns ≡ tuple (type_of ls ∷ type_of rs ∷ [])
        halves_are =
            is
            ∙ (ap (λ (t : ElmType (Leaf ℕ)). tuple (t ∷ r ∷ [])) (sym (spelled_type ls l (sym (a ∙ left_are))))
            ∙ ap (λ (t : ElmType (Leaf ℕ)). tuple (type_of ls ∷ t ∷ []))
            (sym (spelled_type rs r (sym (b ∙ right_are)))))
