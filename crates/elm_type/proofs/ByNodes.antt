-- What is said of a type, by its nodes.
use Rattle.std.proofs.Common.{◌≡◌, ℕ, zero, suc, ◌+◌, ◌<◌, List, [], ◌∷◌, ◌++◌, map, length, get_or, refl, sym, ◌∙◌, ap}
use Rattle.std.proofs.Common.{zero-add, arith}
use Rattle.std.specs.List.{sum_by, flat_map}
use Rattle.std.proofs.lemmas.List.Sums.{sum_by-append, sum_by-cons}
use Rattle.std.proofs.lemmas.List.{map-append}
use Rattle.std.proofs.lemmas.Grind.{flat_map-append}
use Rattle.elm_type.specs.Types.{ElmType, ElmTypes, Fields, End, Closed, Over, Made, Record, NoType, MoreType, NoField}
use Rattle.elm_type.specs.Types.{MoreField, count, count_fields, Leaf, Kind, Scheme, kind_at, size, size_all}
use Rattle.elm_type.specs.Types.{size_fields, end_variables, variables, variables_all, variables_fields, renamed}
use Rattle.elm_type.specs.Types.{renamed_all, renamed_fields, renamed_end}
use Rattle.elm_type.specs.Spelling.{record_node, spell, spell_all, spell_fields, type_of, AreSpelled}
use Rattle.elm_type.specs.Nodes.{weight, leaves, renamed_node}
use Rattle.elm_type.specs.Schemes.{AllFit, in_order, placed, rename}
use Rattle.elm_type.specs.declared.node.Node.{Node}
use Rattle.elm_type.specs.declared.node.Node.TheVariants as node
use Rattle.elm_type.proofs.Reading.{leaf_again, spelled_by, spelled_type}

abbrev scheme_of : ElmType (Leaf ℕ) → List Kind → Scheme
scheme_of t ks = record { type = t; kinds = ks }

-- ---- sizes

record_weight : (fs : Fields (Leaf ℕ)) (end : End (Leaf ℕ)) → weight (record_node (count_fields fs) end) + size_fields fs ≡ size (Record fs end)
record_weight fs Closed = refl
record_weight NoField (Over x) = refl
record_weight (MoreField k t fs) (Over x) = refl

mutual
  unfolding spell

  weighed : (t : ElmType (Leaf ℕ)) → sum_by weight (spell t) ≡ size t
  weighed (Made h ts) = sum_by-cons weight (node.Made h (count ts)) (spell_all ts) ∙ ap (λ n. 1 + n) (weighed_all ts)
  weighed (Record fs end) = sum_by-cons weight (record_node (count_fields fs) end) (spell_fields fs) ∙ (ap (λ n. weight (record_node (count_fields fs) end) + n) (weighed_fields fs) ∙ record_weight fs end)

  weighed_all : (ts : ElmTypes (Leaf ℕ)) → sum_by weight (spell_all ts) ≡ size_all ts
  weighed_all NoType = refl
  weighed_all (MoreType t ts) = sum_by-append weight (spell t) (spell_all ts) ∙ (ap (λ n. n + sum_by weight (spell_all ts)) (weighed t) ∙ ap (λ n. size t + n) (weighed_all ts))

  weighed_fields : (fs : Fields (Leaf ℕ)) → sum_by weight (spell_fields fs) ≡ size_fields fs
  weighed_fields NoField = refl
  weighed_fields (MoreField k t fs) =
      sum_by-cons weight (node.Field k) (spell t ++ spell_fields fs)
      ∙ (zero-add (sum_by weight (spell t ++ spell_fields fs))
      ∙ (sum_by-append weight (spell t) (spell_fields fs) ∙ (ap (λ n. n + sum_by weight (spell_fields fs)) (weighed t) ∙ ap (λ n. size t + n) (weighed_fields fs))))

-- the size is the sum over the nodes
pub size_by_nodes : (ns : List Node) → AreSpelled ns → sum_by weight ns ≡ size (type_of ns)
size_by_nodes ns e = ap (sum_by weight) (sym e) ∙ weighed (type_of ns)

-- ---- variables

record_leaves : (n : ℕ) (end : End (Leaf ℕ)) → leaves (record_node n end) ≡ end_variables end
record_leaves n Closed = refl
record_leaves n (Over x) = ap (λ y. y ∷ []) (leaf_again x)

mutual
  unfolding spell

  listed : (t : ElmType (Leaf ℕ)) → flat_map leaves (spell t) ≡ variables t
  listed (Made h ts) = listed_all ts
  listed (Record fs end) = ap (λ xs. xs ++ flat_map leaves (spell_fields fs)) (record_leaves (count_fields fs) end) ∙ ap (λ xs. end_variables end ++ xs) (listed_fields fs)

  listed_all : (ts : ElmTypes (Leaf ℕ)) → flat_map leaves (spell_all ts) ≡ variables_all ts
  listed_all NoType = refl
  listed_all (MoreType t ts) = flat_map-append leaves (spell t) (spell_all ts) ∙ (ap (λ xs. xs ++ flat_map leaves (spell_all ts)) (listed t) ∙ ap (λ xs. variables t ++ xs) (listed_all ts))

  listed_fields : (fs : Fields (Leaf ℕ)) → flat_map leaves (spell_fields fs) ≡ variables_fields fs
  listed_fields NoField = refl
  listed_fields (MoreField k t fs) = flat_map-append leaves (spell t) (spell_fields fs) ∙ (ap (λ xs. xs ++ flat_map leaves (spell_fields fs)) (listed t) ∙ ap (λ xs. variables t ++ xs) (listed_fields fs))

pub variables_by_nodes : (ns : List Node) → AreSpelled ns → flat_map leaves ns ≡ variables (type_of ns)
variables_by_nodes ns e = ap (flat_map leaves) (sym e) ∙ listed (type_of ns)

-- ---- other variables

count_renamed : (f : Leaf ℕ → Leaf ℕ) (ts : ElmTypes (Leaf ℕ)) → count (renamed_all f ts) ≡ count ts
count_renamed f NoType = refl
count_renamed f (MoreType t ts) = ap suc (count_renamed f ts)

count_renamed_fields : (f : Leaf ℕ → Leaf ℕ) (fs : Fields (Leaf ℕ)) → count_fields (renamed_fields f fs) ≡ count_fields fs
count_renamed_fields f NoField = refl
count_renamed_fields f (MoreField k t fs) = ap suc (count_renamed_fields f fs)

renamed_record : (f : Leaf ℕ → Leaf ℕ) (n : ℕ) (end : End (Leaf ℕ)) → record_node n (renamed_end f end) ≡ renamed_node f (record_node n end)
renamed_record f n Closed = refl
renamed_record f n (Over x) = ap (λ y. record_node n (Over (f y))) (sym (leaf_again x))

mutual
  unfolding spell

  respelled : (f : Leaf ℕ → Leaf ℕ) (t : ElmType (Leaf ℕ)) → spell (renamed f t) ≡ map (renamed_node f) (spell t)
  respelled f (Made h ts) = ap (λ n. node.Made h n ∷ spell_all (renamed_all f ts)) (count_renamed f ts) ∙ ap (λ ns. node.Made h (count ts) ∷ ns) (respelled_all f ts)
  respelled f (Record fs end) =
      ap (λ n. record_node n (renamed_end f end) ∷ spell_fields (renamed_fields f fs)) (count_renamed_fields f fs)
      ∙ (ap (λ n. n ∷ spell_fields (renamed_fields f fs)) (renamed_record f (count_fields fs) end)
      ∙ ap (λ ns. renamed_node f (record_node (count_fields fs) end) ∷ ns) (respelled_fields f fs))

  respelled_all : (f : Leaf ℕ → Leaf ℕ) (ts : ElmTypes (Leaf ℕ)) → spell_all (renamed_all f ts) ≡ map (renamed_node f) (spell_all ts)
  respelled_all f NoType = refl
  respelled_all f (MoreType t ts) =
      ap (λ ns. ns ++ spell_all (renamed_all f ts)) (respelled f t)
      ∙ (ap (λ ns. map (renamed_node f) (spell t) ++ ns) (respelled_all f ts) ∙ sym (map-append (renamed_node f) (spell t) (spell_all ts)))

  respelled_fields : (f : Leaf ℕ → Leaf ℕ) (fs : Fields (Leaf ℕ)) → spell_fields (renamed_fields f fs) ≡ map (renamed_node f) (spell_fields fs)
  respelled_fields f NoField = refl
  respelled_fields f (MoreField k t fs) =
      ap (λ ns. node.Field k ∷ (ns ++ spell_fields (renamed_fields f fs))) (respelled f t)
      ∙ (ap (λ ns. node.Field k ∷ (map (renamed_node f) (spell t) ++ ns)) (respelled_fields f fs)
      ∙ ap (λ ns. node.Field k ∷ ns) (sym (map-append (renamed_node f) (spell t) (spell_fields fs))))

-- the nodes with other variables spell the type with other variables
pub renamed_spells : (f : Leaf ℕ → Leaf ℕ) (ns : List Node) → AreSpelled ns → spell (renamed f (type_of ns)) ≡ map (renamed_node f) ns
renamed_spells f ns e = respelled f (type_of ns) ∙ ap (map (renamed_node f)) e

pub renamed_spelled : (f : Leaf ℕ → Leaf ℕ) (ns ms : List Node) → AreSpelled ns → ms ≡ map (renamed_node f) ns → AreSpelled ms
renamed_spelled f ns ms e h = spelled_by ms (renamed f (type_of ns)) (renamed_spells f ns e ∙ sym h)

pub renamed_type : (f : Leaf ℕ → Leaf ℕ) (ns ms : List Node) → AreSpelled ns → ms ≡ map (renamed_node f) ns → type_of ms ≡ renamed f (type_of ns)
renamed_type f ns ms e h = spelled_type ms (renamed f (type_of ns)) (renamed_spells f ns e ∙ sym h)

-- ---- what fits

fits_first : (first : ℕ) (xs ys : List (Leaf ℕ)) → AllFit first (xs ++ ys) → AllFit first xs
fits_first first [] ys h = tt
fits_first first (x ∷ xs) ys h = (h.0, fits_first first xs ys h.1)

fits_rest : (first : ℕ) (xs ys : List (Leaf ℕ)) → AllFit first (xs ++ ys) → AllFit first ys
fits_rest first [] ys h = h
fits_rest first (x ∷ xs) ys h = fits_rest first xs ys h.1

-- the variables of each node fit
pub fits_at : (first : ℕ) (ns : List Node) (i : ℕ) (d : Node) → i < length ns → AllFit first (flat_map leaves ns) → AllFit first (leaves (get_or ns i d))
fits_at first [] i d less h = absurd (omega arith)
fits_at first (n ∷ ns) zero d less h = fits_first first (leaves n) (flat_map leaves ns) h
fits_at first (n ∷ ns) (suc i) d less h = fits_at first ns i d (omega arith) (fits_rest first (leaves n) (flat_map leaves ns) h)

-- ---- schemes

-- a scheme of nodes in order, with kinds in order
pub scheme_renamed : (ns ms : List Node) (order : List ℕ) (ks ls : List Kind) → AreSpelled ns →
    ms ≡ map (renamed_node (placed (in_order [] (flat_map leaves ns)))) ns → order ≡ in_order [] (flat_map leaves ns) → ls ≡ map (kind_at ks) order →
    scheme_of (type_of ms) ls ≡ rename (scheme_of (type_of ns) ks)
scheme_renamed ns ms order ks ls s e f g =
    let v = variables_by_nodes ns s in
    ap (λ t. scheme_of t ls) (renamed_type (placed (in_order [] (flat_map leaves ns))) ns ms s e)
    ∙ (ap (scheme_of (renamed (placed (in_order [] (flat_map leaves ns))) (type_of ns))) (g ∙ ap (map (kind_at ks)) f)
    ∙ ap (λ xs. scheme_of (renamed (placed (in_order [] xs)) (type_of ns)) (map (kind_at ks) (in_order [] xs))) v)
