-- The nodes of a type that can be written fit, each over what waits of those behind it.
use Rattle.std.proofs.Common.{◌≡◌, ℕ, ◌<◌, List, [], ◌∷◌, ◌++◌, length, map, take, true, refl}
use Rattle.std.proofs.Common.{sym, ap, ◌∙◌, subst}
use Rattle.std.proofs.Common.{append_assoc}
use Rattle.std.specs.Prelude.{◌&&◌, All}
use Rattle.std.specs.List.{AllByRecursion}
use Rattle.std.proofs.lemmas.List.Elements.{All-cons, All-nil}
use Rattle.elm_type.specs.Types.{Name, ElmType, ElmTypes, Fields, End, Closed, Over, Made, Record, NoType, MoreType}
use Rattle.elm_type.specs.Types.{NoField, MoreField, count_fields, variables, variables_all, variables_fields}
use Rattle.elm_type.specs.Types.{Leaf, Free, Fixed, Kind, kind_at}
use Rattle.elm_type.specs.Rows.{name_lt, is_under, rise}
use Rattle.elm_type.specs.Spelling.{record_node, spell, spell_all, spell_fields, with_name}
use Rattle.elm_type.specs.Spelling.{read}
use Rattle.elm_type.specs.declared.node.Leaf.{Leaf as StoredLeaf}
use Rattle.elm_type.specs.declared.node.Leaf.TheVariants as leaf
use Rattle.elm_type.specs.declared.node.Node.{Node}
use Rattle.elm_type.specs.declared.node.Node.TheVariants as node
use Rattle.elm_type.proofs.Reading.{read_spelled}
use Rattle.elm_type.specs.Ground.{contains}
use Rattle.type_items.specs.Principal.{is_formed, are_formed, fields_formed, end_lacks, end_lacks_each}
use Rattle.type_store.specs.Shape.{Ascending, AllIn}
use Rattle.type_store.proofs.Names.{lt_trans}
use Rattle.type_store.proofs.RowsMeet.{and_left, and_right}
use Rattle.infer_steps.specs.Ready.{IsBelow}

-- ---- fields in order

abbrev pub names_of : Fields (Leaf ℕ) → List Name
names_of NoField = []
names_of (MoreField k t fs) = k ∷ names_of fs

under_all : (k : Name) (fs : Fields (Leaf ℕ)) → is_under k fs ≡ true → rise fs ≡ true → All (λ y. name_lt k y ≡ true)
    (names_of fs)
under_all k NoField u r = All-nil (λ y. name_lt k y ≡ true)
under_all k (MoreField j t fs) u r =
    let rest = under_all j fs (and_left (is_under j fs) (rise fs) r) (and_right (is_under j fs) (rise fs) r) in
    All-cons (λ y. name_lt k y ≡ true) j (names_of fs) u (further k j (names_of fs) u rest)
  where
    further : (k j : Name) (ys : List Name) → name_lt k j ≡ true → All (λ y. name_lt j y ≡ true) ys
        → All (λ y. name_lt k y ≡ true) ys
    further k j ys l h = λ i d b. lt_trans k j _ l (h i d b)

pub ascends : (fs : Fields (Leaf ℕ)) → rise fs ≡ true → Ascending (names_of fs)
ascends NoField r = tt
ascends (MoreField k t fs) r =
    let u = and_left (is_under k fs) (rise fs) r in
    let q = and_right (is_under k fs) (rise fs) r in (under_all k fs u q, ascends fs q)

all_lack : (kinds : List Kind) (i : ℕ) (fs : Fields (Leaf ℕ)) → end_lacks_each kinds fs (Over (Free i)) ≡ true
    → AllIn (names_of fs) (kind_at kinds i).lacks
all_lack kinds i NoField h = All-nil (λ x. contains x (kind_at kinds i).lacks ≡ true)
all_lack kinds i (MoreField k t fs) h =
    All-cons (λ x. contains x (kind_at kinds i).lacks ≡ true) k (names_of fs)
    (and_left (end_lacks kinds k (Over (Free i))) (end_lacks_each kinds fs (Over (Free i))) h)
    (all_lack kinds i fs (and_right (end_lacks kinds k (Over (Free i))) (end_lacks_each kinds fs (Over (Free i))) h))

-- ---- which nodes fit

abbrev pub KindFits : List Kind → StoredLeaf → List Name → Type 0
KindFits kinds (leaf.Free i) xs = (i < length kinds) × Ascending xs × AllIn xs (kind_at kinds i).lacks
KindFits kinds (leaf.Fixed r) xs = ⊥

abbrev pub Fitting : List Kind → Node → List Name → Type 0
Fitting kinds (node.Made h n) xs = Unit {0}
Fitting kinds (node.Record n) xs = Ascending (take n xs)
Fitting kinds (node.Open x n) xs = KindFits kinds x (take n xs)
Fitting kinds (node.Field k) xs = Unit {0}

abbrev pub read_names : List Node → List Name
read_names ns = map (λ r. r.0) (read ns)

abbrev pub AllFit : List Kind → List Node → Type 0
AllFit kinds [] = Unit {0}
AllFit kinds (n ∷ ns) = Fitting kinds n (read_names ns) × AllFit kinds ns

take_names : (fs : Fields (Leaf ℕ)) (xs : List Name) → take (count_fields fs) (names_of fs ++ xs) ≡ names_of fs
take_names NoField xs = refl
take_names (MoreField k t fs) xs = ap (λ ys. k ∷ ys) (take_names fs xs)

-- the names that reading fields leaves
fields_names : (fs : Fields (Leaf ℕ)) (ns : List Node)
    → read_names (spell_fields fs ++ ns) ≡ names_of fs ++ read_names ns
unfolding spell read
fields_names NoField ns = refl
fields_names (MoreField k t fs) ns =
    ap (λ ms. map (λ r. r.0) (with_name k (read ms))) (append_assoc (spell t) (spell_fields fs) ns)
    ∙ (ap (λ rs. map (λ r. r.0) (with_name k rs)) (read_spelled t (spell_fields fs ++ ns))
    ∙ ap (λ xs. k ∷ xs) (fields_names fs ns))

module _ (kinds : List Kind) where
  end_fits : (fs : Fields (Leaf ℕ)) (end : End (Leaf ℕ)) (ns : List Node) → AllByRecursion (IsBelow (length kinds))
      (variables (Record fs end))
      → rise fs ≡ true → end_lacks_each kinds fs end ≡ true
      → Fitting kinds (record_node (count_fields fs) end) (names_of fs ++ read_names ns)
  end_fits fs Closed ns below r l = subst Ascending (sym (take_names fs (read_names ns))) (ascends fs r)
  end_fits fs (Over (Free i)) ns below r l =
      subst (λ xs. (i < length kinds) × Ascending xs × AllIn xs (kind_at kinds i).lacks)
      (sym (take_names fs (read_names ns)))
      (below.0, ascends fs r, all_lack kinds i fs l)
  end_fits fs (Over (Fixed c)) ns below r l = absurd below.0

  first_of : {X : Type 0} (P : X → Type 0) (xs ys : List X) → AllByRecursion P (xs ++ ys) → AllByRecursion P xs
  first_of P [] ys h = tt
  first_of P (x ∷ xs) ys h = (h.0, first_of P xs ys h.1)

  second_of : {X : Type 0} (P : X → Type 0) (xs ys : List X) → AllByRecursion P (xs ++ ys) → AllByRecursion P ys
  second_of P [] ys h = h
  second_of P (x ∷ xs) ys h = second_of P xs ys h.1

  fields_below : (fs : Fields (Leaf ℕ)) (end : End (Leaf ℕ)) → AllByRecursion (IsBelow (length kinds))
      (variables (Record fs end))
      → AllByRecursion (IsBelow (length kinds)) (variables_fields fs)
  fields_below fs Closed h = h
  fields_below fs (Over x) h = h.1

  mutual
    unfolding spell read

    pub fit_type : (t : ElmType (Leaf ℕ)) (ns : List Node) → AllByRecursion (IsBelow (length kinds)) (variables t)
        → is_formed kinds t ≡ true → AllFit kinds ns
        → AllFit kinds (spell t ++ ns)
    fit_type (Made h ts) ns below formed rest = (tt, fit_types ts ns below formed rest)
    fit_type (Record fs end) ns below formed rest =
        let r = and_left (rise fs) (end_lacks_each kinds fs end && fields_formed kinds fs) formed in
        let q = and_right (rise fs) (end_lacks_each kinds fs end && fields_formed kinds fs) formed in (
          subst (Fitting kinds (record_node (count_fields fs) end)) (sym (fields_names fs ns))
              (end_fits fs end ns below r (and_left (end_lacks_each kinds fs end) (fields_formed kinds fs) q)),
          fit_fields fs ns (fields_below fs end below)
              (and_right (end_lacks_each kinds fs end) (fields_formed kinds fs) q) rest,
        )

    fit_types : (ts : ElmTypes (Leaf ℕ)) (ns : List Node) → AllByRecursion (IsBelow (length kinds)) (variables_all ts)
        → are_formed kinds ts ≡ true → AllFit kinds ns
        → AllFit kinds (spell_all ts ++ ns)
    fit_types NoType ns below formed rest = rest
    fit_types (MoreType t ts) ns below formed rest =
        subst (AllFit kinds) (sym (append_assoc (spell t) (spell_all ts) ns))
        (fit_type t (spell_all ts ++ ns) (first_of (IsBelow (length kinds)) (variables t) (variables_all ts) below)
        (and_left (is_formed kinds t) (are_formed kinds ts) formed)
        (fit_types ts ns (second_of (IsBelow (length kinds)) (variables t) (variables_all ts) below)
        (and_right (is_formed kinds t) (are_formed kinds ts) formed) rest))

    fit_fields : (fs : Fields (Leaf ℕ)) (ns : List Node) → AllByRecursion (IsBelow (length kinds)) (variables_fields fs)
        → fields_formed kinds fs ≡ true → AllFit kinds ns
        → AllFit kinds (spell_fields fs ++ ns)
    fit_fields NoField ns below formed rest = rest
    fit_fields (MoreField k t fs) ns below formed rest = (
      tt,
      subst (AllFit kinds) (sym (append_assoc (spell t) (spell_fields fs) ns))
          (fit_type t (spell_fields fs ++ ns) (first_of (IsBelow (length kinds)) (variables t) (variables_fields fs)
          below) (and_left (is_formed kinds t) (fields_formed kinds fs) formed)
          (fit_fields fs ns (second_of (IsBelow (length kinds)) (variables t) (variables_fields fs) below)
          (and_right (is_formed kinds t) (fields_formed kinds fs) formed) rest)),
    )

-- the nodes from some place on fit too
pub fit_from : (kinds : List Kind) (ns ms : List Node) → AllFit kinds (ns ++ ms) → AllFit kinds ms
fit_from kinds [] ms h = h
fit_from kinds (n ∷ ns) ms h = fit_from kinds ns ms h.1
