-- Patterns: where what they ask is solved, the types of their constructors are known.
use Rattle.std.proofs.Common.{◌≡◌, ℕ, zero, suc, ◌+◌, List, [], ◌∷◌, ◌++◌, map, Option, Some, None, refl, sym, ap, ◌∙◌}
use Rattle.std.specs.List.{enumerate_from, range_with_len}
use Rattle.elm_base.specs.declared.position.Pos.{Pos}
use Rattle.elm_canon.specs.declared.reference.Ref.TheVariants.{Local}
use Rattle.elm_canon.specs.declared.unions.Alternative.{Alternative}
use Rattle.elm_canon.specs.Unions.{Union, TupleUnion, ListUnion, Declared}
use Rattle.elm_canon.specs.Tree.{Pattern, Anything, Named, As, Exactly, Construct, FieldsOf, LocatedPattern, Patterns}
use Rattle.elm_canon.specs.Tree.{NoPattern, MorePattern}
use Rattle.elm_type.specs.Types.{Name, ElmType, Made, Record, NoType, MoreType, renamed, Leaf, Scheme}
use Rattle.elm_type.specs.declared.head.Head.TheVariants as head
use Rattle.type_items.specs.Items.{Place, child, Wanted, at, Item, Same}
use Rattle.type_items.specs.Scopes.{Mono, Entries, Known, leaf_at}
use Rattle.type_items.specs.Patterns.{Shape, parameters_of, list_parts, declared_shape, shape, declared_items}
use Rattle.type_items.specs.Patterns.{shape_items, pattern_items, patterns_items, field_names_before}
use Rattle.type_items.specs.Patterns.{pattern_names, patterns_names}
use Rattle.type_items.specs.Solutions.{Values, Solves, Meets}
use Rattle.type_items.specs.More.{Grows}
use Rattle.type_items.proofs.Lists.{two, all_left, all_right, no_nonsense}

-- ---- names alike: the same ones, in the same order

abbrev pub Alike : Entries → Entries → Type 0
Alike [] [] = Unit {0}
Alike [] (n ∷ ns) = ⊥
Alike (m ∷ ms) [] = ⊥
Alike (m ∷ ms) (n ∷ ns) = (m.0 ≡ n.0) × Alike ms ns

pub alike_itself : (ns : Entries) → Alike ns ns
alike_itself [] = tt
alike_itself (n ∷ ns) = (refl, alike_itself ns)

pub alike_both : (ms ns ks ls : Entries) → Alike ms ns → Alike ks ls → Alike (ms ++ ks) (ns ++ ls)
alike_both [] [] ks ls h k = k
alike_both [] (n ∷ ns) ks ls h k = absurd h
alike_both (m ∷ ms) [] ks ls h k = absurd h
alike_both (m ∷ ms) (n ∷ ns) ks ls h k = (h.0, alike_both ms ns ks ls h.1 k)

-- ---- as many types

abbrev pub AsMany : List Wanted → List Wanted → Type 0
AsMany [] [] = Unit {0}
AsMany [] (u ∷ us) = ⊥
AsMany (t ∷ ts) [] = ⊥
AsMany (t ∷ ts) (u ∷ us) = AsMany ts us

pub many_mapped : (f g : ℕ → Wanted) (is : List ℕ) → AsMany (map f is) (map g is)
many_mapped f g [] = tt
many_mapped f g (i ∷ is) = many_mapped f g is

many_parameters : (n : ℕ) (f g : Leaf ℕ → Leaf Place) (t : ElmType (Leaf ℕ))
    → AsMany (parameters_of n (renamed f t)) (parameters_of n (renamed g t))
many_parameters zero f g t = tt
many_parameters (suc n) f g (Made head.Function (MoreType a (MoreType b NoType))) = many_parameters n f g b
many_parameters (suc n) f g (Made head.Function NoType) = tt
many_parameters (suc n) f g (Made head.Function (MoreType a NoType)) = tt
many_parameters (suc n) f g (Made head.Function (MoreType a (MoreType b (MoreType c ts)))) = tt
many_parameters (suc n) f g (Made head.Tuple ts) = tt
many_parameters (suc n) f g (Made (head.Named m x) ts) = tt
many_parameters (suc n) f g (Record fs end) = tt

many_listed : (n : ℕ) (t u : Wanted) → AsMany (list_parts n t) (list_parts n u)
many_listed zero t u = tt
many_listed (suc n) t u = tt

many_declared : (o : Option Scheme) (n : ℕ) (p q : Place)
    → AsMany (declared_shape o n p).parts (declared_shape o n q).parts
many_declared None n p q = tt
many_declared (Some s) n p q = many_parameters n (leaf_at p) (leaf_at q) s.type

many_parts : (u : Union) (c : Alternative) (known : Known) (p q : Place)
    → AsMany (shape u c known p).parts (shape u c known q).parts
many_parts (TupleUnion n) c known p q =
    many_mapped (λ i. at (child p i)) (λ i. at (child q i)) (range_with_len 0 n)
many_parts ListUnion c known p q = many_listed c.arity (at (child p 0)) (at (child q 0))
many_parts (Declared m x cs) c known p q = many_declared (known m c.name) c.arity p q

-- ---- the names that patterns bind are the same at each place

fields_alike : (p q : Place) (xs : List (ℕ × Name)) (ms ns : Entries) → Alike ms ns
    → Alike (field_names_before (map (λ x. (x.1, at (child p x.0))) xs) ms)
    (field_names_before (map (λ x. (x.1, at (child q x.0))) xs) ns)
fields_alike p q [] ms ns h = h
fields_alike p q (x ∷ xs) ms ns h = fields_alike p q xs _ _ (refl, h)

mutual
  pub names_alike : (known : Known) (r : Pattern) (p q : Place) (t u : Wanted) (ms ns : Entries) → Alike ms ns
      → Alike (pattern_names r known p t ms) (pattern_names r known q u ns)
  names_alike known Anything p q t u ms ns h = h
  names_alike known (Named x) p q t u ms ns h = (refl, h)
  names_alike known (As r x) p q t u ms ns h = (refl, names_alike known r p q t u ms ns h)
  names_alike known (Exactly l) p q t u ms ns h = h
  names_alike known (Construct o c rs) p q t u ms ns h =
      all_alike known rs (child p 1) (child q 1) 0 (shape o c known (child p 0)).parts
      (shape o c known (child q 0)).parts ms ns (many_parts o c known (child p 0) (child q 0)) h
  names_alike known (FieldsOf xs) p q t u ms ns h =
      fields_alike (child p 1) (child q 1) (enumerate_from 0 xs) ms ns h
  names_alike known (LocatedPattern pos r) p q t u ms ns h = names_alike known r p q t u ms ns h

  pub all_alike : (known : Known) (rs : Patterns) (p q : Place) (i : ℕ) (ts us : List Wanted) (ms ns : Entries)
      → AsMany ts us → Alike ms ns → Alike (patterns_names rs known p i ts ms) (patterns_names rs known q i us ns)
  all_alike known NoPattern p q i ts us ms ns m h = h
  all_alike known (MorePattern r rs) p q i [] [] ms ns m h = h
  all_alike known (MorePattern r rs) p q i [] (u ∷ us) ms ns m h = absurd m
  all_alike known (MorePattern r rs) p q i (t ∷ ts) [] ms ns m h = absurd m
  all_alike known (MorePattern r rs) p q i (t ∷ ts) (u ∷ us) ms ns m h =
      all_alike known rs p q (i + 1) ts us (pattern_names r known (child p i) t ms)
      (pattern_names r known (child q i) u ns) m (names_alike known r (child p i) (child q i) t u ms ns h)

-- ---- where more is known

module _ (known more : Known) (grows : Grows known more) (v : Values) where
  known_same : (m x : Name) (here : Pos) (p : Place) → Solves v (declared_items (known m x) here p)
      → known m x ≡ more m x
  known_same m x here p = go (known m x) refl
    where
      go : (o : Option Scheme) → known m x ≡ o → Solves v (declared_items o here p) → known m x ≡ more m x
      go None is s = no_nonsense v here s
      go (Some s) is k = is ∙ sym (grows m x s is)

  pub shape_same : (u : Union) (c : Alternative) (here : Pos) (p q : Place) → Solves v (shape_items u c known here p)
      → shape u c known q ≡ shape u c more q
  shape_same (TupleUnion n) c here p q s = refl
  shape_same ListUnion c here p q s = refl
  shape_same (Declared m x cs) c here p q s =
      ap (λ o. declared_shape o c.arity q) (known_same m c.name here p s)

  pub asked_same : (u : Union) (c : Alternative) (here pos : Pos) (p q : Place)
      → Solves v (shape_items u c known here p) → shape_items u c known pos q ≡ shape_items u c more pos q
  asked_same (TupleUnion n) c here pos p q s = refl
  asked_same ListUnion c here pos p q s = refl
  asked_same (Declared m x cs) c here pos p q s =
      ap (λ o. declared_items o pos q) (known_same m c.name here p s)

  mutual
    pub pattern_same : (r : Pattern) (here pos : Pos) (p q : Place) (t u : Wanted)
        → Solves v (pattern_items r known here p t) → pattern_items r known pos q u ≡ pattern_items r more pos q u
    pattern_same Anything here pos p q t u s = refl
    pattern_same (Named x) here pos p q t u s = refl
    pattern_same (As r x) here pos p q t u s = pattern_same r here pos p q t u s
    pattern_same (Exactly l) here pos p q t u s = refl
    pattern_same (Construct o c rs) here pos p q t u s =
        let first = all_left (Meets v) (shape_items o c known here (child p 0)) _ s in
        let rest = all_right (Meets v) (shape_items o c known here (child p 0)) _ s in
        let parts = (shape o c more (child q 0)).parts in
        two (λ (xs ys : List Item). xs ++ ys) (asked_same o c here pos (child p 0) (child q 0) first)
        (ap (λ (z : Shape). Same pos z.result u ∷ patterns_items rs known pos (child q 1) 0 z.parts)
        (shape_same o c here (child p 0) (child q 0) first)
        ∙ ap (λ (l : List Item). Same pos (shape o c more (child q 0)).result u ∷ l)
        (patterns_same rs here pos (child p 1) (child q 1) 0 0 (shape o c known (child p 0)).parts parts rest.1))
    pattern_same (FieldsOf xs) here pos p q t u s = refl
    pattern_same (LocatedPattern place r) here pos p q t u s = pattern_same r place place p q t u s

    pub patterns_same : (rs : Patterns) (here pos : Pos) (p q : Place) (i j : ℕ) (ts us : List Wanted)
        → Solves v (patterns_items rs known here p i ts)
        → patterns_items rs known pos q j us ≡ patterns_items rs more pos q j us
    patterns_same NoPattern here pos p q i j ts [] s = refl
    patterns_same NoPattern here pos p q i j ts (u ∷ us) s = refl
    patterns_same (MorePattern r rs) here pos p q i j ts [] s = refl
    patterns_same (MorePattern r rs) here pos p q i j [] (u ∷ us) s = no_nonsense v here s
    patterns_same (MorePattern r rs) here pos p q i j (t ∷ ts) (u ∷ us) s =
        two (λ (xs ys : List Item). xs ++ ys)
        (pattern_same r here pos (child p i) (child q j) t u (all_left (Meets v) (pattern_items r known here (child p i) t) _ s))
        (patterns_same rs here pos p q (i + 1) (j + 1) ts us
        (all_right (Meets v) (pattern_items r known here (child p i) t) _ s))

  mutual
    pub names_same : (r : Pattern) (here : Pos) (p q : Place) (t u : Wanted) (ns : Entries)
        → Solves v (pattern_items r known here p t) → pattern_names r known q u ns ≡ pattern_names r more q u ns
    names_same Anything here p q t u ns s = refl
    names_same (Named x) here p q t u ns s = refl
    names_same (As r x) here p q t u ns s = ap (λ (l : Entries). (Local x, Mono u) ∷ l) (names_same r here p q t u ns s)
    names_same (Exactly l) here p q t u ns s = refl
    names_same (Construct o c rs) here p q t u ns s =
        let first = all_left (Meets v) (shape_items o c known here (child p 0)) _ s in
        let rest = all_right (Meets v) (shape_items o c known here (child p 0)) _ s in
        ap (λ (z : Shape). patterns_names rs known (child q 1) 0 z.parts ns)
        (shape_same o c here (child p 0) (child q 0) first)
        ∙ all_same rs here (child p 1) (child q 1) 0 0 (shape o c known (child p 0)).parts
        (shape o c more (child q 0)).parts ns rest.1
    names_same (FieldsOf xs) here p q t u ns s = refl
    names_same (LocatedPattern place r) here p q t u ns s = names_same r place p q t u ns s

    pub all_same : (rs : Patterns) (here : Pos) (p q : Place) (i j : ℕ) (ts us : List Wanted) (ns : Entries)
        → Solves v (patterns_items rs known here p i ts)
        → patterns_names rs known q j us ns ≡ patterns_names rs more q j us ns
    all_same NoPattern here p q i j ts us ns s = refl
    all_same (MorePattern r rs) here p q i j ts [] ns s = refl
    all_same (MorePattern r rs) here p q i j [] (u ∷ us) ns s = no_nonsense v here s
    all_same (MorePattern r rs) here p q i j (t ∷ ts) (u ∷ us) ns s =
        ap (λ (l : Entries). patterns_names rs known q (j + 1) us l)
        (names_same r here (child p i) (child q j) t u ns
        (all_left (Meets v) (pattern_items r known here (child p i) t) _ s))
        ∙ all_same rs here p q (i + 1) (j + 1) ts us (pattern_names r more (child q j) u ns)
        (all_right (Meets v) (pattern_items r known here (child p i) t) _ s)
