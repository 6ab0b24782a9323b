-- The names that patterns bind.
use Rattle.std.proofs.Common.{◌≡◌, ℕ, suc, ◌+◌, List, [], ◌∷◌, ◌++◌, length, map, refl, sym, ap, ◌∙◌, arith, append_assoc}
use Rattle.std.specs.List.{AllZip, enumerate_from, range_with_len}
use Rattle.elm_canon.specs.declared.reference.Ref.TheVariants.{Local}
use Rattle.elm_canon.specs.Tree.{Pattern, Anything, Named, As, Exactly, Construct, FieldsOf, LocatedPattern, Patterns, NoPattern, MorePattern, patterns_of}
use Rattle.elm_base.specs.declared.position.Pos.{Pos}
use Rattle.elm_type.specs.Types.{Name}
use Rattle.type_items.specs.Items.{Place, child, Wanted, at}
use Rattle.type_items.specs.Scopes.{Mono, Instance, General, Known, Entries}
use Rattle.type_items.specs.Patterns.{shape, fields_at, pattern_items, patterns_items, pattern_names, patterns_names, field_names_before}
use Rattle.type_walks.specs.Links.{Links, Has, Tells}
use Rattle.type_constructs.specs.Binding.{Bound, EntryHas, BoundHave}
use Rattle.type_constructs.specs.Patterns.{bound_before}
use Rattle.type_constructs.proofs.Chains.{has_still}

-- ---- names before others

fields_over : (fs : List (Name × Wanted)) (rest : Entries) → field_names_before fs rest ≡ field_names_before fs [] ++ rest
fields_over [] rest = refl
fields_over (f ∷ fs) rest =
    fields_over fs ((Local f.0, Mono f.1) ∷ rest)
    ∙ sym (ap (λ l. l ++ rest) (fields_over fs ((Local f.0, Mono f.1) ∷ [])) ∙ append_assoc (field_names_before fs []) ((Local f.0, Mono f.1) ∷ []) rest)

mutual
  pub names_over : (p : Pattern) (known : Known) (q : Place) (t : Wanted) (rest : Entries)
      → pattern_names p known q t rest ≡ pattern_names p known q t [] ++ rest
  names_over Anything known q t rest = refl
  names_over (Named x) known q t rest = refl
  names_over (As p x) known q t rest = ap (λ l. (Local x, Mono t) ∷ l) (names_over p known q t rest)
  names_over (Exactly l) known q t rest = refl
  names_over (Construct u c ps) known q t rest = all_names_over ps known (child q 1) 0 (shape u c known (child q 0)).parts rest
  names_over (FieldsOf xs) known q t rest = fields_over (fields_at xs (child q 1)) rest
  names_over (LocatedPattern pos p) known q t rest = names_over p known q t rest

  pub all_names_over : (ps : Patterns) (known : Known) (q : Place) (i : ℕ) (ts : List Wanted) (rest : Entries)
      → patterns_names ps known q i ts rest ≡ patterns_names ps known q i ts [] ++ rest
  all_names_over NoPattern known q i ts rest = refl
  all_names_over (MorePattern p ps) known q i [] rest = refl
  all_names_over (MorePattern p ps) known q i (t ∷ ts) rest =
      all_names_over ps known q (i + 1) ts (pattern_names p known (child q i) t rest)
      ∙ (ap (λ l. patterns_names ps known q (i + 1) ts [] ++ l) (names_over p known (child q i) t rest)
      ∙ (sym (append_assoc (patterns_names ps known q (i + 1) ts []) (pattern_names p known (child q i) t []) rest)
      ∙ ap (λ l. l ++ rest) (sym (all_names_over ps known q (i + 1) ts (pattern_names p known (child q i) t [])))))

-- ---- one more pattern

pub names_after : (ps : List Pattern) (p : Pattern) (known : Known) (q : Place) (i : ℕ) (ts : List Wanted) (t : Wanted) (rest : Entries)
    → length ps ≡ length ts
    → patterns_names (patterns_of (ps ++ p ∷ [])) known q i (ts ++ t ∷ []) rest
    ≡ pattern_names p known (child q (i + length ps)) t (patterns_names (patterns_of ps) known q i ts rest)
names_after [] p known q i [] t rest h = let e : i ≡ i + 0 = omega arith in ap (λ j. pattern_names p known (child q j) t rest) e
names_after [] p known q i (u ∷ ts) t rest h = absurd (omega arith)
names_after (o ∷ ps) p known q i [] t rest h = absurd (omega arith)
names_after (o ∷ ps) p known q i (u ∷ ts) t rest h =
    let e : (i + 1) + length ps ≡ i + suc (length ps) = omega arith in
    names_after ps p known q (i + 1) ts t (pattern_names o known (child q i) u rest) (omega arith)
    ∙ ap (λ j. pattern_names p known (child q j) t (patterns_names (patterns_of ps) known q (i + 1) ts (pattern_names o known (child q i) u rest))) e

pub items_after : (ps : List Pattern) (p : Pattern) (more : List Pattern) (known : Known) (here : Pos) (q : Place) (i : ℕ) (ts : List Wanted) (t : Wanted) (us : List Wanted)
    → length ps ≡ length ts
    → patterns_items (patterns_of (ps ++ p ∷ more)) known here q i (ts ++ t ∷ us)
    ≡ patterns_items (patterns_of ps) known here q i ts
    ++ (pattern_items p known here (child q (i + length ps)) t ++ patterns_items (patterns_of more) known here q ((i + length ps) + 1) us)
items_after [] p more known here q i [] t us h =
    let e : i ≡ i + 0 = omega arith in
    ap (λ j. pattern_items p known here (child q j) t ++ patterns_items (patterns_of more) known here q (j + 1) us) e
items_after [] p more known here q i (u ∷ ts) t us h = absurd (omega arith)
items_after (o ∷ ps) p more known here q i [] t us h = absurd (omega arith)
items_after (o ∷ ps) p more known here q i (u ∷ ts) t us h =
    let e : (i + 1) + length ps ≡ i + suc (length ps) = omega arith in
    let rest = λ (j : ℕ). pattern_items p known here (child q j) t ++ patterns_items (patterns_of more) known here q (j + 1) us in
    ap (λ l. pattern_items o known here (child q i) u ++ l)
    (items_after ps p more known here q (i + 1) ts t us (omega arith)
    ∙ ap (λ j. patterns_items (patterns_of ps) known here q (i + 1) ts ++ rest j) e)
    ∙ sym (append_assoc (pattern_items o known here (child q i) u) (patterns_items (patterns_of ps) known here q (i + 1) ts) (rest (i + suc (length ps))))

-- ---- variables of names

one_still : {more links : Links} (v : ℕ) (e : _) → Tells more links → EntryHas links v e → EntryHas more v e
one_still v (Mono t) h k = has_still h k
one_still v (Instance s) h k = k
one_still v (General list type) h k = k

pub bound_still : {more links : Links} (bs : List Bound) (es : Entries) → Tells more links → BoundHave links bs es → BoundHave more bs es
bound_still [] [] h k = tt
bound_still [] (e ∷ es) h k = k
bound_still (b ∷ bs) [] h k = k
bound_still (b ∷ bs) (e ∷ es) h k = ((k.0.0, one_still b.1 e.1 h k.0.1), bound_still bs es h k.1)

pub fields_bound : (links : Links) (p : Place) (i : ℕ) (xs : List Name) (vs : List ℕ) (bound : List Bound) (names : Entries)
    → BoundHave links bound names → length vs ≡ length xs
    → AllZip (Has links) vs (map (λ j. at (child p j)) (range_with_len i (length vs)))
    → BoundHave links (bound_before xs vs bound) (field_names_before (map (λ x. (x.1, at (child p x.0))) (enumerate_from i xs)) names)
fields_bound links p i [] [] bound names b h has = b
fields_bound links p i [] (v ∷ vs) bound names b h has = absurd (omega arith)
fields_bound links p i (x ∷ xs) [] bound names b h has = absurd (omega arith)
fields_bound links p i (x ∷ xs) (v ∷ vs) bound names b h has =
    fields_bound links p (i + 1) xs vs ((x, v) ∷ bound) ((Local x, Mono (at (child p i))) ∷ names) ((refl, has.0), b) (omega arith) has.1
