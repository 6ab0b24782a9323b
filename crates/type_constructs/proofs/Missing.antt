-- Where patterns stop.
use Rattle.std.proofs.Common.{◌≡◌, ℕ, ◌+◌, ◌≤◌, List, [], ◌∷◌, ◌++◌, length, refl, sym, ap, ◌∙◌, subst, arith, append_assoc}
use Rattle.elm_base.specs.declared.position.Pos.{Pos}
use Rattle.elm_canon.specs.Tree.{Pattern, patterns_of}
use Rattle.type_items.specs.Items.{Place, child, Wanted, at, nonsense}
use Rattle.type_items.specs.Scopes.{Known}
use Rattle.type_items.specs.Patterns.{pattern_items, patterns_items}
use Rattle.type_constructs.specs.Failing.{Fails}
use Rattle.type_constructs.proofs.Passing.{passes_plain}
use Rattle.type_constructs.specs.Regions.{deep}
use Rattle.type_constructs.specs.Faults.{FailsLiteral, FailsFieldsLack, FailsFields, FailsShape, FailsConstructor, FailsParts, FailsNext, FailsMore, FailsFewer}
use Rattle.type_constructs.proofs.Spots.{Here, Child, Itself, Below, Tops, Deep, Nowhere, In}
use Rattle.type_constructs.proofs.Naming.{items_after}
use Rattle.type_constructs.proofs.Sizes.{lack_sizes, shape_sizes, patterns_sizes}
use Rattle.type_constructs.proofs.Running.{plain}
use Rattle.type_constructs.proofs.Stops.{stuck, ends, past, stopped, stops_next, stops_there}

pub fails_literal : FailsLiteral
fails_literal a l known here q t s u s' links v bad made fails =
    stopped refl (past Nowhere refl (plain tt made.walk) (stuck Nowhere _ fails))

pub fails_fields_lack : FailsFieldsLack
fails_fields_lack a xs known here q t s s1 s' links rest bad opened fails =
    stopped refl (past (In (Child Here 0) Itself) refl (plain tt opened) (stuck Nowhere _ fails))

pub fails_fields : FailsFields
fails_fields a xs known here q t s s1 s2 s3 s4 s' links rest fields v bad opened_rest lacks opened made fails =
    stopped refl
    (past (In (Child Here 0) Itself) refl (plain tt opened_rest)
    (past Nowhere refl (plain (lack_sizes here (at (child q 0)) xs) lacks)
    (past (In (Child Here 1) (Tops 0 (length fields))) refl (plain tt opened.walk)
    (past Nowhere refl (plain tt made.walk) (stuck Nowhere _ fails)))))

pub fails_shape : FailsShape
fails_shape a u c ps known here q t s s' links bad fails = stopped refl (stuck (In (Child Here 0) Below) _ fails)

pub fails_constructor : FailsConstructor
fails_constructor a u c ps known here q t s s1 s' links result parts bad made fails =
    stopped refl (past (In (Child Here 0) Below) refl (plain (shape_sizes u c known here (child q 0)) made.walk) (stuck Nowhere _ fails))

pub fails_parts : FailsParts
fails_parts a u c ps known here q t s s1 s2 s' links result parts bad made same fails =
    stopped refl
    (past (In (Child Here 0) Below) refl (plain (shape_sizes u c known here (child q 0)) made.walk)
    (past Nowhere refl (plain (refl, tt) same) (ends (In (Child Here 1) (Deep 0 (length ps))) fails)))

longer : {A : Type 0} (xs : List A) (x : A) (ys : List A) → length xs + 1 ≤ length (xs ++ x ∷ ys)
longer [] x ys = omega arith
longer (o ∷ xs) x ys = let h = longer xs x ys in omega (arith, h)

pub fails_next : FailsNext
fails_next a ps p more known here q ts t us s u s' links bound bad count first fails =
    let e : 0 + length ps ≡ length ps = omega arith in
    subst (λ l. Fails a s links (deep q 0 (length (ps ++ p ∷ more))) l bad s') (sym (items_after ps p more known here q 0 ts t us count))
    (subst
    (λ j. Fails a s links (deep q 0 (length (ps ++ p ∷ more)))
    (patterns_items (patterns_of ps) known here q 0 ts
    ++ (pattern_items p known here (child q j) t ++ patterns_items (patterns_of more) known here q (j + 1) us)) bad s')
    (sym e)
    (stops_next q 0 (length ps) (length ps) (length (ps ++ p ∷ more)) (patterns_items (patterns_of more) known here q (length ps + 1) us)
    (omega arith) (longer ps p more) first.walk (passes_plain a s links (deep q 0 (length ps)) _ (patterns_sizes (patterns_of ps) known here q 0 ts)) fails))

items_more : (ps : List Pattern) (p : Pattern) (more : List Pattern) (known : Known) (here : Pos) (q : Place) (i : ℕ) (ts : List Wanted)
    → length ps ≡ length ts
    → patterns_items (patterns_of (ps ++ p ∷ more)) known here q i ts ≡ patterns_items (patterns_of ps) known here q i ts ++ nonsense here
items_more [] p more known here q i [] h = refl
items_more [] p more known here q i (t ∷ ts) h = absurd (omega arith)
items_more (o ∷ ps) p more known here q i [] h = absurd (omega arith)
items_more (o ∷ ps) p more known here q i (t ∷ ts) h =
    ap (λ l. pattern_items o known here (child q i) t ++ l) (items_more ps p more known here q (i + 1) ts (omega arith))
    ∙ sym (append_assoc (pattern_items o known here (child q i) t) (patterns_items (patterns_of ps) known here q (i + 1) ts) (nonsense here))

pub fails_more : FailsMore
fails_more a ps p more known here q ts s u s' links bound bad count first fails =
    subst (λ l. Fails a s links (deep q 0 (length (ps ++ p ∷ more))) l bad s') (sym (items_more ps p more known here q 0 ts count))
    (stops_there q 0 (length ps) (length (ps ++ p ∷ more)) (let l = longer ps p more in omega (arith, l)) first.walk
    (passes_plain a s links (deep q 0 (length ps)) _ (patterns_sizes (patterns_of ps) known here q 0 ts)) fails)

items_fewer : (ps : List Pattern) (known : Known) (here : Pos) (q : Place) (i : ℕ) (ts : List Wanted) (t : Wanted) (us : List Wanted)
    → length ps ≡ length ts
    → patterns_items (patterns_of ps) known here q i (ts ++ t ∷ us) ≡ patterns_items (patterns_of ps) known here q i ts ++ nonsense here
items_fewer [] known here q i [] t us h = refl
items_fewer [] known here q i (o ∷ ts) t us h = absurd (omega arith)
items_fewer (p ∷ ps) known here q i [] t us h = absurd (omega arith)
items_fewer (p ∷ ps) known here q i (o ∷ ts) t us h =
    ap (λ l. pattern_items p known here (child q i) o ++ l) (items_fewer ps known here q (i + 1) ts t us (omega arith))
    ∙ sym (append_assoc (pattern_items p known here (child q i) o) (patterns_items (patterns_of ps) known here q (i + 1) ts) (nonsense here))

pub fails_fewer : FailsFewer
fails_fewer a ps known here q ts t us s u s' links bound bad count first fails =
    subst (λ l. Fails a s links (deep q 0 (length ps)) l bad s') (sym (items_fewer ps known here q 0 ts t us count))
    (stops_there q 0 (length ps) (length ps) (omega arith) first.walk
    (passes_plain a s links (deep q 0 (length ps)) _ (patterns_sizes (patterns_of ps) known here q 0 ts)) fails)
