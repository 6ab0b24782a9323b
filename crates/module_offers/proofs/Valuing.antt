-- Values of definitions, one definition after the other.
use Rattle.std.proofs.Common.{◌≡◌, ℕ, ◌+◌, ◌<◌, List, [], ◌∷◌, ◌++◌, Bool, length, map, take, get_or, refl, sym, ap}
use Rattle.std.proofs.Common.{◌∙◌}
use Rattle.std.proofs.Common.{append_assoc, append-nil, arith}
use Rattle.std.specs.Prelude.{flat_map}
use Rattle.std.proofs.lemmas.List.{length-map, map-append}
use Rattle.std.proofs.lemmas.List.Elements.{filter-append}
use Rattle.std.proofs.lemmas.Grind.{flat_map-append}
use Rattle.elm_canon.specs.Names.{Name}
use Rattle.elm_canon.specs.Tree.{Functions, NoFunction, MoreFunction, functions_of, Patterns, patterns_of, Pattern}
use Rattle.elm_canon.specs.View.{FunctionView, function_view, pattern_view, patterns_view, title_view}
use Rattle.elm_canon.proofs.Views.{function}
use Rattle.elm_canon.specs.declared.tree.Function.{Function}
use Rattle.canon_env.proofs.Filtering.{map_next}
use Rattle.interface.specs.Interface.{Value}
use Rattle.type_items.specs.Inferred.{Schemes}
use Rattle.module_offers.specs.Offers.{named_by, pattern_count, defined_value, function_values}

pub named_more : (p : Name → Bool) (xs ys : List Value) → named_by p (xs ++ ys) ≡ named_by p xs ++ named_by p ys
named_more p xs ys = filter-append (λ (v : Value). p v.name) xs ys

-- one part more
pub part_more : (p : Name → Bool) (old new last before part : List Value) → last ≡ old ++ named_by p before
    → new ≡ last ++ named_by p part → new ≡ old ++ named_by p (before ++ part)
part_more p old new last before part h e =
    e ∙ ap (λ l. l ++ named_by p part) h ∙ append_assoc old (named_by p before) (named_by p part)
    ∙ ap (λ l. old ++ l) (sym (named_more p before part))

pub functions_more : (told : Schemes) (fs gs : List FunctionView) →
    function_values told (functions_of (fs ++ gs)) ≡ function_values told (functions_of fs) ++ function_values told
    (functions_of gs)
functions_more told [] gs = refl
functions_more told (f ∷ fs) gs =
    ap (λ l. defined_value told f.0.name (pattern_count f.1) ++ l) (functions_more told fs gs)
    ∙ sym (append_assoc (defined_value told f.0.name (pattern_count f.1)) (function_values told (functions_of fs))
    (function_values told (functions_of gs)))

abbrev values_in : Schemes → List FunctionView → List Value
values_in told fs = function_values told (functions_of fs)

pub count_of : (ps : List Pattern) → pattern_count (patterns_of ps) ≡ length ps
count_of [] = refl
count_of (p ∷ ps) = ap (λ n. 1 + n) (count_of ps) ∙ omega arith

-- one function of so many parameters
pub one_function : (told : Schemes) (f : Function) (n : ℕ) → n ≡ length f.parameters.items →
    defined_value told f.title.name n ≡ values_in told (function_view f ∷ [])
one_function told f n e =
    ap (λ k. defined_value told f.title.name k)
    (e ∙ sym (length-map f.parameters.items pattern_view) ∙ sym (count_of (map pattern_view f.parameters.items)))
    ∙ sym (append-nil (defined_value told f.title.name (pattern_count (patterns_view f.parameters.items))))
    ∙ ap (λ v. values_in told (v ∷ [])) (sym (function f))

-- and one function more
pub functions_next : (told : Schemes) (p : Name → Bool) (old new last : List Value) (fs : List Function) (i : ℕ)
    (f : Function)
    (n : ℕ) → i < length fs → f ≡ get_or fs i f → n ≡ length f.parameters.items
    → last ≡ old ++ named_by p (values_in told (map function_view (take i fs)))
    → new ≡ last ++ named_by p (defined_value told f.title.name n)
    → new ≡ old ++ named_by p (values_in told (map function_view (take (i + 1) fs)))
functions_next told p old new last fs i f n lt is e h g =
    let before = map function_view (take i fs) in
    part_more p old new last (values_in told before) (values_in told (function_view f ∷ [])) h
    (g ∙ ap (λ d. last ++ named_by p d) (one_function told f n e))
    ∙ ap (λ vs. old ++ named_by p vs) (sym (functions_more told before (function_view f ∷ [])))
    ∙ ap (λ l. old ++ named_by p (values_in told l)) (sym (map_next function_view fs i f lt is))

-- one item more, of a list of values for each
pub items_next : {X Y : Type 0} → (f : X → Y) (values : Y → List Value) (p : Name → Bool) (old new last : List Value)
    (xs : List X) (i : ℕ) (x : X) → i < length xs → x ≡ get_or xs i x
    → last ≡ old ++ named_by p (flat_map values (map f (take i xs))) → new ≡ last ++ named_by p (values (f x))
    → new ≡ old ++ named_by p (flat_map values (map f (take (i + 1) xs)))
items_next f values p old new last xs i x lt is h g =
    let before = map f (take i xs) in
    part_more p old new last (flat_map values before) (flat_map values (f x ∷ [])) h
    (g ∙ ap (λ d. last ++ named_by p d) (sym (append-nil (values (f x)))))
    ∙ ap (λ vs. old ++ named_by p vs) (sym (flat_map-append values before (f x ∷ [])))
    ∙ ap (λ l. old ++ named_by p (flat_map values l)) (sym (map_next f xs i x lt is))

-- one item more, of a value for each
pub values_next : {X Y : Type 0} → (f : X → Y) (value : Y → Value) (p : Name → Bool) (old new last : List Value)
    (xs : List X) (i : ℕ) (x : X) → i < length xs → x ≡ get_or xs i x
    → last ≡ old ++ named_by p (map value (map f (take i xs))) → new ≡ last ++ named_by p (value (f x) ∷ [])
    → new ≡ old ++ named_by p (map value (map f (take (i + 1) xs)))
values_next f value p old new last xs i x lt is h g =
    let before = map f (take i xs) in
    part_more p old new last (map value before) (value (f x) ∷ []) h g
    ∙ ap (λ vs. old ++ named_by p vs) (sym (map-append value before (f x ∷ [])))
    ∙ ap (λ l. old ++ named_by p (map value l)) (sym (map_next f xs i x lt is))

-- what two tests pass is the same
pub same_named : (p q : Name → Bool) → ((x : Name) → p x ≡ q x) → (vs : List Value) → named_by p vs ≡ named_by q vs
same_named p q e [] = refl
same_named p q e (v ∷ vs) = rw (e v.name, same_named p q e vs)

pub no_more : (p : Name → Bool) (old none : List Value) → none ≡ [] → old ≡ old ++ named_by p none
no_more p old none e = sym (ap (λ l. old ++ named_by p l) e ∙ append-nil old)
