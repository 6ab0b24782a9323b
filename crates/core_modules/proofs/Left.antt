-- What is left after signs, one after another.
use Rattle.std.proofs.Common.{◌≡◌, List, [], ◌∷◌, ◌++◌, map, Bool, true, false, Option, Some, None, refl, sym, ap, ◌∙◌}
use Rattle.std.proofs.Common.{append_assoc, append-nil, ℕ, zero, suc, ◌+◌, ◌<◌, ◌≤◌, length, drop, take, get_or, arith}
use Rattle.std.proofs.lemmas.List.{at_drop_more, at_drop_all}
use Rattle.std.specs.Prelude.{flat_map, if◌then◌else◌}
use Rattle.elm_canon.specs.Names.{Name}
use Rattle.std.specs.Borrow.{Bor}
use Rattle.elm_canon.specs.Tree.{Annotation, FieldTypes, ExtendedType, annotations_of, field_types_of}
use Rattle.elm_canon.specs.View.{function_type, function_to}
use Rattle.core_modules.specs.Signs.{Sign, IsFunction, IsField, IsGiven, spelled, all_spelled, fields_spelled, same_sign, left_after}
use Rattle.core_modules.specs.Signs.{left_in, count, count_fields, rest_view, signs_view}
use Rattle.core_modules.specs.declared.sign.Sign as code

pub both : (as_ bs : List Sign) (o : Option (List Sign)) → left_in (as_ ++ bs) o ≡ left_in bs (left_in as_ o)
both as_ bs None = refl
both [] bs (Some s) = refl
both (a ∷ as_) bs (Some []) = refl
both (a ∷ as_) bs (Some (b ∷ s)) = by (same_sign a b) (both as_ bs (Some s))
  where
    by : (x : Bool) → left_after (as_ ++ bs) s ≡ left_in bs (left_after as_ s) →
        (if x then left_after (as_ ++ bs) s else None) ≡ left_in bs (if x then left_after as_ s else None)
    by true e = e
    by false e = refl

-- ---- types

pub all_flat : (ts : List Annotation) → all_spelled (annotations_of ts) ≡ flat_map spelled ts
all_flat [] = refl
all_flat (t ∷ ts) = ap (λ s. spelled t ++ s) (all_flat ts)

abbrev pub field_signs : Name × Annotation → List Sign
field_signs f = IsField f.0 ∷ spelled f.1

pub fields_flat : (fs : List (Name × Annotation)) → fields_spelled (field_types_of fs) ≡ flat_map field_signs fs
fields_flat [] = refl
fields_flat (f ∷ fs) = ap (λ s. field_signs f ++ s) (fields_flat fs)

abbrev pub parameter_signs : Annotation → List Sign
parameter_signs t = IsFunction ∷ spelled t

function_more : (t : Annotation) (ts : List Annotation) (u : Annotation) →
    spelled (function_to t (ts ++ u ∷ [])) ≡ flat_map parameter_signs (t ∷ ts) ++ spelled u
function_more t [] u = sym (ap (λ s. IsFunction ∷ s ++ spelled u) (append-nil (spelled t)))
function_more t (v ∷ ts) u =
    ap (λ s. parameter_signs t ++ s) (function_more v ts u)
    ∙ ap (λ s. IsFunction ∷ s) (sym (append_assoc (spelled t) (flat_map parameter_signs (v ∷ ts)) (spelled u)))

-- parameters, and the result
pub function_flat : (ts : List Annotation) (u : Annotation) →
    spelled (function_type (ts ++ u ∷ [])) ≡ flat_map parameter_signs ts ++ spelled u
function_flat [] u = refl
function_flat (t ∷ ts) u = function_more t ts u

-- ---- one sign before others, and one part after another

pub nothing_left : (o : Option (List Sign)) → left_in [] o ≡ o
nothing_left None = refl
nothing_left (Some s) = refl

pub headed : (a : Sign) (as_ : List Sign) (o mid out : Option (List Sign)) → mid ≡ left_in (a ∷ []) o →
    out ≡ left_in as_ mid → out ≡ left_in (a ∷ as_) o
headed a as_ o mid out first rest = rest ∙ ap (left_in as_) first ∙ sym (both (a ∷ []) as_ o)

pub count_is : (ts : List Annotation) → count (annotations_of ts) ≡ length ts
count_is [] = refl
count_is (t ∷ ts) = ap suc (count_is ts)

pub fields_counted : (fs : List (Name × Annotation)) → count_fields (field_types_of fs) ≡ length fs
fields_counted [] = refl
fields_counted (f ∷ fs) = ap suc (fields_counted fs)

pub one_more : {A B : Type 0} (f : B → List Sign) (g : A → B) (xs : List A) (i : ℕ) (x : A) (o : Option (List Sign)) →
    i < length xs → x ≡ get_or xs i x →
    left_in (flat_map f (map g (drop i xs))) o ≡ left_in (flat_map f (map g (drop (i + 1) xs))) (left_in (f (g x)) o)
one_more f g xs i x o h is =
    at_drop_more (λ zs. left_in (flat_map f (map g zs)) o) xs i x h
    ∙ ap (λ z. left_in (f (g z) ++ flat_map f (map g (drop (i + 1) xs))) o) (sym is)
    ∙ both (f (g x)) (flat_map f (map g (drop (i + 1) xs))) o

pub all_done : {A B : Type 0} (f : B → List Sign) (g : A → B) (xs : List A) (i : ℕ) (o : Option (List Sign)) →
    length xs ≤ i → o ≡ left_in (flat_map f (map g (drop i xs))) o
all_done f g xs i o h =
    sym (nothing_left o) ∙ sym (at_drop_all (λ zs. left_in (flat_map f (map g zs)) o) xs i h)

pub last_apart : {A B : Type 0} (g : A → B) (n : ℕ) (xs : List A) (x : A) → length xs ≡ n + 1 → x ≡ get_or xs n x →
    map g xs ≡ map g (take n xs) ++ g x ∷ []
last_apart g n [] x h is = absurd (omega (arith, h))
last_apart g zero (y ∷ []) x h is = ap (λ z. g z ∷ []) (sym is)
last_apart g zero (y ∷ z ∷ xs) x h is = absurd (omega (arith, h))
last_apart g (suc n) (y ∷ xs) x h is = ap (λ zs. g y ∷ zs) (last_apart g n xs x (omega (arith, h)) is)

-- no sign of the program extends a record
pub unextended : (a : Name) (fs : FieldTypes) (signs : Option (Bor (List code.Sign))) →
    None ≡ left_in (spelled (ExtendedType a fs)) (rest_view signs)
unextended a fs None = refl
unextended a fs (Some s) = by s.now
  where
    by : (signs : List code.Sign) → None ≡ left_in (spelled (ExtendedType a fs)) (Some (signs_view signs))
    by [] = refl
    by (code.Sign.Variable b ∷ s) = refl
    by (code.Sign.Named m x k ∷ s) = refl
    by (code.Sign.Function ∷ s) = refl
    by (code.Sign.Tuple k ∷ s) = refl
    by (code.Sign.Record k ∷ s) = refl
    by (code.Sign.Field k ∷ s) = refl
    by (code.Sign.Union x m k n ∷ s) = refl
    by (code.Sign.Maker x t k ∷ s) = refl
    by (code.Sign.Fields k ∷ s) = refl

-- nor is one that of a union without a text
pub unnamed : (as_ : List Sign) (signs : List code.Sign) → None ≡ left_in (IsGiven ∷ as_) (Some (signs_view signs))
unnamed as_ [] = refl
unnamed as_ (code.Sign.Variable b ∷ s) = refl
unnamed as_ (code.Sign.Named m x k ∷ s) = refl
unnamed as_ (code.Sign.Function ∷ s) = refl
unnamed as_ (code.Sign.Tuple k ∷ s) = refl
unnamed as_ (code.Sign.Record k ∷ s) = refl
unnamed as_ (code.Sign.Field k ∷ s) = refl
unnamed as_ (code.Sign.Union x m k n ∷ s) = refl
unnamed as_ (code.Sign.Maker x t k ∷ s) = refl
unnamed as_ (code.Sign.Fields k ∷ s) = refl

-- one sign, and three parts
pub in_turn : (a : Sign) (as_ bs cs : List Sign) (o first second third out : Option (List Sign)) →
    first ≡ left_in (a ∷ []) o → second ≡ left_in as_ first → third ≡ left_in bs second → out ≡ left_in cs third →
    out ≡ left_in ((a ∷ as_) ++ bs ++ cs) o
in_turn a as_ bs cs o first second third out e f g h =
    h
    ∙ ap (left_in cs) (g ∙ ap (left_in bs) (headed a as_ o first second e f) ∙ sym (both (a ∷ as_) bs o))
    ∙ sym (both ((a ∷ as_) ++ bs) cs o)
