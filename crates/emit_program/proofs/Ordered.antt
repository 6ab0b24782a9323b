-- Incoming ports in the order of their names' units, and fields one more.
use Rattle.std.proofs.Common.{◌≡◌, ℕ, zero, suc, ◌+◌, ◌<◌, List, [], ◌∷◌, ◌++◌, length, take, get_or, map, Bool, true, false}
use Rattle.std.proofs.Common.{if◌then◌else◌, refl, sym, ap, ◌∙◌, append_assoc, append-nil, arith}
use Rattle.std.specs.Prelude.{codes, ◌==◌}
use Rattle.std.specs.Ordering.{nat_cmp, is_lt}
use Rattle.std.specs.Cmp.Lexicographic.{slice_cmp}
use Rattle.std.specs.List.Sorted.{IsSortedBy, IsStableBy}
use Rattle.std.proofs.lemmas.Bool.Decides.{nat_tests}
use Rattle.std.proofs.lemmas.Cmp.{same_from_slice_cmp}
use Rattle.elm_base.proofs.Sorting.{inserted, in_order, sorted_is}
use Rattle.runs.specs.Texts.{units_lt}
use Rattle.elm_canon.specs.Names.{Name}
use Rattle.elm_canon.specs.Tree.{Declaration, Given, Define, Maker, RecordMaker, OutPort, InPort}
use Rattle.js_tree.specs.Tree.{Js, Fields, NoField, MoreField}
use Rattle.js_tree.specs.Text.{js_text, text_text, fields_text, more_fields_text}
use Rattle.js_emit.specs.Codecs.{decoder}
use Rattle.js_emit.specs.Program.{put_decoder, in_decoders}
use Rattle.emit_exprs.proofs.Rows.{seen_next}
use Rattle.emit_program.proofs.Order.{before, is_order}
use Rattle.emit_program.specs.Texts.{in_texts, fields_list, listed, more_listed}

abbrev pub NamedText : Type 0
NamedText = Name × List ℕ

abbrev pub by_name : {X : Type 0} → (X → NamedText) → X → X → Bool
by_name {X} view = before (λ (x : X). (view x).0)

before_by_units : (xs ys : Name) → is_lt (slice_cmp nat_cmp xs ys) ≡ units_lt xs ys
before_by_units xs ys =
    same_from_slice_cmp nat_cmp is_lt units_lt refl (λ _ _. refl) (λ _ _. refl) (λ x y xs ys o h. grind (arith, nat_tests)) xs ys _ refl

-- ---- by insertion

abbrev pub put : NamedText → List NamedText → List NamedText
put p [] = p ∷ []
put p (q ∷ qs) = if units_lt q.0 p.0 then q ∷ put p qs else p ∷ q ∷ qs

abbrev pub put_all : List NamedText → List NamedText
put_all [] = []
put_all (p ∷ ps) = put p (put_all ps)

put_step : {X : Type 0} (view : X → NamedText) (m x : X) (xs : List X) (b : Bool)
    → map view (inserted (by_name view) m xs) ≡ put (view m) (map view xs)
    → map view (if b then x ∷ inserted (by_name view) m xs else m ∷ x ∷ xs)
    ≡ (if b then view x ∷ put (view m) (map view xs) else view m ∷ view x ∷ map view xs)
put_step view m x xs true rest = ap (λ (l : List NamedText). view x ∷ l) rest
put_step view m x xs false rest = refl

put_is : {X : Type 0} (view : X → NamedText) (m : X) (xs : List X)
    → map view (inserted (by_name view) m xs) ≡ put (view m) (map view xs)
put_is view m [] = refl
put_is view m (x ∷ xs) =
    put_step view m x xs (by_name view x m) (put_is view m xs)
    ∙ ap (λ b. if b then view x ∷ put (view m) (map view xs) else view m ∷ view x ∷ map view xs) (before_by_units (view x).0 (view m).0)

all_put : {X : Type 0} (view : X → NamedText) (xs : List X) → map view (in_order (by_name view) xs) ≡ put_all (map view xs)
all_put view [] = refl
all_put view (x ∷ xs) = put_is view x (in_order (by_name view) xs) ∙ ap (put (view x)) (all_put view xs)

field_put : (k : Name) (x : Js) (fs : Fields) → fields_list (put_decoder k x fs) ≡ put (k, js_text x) (fields_list fs)
field_put k x NoField = refl
field_put k x (MoreField other y fs) =
    let P : Bool → Type 0 = λ b. fields_list (if b then MoreField other y (put_decoder k x fs) else MoreField k x (MoreField other y fs))
    ≡ (if b then (other, js_text y) ∷ put (k, js_text x) (fields_list fs) else (k, js_text x) ∷ (other, js_text y) ∷ fields_list fs) in
    elim (units_lt other k) as P [ true ↦ ap (λ (l : List NamedText). (other, js_text y) ∷ l) (field_put k x fs) | false ↦ refl ]

pub texts_put : (ds : List Declaration) → put_all (in_texts ds) ≡ fields_list (in_decoders ds)
texts_put [] = refl
texts_put (Given r (Maker a) ∷ ds) = texts_put ds
texts_put (Given r (RecordMaker ks) ∷ ds) = texts_put ds
texts_put (Given r (OutPort port t) ∷ ds) = texts_put ds
texts_put (Given r (InPort port t) ∷ ds) =
    ap (put (port, js_text (decoder t))) (texts_put ds) ∙ sym (field_put port (decoder t) (in_decoders ds))
texts_put (Define g ∷ ds) = texts_put ds

pub texts_sorted : {X : Type 0} (view : X → NamedText) (xs ys : List X) → IsSortedBy (by_name view) ys
    → IsStableBy (by_name view) xs ys → (ds : List Declaration) → map view xs ≡ in_texts ds → map view ys ≡ fields_list (in_decoders ds)
texts_sorted {X} view xs ys up stable ds is =
    ap (map view) (sorted_is (by_name view) (is_order (λ (x : X). (view x).0)) xs ys up stable)
    ∙ all_put view xs ∙ ap put_all is ∙ texts_put ds

-- ---- fields

more_fields_listed : (fs : Fields) → more_listed (fields_list fs) ≡ more_fields_text fs
more_fields_listed NoField = refl
more_fields_listed (MoreField k e fs) =
    ap (λ t. codes "," ++ text_text k ++ codes ":" ++ js_text e ++ t) (more_fields_listed fs)

pub fields_listed : (fs : Fields) → listed (fields_list fs) ≡ fields_text fs
fields_listed NoField = refl
fields_listed (MoreField k e fs) = ap (λ t. text_text k ++ codes ":" ++ js_text e ++ t) (more_fields_listed fs)

-- ---- one field more

abbrev pub comma : Bool → List ℕ
comma is_first = if is_first then [] else codes ","

abbrev is_empty : List NamedText → Bool
is_empty [] = true
is_empty (p ∷ ps) = false

abbrev pub field : NamedText → List ℕ
field p = text_text p.0 ++ codes ":" ++ p.1

more_next : (ps : List NamedText) (p : NamedText) → more_listed (ps ++ p ∷ []) ≡ more_listed ps ++ (codes "," ++ field p)
more_next [] p =
    append-nil (codes "," ++ text_text p.0 ++ codes ":" ++ p.1)
    ∙ regroup (codes ",") (text_text p.0) (codes ":") p.1
  where
    regroup : (a b c d : List ℕ) → a ++ b ++ c ++ d ≡ a ++ (b ++ c ++ d)
    regroup a b c d = simp append_assoc
more_next (q ∷ ps) p =
    let w : List ℕ = codes "," ++ text_text q.0 ++ codes ":" ++ q.1 in
    ap (λ t. w ++ t) (more_next ps p) ∙ sym (append_assoc w (more_listed ps) (codes "," ++ field p))

listed_next : (ps : List NamedText) (p : NamedText) → listed (ps ++ p ∷ []) ≡ listed ps ++ (comma (is_empty ps) ++ field p)
listed_next [] p = append-nil (text_text p.0 ++ codes ":" ++ p.1)
listed_next (q ∷ ps) p =
    let w : List ℕ = text_text q.0 ++ codes ":" ++ q.1 in
    ap (λ t. w ++ t) (more_next ps p) ∙ sym (append_assoc w (more_listed ps) (codes "," ++ field p))

is_empty-take : {X : Type 0} (view : X → NamedText) (xs : List X) (i : ℕ) → i < length xs → is_empty (map view (take i xs)) ≡ (i == 0)
is_empty-take view [] i h = absurd (omega arith)
is_empty-take view (x ∷ xs) zero h = refl
is_empty-take view (x ∷ xs) (suc i) h = grind (arith, nat_tests)

pub next_field : {X : Type 0} (view : X → NamedText) (xs : List X) (i : ℕ) (x : X) → i < length xs → x ≡ get_or xs i x
    → listed (map view (take (i + 1) xs)) ≡ listed (map view (take i xs)) ++ (comma (i == 0) ++ field (view x))
next_field view xs i x h is =
    ap listed (seen_next view xs i x h is) ∙ listed_next (map view (take i xs)) (view x)
    ∙ ap (λ b. listed (map view (take i xs)) ++ (comma b ++ field (view x))) (is_empty-take view xs i h)
