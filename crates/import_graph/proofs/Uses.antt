-- The numbers of what modules import.
use Rattle.std.proofs.Common.{◌≡◌, ℕ, ◌+◌, ◌<◌, List, [], ◌∷◌, ◌++◌, length, map, take, get_or, Option, Some, None, refl, sym, ap, ◌∙◌, subst, arith}
use Rattle.std.specs.List.{All, filter_map, position, cons_option}
use Rattle.std.specs.Str.{bytes_eq}
use Rattle.std.specs.Map.{keys_of}
use Rattle.std.specs.declared.alloc.Global.{Global}
use Rattle.std.specs.declared.vec.Vec.{Vec}
use Rattle.std.specs.Prelude.{slice_get, is_some, IsSome}
use Rattle.std.proofs.lemmas.Bool.{false≢true}
use Rattle.std.proofs.lemmas.List.{take_more, map-append, length-map, append-nil, get_or-map}
use Rattle.std.proofs.lemmas.Option.{get_or_from_slice_get, slice_get_within}
use Rattle.std.proofs.lemmas.List.Elements.{filter_map-append, All-nil, All-cons, All-head, All-tail}
use Rattle.std.proofs.lemmas.List.Quantifiers.{position-Some}
use Rattle.decl_groups.specs.Groups.{plain}
use Rattle.import_graph.specs.Modules as walk
use Rattle.import_graph.specs.ModuleWalkView.{module_view, import_view}
use Rattle.import_graph.specs.declared.found.Found.{Found}
use Rattle.import_graph.specs.declared.found.Found.TheVariants as found
use Rattle.import_graph.specs.declared.walk.Import.{Import}
use Rattle.import_graph.specs.Graph.{names_of, number_of, used, uses_of}
use Rattle.import_graph.proofs.ByName.{Entry, IsNamed, plain_of, keys_are}

-- ---- one import

of_file : (ms : List walk.Module) (w : walk.Word) (f : Found) → f ≡ found.File → used ms (record { word = w; found = f }) ≡ number_of ms w.text
of_file ms w f e = subst (λ g. used ms (record { word = w; found = g }) ≡ number_of ms w.text) (sym e) refl

-- by the keys
pub used_by_key : (es : List Entry) (i : Import) (r : Option ℕ) → All IsNamed es → i.found ≡ found.File → r ≡ position (bytes_eq i.name) (keys_of es)
    → r ≡ used (plain_of es) (import_view i)
used_by_key es i r a e p = p ∙ ap (position (bytes_eq i.name)) (keys_are es a) ∙ sym (of_file (plain_of es) (import_view i).word i.found e)

-- ---- one more import

module _ {X : Type 0} (f : X → Option ℕ) where
  pub one_used : (row : List ℕ) (xs : List X) (x : X) (n : ℕ) → row ≡ filter_map f xs → f x ≡ Some n → row ++ n ∷ [] ≡ filter_map f (xs ++ x ∷ [])
  one_used row xs x n e is =
      ap (λ r. r ++ n ∷ []) e ∙ ap (λ ys. filter_map f xs ++ ys) (at (f x) is) ∙ sym (filter_map-append f xs (x ∷ []))
    where
      at : (o : Option ℕ) → o ≡ Some n → n ∷ [] ≡ cons_option o []
      at None e = absurd (cc)
      at (Some m) e = let h : m ≡ n = cc in ap (λ k. k ∷ []) (sym h)

  pub none_used : (row : List ℕ) (xs : List X) (x : X) → row ≡ filter_map f xs → f x ≡ None → row ≡ filter_map f (xs ++ x ∷ [])
  none_used row xs x e is =
      e ∙ sym (append-nil (filter_map f xs)) ∙ ap (λ ys. filter_map f xs ++ ys) (at (f x) is) ∙ sym (filter_map-append f xs (x ∷ []))
    where
      at : (o : Option ℕ) → o ≡ None → [] ≡ cons_option o []
      at None e = refl
      at (Some m) e = absurd (cc)

-- the first items of a list, with one more
pub next_front : {X Y : Type 0} (f : X → Y) (xs : List X) (i : ℕ) (x : X) → i < length xs → x ≡ get_or xs i x → map f (take (i + 1) xs) ≡ map f (take i xs) ++ f x ∷ []
next_front f xs i x l e =
    ap (map f) (take_more xs i x l) ∙ map-append f (take i xs) (get_or xs i x ∷ []) ∙ ap (λ y. map f (take i xs) ++ f y ∷ []) (sym e)

-- ---- one more module

pub one_row : (g : walk.Module → List ℕ) (es : List Entry) (rows : List (List ℕ)) (i : ℕ) (e : Entry) → slice_get es i ≡ Some e → rows ≡ map g (take i (plain_of es))
    → rows ++ g (module_view e.1) ∷ [] ≡ map g (take (i + 1) (plain_of es))
one_row g es rows i e is before =
    let h = λ (y : Entry). module_view y.1 in
    let l = slice_get_within es i e is in
    let there : module_view e.1 ≡ get_or (plain_of es) i (module_view e.1) = sym (get_or-map h es i e (module_view e.1) l ∙ ap h (get_or_from_slice_get es i e e is)) in
    ap (λ rs. rs ++ g (module_view e.1) ∷ []) before
    ∙ sym (next_front g (plain_of es) i (module_view e.1) (omega (arith, l, length-map es h)) there)

pub row_pushed : (rows : List (Vec ℕ Global)) (row : Vec ℕ Global) → plain (rows ++ row ∷ []) ≡ plain rows ++ row.items ∷ []
row_pushed rows row = map-append (λ (v : Vec ℕ Global). v.items) rows (row ∷ [])

pub not_none : {X : Type 0} (r : Option X) → IsSome r → r ≡ None → ⊥
not_none r s e = false≢true (sym (ap is_some e) ∙ s)

-- ---- numbers are places

module _ {X : Type 0} (f : X → Option ℕ) (P : ℕ → Type 0) (each : (x : X) (n : ℕ) → f x ≡ Some n → P n) where
  all_kept : (xs : List X) → All P (filter_map f xs)
  all_kept [] = All-nil P
  all_kept (x ∷ xs) = at (f x) refl (all_kept xs)
    where
      at : (o : Option ℕ) → f x ≡ o → All P (filter_map f xs) → All P (cons_option o (filter_map f xs))
      at None e more = more
      at (Some n) e more = All-cons P n (filter_map f xs) (each x n e) more

number_within : (ms : List walk.Module) (i : walk.Import) (n : ℕ) → used ms i ≡ Some n → n < length ms
number_within ms i n e = at i.found e
  where
    at : (f : Found) → used ms (record { word = i.word; found = f }) ≡ Some n → n < length ms
    at found.Nowhere e = absurd (cc)
    at found.Core e = absurd (cc)
    at found.File e = omega (arith, (position-Some (bytes_eq i.word.text) (names_of ms) n [] e).0, length-map ms (λ (m : walk.Module). m.source.name))
    at found.Several e = absurd (cc)

rows_within : (ms xs : List walk.Module) → All (λ row. All (λ j. j < length ms) row) (map (λ m. filter_map (used ms) m.imports) xs)
rows_within ms [] = All-nil (λ row. All (λ j. j < length ms) row)
rows_within ms (x ∷ xs) =
    All-cons (λ row. All (λ j. j < length ms) row) (filter_map (used ms) x.imports) (map (λ m. filter_map (used ms) m.imports) xs)
    (all_kept (used ms) (λ j. j < length ms) (number_within ms) x.imports) (rows_within ms xs)

of_rows : (P : List ℕ → Type 0) (vs : List (Vec ℕ Global)) → All P (plain vs) → All (λ v. P v.items) vs
of_rows P [] a = All-nil (λ (v : Vec ℕ Global). P v.items)
of_rows P (v ∷ vs) a = All-cons (λ (v : Vec ℕ Global). P v.items) v vs (All-head P v.items (plain vs) a) (of_rows P vs (All-tail P v.items (plain vs) a))

pub row_count : (vs : List (Vec ℕ Global)) (ms : List walk.Module) → plain vs ≡ uses_of ms → length vs ≡ length ms
row_count vs ms e = sym (length-map vs (λ (v : Vec ℕ Global). v.items)) ∙ ap length e ∙ length-map ms (λ (m : walk.Module). filter_map (used ms) m.imports)

pub all_within : (vs : List (Vec ℕ Global)) (ms : List walk.Module) → plain vs ≡ uses_of ms → All (λ row. All (λ j. j < length vs) row.items) vs
all_within vs ms e =
    subst (λ n. All (λ (row : Vec ℕ Global). All (λ j. j < n) row.items) vs) (sym (row_count vs ms e))
    (of_rows (λ row. All (λ j. j < length ms) row) vs (subst (All (λ row. All (λ j. j < length ms) row)) (sym e) (rows_within ms ms)))
