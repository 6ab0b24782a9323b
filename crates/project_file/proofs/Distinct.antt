-- A set of paths, in the order in which they went in.
use Rattle.std.proofs.Common.{◌≡◌, ℕ, ◌+◌, ◌<◌, length, drop, get_or, Some, None, List, [], ◌∷◌, ◌++◌, map, Bool, true}
use Rattle.std.proofs.Common.{false, ◌||◌, String, Global, string_bytes, refl, sym, ap, ◌∙◌, append_assoc}
use Rattle.std.specs.Prelude.{string_eq}
use Rattle.std.specs.List.{list_any}
use Rattle.std.specs.Str.{bytes_eq}
use Rattle.std.proofs.lemmas.List.{map-append, at_drop_more}
use Rattle.indexmap.specs.IndexSet.{insert_key}
use Rattle.serde_json.specs.Find.{as_str}
use Rattle.serde_json.specs.View.{view, items_view}
use Rattle.serde_json.specs.declared.value.Value.{Value}
use Rattle.project_file.specs.Paths.{normal_path}
use Rattle.project_file.specs.Project.{each_once, texts_in, text_before}

abbrev pub bytes_of : List (String Global) → List (List ℕ)
bytes_of paths = map string_bytes paths

any-bytes : (path : String Global) (paths : List (String Global)) → list_any (bytes_eq (string_bytes path)) (bytes_of paths) ≡ list_any (string_eq path) paths
any-bytes path [] = refl
any-bytes path (p ∷ ps) = ap (λ b. bytes_eq (string_bytes path) (string_bytes p) || b) (any-bytes path ps)

put : (paths : List (String Global)) (path : String Global) (b : Bool) (left : List (List ℕ)) → list_any (string_eq path) paths ≡ b →
    bytes_of (insert_key string_eq paths path) ++ each_once (bytes_of (insert_key string_eq paths path)) left ≡ bytes_of paths ++ each_once (bytes_of paths) (string_bytes path ∷ left)
put paths path true left e = rw (e, any-bytes path paths, e) refl
put paths path false left e =
    rw (e, any-bytes path paths, e, map-append string_bytes paths (path ∷ [])) (append_assoc (bytes_of paths) (string_bytes path ∷ []) (each_once (bytes_of paths ++ string_bytes path ∷ []) left))

-- the paths of the set and those that are left
inserted : (old new : List (String Global)) (path : String Global) (left : List (List ℕ)) → new ≡ insert_key string_eq old path →
    bytes_of new ++ each_once (bytes_of new) left ≡ bytes_of old ++ each_once (bytes_of old) (string_bytes path ∷ left)
inserted old new path left e = rw e (put old path (list_any (string_eq path) old) left refl)

-- the texts of the items that are left, by the first of them
texts_left : (items : List Value) (i : ℕ) (item : Value) → i < length items → item ≡ get_or items i item →
    texts_in (items_view (drop i items)) ≡ text_before (as_str (view item)) (texts_in (items_view (drop (i + 1) items)))
texts_left items i item h e =
    at_drop_more (λ vs. texts_in (items_view vs)) items i item h
    ∙ ap (λ v. text_before (as_str (view v)) (texts_in (items_view (drop (i + 1) items)))) (sym e)

abbrev pub paths_left : List Value → ℕ → List (List ℕ)
paths_left items i = map normal_path (texts_in (items_view (drop i items)))

-- the paths that went in, and those that are left at a place
abbrev pub paths_so_far : List Value → List (String Global) → ℕ → List (List ℕ)
paths_so_far items paths i = bytes_of paths ++ each_once (bytes_of paths) (paths_left items i)

-- the item is a text, whose path goes in
pub item_in : (items : List Value) (i : ℕ) (item : Value) (text : List ℕ) (old new : List (String Global)) (path : String Global) → i < length items →
    item ≡ get_or items i item → as_str (view item) ≡ Some text → string_bytes path ≡ normal_path text → new ≡ insert_key string_eq old path →
    paths_so_far items new (i + 1) ≡ paths_so_far items old i
item_in items i item text old new path h e is p n =
    inserted old new path (paths_left items (i + 1)) n
    ∙ ap (λ t. bytes_of old ++ each_once (bytes_of old) (t ∷ paths_left items (i + 1))) p
    ∙ sym (ap (λ ts. bytes_of old ++ each_once (bytes_of old) (map normal_path ts)) (texts_left items i item h e ∙ ap (λ o. text_before o (texts_in (items_view (drop (i + 1) items)))) is))

-- the item is not a text
pub item_skipped : (items : List Value) (i : ℕ) (item : Value) (old new : List (String Global)) → i < length items →
    item ≡ get_or items i item → as_str (view item) ≡ None → new ≡ old →
    paths_so_far items new (i + 1) ≡ paths_so_far items old i
item_skipped items i item old new h e is n =
    ap (λ ps. bytes_of ps ++ each_once (bytes_of ps) (paths_left items (i + 1))) n
    ∙ sym (ap (λ ts. bytes_of old ++ each_once (bytes_of old) (map normal_path ts)) (texts_left items i item h e ∙ ap (λ o. text_before o (texts_in (items_view (drop (i + 1) items)))) is))
