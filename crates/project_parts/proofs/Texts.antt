-- Texts in UTF-8 by their units, and paths in parts.
use Rattle.std.proofs.Common.{◌≡◌, ℕ, ◌+◌, ◌-◌, ◌/◌, ◌%◌, ◌<◌, ◌≤◌, List, [], ◌∷◌, ◌++◌}
use Rattle.std.proofs.Common.{Bool, true, false, nat_lt, ◌&&◌, ◌==◌, refl, sym, ap, subst, ◌∙◌, arith}
use Rattle.std.proofs.Common.{if◌then◌else◌, rules}
use Rattle.std.specs.Prelude.{encode_utf8_all}
use Rattle.std.specs.Char.Escape.{encode_utf16}
use Rattle.std.specs.List.{AllByRecursion, filter, slice_split, join_with_byte}
use Rattle.std.specs.Str.{IsUtf8, chars}
use Rattle.std.specs.Str.Lossy.{utf8_lossy}
use Rattle.std.proofs.Math.Utf8.{scalar, scalars}
use Rattle.std.proofs.lemmas.Bool.Decides.{nat_tests}
use Rattle.std.proofs.lemmas.List.Splits.{join_with_byte-slice_split}
use Rattle.std.proofs.lemmas.Str.{encodes-chars, scalars-chars, utf8_lossy-IsUtf8}
use Rattle.std.proofs.lemmas.Str.{IsUtf8-append, IsUtf8-nil, IsUtf8-from_ascii}
use Rattle.elm_base.specs.Units.{units_of_chars, text_units}
use Rattle.import_graph.specs.Entries.{NamesEntry}
use Rattle.import_graph.proofs.Texts.{slash_parts, entry_is_text}
use Rattle.project_file.specs.Paths.{is_kept, normal_path}

-- ---- units

-- a unit that begins two of them is no character
not_high : (c n : ℕ) → scalar c ≡ true → n < 1024 → c ≡ 55296 + n → ⊥
not_high c n s l e = let k : scalar c ≡ true = s in grind (arith, nat_tests)

high_low : (c : ℕ) → scalar c ≡ true → (c - 65536) / 1024 < 1024
high_low c s = let l : c < 1114112 = grind (arith, nat_tests) in omega arith

and_true : (a b : Bool) → (a && b) ≡ true → (a ≡ true) × (b ≡ true)
and_true true b e = (refl, e)
and_true false b e = absurd cc

joins_back : (c d : ℕ) → 65536 ≤ c → 65536 ≤ d → 55296 + (c - 65536) / 1024 ≡ 55296 + (d - 65536) / 1024
    → 56320 + (c - 65536) % 1024 ≡ 56320 + (d - 65536) % 1024 → c ≡ d
joins_back c d l m e f = omega arith

some_units : (c : ℕ) (us : List ℕ) → encode_utf16 c ++ us ≡ [] → ⊥
some_units c us e = at (nat_lt c 65536) refl
  where
    at : (b : Bool) → nat_lt c 65536 ≡ b → ⊥
    at true k = let h = rw k at e in cc
    at false k = let h = rw k at e in cc

first_units : (c d : ℕ) (us vs : List ℕ) → scalar c ≡ true → scalar d ≡ true
    → encode_utf16 c ++ us ≡ encode_utf16 d ++ vs → (c ≡ d) × (us ≡ vs)
first_units c d us vs s t e = at (nat_lt c 65536) (nat_lt d 65536) refl refl
  where
    at : (a b : Bool) → nat_lt c 65536 ≡ a → nat_lt d 65536 ≡ b → (c ≡ d) × (us ≡ vs)
    at true true k l = let h = rw (k, l) at e in (cc, cc)
    at true false k l =
        let h = rw (k, l) at e in
        let x : c ≡ 55296 + (d - 65536) / 1024 = cc in
        absurd (not_high c ((d - 65536) / 1024) s (high_low d t) x)
    at false true k l =
        let h = rw (k, l) at e in
        let x : d ≡ 55296 + (c - 65536) / 1024 = cc in
        absurd (not_high d ((c - 65536) / 1024) t (high_low c s) x)
    at false false k l =
        let h = rw (k, l) at e in
        let m : 65536 ≤ c = grind (arith, nat_tests) in
        let n : 65536 ≤ d = grind (arith, nat_tests) in
        let x : 55296 + (c - 65536) / 1024 ≡ 55296 + (d - 65536) / 1024 = cc in
        let y : 56320 + (c - 65536) % 1024 ≡ 56320 + (d - 65536) % 1024 = cc in
        (joins_back c d m n x y, cc)

same_units : (cs ds : List ℕ) → scalars cs ≡ true → scalars ds ≡ true → units_of_chars cs ≡ units_of_chars ds → cs ≡ ds
same_units [] [] s t e = refl
same_units [] (d ∷ ds) s t e = absurd (some_units d (units_of_chars ds) (sym e))
same_units (c ∷ cs) [] s t e = absurd (some_units c (units_of_chars cs) e)
same_units (c ∷ cs) (d ∷ ds) s t e =
    let a = and_true (scalar c) (scalars cs) s in
    let b = and_true (scalar d) (scalars ds) t in
    let f = first_units c d (units_of_chars cs) (units_of_chars ds) a.0 b.0 e in
    let rest = same_units cs ds a.1 b.1 f.1 in
    ap (λ x. x ∷ cs) f.0 ∙ ap (λ xs. d ∷ xs) rest

-- texts of the same units are the same
pub same_texts : (x y : List ℕ) → IsUtf8 x → IsUtf8 y → text_units (utf8_lossy x) ≡ text_units (utf8_lossy y) → x ≡ y
same_texts x y u v e =
    let units : units_of_chars (chars x) ≡ units_of_chars (chars y) =
    sym (ap text_units (utf8_lossy-IsUtf8 x u)) ∙ e ∙ ap text_units (utf8_lossy-IsUtf8 y v) in
    let same = same_units (chars x) (chars y) (scalars-chars x u) (scalars-chars y v) units in
    sym (encodes-chars x u) ∙ ap encode_utf8_all same ∙ encodes-chars y v

-- ---- paths

parts_are : (xs : List (List ℕ)) → IsUtf8 (join_with_byte 47 xs) → AllByRecursion IsUtf8 xs
parts_are [] u = tt
parts_are (x ∷ []) u = (u, tt)
parts_are (x ∷ y ∷ ys) u =
    let r = slash_parts x (join_with_byte 47 (y ∷ ys)) u in (r.0, parts_are (y ∷ ys) r.1)

slash : IsUtf8 (47 ∷ [])
slash = IsUtf8-from_ascii (47 ∷ []) (search rules)

parts_join : (xs : List (List ℕ)) → AllByRecursion IsUtf8 xs → IsUtf8 (join_with_byte 47 xs)
parts_join [] u = IsUtf8-nil
parts_join (x ∷ []) u = u.0
parts_join (x ∷ y ∷ ys) u =
    IsUtf8-append x (47 ∷ join_with_byte 47 (y ∷ ys)) u.0
    (IsUtf8-append (47 ∷ []) (join_with_byte 47 (y ∷ ys)) slash (parts_join (y ∷ ys) u.1))

kept_are : (xs : List (List ℕ)) → AllByRecursion IsUtf8 xs → AllByRecursion IsUtf8 (filter is_kept xs)
kept_are [] u = tt
kept_are (x ∷ xs) u = at (is_kept x) (kept_are xs u.1)
  where
    at : (b : Bool) → AllByRecursion IsUtf8 (filter is_kept xs)
        → AllByRecursion IsUtf8 (if b then x ∷ filter is_kept xs else filter is_kept xs)
    at true rest = (u.0, rest)
    at false rest = rest

normal_is : (path : List ℕ) → IsUtf8 path → IsUtf8 (normal_path path)
normal_is path u =
    let parts = slice_split (λ b. b == 47) path in
    parts_join (filter is_kept parts)
    (kept_are parts (parts_are parts (subst IsUtf8 (sym (join_with_byte-slice_split 47 path)) u)))

-- the name of the module of an entry
pub entry_text : (written : List ℕ) (directories : List (List ℕ)) (name : List ℕ) → IsUtf8 written
    → NamesEntry (normal_path written) directories name → IsUtf8 name
entry_text written directories name u is = entry_is_text (normal_path written) directories name (normal_is written u) is
