-- The names of modules by their paths.
use Rattle.std.proofs.Common.{◌≡◌, ℕ, ◌<◌, List, [], ◌∷◌, ◌++◌, length, true, refl, sym, ap}
use Rattle.std.proofs.Common.{subst, ◌∙◌, codes, arith}
use Rattle.std.specs.Prelude.{encode_utf8_all}
use Rattle.std.specs.Char.{is_ascii_uppercase}
use Rattle.std.specs.List.{list_all, join_with_byte}
use Rattle.std.specs.Str.{IsUtf8}
use Rattle.std.proofs.Math.Utf8.{scalar, scalars}
use Rattle.std.proofs.lemmas.Bool.Decides.{nat_tests}
use Rattle.std.proofs.lemmas.Str.{chars-encodes, encodes-append, encodes_same}
use Rattle.elm_base.specs.Path.{is_name_char, is_upper_name, NamesModule}
use Rattle.elm_base.specs.Units.{units_of_chars, text_units}
use Rattle.elm_lexer.specs.Characters.{is_upper}
use Rattle.elm_lexer.specs.Pieces.{is_upper_word}
use Rattle.elm_canon.specs.Spelled.{is_module}
use Rattle.canon_proper.proofs.Homes.{scalars_before}
use Rattle.canon_proper.proofs.Units.{and_true, both_true, scalars_after, scalar_code, upper_module, joined_module}

same_upper : (c : ℕ) → is_ascii_uppercase c ≡ true → is_upper c ≡ true
same_upper c e = grind (arith, nat_tests)

upper_word : (cs : List ℕ) → is_upper_name cs ≡ true → is_upper_word cs ≡ true
upper_word [] e = absurd cc
upper_word (c ∷ cs) e =
    let w = and_true (is_ascii_uppercase c) (list_all is_name_char cs) e in both_true _ _ (same_upper c w.0) w.1

scalars_append : (xs ys : List ℕ) → scalars xs ≡ true → scalars ys ≡ true → scalars (xs ++ ys) ≡ true
scalars_append [] ys p q = q
scalars_append (x ∷ xs) ys p q =
    let w = and_true (scalar x) (scalars xs) p in both_true _ _ w.0 (scalars_append xs ys w.1 q)

-- joined by points in place of slashes
pointed : (xs : List (List ℕ)) → scalars (join_with_byte 47 xs) ≡ true → scalars (join_with_byte 46 xs) ≡ true
pointed [] s = refl
pointed (x ∷ []) s = s
pointed (x ∷ y ∷ ys) s =
    let rest = pointed (y ∷ ys) (scalar_code 47 (join_with_byte 47 (y ∷ ys))
    (scalars_after x (47 ∷ join_with_byte 47 (y ∷ ys)) s)).1 in
    scalars_append x (46 ∷ join_with_byte 46 (y ∷ ys)) (scalars_before x (47 ∷ join_with_byte 47 (y ∷ ys)) s) rest

joined_names : (xs : List (List ℕ)) → 0 < length xs → list_all is_upper_name xs ≡ true →
    scalars (join_with_byte 46 xs) ≡ true → is_module true (units_of_chars (join_with_byte 46 xs)) ≡ true
joined_names [] l e s = absurd (omega (arith, l))
joined_names (x ∷ []) l e s =
    upper_module x s (upper_word x (and_true (is_upper_name x) true e).0)
joined_names (x ∷ y ∷ ys) l e s =
    let w = and_true (is_upper_name x) (list_all is_upper_name (y ∷ ys)) e in
    let rest = scalar_code 46 (join_with_byte 46 (y ∷ ys)) (scalars_after x (46 ∷ join_with_byte 46 (y ∷ ys)) s) in
    joined_module x (join_with_byte 46 (y ∷ ys)) (scalars_before x (46 ∷ join_with_byte 46 (y ∷ ys)) s) (upper_word x w.0)
    (joined_names (y ∷ ys) (omega arith) w.1 rest.1)

elm_ending : encode_utf8_all (codes ".elm") ≡ codes ".elm"
unfolding lib.Utf8.encode
elm_ending = refl

pub path_module : (path name : List ℕ) → IsUtf8 path → NamesModule path name → is_module true (text_units name) ≡ true
path_module path name (cs, (s, f)) (names, is, e) =
    let whole : encode_utf8_all (join_with_byte 47 names ++ codes ".elm") ≡ path =
    encodes-append (join_with_byte 47 names) (codes ".elm")
    ∙ (ap (λ z. encode_utf8_all (join_with_byte 47 names) ++ z) elm_ending ∙ sym is.spelled) in
    let same = encodes_same cs (join_with_byte 47 names ++ codes ".elm") (f ∙ sym whole) in
    let all = subst (λ z. scalars z ≡ true) same s in
    let points = pointed names (scalars_before (join_with_byte 47 names) (codes ".elm") all) in
    rw (e, chars-encodes (join_with_byte 46 names) points) (joined_names names is.some is.upper points)
