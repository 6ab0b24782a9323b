-- The names of modules are texts where the paths are.
use Rattle.std.proofs.Common.{◌≡◌, ℕ, zero, suc, ◌+◌, ◌<◌, List, [], ◌∷◌, ◌++◌, length, take, drop}
use Rattle.std.proofs.Common.{get_or, Bool, true, false, ◌&&◌, Some, refl, sym, ap, subst, ◌∙◌, arith}
use Rattle.std.proofs.Common.{codes, append_assoc}
use Rattle.std.specs.Prelude.{encode_utf8_all}
use Rattle.std.specs.List.{join_with_byte}
use Rattle.std.specs.Str.{IsUtf8}
use Rattle.std.proofs.Math.Utf8.{scalar, scalars}
use Rattle.std.proofs.lemmas.Str.{encodes-append, encodes_same, IsUtf8-take, IsUtf8-drop}
use Rattle.std.proofs.lemmas.Str.{IsCharBoundary-before_ascii, IsCharBoundary-after_ascii}
use Rattle.elm_base.specs.Path.{NamesModule}
use Rattle.import_graph.specs.Entries.{NamesEntry, here, later}
use Rattle.project_file.specs.Paths.{below}
use Rattle.project_file.proofs.Below.{front-after}

and_true : (a b : Bool) → (a && b) ≡ true → (a ≡ true) × (b ≡ true)
and_true true b e = (refl, e)
and_true false b e = absurd cc

both_true : (a b : Bool) → a ≡ true → b ≡ true → (a && b) ≡ true
both_true a b p q = rw (p, q) refl

-- ---- paths

slash_there : (xs ys : List ℕ) → get_or (xs ++ 47 ∷ ys) (length xs) 0 ≡ 47
slash_there [] ys = refl
slash_there (x ∷ xs) ys = slash_there xs ys

slash_within : (xs ys : List ℕ) → length xs < length (xs ++ 47 ∷ ys)
slash_within [] ys = omega arith
slash_within (x ∷ xs) ys = let h = slash_within xs ys in omega (arith, h)

before_slash : (xs ys : List ℕ) → take (length xs) (xs ++ 47 ∷ ys) ≡ xs
before_slash [] ys = refl
before_slash (x ∷ xs) ys = ap (λ zs. x ∷ zs) (before_slash xs ys)

after_slash : (xs ys : List ℕ) (n : ℕ) → n ≡ length xs + 1 → drop n (xs ++ 47 ∷ ys) ≡ ys
after_slash [] ys zero e = absurd (omega (arith, e))
after_slash [] ys (suc n) e = let h : n ≡ 0 = omega (arith, e) in ap (λ k. drop k ys) h
after_slash (x ∷ xs) ys zero e = absurd (omega (arith, e))
after_slash (x ∷ xs) ys (suc n) e = after_slash xs ys n (omega (arith, e))

pub slash_parts : (xs ys : List ℕ) → IsUtf8 (xs ++ 47 ∷ ys) → IsUtf8 xs × IsUtf8 ys
slash_parts xs ys u =
    let there = slash_there xs ys in
    let low : get_or (xs ++ 47 ∷ ys) (length xs) 0 < 128 = omega (arith, there) in
    let within = slash_within xs ys in (
      subst IsUtf8 (before_slash xs ys)
          (IsUtf8-take (xs ++ 47 ∷ ys) (length xs) u (IsCharBoundary-before_ascii (xs ++ 47 ∷ ys)
          (length xs) within low)),
      subst IsUtf8 (after_slash xs ys (length xs + 1) refl)
          (IsUtf8-drop (xs ++ 47 ∷ ys) (length xs + 1) u
          (IsCharBoundary-after_ascii (xs ++ 47 ∷ ys) (length xs) u within low)),
    )

pub below_is : (directory path rest : List ℕ) → IsUtf8 path → below directory path ≡ Some rest → IsUtf8 rest
below_is [] path rest u e = let h : path ≡ rest = cc in subst IsUtf8 h u
below_is (c ∷ cs) path rest u e =
    let whole : path ≡ (c ∷ cs) ++ 47 ∷ rest =
    front-after ((c ∷ cs) ++ 47 ∷ []) path rest e ∙ append_assoc (c ∷ cs) (47 ∷ []) rest in
    (slash_parts (c ∷ cs) rest (subst IsUtf8 whole u)).1

-- ---- names by paths

scalars_first : (xs ys : List ℕ) → scalars (xs ++ ys) ≡ true → scalars xs ≡ true
scalars_first [] ys s = refl
scalars_first (x ∷ xs) ys s =
    let w = and_true (scalar x) (scalars (xs ++ ys)) s in both_true (scalar x) (scalars xs) w.0
    (scalars_first xs ys w.1)

scalars_second : (xs ys : List ℕ) → scalars (xs ++ ys) ≡ true → scalars ys ≡ true
scalars_second [] ys s = s
scalars_second (x ∷ xs) ys s = scalars_second xs ys (and_true (scalar x) (scalars (xs ++ ys)) s).1

scalars_joined : (xs ys : List ℕ) → scalars xs ≡ true → scalars ys ≡ true → scalars (xs ++ ys) ≡ true
scalars_joined [] ys p q = q
scalars_joined (x ∷ xs) ys p q =
    let w = and_true (scalar x) (scalars xs) p in
    both_true (scalar x) (scalars (xs ++ ys)) w.0 (scalars_joined xs ys w.1 q)

-- with points in place of slashes
pointed : (xs : List (List ℕ)) → scalars (join_with_byte 47 xs) ≡ true → scalars (join_with_byte 46 xs) ≡ true
pointed [] s = refl
pointed (x ∷ []) s = s
pointed (x ∷ y ∷ ys) s =
    let more = scalars_second x (47 ∷ join_with_byte 47 (y ∷ ys)) s in
    let rest = pointed (y ∷ ys) (and_true (scalar 47) (scalars (join_with_byte 47 (y ∷ ys))) more).1 in
    scalars_joined x (46 ∷ join_with_byte 46 (y ∷ ys)) (scalars_first x (47 ∷ join_with_byte 47 (y ∷ ys)) s) rest

elm_ending : encode_utf8_all (codes ".elm") ≡ codes ".elm"
unfolding lib.Utf8.encode
elm_ending = refl

pub module_name : (path name : List ℕ) → IsUtf8 path → NamesModule path name → IsUtf8 name
module_name path name (cs, (s, f)) (names, is, e) =
    let whole : encode_utf8_all (join_with_byte 47 names ++ codes ".elm") ≡ path =
    encodes-append (join_with_byte 47 names) (codes ".elm")
    ∙ (ap (λ z. encode_utf8_all (join_with_byte 47 names) ++ z) elm_ending ∙ sym is.spelled) in
    let same = encodes_same cs (join_with_byte 47 names ++ codes ".elm") (f ∙ sym whole) in
    let all = subst (λ z. scalars z ≡ true) same s in
    let points = pointed names (scalars_first (join_with_byte 47 names) (codes ".elm") all) in
    (join_with_byte 46 names, (points, sym e))

-- the name of the module of an entry
pub entry_is_text : (path : List ℕ) (directories : List (List ℕ)) (name : List ℕ) → IsUtf8 path
    → NamesEntry path directories name → IsUtf8 name
entry_is_text path [] name u x = elim x [ ]
entry_is_text path (d ∷ ds) name u (here (rest, e, is)) = module_name rest name (below_is d path rest u e) is
entry_is_text path (d ∷ ds) name u (later none more) = entry_is_text path ds name u more
