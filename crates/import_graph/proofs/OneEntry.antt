-- A path is the entry of one module.
use Rattle.std.proofs.Common.{◌≡◌, ℕ, List, [], ◌∷◌, ◌++◌, Some, Bool, true, false, ◌&&◌, inl, inr, if◌then◌else◌, map}
use Rattle.std.proofs.Common.{refl, sym, ap, ◌∙◌, subst}
use Rattle.std.specs.Prelude.{codes, encode_utf8_all}
use Rattle.std.specs.Char.{is_ascii_uppercase}
use Rattle.std.specs.List.{list_all, join_with_byte}
use Rattle.std.proofs.lemmas.Bool.{false≢true}
use Rattle.std.proofs.lemmas.Bool.Decides.{eqb_tells}
use Rattle.std.proofs.lemmas.List.{map-append, append_cancel_right}
use Rattle.std.proofs.lemmas.Str.{encodes_same}
use Rattle.elm_base.specs.Path.{is_name_char, is_upper_name, dot_for_slash, NamesModule}
use Rattle.import_graph.specs.Entries.{NamesBelow, NamesEntry, here, later}
use Rattle.import_graph.specs.Places.{text_within}
use Rattle.import_graph.specs.Entry.{IsEntry}
use Rattle.import_graph.specs.Modules.{Setting, Source}

-- ---- the name that a path spells

and_left : (a b : Bool) → (a && b) ≡ true → a ≡ true
and_left true b e = refl
and_left false b e = absurd (false≢true e)

and_right : (a b : Bool) → (a && b) ≡ true → b ≡ true
and_right true b e = e
and_right false b e = absurd (false≢true e)

-- characters of names are no slashes
upper_stays : (c : ℕ) → is_ascii_uppercase c ≡ true → dot_for_slash c ≡ c
upper_stays c h =
    elim (eqb_tells c 47) [ inl t ↦ absurd (false≢true (subst (λ n. is_ascii_uppercase n ≡ true) t.1 h)) | inr f ↦ ap (λ b. if b then 46 else c) f.0 ]

char_stays : (c : ℕ) → is_name_char c ≡ true → dot_for_slash c ≡ c
char_stays c h =
    elim (eqb_tells c 47) [ inl t ↦ absurd (false≢true (subst (λ n. is_name_char n ≡ true) t.1 h)) | inr f ↦ ap (λ b. if b then 46 else c) f.0 ]

chars_stay : (cs : List ℕ) → list_all is_name_char cs ≡ true → map dot_for_slash cs ≡ cs
chars_stay [] h = refl
chars_stay (c ∷ cs) h =
    let one = char_stays c (and_left (is_name_char c) (list_all is_name_char cs) h) in
    let more = chars_stay cs (and_right (is_name_char c) (list_all is_name_char cs) h) in
    ap (λ x. x ∷ map dot_for_slash cs) one ∙ ap (λ xs. c ∷ xs) more

name_stays : (name : List ℕ) → is_upper_name name ≡ true → map dot_for_slash name ≡ name
name_stays [] h = refl
name_stays (c ∷ cs) h =
    let one = upper_stays c (and_left (is_ascii_uppercase c) (list_all is_name_char cs) h) in
    let more = chars_stay cs (and_right (is_ascii_uppercase c) (list_all is_name_char cs) h) in
    ap (λ x. x ∷ map dot_for_slash cs) one ∙ ap (λ xs. c ∷ xs) more

-- dots for the slashes between names
dots : (names : List (List ℕ)) → list_all is_upper_name names ≡ true → map dot_for_slash (join_with_byte 47 names) ≡ join_with_byte 46 names
dots [] h = refl
dots (name ∷ []) h = name_stays name (and_left (is_upper_name name) true h)
dots (name ∷ next ∷ names) h =
    let one = name_stays name (and_left (is_upper_name name) (list_all is_upper_name (next ∷ names)) h) in
    let more = dots (next ∷ names) (and_right (is_upper_name name) (list_all is_upper_name (next ∷ names)) h) in
    map-append dot_for_slash name (47 ∷ join_with_byte 47 (next ∷ names)) ∙ ap (λ x. x ++ map dot_for_slash (47 ∷ join_with_byte 47 (next ∷ names))) one
    ∙ ap (λ x. name ++ 46 ∷ x) more

one_name : (path name other : List ℕ) → NamesModule path name → NamesModule path other → name ≡ other
one_name path name other a b =
    let joined : join_with_byte 47 a.0 ≡ join_with_byte 47 b.0 = encodes_same (join_with_byte 47 a.0) (join_with_byte 47 b.0)
    (append_cancel_right (encode_utf8_all (join_with_byte 47 a.0)) (encode_utf8_all (join_with_byte 47 b.0)) (codes ".elm") (sym a.1.spelled ∙ b.1.spelled)) in
    a.2 ∙ ap encode_utf8_all (sym (dots a.0 a.1.upper) ∙ ap (map dot_for_slash) joined ∙ dots b.0 b.1.upper) ∙ sym b.2

-- ---- the entry

same_some : {a b : List ℕ} → Some a ≡ Some b → a ≡ b
same_some e = cc

one_below : (directory path name other : List ℕ) → NamesBelow directory path name → NamesBelow directory path other → name ≡ other
one_below directory path name other a b =
    let same : a.0 ≡ b.0 = same_some (sym a.1 ∙ b.1) in
    one_name b.0 name other (subst (λ rest. NamesModule rest name) same a.2) b.2

pub one_named : {path name other : List ℕ} {directories : List (List ℕ)} → NamesEntry path directories name → NamesEntry path directories other → name ≡ other
one_named {path} (here {directory = d} {name = n} a) (here {name = m} b) = one_below d path n m a b
one_named (here {name = n} a) (later f b) = absurd (f n a)
one_named (later f a) (here {name = n} b) = absurd (f n b)
one_named (later f a) (later g b) = one_named a b

same_source : (m n : Source) → m.name ≡ n.name → m.path ≡ n.path → m.text ≡ n.text → m ≡ n
same_source m n a b c =
    ap (λ x. record { name = x; path = m.path; text = m.text }) a ∙ ap (λ x. record { name = n.name; path = x; text = m.text }) b
    ∙ ap (λ x. record { name = n.name; path = n.path; text = x }) c

pub one_entry : (s : Setting) (written : List ℕ) (m n : Source) → IsEntry s written m → IsEntry s written n → m ≡ n
one_entry s written m n a b =
    let bytes : a.bytes ≡ b.bytes = same_some (sym a.there ∙ b.there) in
    same_source m n (one_named a.named b.named) (a.path ∙ sym b.path) (a.text ∙ ap text_within bytes ∙ sym b.text)
