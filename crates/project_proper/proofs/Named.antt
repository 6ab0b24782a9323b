-- A module in which no fault was found has a name that can be spelled: `name_is`.
use Rattle.std.proofs.Common.{◌≡◌, ℕ, ◌<◌, List, [], ◌∷◌, length, Bool, true, false, if◌then◌else◌, refl, ap}
use Rattle.std.proofs.Common.{◌∙◌}
use Rattle.std.proofs.Common.{subst, Option, Some, None}
use Rattle.std.specs.Prelude.{flat_map, codes}
use Rattle.std.specs.Str.{bytes_eq, chars, IsUtf8}
use Rattle.std.specs.Str.Lossy.{utf8_lossy}
use Rattle.std.proofs.lemmas.Slice.Eq.{bytes_eq-Decides}
use Rattle.std.proofs.lemmas.Str.{utf8_lossy-IsUtf8}
use Rattle.elm_base.specs.Units.{text_units}
use Rattle.elm_base.specs.declared.position.Pos.{Pos}
use Rattle.elm_base.specs.declared.fault.Code.TheVariants.{NameMismatch}
use Rattle.elm_tree.specs.Tree as tree
use Rattle.elm_tree.specs.Tree.{Word, Header}
use Rattle.elm_canon.specs.Spelled.{is_module}
use Rattle.canon_env.specs.Imports.{name_of}
use Rattle.canon_env.specs.declared.finding.Finding.{Finding}
use Rattle.canon_proper.proofs.Quiet.{append_none}
use Rattle.canon_proper.specs.Spelled.{IsSpelledHeader}
use Rattle.canon_proper.proofs.Walking.{text_spelled}
use Rattle.module_made.specs.Around.{Around, home_of, mismatch_at, header_faults, start, import_faults}
use Rattle.module_made.specs.Made.{Means}
use Rattle.elm_canon.specs.Tree as canon

abbrev mismatch : Pos → List ℕ → List Finding
mismatch place name = record { code = NameMismatch; place = place; detail = name } ∷ []

-- where nothing is to be said, the name is written
as_written : (place : Pos) (written name : List ℕ) → mismatch_at place written name ≡ [] → written ≡ name
as_written place written name e = by (bytes_eq written name) refl e
  where
    by : (b : Bool) → bytes_eq written name ≡ b → (if b then [] else mismatch place name) ≡ [] → written ≡ name
    by true h e = (bytes_eq-Decides written name).0 h
    by false h e = absurd cc

word_name : (w : Word) → name_of w ≡ text_units (utf8_lossy w.text)
unfolding name_of
word_name w = refl

main_utf8 : IsUtf8 (codes "Main")
unfolding lib.Utf8.encode
main_utf8 = (codes "Main", (refl, refl))

main_units : is_module true (text_units (codes "Main")) ≡ true
unfolding chars
main_units = refl

main_named : is_module true (text_units (utf8_lossy (codes "Main"))) ≡ true
main_named = ap (λ t. is_module true (text_units t)) (utf8_lossy-IsUtf8 (codes "Main") main_utf8) ∙ main_units

header_named : (name : List ℕ) (h : Option Header) → IsSpelledHeader h → header_faults name h ≡ [] →
    is_module true (text_units (utf8_lossy name)) ≡ true
header_named name None s e =
    subst (λ n. is_module true (text_units (utf8_lossy n)) ≡ true) (as_written start (codes "Main") name e) main_named
header_named name (Some h) s e =
    subst (λ n. is_module true (text_units (utf8_lossy n)) ≡ true) (as_written h.name.place h.name.text name e)
    (subst (λ n. is_module true n ≡ true) (word_name h.name) s)

pub name_is : (a : Around) (text : List ℕ) (t : tree.Module) (m : canon.Module) → Means a text t m →
    length text < 4294967296 → is_module true (home_of a) ≡ true
name_is a text t m means short =
    let spelled = means.spelled in
    let module_is = text_spelled text spelled.0 t spelled.1.0 short spelled.1.1.spells in
    let heads = append_none (header_faults a.name t.head.header) (flat_map (import_faults a.found) t.head.imports)
    means.found in
    header_named a.name t.head.header module_is.header heads.0
