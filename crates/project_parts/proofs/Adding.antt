-- One module of the core library more.
use Rattle.std.proofs.Common.{◌≡◌, ℕ, ◌+◌, ◌<◌, ◌≤◌, List, [], ◌∷◌, ◌++◌, length, map, Option, Some, None, Bool, true}
use Rattle.std.proofs.Common.{false}
use Rattle.std.proofs.Common.{nat_le, refl, sym, ap, subst, ◌∙◌, append_assoc, append-nil, arith}
use Rattle.std.specs.Prelude.{if◌then◌else◌, slice_get}
use Rattle.std.specs.List.{list_any}
use Rattle.std.specs.Str.{bytes_eq}
use Rattle.std.proofs.lemmas.Bool.{false_from_ne_true}
use Rattle.std.proofs.lemmas.Bool.Decides.{nat_tests}
use Rattle.std.proofs.lemmas.List.{map-append}
use Rattle.std.proofs.lemmas.Option.{slice_get_within}
use Rattle.indexmap.specs.IndexSet.{insert_key}
use Rattle.core_modules.specs.Library as core
use Rattle.core_modules.specs.Library.{core_library}
use Rattle.core_modules.specs.declared.library.CoreModule.{CoreModule}
use Rattle.import_graph.specs.Places as place
use Rattle.import_graph.specs.Places.{text_within}
use Rattle.import_graph.specs.Heads.{HasImports}
use Rattle.import_graph.specs.Modules.{Word, Import, Source, Module, Imports, IsWhole, located, located_by, place_in}
use Rattle.import_graph.specs.Modules.{kind_of}
use Rattle.import_graph.specs.Modules.{is_core, imports_found}
use Rattle.import_graph.specs.declared.found.Found.{Found}
use Rattle.import_graph.specs.declared.found.Found.TheVariants.{Nowhere, Core}
use Rattle.project_parts.specs.Modules.{IsCoreModule, AreCoreModules, names_in, core_names, core_setting}
use Rattle.project_parts.specs.Library.{found_among, import_among, ImportsAmong, IsNext}
use Rattle.project_parts.proofs.Differing.{new_apart, core_new}
use Rattle.project_parts.proofs.Lower.{no_place}
use Rattle.project_parts.proofs.Placing.{among, got_first, got_second}

abbrev Library : Type 0
Library = List (List ℕ × List ℕ)

-- ---- texts

pub over_limit : (text : List ℕ) → 4194304 < length text → text_within text ≡ None
over_limit text l = at (nat_le (length text) 4194304) refl
  where
    at : (b : Bool) → nat_le (length text) 4194304 ≡ b → (if b then Some text else None) ≡ None
    at true e = absurd (let h : length text ≤ 4194304 = grind (arith, nat_tests) in omega (arith, l, h))
    at false e = refl

pub in_limit : (text : List ℕ) → length text ≤ 4194304 → text_within text ≡ Some text
in_limit text l = at (nat_le (length text) 4194304) refl
  where
    at : (b : Bool) → nat_le (length text) 4194304 ≡ b → (if b then Some text else None) ≡ Some text
    at true e = refl
    at false e = absurd (let h : 4194304 < length text = grind (arith, nat_tests) in omega (arith, l, h))

-- ---- one module

kind_is : (before : Library) (x : List ℕ) → kind_of (located (core_setting before) x) ≡ found_among (names_in before) x
kind_is before x =
    ap (λ p. kind_of (located_by (is_core (core_setting before) x) p)) (no_place before x)
    ∙ at (list_any (bytes_eq x) (names_in before))
  where
    at : (b : Bool) → kind_of (located_by b place.Nowhere) ≡ (if b then Core else Nowhere)
    at true = refl
    at false = refl

found_is : (before : Library) (words : List Word)
    → map (import_among (names_in before)) words ≡ imports_found (core_setting before) words
found_is before [] = refl
found_is before (w ∷ words) =
    ap (λ (k : Found). record { word = w; found = k } ∷ map (import_among (names_in before)) words)
    (sym (kind_is before w.text))
    ∙ ap (λ is. record { word = w; found = kind_of (located (core_setting before) w.text) } ∷ is)
    (found_is before words)

pub next_is : (before : Library) (c : List ℕ × List ℕ) (m : Module) → IsNext (names_in before) c m
    → IsCoreModule before c m
next_is before c m n = record { source = n.source; whole = at (text_within c.1) n.source n.imports }
  where
    source_of : Option (List ℕ) → Source
    source_of t = record { name = c.0; path = c.0; text = t }

    at : (t : Option (List ℕ)) → m.source ≡ source_of t → ImportsAmong (names_in before) t m.imports
        → IsWhole HasImports (core_setting before) m
    at None e none = ([], subst (λ s. Imports HasImports s []) (sym e) refl, none)
    at (Some text) e (words, has, are) =
        (words, subst (λ s. Imports HasImports s words) (sym e) has, are ∙ found_is before words)

pub core_more : (start cs : Library) (c : List ℕ × List ℕ) (ms : List Module) (m : Module) → AreCoreModules start cs ms
    → IsCoreModule (start ++ cs) c m → AreCoreModules start (cs ++ c ∷ []) (ms ++ m ∷ [])
core_more start [] c [] m a is = (subst (λ b. IsCoreModule b c m) (append-nil start) is, tt)
core_more start [] c (x ∷ ms) m a is = absurd a
core_more start (d ∷ cs) c [] m a is = absurd a
core_more start (d ∷ cs) c (x ∷ ms) m a is = (
  a.0,
  core_more (start ++ d ∷ []) cs c ms m a.1
      (subst (λ b. IsCoreModule b c m) (sym (append_assoc start (d ∷ []) cs)) is),
)

-- ---- names

pub names_more : (before : Library) (c : List ℕ × List ℕ) (keys : List (List ℕ)) (value : List ℕ) (new : List (List ℕ))
    → keys ≡ names_in before → value ≡ c.0 → list_any (bytes_eq c.0) (names_in before) ≡ false
    → new ≡ insert_key bytes_eq keys value → new ≡ names_in (before ++ c ∷ [])
names_more before c keys value new k v fresh put =
    put ∙ ap (λ ks. insert_key bytes_eq ks value) k ∙ ap (insert_key bytes_eq (names_in before)) v
    ∙ ap (λ b. if b then names_in before else names_in before ++ c.0 ∷ []) fresh
    ∙ sym (map-append (λ (d : List ℕ × List ℕ). d.0) before (c ∷ []))

-- the names of the core library differ
pub new_name : (before : Library) (c : List ℕ × List ℕ) (rest : Library) → before ++ c ∷ rest ≡ core_library
    → list_any (bytes_eq c.0) (names_in before) ≡ false
new_name before c rest e =
    false_from_ne_true (list_any (bytes_eq c.0) (names_in before)) (λ t.
    let names : names_in before ++ c.0 ∷ names_in rest ≡ core_names =
    sym (map-append (λ (d : List ℕ × List ℕ). d.0) before (c ∷ rest)) ∙ ap names_in e in
    let k = among (names_in before) c.0 t in
    let first = subst (λ xs. slice_get xs k.0 ≡ Some c.0) names
    (got_first (names_in before) (c.0 ∷ names_in rest) k.0 c.0 k.1) in
    let second = subst (λ xs. slice_get xs (length (names_in before) + 0) ≡ Some c.0) names
    (got_second (names_in before) (c.0 ∷ names_in rest) 0 c.0 refl) in
    let same = new_apart core_names k.0 (length (names_in before) + 0) c.0 core_new first second in
    let low : k.0 < length (names_in before) = slice_get_within (names_in before) k.0 c.0 k.1 in
    omega (arith, same, low))

pub all_before : (before : Library) (rest : List CoreModule) → length rest ≡ 0
    → before ++ map core.module_view rest ≡ core_library → before ≡ core_library
all_before before [] l e = sym (append-nil before) ∙ e
all_before before (x ∷ rest) l e = absurd (omega (arith, l))
