-- Modules that an entry reaches: their names and their texts.
use Rattle.std.proofs.Common.{◌≡◌, ℕ, List, [], ◌∷◌, length, Option, Some, None, Bool, true, false, refl, sym}
use Rattle.std.proofs.Common.{get_or}
use Rattle.std.proofs.Common.{subst, arith}
use Rattle.std.specs.Prelude.{option_and_then, nat_le, if◌then◌else◌}
use Rattle.std.specs.List.{All, Contains, list_any}
use Rattle.std.specs.Str.{bytes_eq, IsUtf8, is_utf8}
use Rattle.std.proofs.lemmas.Bool.Decides.{nat_tests}
use Rattle.std.proofs.lemmas.List.Elements.{All-contains, All-contains_itself, All-map, All-weaker}
use Rattle.std.proofs.lemmas.Str.{IsUtf8-from_is_utf8}
use Rattle.decl_groups.proofs.Basics.{member_map}
use Rattle.import_graph.specs.Places as place
use Rattle.import_graph.specs.Places.{Place, place_of, place_at, existing, paths_of, text_at, text_within}
use Rattle.import_graph.specs.Heads.{HasImports}
use Rattle.import_graph.specs.Entry.{IsEntry}
use Rattle.import_graph.specs.Modules as walk
use Rattle.import_graph.specs.Modules.{Setting, Source, IsReached, itself, imported, located, located_by}
use Rattle.import_graph.specs.Modules.{place_in}
use Rattle.import_graph.specs.Modules.{is_core, kind_of, Word, Module, IsWhole}
use Rattle.import_graph.specs.Plain.{IsPlain, IsPlainImport}
use Rattle.project_parts.specs.Modules.{core_names}
use Rattle.project_parts.specs.Laws.{Fits, AreOfBuild, AreToBuild}
use Rattle.project_parts.proofs.Lower.{core_kind}
use Rattle.project_parts.proofs.Texts.{entry_text}

pub within_fits : (bytes : List ℕ) → Fits (text_within bytes)
within_fits bytes = at (nat_le (length bytes) 4194304) refl
  where
    at : (b : Bool) → nat_le (length bytes) 4194304 ≡ b → Fits (if b then Some bytes else None)
    at true e = grind (arith, nat_tests)
    at false e = tt

there_fits : (found : Option (List ℕ)) → Fits (option_and_then text_within found)
there_fits None = tt
there_fits (Some bytes) = within_fits bytes

-- ---- a name of one file

in_file : (b : Bool) (p : Place) (path : List ℕ) (text : Option (List ℕ)) → located_by b p ≡ walk.InFile path text
    → (b ≡ false) × (p ≡ place.At path text)
in_file false place.Nowhere path text e = absurd cc
in_file false (place.At path' text') path text e = let h : path' ≡ path = cc in let k : text' ≡ text = cc in (refl, cc)
in_file false place.Several path text e = absurd cc
in_file true place.Nowhere path text e = absurd cc
in_file true (place.At path' text') path text e = absurd cc
in_file true place.Several path text e = absurd cc

at_fits : (s : Setting) (paths : List (List ℕ)) (path : List ℕ) (text : Option (List ℕ))
    → place_at s.tree paths ≡ place.At path text → Fits text
at_fits s [] path text e = absurd cc
at_fits s (p ∷ []) path text e =
    let h : text_at s.tree p ≡ text = cc in subst Fits h (there_fits (s.tree p))
at_fits s (p ∷ q ∷ more) path text e = absurd cc

-- its name is a text, and its own is none over the limit
file_is : (s : Setting) (name path : List ℕ) (text : Option (List ℕ)) → place_in s name ≡ place.At path text
    → IsUtf8 name × Fits text
file_is s name path text e = at (is_utf8 name) refl e
  where
    at : (b : Bool) → is_utf8 name ≡ b
        → (if b then place_of s.tree s.directories name else place.Nowhere) ≡ place.At path text
        → IsUtf8 name × Fits text
    at true k h = (IsUtf8-from_is_utf8 name k, at_fits s (existing s.tree (paths_of s.directories name)) path text h)
    at false k h = absurd cc

-- ---- what holds of a module that is reached

pub record IsSound (s : Setting) (m : Source) : Type 0 where
  pub name : IsUtf8 m.name
  pub not_core : is_core s m.name ≡ false
  pub text : Fits m.text

pub reached_sound : (s : Setting) (written : List ℕ) (entry m : Source) → IsUtf8 written → IsEntry s written entry
    → IsReached HasImports s entry m → IsSound s m
reached_sound s written entry m u is itself = record {
  name = entry_text written s.directories entry.name u is.named;
  not_core = is.not_core;
  text = subst Fits (sym is.text) (within_fits is.bytes);
}
reached_sound s written entry m u is (imported {m = by} words word {path} {text} r i c ne e) =
    let f = in_file (is_core s word.text) (place_in s word.text) path text e in
    let t = file_is s word.text path text f.1 in
    record { name = t.0; not_core = f.0; text = t.1 }

-- ---- by the files

module _ (core ms : List Module) (order : List ℕ) (b : AreOfBuild core ms order) where
  import_plain : (w : Word)
      → IsPlainImport core_names (record { word = w; found = kind_of (located b.setting w.text) })
  import_plain w e =
      subst (λ xs. list_any (bytes_eq w.text) xs ≡ true) b.core_is
      (core_kind (is_core b.setting w.text) (place_in b.setting w.text) e)

  module_plain : (m : Module) → Contains ms m → IsPlain core_names m
  module_plain m c = record {
    name = sound.name;
    not_core = subst (λ xs. list_any (bytes_eq m.source.name) xs ≡ false) b.core_is sound.not_core;
    text = sound.text;
    imports = subst (All (IsPlainImport core_names)) (sym whole.2)
        (All-map (IsPlainImport core_names) (λ w. record { word = w; found = kind_of (located b.setting w.text) })
        whole.0 (λ k d l. import_plain (get_or whole.0 k d)));
  }
    where
      sound : IsSound b.setting m.source
      sound =
          reached_sound b.setting b.written b.are_modules.entry m.source b.is_text b.are_modules.is_entry
          ((b.are_modules.members m.source).0 (member_map (λ (x : Module). x.source) ms m c))

      whole : IsWhole HasImports b.setting m
      whole = All-contains (IsWhole HasImports b.setting) ms m b.are_modules.imports c

  -- the modules that an entry reaches are those of a build
  pub to_build : AreToBuild core ms order
  to_build = record {
    are_core = b.are_core;
    plain = All-weaker (Contains ms) (IsPlain core_names) module_plain ms (All-contains_itself ms);
    numbered = b.are_modules.numbered;
    is_order = b.is_order;
  }
