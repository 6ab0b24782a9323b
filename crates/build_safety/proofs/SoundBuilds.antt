-- The modules of the core library are among those of each build: `builds_have_core`.
use Rattle.std.proofs.Common.{◌≡◌, ℕ, suc, List, [], ◌∷◌, ◌++◌, map, Bool, true, false, refl, sym, ap, ◌∙◌}
use Rattle.std.proofs.Common.{subst, codes}
use Rattle.std.specs.Prelude.{◌||◌, slice_get}
use Rattle.std.specs.List.{AllByRecursion, list_any, filter_map}
use Rattle.std.specs.Str.{bytes_eq, chars, IsUtf8}
use Rattle.std.specs.Str.Lossy.{utf8_lossy}
use Rattle.std.proofs.lemmas.Bool.{false≢true}
use Rattle.std.proofs.lemmas.Slice.Eq.{bytes_eq-Decides}
use Rattle.std.proofs.lemmas.Str.{utf8_lossy-IsUtf8}
use Rattle.elm_base.specs.Units.{text_units}
use Rattle.core_modules.specs.Table.{UnionRow, union_rows}
use Rattle.core_modules.specs.Library.{core_library}
use Rattle.import_graph.specs.Graph.{names_of}
use Rattle.module_made.specs.Made.{Value}
use Rattle.project_parts.specs.Modules.{Part, core_names, parts_of, name_of}
use Rattle.project_parts.proofs.Naming.{core_names_are, part_names}
use Rattle.project_proper.specs.Builds.{AreBuilt}
use Rattle.build_safety.specs.Compiled.{Compiled, resolved_of}
use Rattle.told_modules.proofs.ToldOffersLists.{one_among}
use Rattle.build_safety.specs.SoundWorlds.{HasModule, BuildsHaveCore}

-- ---- the names of the table

core_named : AllByRecursion (λ (r : UnionRow). list_any (bytes_eq r.home) core_names ≡ true) union_rows
core_named = (refl, (refl, (refl, (refl, (refl, (refl, tt))))))

all_utf8 : AllByRecursion (λ (r : UnionRow). IsUtf8 r.home) union_rows
unfolding lib.Utf8.encode
all_utf8 = (
  (codes "Basics", (refl, refl)),
  (
    (codes "Maybe", (refl, refl)),
    (
      (codes "Dict", (refl, refl)),
      (
        (codes "Platform.Cmd", (refl, refl)),
        (
          (codes "Platform.Sub", (refl, refl)),
          (
            (codes "Platform", (refl, refl)),
            tt,
          ),
        ),
      ),
    ),
  ),
)

all_units : AllByRecursion (λ (r : UnionRow). text_units r.home ≡ r.home) union_rows
unfolding chars
all_units = (refl, (refl, (refl, (refl, (refl, (refl, tt))))))

-- ---- modules by their names

any_first : (p : List ℕ → Bool) (xs ys : List (List ℕ)) → list_any p xs ≡ true → list_any p (xs ++ ys) ≡ true
any_first p [] ys e = absurd (false≢true e)
any_first p (x ∷ xs) ys e = by (p x) e (λ k. any_first p xs ys k)
  where
    by : (b : Bool) → (b || list_any p xs) ≡ true → (list_any p xs ≡ true → list_any p (xs ++ ys) ≡ true)
        → (b || list_any p (xs ++ ys)) ≡ true
    by true k rest = refl
    by false k rest = rest k

named : (n : List ℕ) (ps : List Part) (values : List Value) (cs : List Compiled)
    → AreBuilt ps values (resolved_of cs) → list_any (bytes_eq n) (map name_of ps) ≡ true
    → HasModule cs (text_units (utf8_lossy n))
named n [] values cs h e = absurd (false≢true e)
named n (q ∷ ps) [] [] h e = absurd h
named n (q ∷ ps) [] (c ∷ cs) h e = absurd h
named n (q ∷ ps) (v ∷ vs) [] h e = absurd h
named n (q ∷ ps) (v ∷ vs) (c ∷ cs) h e = by (bytes_eq n (name_of q)) refl e (λ k. named n ps vs cs h.1 k)
  where
    by : (b : Bool) → bytes_eq n (name_of q) ≡ b → (b || list_any (bytes_eq n) (map name_of ps)) ≡ true
        → (list_any (bytes_eq n) (map name_of ps) ≡ true → HasModule cs (text_units (utf8_lossy n)))
        → HasModule (c ∷ cs) (text_units (utf8_lossy n))
    by true is k rest = record {
      place = 0;
      by = c;
      at = refl;
      home = h.0.home ∙ ap (λ z. text_units (utf8_lossy z)) (sym ((bytes_eq-Decides n (name_of q)).0 is));
    }
    by false is k rest =
        let r = rest k in record { place = suc r.place; by = r.by; at = r.at; home = r.home }

pub builds_have_core : BuildsHaveCore
builds_have_core core ms order values cs are_core built r row =
    let others = names_of (filter_map (slice_get ms) order) in
    let there : list_any (bytes_eq r.home) (names_of core ++ others) ≡ true =
    any_first (bytes_eq r.home) (names_of core) others
    (subst (λ ns. list_any (bytes_eq r.home) ns ≡ true) (sym (core_names_are [] core_library core are_core))
    (one_among (λ (z : UnionRow). list_any (bytes_eq z.home) core_names ≡ true) union_rows r core_named row)) in
    let in_parts : list_any (bytes_eq r.home) (map name_of (parts_of core ms order)) ≡ true =
    subst (λ ns. list_any (bytes_eq r.home) ns ≡ true) (sym (part_names core ms order)) there in
    subst (HasModule cs)
    (ap text_units (utf8_lossy-IsUtf8 r.home (one_among (λ (z : UnionRow). IsUtf8 z.home) union_rows r all_utf8 row))
    ∙ one_among (λ (z : UnionRow). text_units z.home ≡ z.home) union_rows r all_units row)
    (named r.home (parts_of core ms order) values cs built in_parts)
