-- Imports of lower numbers.
use Rattle.std.proofs.Common.{◌≡◌, ℕ, zero, suc, ◌+◌, ◌<◌, ◌≤◌, List, [], ◌∷◌, ◌++◌, length, map, take}
use Rattle.std.proofs.Common.{Option, Some, None, Bool, true, false, refl, sym, ap, subst, ◌∙◌, arith}
use Rattle.std.specs.Prelude.{slice_get, option_map, unwrap_or, flat_map, if◌then◌else◌}
use Rattle.std.specs.List.{AllByRecursion, Contains, filter_map, position, list_any}
use Rattle.std.specs.Str.{bytes_eq, is_utf8}
use Rattle.std.proofs.lemmas.List.{length-map}
use Rattle.std.proofs.lemmas.List.Elements.{All-contains}
use Rattle.std.proofs.lemmas.Option.{slice_get_within}
use Rattle.core_modules.specs.Library.{core_library}
use Rattle.decl_groups.specs.Groups.{list_at, Uses}
use Rattle.decl_groups.proofs.Basics.{first_member, later_member, map_member}
use Rattle.import_graph.specs.Places as place
use Rattle.import_graph.specs.Places.{Place}
use Rattle.import_graph.specs.Graph.{names_of, used, uses_of}
use Rattle.import_graph.specs.Modules.{Setting, Word, Import, Module, located, located_by, place_in, kind_of, is_core}
use Rattle.import_graph.specs.Modules.{imports_found}
use Rattle.import_graph.specs.Plain.{IsPlain, IsPlainImport}
use Rattle.import_graph.specs.declared.found.Found.{Found}
use Rattle.import_graph.specs.declared.found.Found.TheVariants as found
use Rattle.project_parts.specs.Modules.{Part, names_in, core_names, core_setting}
use Rattle.project_parts.specs.Modules.{core_part, project_part, parts_of, default_names, one_name, imported_names}
use Rattle.project_parts.specs.Modules.{number_of, name_of, graph_of}
use Rattle.project_parts.specs.Laws.{AreToBuild}
use Rattle.project_parts.proofs.Naming.{core_names_are, core_at, part_names}
use Rattle.project_parts.proofs.Ordering.{ready_at}
use Rattle.project_parts.proofs.Placing.{first_place, at_place, has_place, among, row_at, numbers_below, all_joined}
use Rattle.project_parts.proofs.Placing.{member_given, got_first, got_second, got_cases, got_front, got_given}
use Rattle.project_parts.proofs.Placing.{given_got}
use Rattle.project_parts.proofs.Placing.{got_member, there_is, item_at, mapped, image}

-- a name has no number, or one that is lower
abbrev pub IsLow : List Part → ℕ → List ℕ → Type 0
IsLow ps i x = (n : ℕ) → number_of ps x ≡ Some n → n < i

low_by_place : (ps : List Part) (xs : List (List ℕ)) (i k : ℕ) (x : List ℕ) → map name_of ps ≡ xs
    → slice_get xs k ≡ Some x
    → k < i → IsLow ps i x
low_by_place ps xs i k x e at l n is =
    let h = first_place xs x k n at (subst (λ ys. position (bytes_eq x) ys ≡ Some n) e is) in omega (arith, h, l)

-- ---- which imports have a number

pub core_kind : (b : Bool) (p : Place) → kind_of (located_by b p) ≡ found.Core → b ≡ true
core_kind false place.Nowhere e = absurd cc
core_kind false (place.At path text) e = absurd cc
core_kind false place.Several e = absurd cc
core_kind true p e = refl

pub file_kind : (b : Bool) (p : Place) → kind_of (located_by b p) ≡ found.File → b ≡ false
file_kind false p e = refl
file_kind true place.Nowhere e = absurd cc
file_kind true (place.At path text) e = absurd cc
file_kind true place.Several e = absurd cc

-- what holds of each import that the core library or a file alone has holds of the names with a number
module _ (P : List ℕ → Type 0) where
  abbrev pub HoldsOf : Found → List Import → Type 0
  HoldsOf kind imports = (i : Import) → Contains imports i → i.found ≡ kind → P i.word.text

  one_named : (w : Word) (rest : List (List ℕ)) (kind : Found) → (kind ≡ found.Core → P w.text)
      → (kind ≡ found.File → P w.text) → AllByRecursion P rest
      → AllByRecursion P (one_name (record { word = w; found = kind }) ++ rest)
  one_named w rest found.Nowhere f g r = r
  one_named w rest found.Core f g r = (f refl, r)
  one_named w rest found.File f g r = (g refl, r)
  one_named w rest found.Several f g r = r

  pub all_named : (imports : List Import) → HoldsOf found.Core imports → HoldsOf found.File imports
      → AllByRecursion P (flat_map one_name imports)
  all_named [] f g = tt
  all_named (i ∷ imports) f g =
      one_named i.word (flat_map one_name imports) i.found (f i (first_member i imports))
      (g i (first_member i imports))
      (all_named imports (λ x c. f x (later_member i x imports c)) (λ x c. g x (later_member i x imports c)))

-- ---- modules of the core library

-- without files no name is a file's
nowhere : (b : Bool) → (if b then place.Nowhere else place.Nowhere) ≡ place.Nowhere
nowhere true = refl
nowhere false = refl

pub no_place : (library : List (List ℕ × List ℕ)) (x : List ℕ) → place_in (core_setting library) x ≡ place.Nowhere
no_place library x = nowhere (is_utf8 x)

not_file : (b : Bool) → kind_of (located_by b place.Nowhere) ≡ found.File → ⊥
not_file true e = cc
not_file false e = cc

no_file : (library : List (List ℕ × List ℕ)) (x : List ℕ) → kind_of (located (core_setting library) x) ≡ found.File → ⊥
no_file library x e =
    not_file (is_core (core_setting library) x)
    (subst (λ p. kind_of (located_by (is_core (core_setting library) x) p) ≡ found.File) (no_place library x) e)

named_front : (cs : List (List ℕ × List ℕ)) (n : ℕ) → names_in (take n cs) ≡ take n (names_in cs)
named_front [] zero = refl
named_front [] (suc n) = refl
named_front (c ∷ cs) zero = refl
named_front (c ∷ cs) (suc n) = ap (λ xs. c.0 ∷ xs) (named_front cs n)

abbrev import_of : Setting → Word → Import
import_of s w = record { word = w; found = kind_of (located s w.text) }

module _ (ps : List Part) (before rest : List (List ℕ)) (names : map name_of ps ≡ before ++ rest) where
  core_low : (library : List (List ℕ × List ℕ)) (i : ℕ) (words : List Word) → names_in library ≡ before
      → AllByRecursion (IsLow ps i) (flat_map one_name (imports_found (core_setting (take i library)) words))
  core_low library i words is =
      all_named (IsLow ps i) (imports_found s words)
      (λ x c e.
      let w = word_of x c in
      let k = core_kind (is_core s w.0.text) (place_in s w.0.text) (ap (λ (y : Import). y.found) w.2 ∙ e) in
      let a = among (names_in (take i library)) w.0.text k in
      let b = got_front (names_in library) i a.0 w.0.text
      (subst (λ xs. slice_get xs a.0 ≡ Some w.0.text) (named_front library i) a.1) in
      subst (λ (y : Import). IsLow ps i y.word.text) w.2
      (low_by_place ps (before ++ rest) i a.0 w.0.text names
      (got_first before rest a.0 w.0.text (subst (λ xs. slice_get xs a.0 ≡ Some w.0.text) is b.1)) b.0))
      (λ x c e.
      let w = word_of x c in
      absurd (no_file (take i library) w.0.text (ap (λ (y : Import). y.found) w.2 ∙ e)))
    where
      s : Setting
      s = core_setting (take i library)

      word_of : (x : Import) → Contains (imports_found s words) x
          → (w : Word) × Contains words w × (import_of s w ≡ x)
      word_of x c = map_member (import_of s) words x c

-- ---- modules of the project

default_are_core : AllByRecursion (λ x. list_any (bytes_eq x) core_names ≡ true) default_names
default_are_core = (refl, (refl, (refl, (refl, (refl, (refl, (refl, (refl, (refl, (refl, (refl, tt)))))))))))

all_low : (P Q : List ℕ → Type 0) → ((x : List ℕ) → P x → Q x) → (xs : List (List ℕ)) → AllByRecursion P xs
    → AllByRecursion Q xs
all_low P Q f [] a = tt
all_low P Q f (x ∷ xs) a = (f x a.0, all_low P Q f xs a.1)

module _ (core ms : List Module) (order : List ℕ) (b : AreToBuild core ms order) where
  abbrev parts : List Part
  parts = parts_of core ms order

  abbrev there : List Module
  there = filter_map (slice_get ms) order

  pub names : map name_of parts ≡ core_names ++ names_of there
  names =
      part_names core ms order ∙ ap (λ xs. xs ++ names_of there) (core_names_are [] core_library core b.are_core)

  core_count : length core ≡ length core_names
  core_count =
      sym (length-map core (λ (m : Module). m.source.name))
      ∙ ap length (core_names_are [] core_library core b.are_core)

  -- each number of the order is one of the modules
  pub order_within : (j m : ℕ) → slice_get order j ≡ Some m → m < length ms
  order_within j m e =
      omega (arith, (ready_at b.is_order j m e).within, length-map ms (λ (x : Module). filter_map (used ms) x.imports))

  -- a name of the core library
  low_core : (i : ℕ) (x : List ℕ) → length core_names ≤ i → list_any (bytes_eq x) core_names ≡ true → IsLow parts i x
  low_core i x l e =
      let a = among core_names x e in
      low_by_place parts (core_names ++ names_of there) i a.0 x names (got_first core_names (names_of there) a.0 x a.1)
      (omega (arith, l, slice_get_within core_names a.0 x a.1))

  -- the name of a module of the project that the module at place j of the order imports
  low_file : (j : ℕ) (m : Module) (i : Import) → slice_get there j ≡ Some m → Contains m.imports i
      → i.found ≡ found.File → IsLow parts (length core_names + j) i.word.text
  low_file j m i at c kind n number =
      got_cases core_names (names_of there) n w.text (n < length core_names + j) stands
      (λ e. omega (arith, slice_get_within core_names n w.text e))
      (λ k here e. of_project k e)
    where
      w : Word
      w = i.word

      stands : slice_get (core_names ++ names_of there) n ≡ Some w.text
      stands =
          at_place (core_names ++ names_of there) w.text n
          (subst (λ xs. position (bytes_eq w.text) xs ≡ Some n) names number)

      row : (k : ℕ) → slice_get ms k ≡ Some m → list_at (uses_of ms) k ≡ filter_map (used ms) m.imports
      row k e =
          row_at (λ (x : Module). filter_map (used ms) x.imports) ms k
          ∙ ap (λ o. unwrap_or (option_map (λ (x : Module). filter_map (used ms) x.imports) o) []) e

      of_project : (k : ℕ) → slice_get (names_of there) k ≡ Some w.text → n < length core_names + j
      of_project k e =
          let q = mapped (λ (x : Module). x.source.name) there k w.text e in
          let o = given_got ms order k q.0 order_within q.1 in
          let r = has_place (names_of ms) w.text o.0 (image (λ (x : Module). x.source.name) ms o.0 q.0 o.2
          ∙ ap Some q.2) in
          let own = given_got ms order j m order_within at in
          let uses : Uses (uses_of ms) own.0 r.0 = subst (λ xs. Contains xs r.0) (sym (row own.0 own.2))
          (member_given (used ms) m.imports i r.0 c
          (subst (λ f. used ms (record { word = w; found = f }) ≡ Some r.0) (sym kind) r.1)) in
          let placed = there_is (take j order) r.0 ((ready_at b.is_order j own.0 own.1).imports r.0 uses) in
          let front = got_front order j placed.0 r.0 placed.1 in
          let other = item_at ms r.0 (order_within placed.0 r.0 front.1) in
          let name : slice_get (names_of there) placed.0 ≡ Some w.text =
          image (λ (x : Module). x.source.name) there placed.0 other.0
          (got_given ms order placed.0 r.0 other.0 order_within front.1 other.1)
          ∙ sym (image (λ (x : Module). x.source.name) ms r.0 other.0 other.1)
          ∙ at_place (names_of ms) w.text r.0 r.1 in
          let h = first_place (core_names ++ names_of there) w.text (length core_names + placed.0) n
          (got_second core_names (names_of there) placed.0 w.text name)
          (subst (λ xs. position (bytes_eq w.text) xs ≡ Some n) names number) in
          omega (arith, h, front.0)

  project_low : (j : ℕ) (m : Module) → slice_get there j ≡ Some m
      → AllByRecursion (IsLow parts (length core_names + j)) (imported_names (project_part m))
  project_low j m at =
      all_joined (IsLow parts (length core_names + j)) default_names (flat_map one_name m.imports)
      (all_low (λ x. list_any (bytes_eq x) core_names ≡ true) (IsLow parts (length core_names + j))
      (λ x e. low_core (length core_names + j) x (omega arith) e) default_names default_are_core)
      (all_named (IsLow parts (length core_names + j)) m.imports
      (λ i c e. low_core (length core_names + j) i.word.text (omega arith)
      (All-contains (IsPlainImport core_names) m.imports i plain.imports c e))
      (λ i c e. low_file j m i at c e))
    where
      own : (n : ℕ) × (slice_get order j ≡ Some n) × (slice_get ms n ≡ Some m)
      own = given_got ms order j m order_within at

      plain : IsPlain core_names m
      plain = All-contains (IsPlain core_names) ms m b.plain (got_member ms own.0 m own.2)

  pub part_low : (i : ℕ) (p : Part) → slice_get parts i ≡ Some p → AllByRecursion (IsLow parts i) (imported_names p)
  part_low i p at =
      got_cases (map core_part core) (map project_part there) i p (AllByRecursion (IsLow parts i) (imported_names p)) at
      (λ e. of_core e) (λ j here e. of_project j here e)
    where
      of_core : slice_get (map core_part core) i ≡ Some p → AllByRecursion (IsLow parts i) (imported_names p)
      of_core e =
          let q = mapped core_part core i p e in
          let c = core_at [] core_library core b.are_core i q.0 q.1 in
          subst (λ x. AllByRecursion (IsLow parts i) (imported_names x)) q.2
          (subst (λ is. AllByRecursion (IsLow parts i) (flat_map one_name is)) (sym c.2.whole.2)
          (core_low parts core_names (names_of there) names core_library i c.2.whole.0 refl))

      of_project : (j : ℕ) → i ≡ length (map core_part core) + j → slice_get (map project_part there) j ≡ Some p
          → AllByRecursion (IsLow parts i) (imported_names p)
      of_project j here e =
          let q = mapped project_part there j p e in
          let same : length core_names + j ≡ i = omega (arith, here, core_count, length-map core core_part) in
          subst (λ k. AllByRecursion (IsLow parts k) (imported_names p)) same
          (subst (λ x. AllByRecursion (IsLow parts (length core_names + j)) (imported_names x)) q.2
          (project_low j q.0 q.1))

  abbrev row : Part → List ℕ
  row p = filter_map (number_of parts) (imported_names p)

  row_low : (i : ℕ) (o : Option Part) → slice_get parts i ≡ o
      → AllByRecursion (λ j. j < i) (unwrap_or (option_map row o) [])
  row_low i None e = tt
  row_low i (Some p) e = numbers_below (number_of parts) i (imported_names p) (part_low i p e)

  pub ordered : (i : ℕ) → AllByRecursion (λ j. j < i) (list_at (graph_of parts) i)
  ordered i = subst (AllByRecursion (λ j. j < i)) (sym (row_at row parts i)) (row_low i (slice_get parts i) refl)
