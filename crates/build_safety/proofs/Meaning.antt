-- The output of a build is that of the program that its modules make, which the laws of what is emitted speak of; and
-- that program meets what each program meets that a link makes of a build: `outputs_meet`, `outputs_mean`.
use Rattle.std.proofs.Common.{◌≡◌, ℕ, zero, suc, ◌<◌, List, [], ◌∷◌, Bool, true, false, Option, Some, None, length, map}
use Rattle.std.proofs.Common.{refl, sym, ap, ◌∙◌, subst, arith}
use Rattle.std.specs.Prelude.{slice_get, MatchBool, codes, flat_map}
use Rattle.std.specs.List.{zip}
use Rattle.std.specs.Str.{IsUtf8, bytes_eq}
use Rattle.std.proofs.lemmas.List.{length-map}
use Rattle.std.proofs.lemmas.List.Quantifiers.{position-Some}
use Rattle.wire_value.specs.Wire.{Wire}
use Rattle.runs.specs.Trace.{SameRun, IsClaimed}
use Rattle.elm_canon.specs.Names.{Name}
use Rattle.elm_files.specs.Tree.{Tree}
use Rattle.elm_meaning.specs.Run.{Program, SourceRun}
use Rattle.js_tree.specs.Tree as js
use Rattle.js_tree.specs.Text.{JsText}
use Rattle.js_tree.specs.Subset.{is_program_spelled, is_program_bound, in_subset}
use Rattle.js_tree.proofs.NameFronts.{and_true}
use Rattle.js_tree.proofs.Exact.{one_program}
use Rattle.js_meaning.specs.Run.{JsRun}
use Rattle.js_emit.specs.Program.{Emit}
use Rattle.emit_size_laws.specs.Small.{NamedProgram, IsSmallOutput}
use Rattle.link.specs.Link as linked
use Rattle.link.specs.Link.{Output, Links, Unlinked, link}
use Rattle.link.specs.Programs.{Source, part_of, program_of, Tells}
use Rattle.import_graph.specs.Modules.{Setting, Module}
use Rattle.project_file.specs.Paths.{normal_path, is_absolute}
use Rattle.project_file.specs.Project.{Told, directories, fault, project_of}
use Rattle.module_made.specs.Made.{Value}
use Rattle.project_proper.specs.Resolved.{Resolved, source_of}
use Rattle.project_parts.specs.Laws.{AreOfBuild, IsBuild, Builds as BuildsStand}
use Rattle.project_parts.specs.Modules.{Part, core_names, parts_of, name_of, number_of, Values}
use Rattle.project_parts.specs.Outcomes.{Outcome, Stopped, Faulty, Text, linked_parts, faults_of, IsTextOf, IsLinked}
use Rattle.project_parts.specs.Outcomes.{IsEntered, IsFinished, IsCompiled, Compiled, Builds, refused, compiles}
use Rattle.project_parts.specs.Outcomes.{ToldBuilds, ProjectBuilds, is_output, Clean}
use Rattle.project_proper.proofs.Texts.{text_is, written}
use Rattle.project_proper.specs.Builds.{AreBuilt, AreLinked, BuildsAreLinked, LinksAreNamed}
use Rattle.build_safety.specs.Meaning.{IsProgram, IsProjectProgram, IsSourceProgram, Translates, OutputsMean}

-- ---- what the laws say

abbrev pub Linking : Type 0
Linking =
    (sources : List Source) (entry : ℕ) (s : Source) (o : Output) → slice_get sources entry ≡ Some s
    → link (map part_of sources) entry ≡ Links o → Tells o (program_of sources s)

abbrev pub Running : Type 0
Running =
    (p : Program) (bytes : List ℕ) → NamedProgram p → IsSmallOutput p bytes → (flags : Wire)
    (inputs : List (Name × Wire)) → ((n : ℕ) → IsClaimed (SourceRun p flags inputs n))
    → SameRun (SourceRun p flags inputs) (JsRun (Emit p) flags inputs)

abbrev pub Fitting : Type 0
Fitting = (p : Program) (bytes : List ℕ) → NamedProgram p → IsSmallOutput p bytes → in_subset (Emit p) ≡ true

-- the modules of a build, as a link takes them: the program that it makes has proper names, and meets P
pub record Meets (P : Program → Type 0) (ps : List Part) (values : List Value) (qs : List linked.Part) : Type 0 where
  pub modules : List Resolved
  pub built : AreBuilt ps values modules
  pub parts : map part_of (map source_of modules) ≡ qs
  pub each : (number : ℕ) (r : Resolved) (o : Output) → slice_get modules number ≡ Some r → link qs number ≡ Links o
      → NamedProgram (program_of (map source_of modules) (source_of r))
      × P (program_of (map source_of modules) (source_of r))

abbrev pub AllMeet : (Program → Type 0) → Type 0
AllMeet P =
    (core ms : List Module) (order : List ℕ) (values : List Value) (qs : List linked.Part) → AreOfBuild core ms order
    → Values (parts_of core ms order) values → linked_parts (zip (parts_of core ms order) values) ≡ Some qs
    → Meets P (parts_of core ms order) values qs

abbrev pub OutputsMeet : (Program → Type 0) → Type 0
OutputsMeet P =
    (tree : Tree) (entry output bytes : List ℕ) → IsUtf8 entry → Clean tree entry output (Text bytes)
    → length bytes < 4294967296 → (p : Program) × IsSourceProgram tree entry p × Translates p bytes × P p

-- ---- outcomes

same_text : (bytes others : List ℕ) → Text bytes ≡ Text others → bytes ≡ others
same_text bytes others e = cc

-- ---- places of lists

there : {X : Type 0} (xs : List X) (n : ℕ) → n < length xs → (x : X) × (slice_get xs n ≡ Some x)
there [] n l = absurd (omega (arith, l))
there (x ∷ xs) zero l = (x, refl)
there (x ∷ xs) (suc n) l = there xs n (omega (arith, l))

as_long : (ps : List Part) (vs : List Value) (rs : List Resolved) → AreBuilt ps vs rs → length ps ≡ length rs
as_long [] [] [] b = refl
as_long [] [] (r ∷ rs) b = absurd b
as_long [] (v ∷ vs) rs b = absurd b
as_long (p ∷ ps) [] rs b = absurd b
as_long (p ∷ ps) (v ∷ vs) [] b = absurd b
as_long (p ∷ ps) (v ∷ vs) (r ∷ rs) b = ap suc (as_long ps vs rs b.1)

get_mapped : {X Y : Type 0} (f : X → Y) (xs : List X) (n : ℕ) (x : X) → slice_get xs n ≡ Some x
    → slice_get (map f xs) n ≡ Some (f x)
get_mapped f [] n x e = absurd cc
get_mapped f (y ∷ ys) zero x e = let s : y ≡ x = cc in ap (λ z. Some (f z)) s
get_mapped f (y ∷ ys) (suc n) x e = get_mapped f ys n x e

-- ---- an output

module _ (runs : Running) (fits : Fitting) (tells : Linking) where
  translates : (p : Program) (bytes : List ℕ) → NamedProgram p → JsText (Emit p) bytes → length bytes < 4294967296
      → Translates p bytes
  translates p bytes n t small =
      let out : IsSmallOutput p bytes = record { text = t; small = small } in
      let admitted = fits p bytes n out in
      let spelled : (q : js.Program) → in_subset q ≡ true → is_program_spelled q ≡ true =
      λ q h. (and_true (is_program_spelled q) (is_program_bound q) h).0 in
      record {
        spelled = t;
        admitted = admitted;
        one = λ other h k. one_program bytes other (Emit p) (spelled other h) (spelled (Emit p) admitted) k t;
        alike = runs p bytes n out;
      }

  module _ (P : Program → Type 0) where
    abbrev Means : List Part → List ℕ → List ℕ → Type 0
    Means ps name bytes = (p : Program) × IsProgram ps name p × Translates p bytes × P p

    linked_means : (ps : List Part) (values : List Value) (qs : List linked.Part) (name bytes : List ℕ) (number : ℕ)
        → Meets P ps values qs → Values ps values → number_of ps name ≡ Some number
        → number < length ps → length bytes < 4294967296 → (l : linked.Linked) → link qs number ≡ l
        → IsLinked l (Text bytes) → Means ps name bytes
    linked_means ps values qs name bytes number k v at low small (Unlinked fs) is f =
        absurd (let z : Text bytes ≡ Faulty fs = f in cc)
    linked_means ps values qs name bytes number k v at low small (Links o) is f =
        let rs = k.modules in
        let r = there rs number (subst (λ n. number < n) (as_long ps values rs k.built) low) in
        let p = program_of (map source_of rs) (source_of r.0) in
        let good : NamedProgram p × P p = k.each number r.0 o r.1 is in
        let says : Tells o p =
        tells (map source_of rs) number (source_of r.0) o (get_mapped source_of rs number r.0 r.1)
        (ap (λ z. link z number) k.parts ∙ is) in
        let same : bytes ≡ f.0 = same_text bytes f.0 f.2 in
        let t : JsText (Emit p) bytes =
        same ∙ (text_is o f.1.0 f.1.1 f.0 f.1.2 ∙ sym (written o p says)) in (
          p,
          record {
            values = values;
            are = v;
            modules = rs;
            built = k.built;
            number = number;
            numbered = at;
            entry = r.0;
            there = r.1;
            is = refl;
          },
          translates p bytes good.0 t small,
          good.1,
        )

    entered_means : (ps : List Part) (values : List Value) (qs : List linked.Part) (name bytes : List ℕ)
        → Meets P ps values qs → Values ps values → length bytes < 4294967296 → (entry : Option ℕ)
        → number_of ps name ≡ entry → IsEntered qs entry (Text bytes) → Means ps name bytes
    entered_means ps values qs name bytes k v small None at f = absurd f
    entered_means ps values qs name bytes k v small (Some number) at f =
        let low : number < length (map name_of ps) =
        (position-Some (bytes_eq name) (map name_of ps) number [] at).0 in
        linked_means ps values qs name bytes number k v at (subst (λ n. number < n) (length-map ps name_of) low) small
        (link qs number) refl f

    finished_means : (ps : List Part) (values : List Value) (name bytes : List ℕ)
        → ((qs : List linked.Part) → linked_parts (zip ps values) ≡ Some qs → Meets P ps values qs) → Values ps values
        → length bytes < 4294967296 → (qs : Option (List linked.Part)) → linked_parts (zip ps values) ≡ qs
        → IsFinished values qs (number_of ps name) (Text bytes) → Means ps name bytes
    finished_means ps values name bytes meets v small None e f =
        absurd (let z : Text bytes ≡ Faulty (flat_map faults_of values) = f in cc)
    finished_means ps values name bytes meets v small (Some qs) e f =
        entered_means ps values qs name bytes (meets qs e) v small (number_of ps name) refl f

    module _ (all : AllMeet P) where
      project_means : (s : Setting) (written : List ℕ) (bytes : List ℕ) → IsUtf8 written → s.core ≡ core_names
          → length bytes < 4294967296 → Compiled s written (Text bytes)
          → (p : Program) × IsProjectProgram s written p × Translates p bytes × P p
      project_means s written bytes utf8 core small c =
          let of_build : AreOfBuild c.core c.modules c.order = record {
            setting = s;
            written = written;
            is_text = utf8;
            core_is = core;
            are_modules = c.are_modules;
            is_order = c.is_order;
            are_core = c.are_core;
          } in
          let ps = parts_of c.core c.modules c.order in
          let m = finished_means ps c.compiled.0 c.entry bytes
          (λ qs. all c.core c.modules c.order c.compiled.0 qs of_build c.compiled.1) c.compiled.1 small
          (linked_parts (zip ps c.compiled.0)) refl c.compiled.2 in (
            m.0,
            record {
              modules = c.modules;
              are_modules = c.are_modules;
              order = c.order;
              is_order = c.is_order;
              core = c.core;
              are_core = c.are_core;
              name = c.entry;
              names_entry = c.names_entry;
              program = m.1;
            },
            m.2,
            m.3,
          )

      built_means : (s : Setting) (written : List ℕ) (bytes : List ℕ) (outcome : Outcome) → IsUtf8 written
          → s.core ≡ core_names → length bytes < 4294967296 → Builds s written outcome → outcome ≡ Text bytes
          → (p : Program) × IsProjectProgram s written p × Translates p bytes × P p
      built_means s written bytes outcome utf8 core small (refused p) e = absurd cc
      built_means s written bytes outcome utf8 core small (compiles c) e =
          project_means s written bytes utf8 core small (subst (Compiled s written) e c)

      told_means : (tree : Tree) (written file bytes : List ℕ) → IsUtf8 written → length bytes < 4294967296
          → tree (codes "elm.json") ≡ Some file → (t : Told) → project_of file ≡ t
          → ToldBuilds tree written t (Text bytes)
          → (p : Program) × IsSourceProgram tree written p × Translates p bytes × P p
      told_means tree written file bytes utf8 small at (fault code) e f = absurd cc
      told_means tree written file bytes utf8 small at (directories paths) e f =
          let s : Setting = record { tree = tree; directories = paths; core = core_names } in
          let m = built_means s written bytes (Text bytes) utf8 refl small f refl in
          (m.0, record { bytes = file; there = at; paths = paths; told = e; program = m.1 }, m.2, m.3)

      opened_means : (tree : Tree) (written bytes : List ℕ) → IsUtf8 written → length bytes < 4294967296
          → (o : Option (List ℕ)) → tree (codes "elm.json") ≡ o → ProjectBuilds tree written o (Text bytes)
          → (p : Program) × IsSourceProgram tree written p × Translates p bytes × P p
      opened_means tree written bytes utf8 small None at f = absurd cc
      opened_means tree written bytes utf8 small (Some file) at f =
          told_means tree written file bytes utf8 small at (project_of file) refl f

      by_test : (c : Bool) (A B : Type 0) → {R : Type 0} → (A → R) → (B → R) → MatchBool c A B → R
      by_test true A B f g m = f m
      by_test false A B f g m = g m

      pub outputs_meet : OutputsMeet P
      outputs_meet tree entry output bytes utf8 c small =
          by_test (is_absolute output) _ _ (λ e. absurd cc)
          (by_test (is_output (normal_path output)) _ _
          (opened_means tree entry bytes utf8 small (tree (codes "elm.json")) refl) (λ e. absurd cc)) c

  -- ---- where nothing more is asked of programs

  module _ (links : BuildsAreLinked) (named : LinksAreNamed) (builds : BuildsStand) where
    all_linked : AllMeet (λ p. Unit {0})
    all_linked core ms order values qs b v e =
        let k = links (parts_of core ms order) values qs (builds core ms order b) v e in record {
          modules = k.0;
          built = k.1;
          parts = k.2.parts;
          each = λ number r o at is. (named qs k.0 number r o k.2 at is, tt);
        }

    pub outputs_mean : OutputsMean
    outputs_mean tree entry output bytes utf8 c small =
        let m = outputs_meet (λ p. Unit {0}) all_linked tree entry output bytes utf8 c small in (m.0, m.1, m.2)
