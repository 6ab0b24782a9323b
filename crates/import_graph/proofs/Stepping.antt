-- One more module of the walk is read.
use Rattle.std.proofs.Common.{◌≡◌, ℕ, zero, suc, ◌<◌, ◌≤◌, ◌+◌, List, [], ◌∷◌, ◌++◌, length, map, set, Some, ⊎_elim, get_or}
use Rattle.std.proofs.Common.{sym, ap, ◌∙◌, subst, arith}
use Rattle.std.specs.Prelude.{slice_get, option_map, IsSome}
use Rattle.std.specs.List.{Contains}
use Rattle.std.proofs.lemmas.Bool.{cases_eq}
use Rattle.std.proofs.lemmas.List.{map-set, length-map}
use Rattle.std.proofs.lemmas.Option.{slice_get-map, slice_get-get_or, slice_get_within}
use Rattle.import_graph.specs.Modules.{Word}
use Rattle.import_graph.specs.Modules.{Setting, Source, Module, Imports, imports_found, sources}
use Rattle.import_graph.specs.ModuleWalkView.{import_view, module_view, source_view}
use Rattle.import_graph.specs.Walk.{known_at, modules_of, walk_sources, AreMet, AreRead, IsRead, Grows, AreImported, IsWalk, IsWalked, IsWalkOf, IsReadAt}
use Rattle.import_graph.specs.declared.walk.Module as program_module
use Rattle.import_graph.specs.declared.walk.Walk as program
use Rattle.import_graph.proofs.Lists.{item_at, get_other, get_same, no_more, same_map}
use Rattle.import_graph.proofs.Meeting.{met_on, words_done, words_left, none_left, Right}
use Rattle.import_graph.specs.declared.reader.Written as written
use Rattle.import_graph.specs.declared.walk.Import as program_import

-- by what texts import
module _ (H : List ℕ → List Word → Type 0) where
  -- a module of the walk is reached
  pub are_imported : (s : Setting) (entry : Source) (w : program.Walk) (index : ℕ) (m : program_module.Module) (words : List Word) → IsWalk H s entry w
      → index < length w.modules.items → m ≡ get_or w.modules.items index m → Imports H (source_view m) words → AreImported H s entry words
  are_imported s entry w index m words is l e imports = record {
    by = source_view m;
    reached = is.walk.reached (source_view m) (member w.modules.items index l (sym e));
    imports = imports;
  }
    where
      member : (ms : List program_module.Module) (i : ℕ) → i < length ms → get_or ms i m ≡ m → Contains (sources (map module_view ms)) (source_view m)
      member [] i l e = absurd (omega (arith, l))
      member (x ∷ xs) zero l e = (0, omega arith, ap source_view e)
      member (x ∷ xs) (suc i) l e = let c = member xs i (omega (arith, l)) e in (suc c.0, omega (arith, c.1), c.2)

  -- no module stands there
  pub none_there : (s : Setting) (entry : Source) (w : program.Walk) (index : ℕ) → length w.modules.items ≤ index → IsWalked H s entry w index → IsWalked H s entry w (index + 1)
  none_there s entry w index l is = record {
    walk = is.walk;
    read = λ i m h e. ⊎_elim
        (λ q. absurd (no_more (modules_of w) i m (omega (arith, q, l, length-map w.modules.items module_view)) e))
        (λ ne. is.read i m (omega (arith, h, ne)) e) (cases_eq i index);
  }

  -- what was read stays read
  read_on : (s : Setting) (old new : program.Walk) (n : ℕ) → n ≤ length (modules_of old) → Grows old new → AreRead H s old n → AreRead H s new n
  read_on s old new n l g read i m h e =
      let d = slice_get-get_or (modules_of old) i m (omega (arith, h, l)) in
      let same : get_or (modules_of old) i m ≡ m = let z = g.modules i (get_or (modules_of old) i m) d in cc in
      let r = read i m h (d ∙ ap Some same) in
      (r.0, met_on g r.0.words r.1)

  -- the imports of the module at a place are written there
  pub one_read : (s : Setting) (entry : Source) (old now new : program.Walk) (index : ℕ) (before after : program_module.Module)
      → IsWalked H s entry old index → IsWalk H s entry now → Grows old now → index < length (modules_of old) → IsReadAt H s old now index (map import_view after.imports.items)
      → slice_get now.modules.items index ≡ Some before → new.modules.items ≡ set now.modules.items index after → source_view after ≡ source_view before
      → new.known ≡ now.known → new.entry ≡ now.entry → IsWalked H s entry new (index + 1)
  one_read s entry old now new index before after was is g l r there put same known entry_same =
      let written : modules_of new ≡ set (modules_of now) index (module_view after) = ap (map module_view) put ∙ map-set module_view now.modules.items index after in
      let there_view : slice_get (modules_of now) index ≡ Some (module_view before) = slice_get-map module_view now.modules.items index ∙ ap (option_map module_view) there in
      let all : walk_sources new ≡ walk_sources now =
      ap sources written ∙ same_map (λ (m : Module). m.source) (modules_of now) index (module_view before) (module_view after) there_view same in
      record {
        walk = record {
          walk = subst (λ ks. IsWalkOf H s entry (walk_sources new) (known_at ks)) (sym known) (subst (λ xs. IsWalkOf H s entry xs (known_at now.known)) (sym all) is.walk);
          entry_is = entry_same ∙ is.entry_is;
        };
        read = λ i m h e. ⊎_elim
            (λ q. let here : module_view after ≡ m = get_same (modules_of now) index (module_view after) m (subst (λ j. slice_get (set (modules_of now) index (module_view after)) j ≡ Some m) q (subst (λ xs. slice_get xs i ≡ Some m) written e)) in
            subst (λ x. (r : IsRead H s x) × AreMet new r.words) here (here_read there_view))
            (λ ne. let r = read_on s old now index (omega (arith, l)) g was.read i m (omega (arith, h, ne)) (sym (get_other (modules_of now) index (module_view after) i ne) ∙ subst (λ xs. slice_get xs i ≡ Some m) written e) in
            (r.0, λ x c. subst (λ ks. IsSome (known_at ks x.text)) (sym known) (r.1 x c)))
            (cases_eq i index);
      }
    where
      here_read : slice_get (modules_of now) index ≡ Some (module_view before) → (r : IsRead H s (module_view after)) × AreMet new r.words
      here_read there_view =
          let d = slice_get-get_or (modules_of old) index (module_view before) l in
          let first : get_or (modules_of old) index (module_view before) ≡ module_view before = let z = g.modules index (get_or (modules_of old) index (module_view before)) d in cc in
          let at : slice_get (modules_of old) index ≡ Some (module_view before) = d ∙ ap Some first in (
            record {
              words = r.words;
              has = subst (λ z. Imports H z r.words) (sym same) (r.has (module_view before) at);
              only = λ others o. r.only (module_view before) at others (subst (λ z. Imports H z others) same o);
              imports = r.found;
            },
            λ x c. subst (λ ks. IsSome (known_at ks x.text)) (sym known) (r.met x c),
          )

  -- the module at a place, as it is seen
  view_at : (w : program.Walk) (index : ℕ) (m : program_module.Module) (x : Module) → index < length w.modules.items → m ≡ get_or w.modules.items index m → slice_get (modules_of w) index ≡ Some x
      → x ≡ module_view m
  view_at w index m x l is e =
      let a = sym e ∙ slice_get-map module_view w.modules.items index ∙ ap (option_map module_view) (slice_get-get_or w.modules.items index m l ∙ ap Some (sym is)) in cc

  -- the imports of the module at a place are told
  pub read_at : (s : Setting) (old now : program.Walk) (index : ℕ) (m : program_module.Module) (imports : List program_import.Import) (left : List written.Written) (all : List Word)
      → index < length old.modules.items → m ≡ get_or old.modules.items index m → Imports H (source_view m) all → ((others : List Word) → Imports H (source_view m) others → others ≡ all)
      → words_done imports ++ words_left left ≡ all → length left ≡ 0 → AreMet now (words_done imports) → Right s imports → IsReadAt H s old now index (map import_view imports)
  read_at s old now index m imports left all l is has only e none met right =
      let done : words_done imports ≡ all = none_left imports left all e none in
      record {
        words = all;
        has = λ x h. subst (λ (z : Module). Imports H z.source all) (sym (view_at old index m x l is h)) has;
        only = λ x h others o. only others (subst (λ (z : Module). Imports H z.source others) (view_at old index m x l is h) o);
        found = right ∙ ap (imports_found s) done;
        met = subst (AreMet now) done met;
      }

-- a place of a walk is a place of the later walk
pub grows_within : (old new : program.Walk) (index : ℕ) → Grows old new → index < length old.modules.items → index < length new.modules.items
grows_within old new index g l =
    let r = item_at (modules_of old) index (omega (arith, l, length-map old.modules.items module_view)) in
    omega (arith, slice_get_within (modules_of new) index r.0 (g.modules index r.0 r.1), length-map new.modules.items module_view)
