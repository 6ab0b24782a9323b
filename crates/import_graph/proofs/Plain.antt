-- What holds of the walk whatever the files hold.
use Rattle.std.proofs.Common.{◌≡◌, ℕ, zero, suc, List, [], ◌∷◌, ◌++◌, map, set, Some, None}
use Rattle.std.proofs.Common.{Bool, true, false, if◌then◌else◌, refl, sym, ap, ◌∙◌, subst, arith}
use Rattle.std.specs.Prelude.{slice_get, option_map}
use Rattle.std.specs.List.{All, Contains, list_any}
use Rattle.std.specs.Str.{bytes_eq, IsUtf8}
use Rattle.std.specs.declared.alloc.Global.{Global}
use Rattle.std.specs.declared.vec.Vec.{Vec}
use Rattle.std.proofs.lemmas.List.{map-append, map-set}
use Rattle.std.proofs.lemmas.List.Elements.{All-nil, All-cons, All-append, All-push, All-set, All-contains}
use Rattle.std.proofs.lemmas.Option.{slice_get-map}
use Rattle.std.proofs.lemmas.Slice.Eq.{bytes_eq-Decides}
use Rattle.import_graph.specs.Places as place
use Rattle.import_graph.specs.Places.{Place, Fits, FileFits}
use Rattle.import_graph.specs.Modules.{Located, Nowhere, InCore, InFile, Several, Source, Module, located_by, kind_of}
use Rattle.import_graph.specs.Modules.{sources}
use Rattle.import_graph.specs.Plain.{IsPlain, IsPlainImport, names_of}
use Rattle.import_graph.specs.ModuleWalkView.{import_view, source_view, module_view, with_imports}
use Rattle.import_graph.specs.Walk.{known_at, source_of, modules_of, walk_sources, added, Grows, IsPlainPlace, IsPlainFound}
use Rattle.import_graph.specs.Walk.{IsPlainWalk}
use Rattle.import_graph.specs.declared.found.Found.{Found}
use Rattle.import_graph.specs.declared.found.Found.TheVariants as kind
use Rattle.import_graph.specs.declared.walk.Import as program_import
use Rattle.import_graph.specs.declared.walk.Module as program_module
use Rattle.import_graph.specs.declared.walk.Walk as program
use Rattle.import_graph.proofs.Lists.{module_there, same_map}

abbrev Names : Type 0
Names = List (List ℕ)

-- ---- the module of a name

pub plain_place : (name : List ℕ) (p : Place) → IsUtf8 name → FileFits p → IsPlainPlace name p
plain_place name place.Nowhere u f = tt
plain_place name (place.At path text) u f = (u, f)
plain_place name place.Several u f = tt

pub plain_found : (core : Names) (name : List ℕ) (b : Bool) (p : Place) → list_any (bytes_eq name) core ≡ b
    → IsPlainPlace name p → IsPlainFound core name (located_by b p)
plain_found core name false place.Nowhere e f = tt
plain_found core name false (place.At path text) e f = (f.0, e, f.1)
plain_found core name false place.Several e f = tt
plain_found core name true place.Nowhere e f = e
plain_found core name true (place.At path text) e f = tt
plain_found core name true place.Several e f = tt

core_found : (core : Names) (name : List ℕ) (l : Located) → IsPlainFound core name l → kind_of l ≡ kind.Core
    → list_any (bytes_eq name) core ≡ true
core_found core name Nowhere f e = absurd cc
core_found core name InCore f e = f
core_found core name (InFile path text) f e = absurd cc
core_found core name Several f e = absurd cc

plain_added : (core : Names) (entry name : List ℕ) (l : Located) → IsPlainFound core name l
    → All (IsPlain core) (added entry name l)
plain_added core entry name Nowhere f = All-nil (IsPlain core)
plain_added core entry name InCore f = All-nil (IsPlain core)
plain_added core entry name Several f = All-nil (IsPlain core)
plain_added core entry name (InFile path text) f = at (bytes_eq name entry)
  where
    one : Module
    one = record { source = source_of name path text; imports = [] }

    is : IsPlain core one
    is = record { name = f.0; not_core = f.1; text = f.2; imports = All-nil (IsPlainImport core) }

    at : (b : Bool) → All (IsPlain core) (if b then [] else one ∷ [])
    at true = All-nil (IsPlain core)
    at false = All-cons (IsPlain core) one [] is (All-nil (IsPlain core))

-- ---- a name is met

pub plain_met : (core : Names) (old new : program.Walk) (x : List ℕ) (f : Found) (l : Located)
    → IsPlainFound core x l → f ≡ kind_of l
    → ((y : List ℕ) → known_at new.known y ≡ (if bytes_eq x y then Some f else known_at old.known y))
    → modules_of new ≡ modules_of old ++ added old.entry x l → IsPlainWalk core old → IsPlainWalk core new
plain_met core old new x f l is kind_is update modules w = record {
  modules = subst (All (IsPlain core)) (sym modules)
      (All-append (IsPlain core) (modules_of old) (added old.entry x l) w.modules (plain_added core old.entry x l is));
  known = λ y e. at y (bytes_eq x y) refl e;
}
  where
    at : (y : List ℕ) (b : Bool) → bytes_eq x y ≡ b → known_at new.known y ≡ Some kind.Core
        → list_any (bytes_eq y) core ≡ true
    at y true q e =
        let h : known_at new.known y ≡ Some f = update y ∙ ap (λ b. if b then Some f else known_at old.known y) q in
        let k : f ≡ kind.Core = cc in
        subst (λ z. list_any (bytes_eq z) core ≡ true) ((bytes_eq-Decides x y).0 q)
        (core_found core x l is (sym kind_is ∙ k))
    at y false q e =
        let h : known_at new.known y ≡ known_at old.known y =
        update y ∙ ap (λ b. if b then Some f else known_at old.known y) q in
        w.known y (sym h ∙ e)

-- the imports so far, after one more
pub plain_more : (core : Names) (old now next : program.Walk) (done : List program_import.Import)
    (i : program_import.Import)
    → (IsPlainWalk core old → IsPlainWalk core now × All (IsPlainImport core) (map import_view done))
    → (IsPlainWalk core now → IsPlainWalk core next) → known_at next.known i.name ≡ Some i.found → IsPlainWalk core old
    → IsPlainWalk core next × All (IsPlainImport core) (map import_view (done ++ i ∷ []))
plain_more core old now next done i f g known w =
    let h = f w in
    let n = g h.0 in (
      n,
      subst (All (IsPlainImport core)) (sym (map-append import_view done (i ∷ [])))
          (All-push (IsPlainImport core) (map import_view done) (import_view i) h.1
          (λ e. n.known i.name (known ∙ ap Some e))),
    )

-- ---- places

source_at : (ms : List Module) (i : ℕ) (x : Module) → slice_get ms i ≡ Some x → Contains (sources ms) x.source
source_at [] i x e = absurd cc
source_at (y ∷ ys) zero x e = let h : y ≡ x = cc in (zero, omega arith, ap (λ (z : Module). z.source) h)
source_at (y ∷ ys) (suc i) x e = let c = source_at ys i x e in (suc c.0, omega (arith, c.1), c.2)

module_at : (ms : List Module) (i : ℕ) (x : Module) → slice_get ms i ≡ Some x → Contains ms x
module_at [] i x e = absurd cc
module_at (y ∷ ys) zero x e = let h : y ≡ x = cc in (zero, omega arith, h)
module_at (y ∷ ys) (suc i) x e = let c = module_at ys i x e in (suc c.0, omega (arith, c.1), c.2)

-- the name of a module that is among others is among theirs
pub name_there : (ms : List Module) (m : Source) → Contains (sources ms) m → Contains (names_of ms) m.name
name_there ms m c =
    let t = module_there ms m c in
    subst (λ (s : Source). Contains (names_of ms) s.name) t.4 (at ms t.0 t.1 t.3)
  where
    at : (ms : List Module) (i : ℕ) (x : Module) → slice_get ms i ≡ Some x → Contains (names_of ms) x.source.name
    at [] i x e = absurd cc
    at (y ∷ ys) zero x e = let h : y ≡ x = cc in (zero, omega arith, ap (λ (z : Module). z.source.name) h)
    at (y ∷ ys) (suc i) x e = let c = at ys i x e in (suc c.0, omega (arith, c.1), c.2)

-- ---- the imports of a module are written

-- the walk with these imports at a place
pub record IsPut (now new : program.Walk) (index : ℕ) (before : program_module.Module)
    (imports : Vec program_import.Import Global) : Type 0 where
  pub there : slice_get now.modules.items index ≡ Some before
  pub put : new.modules.items ≡ set now.modules.items index (with_imports before imports)
  pub known : new.known ≡ now.known

view_there : (now new : program.Walk) (index : ℕ) (before : program_module.Module)
    (imports : Vec program_import.Import Global) → IsPut now new index before imports
    → slice_get (modules_of now) index ≡ Some (module_view before)
view_there now new index before imports p =
    slice_get-map module_view now.modules.items index ∙ ap (option_map module_view) p.there

view_put : (now new : program.Walk) (index : ℕ) (before : program_module.Module)
    (imports : Vec program_import.Import Global) → IsPut now new index before imports
    → modules_of new ≡ set (modules_of now) index (module_view (with_imports before imports))
view_put now new index before imports p =
    ap (map module_view) p.put ∙ map-set module_view now.modules.items index (with_imports before imports)

pub plain_put : (core : Names) (old now new : program.Walk) (index : ℕ) (before : program_module.Module)
    (imports : Vec program_import.Import Global) → IsPut now new index before imports
    → (IsPlainWalk core old → IsPlainWalk core now × All (IsPlainImport core) (map import_view imports.items))
    → IsPlainWalk core old → IsPlainWalk core new
plain_put core old now new index before imports p f w =
    let h = f w in
    let was = All-contains (IsPlain core) (modules_of now) (module_view before) h.0.modules
    (module_at (modules_of now) index (module_view before) (view_there now new index before imports p)) in
    record {
      modules = subst (All (IsPlain core)) (sym (view_put now new index before imports p))
          (All-set (IsPlain core) (modules_of now) index (module_view (with_imports before imports))
          (record { name = was.name; not_core = was.not_core; text = was.text; imports = h.1 }) h.0.modules);
      known = λ x e. h.0.known x (subst (λ ks. known_at ks x ≡ Some kind.Core) p.known e);
    }

-- the walk has the files that it had
pub sources_put : (old now new : program.Walk) (index : ℕ) (before : program_module.Module)
    (imports : Vec program_import.Import Global) → Grows old now → IsPut now new index before imports → (m : Source)
    → Contains (walk_sources old) m → Contains (walk_sources new) m
sources_put old now new index before imports g p m c =
    let t = module_there (modules_of old) m c in
    let there = source_at (modules_of now) t.0 t.1 (g.modules t.0 t.1 t.3) in
    let same : walk_sources new ≡ walk_sources now =
    ap sources (view_put now new index before imports p)
    ∙ same_map (λ (x : Module). x.source) (modules_of now) index (module_view before)
    (module_view (with_imports before imports)) (view_there now new index before imports p) refl in
    subst (λ ss. Contains ss m) (sym same)
    (subst (λ (s : Source). Contains (walk_sources now) s) t.4 there)

-- ---- the walk at its beginning

pub plain_begins : (core : Names) (w : program.Walk) (first : program_module.Module) → IsPlain core (module_view first)
    → w.modules.items ≡ first ∷ [] → ((x : List ℕ) → known_at w.known x ≡ None) → IsPlainWalk core w
plain_begins core w first is ms none = record {
  modules = subst (λ xs. All (IsPlain core) (map module_view xs)) (sym ms)
      (All-cons (IsPlain core) (module_view first) [] is (All-nil (IsPlain core)));
  known = λ x e. absurd (let z = sym (none x) ∙ e in cc);
}

pub first_begins : (w : program.Walk) (first : program_module.Module) → w.modules.items ≡ first ∷ []
    → Contains (walk_sources w) (source_view first)
first_begins w first ms =
    subst (λ xs. Contains (sources (map module_view xs)) (source_view first)) (sym ms) (zero, omega arith, refl)
