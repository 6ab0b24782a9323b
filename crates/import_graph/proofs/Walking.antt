-- One more name is met.
use Rattle.std.proofs.Common.{◌≡◌, ◌≢◌, ℕ, suc, List, [], ◌∷◌, ◌++◌, Option, Some, None, ◌⊎◌, inl, inr, ⊎_elim}
use Rattle.std.proofs.Common.{Bool, true, false, if◌then◌else◌, refl, sym, ap, ◌∙◌, subst, arith}
use Rattle.std.specs.List.{Contains}
use Rattle.std.specs.Prelude.{slice_get}
use Rattle.std.specs.Str.{bytes_eq}
use Rattle.std.proofs.lemmas.List.{map-append, append-nil}
use Rattle.std.proofs.lemmas.List.Elements.{Contains-push, Contains-push_cases, Contains-append_left}
use Rattle.std.proofs.lemmas.Bool.{false≢true}
use Rattle.std.proofs.lemmas.Slice.Eq.{bytes_eq-Decides}
use Rattle.import_graph.specs.Modules.{Word}
use Rattle.import_graph.specs.Modules.{Setting, Located, Nowhere, InCore, InFile, Several, Source, Module, IsReached, imported, AreApart}
use Rattle.import_graph.specs.Modules.{located, kind_of, sources}
use Rattle.import_graph.specs.Walk.{known_at, source_of, modules_of, walk_sources, added, IsImported, HasModule, IsWalkOf, IsWalk, Meets, again, first, Grows}
use Rattle.import_graph.proofs.Lists.{get_front}
use Rattle.import_graph.specs.declared.found.Found.{Found}
use Rattle.import_graph.specs.declared.found.Found.TheVariants as kind
use Rattle.import_graph.specs.declared.walk.Walk as program

abbrev Knows : Type 0
Knows = List ℕ → Option Found

-- what is known after one more name
record Learns (known new : Knows) (x : List ℕ) (f : Found) : Type 0 where
  update : (y : List ℕ) → new y ≡ (if bytes_eq x y then Some f else known y)

learned : {known new : Knows} {x : List ℕ} {f : Found} → Learns known new x f → new x ≡ Some f
learned {known} {new} {x} {f} u = u.update x ∙ ap (λ b. if b then Some f else known x) ((bytes_eq-Decides x x).1 refl)

learned_cases : {known new : Knows} {x : List ℕ} {f : Found} → Learns known new x f → (y : List ℕ) (k : Found) → new y ≡ Some k → ((x ≡ y) × (k ≡ f)) ⊎ (known y ≡ Some k)
learned_cases {known} {new} {x} {f} u y k e = at (bytes_eq x y) refl
  where
    at : (b : Bool) → bytes_eq x y ≡ b → ((x ≡ y) × (k ≡ f)) ⊎ (known y ≡ Some k)
    at true q = let h : new y ≡ Some f = u.update y ∙ ap (λ b. if b then Some f else known y) q in inl ((bytes_eq-Decides x y).0 q, cc)
    at false q = let h : new y ≡ known y = u.update y ∙ ap (λ b. if b then Some f else known y) q in inr (sym h ∙ e)

-- what was known stays
learned_keeps : {known new : Knows} {x : List ℕ} {f : Found} → Learns known new x f → known x ≡ None → (y : List ℕ) (k : Found) → known y ≡ Some k → new y ≡ Some k
learned_keeps {known} {new} {x} {f} u none y k e = at (bytes_eq x y) refl
  where
    at : (b : Bool) → bytes_eq x y ≡ b → new y ≡ Some k
    at true q = let h : x ≡ y = (bytes_eq-Decides x y).0 q in absurd (let z : known y ≡ None = subst (λ w. known w ≡ None) h none in cc)
    at false q = u.update y ∙ ap (λ b. if b then Some f else known y) q ∙ e

-- ---- one more module

apart_more : (ms : List Source) (m : Source) → AreApart ms → ((other : Source) → Contains ms other → other.name ≢ m.name) → AreApart (ms ++ m ∷ [])
apart_more [] m a f = ((λ other c. absurd (omega (arith, c.1))), tt)
apart_more (x ∷ xs) m a f = (
  (λ other c. ⊎_elim (λ k. a.0 other k) (λ e. subst (λ o. x.name ≢ o.name) e (f x (0, omega arith, refl))) (Contains-push_cases xs m other c)),
  apart_more xs m a.1 (λ other c. f other (suc c.0, omega (arith, c.1), c.2)),
)

more_modules : (s : Setting) (entry : Source) (ms : List Source) (m : Source) (x : List ℕ) → HasModule s entry ms x → HasModule s entry (ms ++ m ∷ []) x
more_modules s entry ms m x (inl e) = inl e
more_modules s entry ms m x (inr h) = inr (h.0, h.1, h.2, Contains-append_left ms (m ∷ []) (source_of x h.0 h.1) h.3)

-- by what texts import
module _ (H : List ℕ → List Word → Type 0) where
  module _ (s : Setting) (entry : Source) (ms : List Source) (known new : Knows) (x : List ℕ) (w : IsWalkOf H s entry ms known) (none : known x ≡ None) where
    -- the name has no file of its own, or is the entry's
    learns_kind : (f : Found) → Learns known new x f → f ≡ kind_of (located s x) → (f ≡ kind.File → x ≡ entry.name) → IsWalkOf H s entry ms new
    learns_kind f u is own = record {
      first = w.first;
      right = λ y k e. ⊎_elim (λ p. p.1 ∙ is ∙ ap (λ z. kind_of (located s z)) p.0) (λ q. w.right y k q) (learned_cases u y k e);
      placed = λ y e. ⊎_elim (λ p. inl (sym p.0 ∙ own (sym p.1))) (λ q. w.placed y q) (learned_cases u y kind.File e);
      named = λ m c. ⊎_elim inl (λ q. inr (learned_keeps u none m.name kind.File q)) (w.named m c);
      reached = w.reached;
      apart = w.apart;
    }

    -- the name has a file of its own
    learns_file : (path : List ℕ) (text : Option (List ℕ)) → Learns known new x kind.File → located s x ≡ InFile path text → x ≢ entry.name → IsImported H s entry x
        → IsWalkOf H s entry (ms ++ source_of x path text ∷ []) new
    learns_file path text u is other by =
        let m = source_of x path text in
        record {
          first = Contains-append_left ms (m ∷ []) entry w.first;
          right = λ y k e. ⊎_elim (λ p. p.1 ∙ sym (ap kind_of is) ∙ ap (λ z. kind_of (located s z)) p.0) (λ q. w.right y k q) (learned_cases u y k e);
          placed = λ y e. ⊎_elim
              (λ p. inr (path, text, subst (λ z. located s z ≡ InFile path text) p.0 is, subst (λ z. Contains (ms ++ m ∷ []) (source_of z path text)) p.0 (Contains-push ms m)))
              (λ q. more_modules s entry ms m y (w.placed y q)) (learned_cases u y kind.File e);
          named = λ o c. ⊎_elim (λ k. ⊎_elim inl (λ q. inr (learned_keeps u none o.name kind.File q)) (w.named o k))
              (λ e. inr (subst (λ z. new z ≡ Some kind.File) (ap (λ (z : Source). z.name) e) (learned u))) (Contains-push_cases ms m o c);
          reached = λ o c. ⊎_elim (λ k. w.reached o k) (λ e. subst (IsReached H s entry) e reached_it) (Contains-push_cases ms m o c);
          apart = apart_more ms m w.apart (λ o c e. ⊎_elim (λ q. other (sym e ∙ q)) (λ q. let z : known x ≡ Some kind.File = subst (λ y. known y ≡ Some kind.File) e q in cc) (w.named o c));
        }
      where
        reached_it : IsReached H s entry (source_of x path text)
        reached_it =
            subst (λ y. IsReached H s entry (source_of y path text)) by.is
            (imported by.words by.word by.reached by.imports by.among (λ e. other (sym by.is ∙ e)) (subst (λ y. located s y ≡ InFile path text) (sym by.is) is))

  -- by where the name is found
  learns_by : (s : Setting) (entry : Source) (ms : List Source) (known new : Knows) (x : List ℕ) (l : Located) → IsWalkOf H s entry ms known → known x ≡ None
      → located s x ≡ l → Learns known new x (kind_of l) → IsImported H s entry x → IsWalkOf H s entry (ms ++ sources (added entry.name x l)) new
  learns_by s entry ms known new x Nowhere w none is u by =
      subst (λ xs. IsWalkOf H s entry xs new) (sym (append-nil ms)) (learns_kind s entry ms known new x w none kind.Nowhere u (sym (ap kind_of is)) (λ e. absurd (cc)))
  learns_by s entry ms known new x InCore w none is u by =
      subst (λ xs. IsWalkOf H s entry xs new) (sym (append-nil ms)) (learns_kind s entry ms known new x w none kind.Core u (sym (ap kind_of is)) (λ e. absurd (cc)))
  learns_by s entry ms known new x Several w none is u by =
      subst (λ xs. IsWalkOf H s entry xs new) (sym (append-nil ms)) (learns_kind s entry ms known new x w none kind.Several u (sym (ap kind_of is)) (λ e. absurd (cc)))
  learns_by s entry ms known new x (InFile path text) w none is u by = at (bytes_eq x entry.name) refl
    where
      with_added : Bool → List Source
      with_added b = ms ++ sources (if b then [] else (record { source = source_of x path text; imports = [] }) ∷ [])

      at : (b : Bool) → bytes_eq x entry.name ≡ b → IsWalkOf H s entry (ms ++ sources (added entry.name x (InFile path text))) new
      at true q =
          subst (λ b. IsWalkOf H s entry (ms ++ sources (if b then [] else (record { source = source_of x path text; imports = [] }) ∷ [])) new) (sym q)
          (subst (λ xs. IsWalkOf H s entry xs new) (sym (append-nil ms)) (learns_kind s entry ms known new x w none kind.File u (sym (ap kind_of is)) (λ e. (bytes_eq-Decides x entry.name).0 q)))
      at false q =
          subst (λ b. IsWalkOf H s entry (ms ++ sources (if b then [] else (record { source = source_of x path text; imports = [] }) ∷ [])) new) (sym q)
          (learns_file s entry ms known new x w none path text u is (λ e. false≢true (sym q ∙ (bytes_eq-Decides x entry.name).1 e)) by)

  -- the walk that has met one more name
  pub walk_meets : (s : Setting) (entry : Source) (old new : program.Walk) (x : List ℕ) → Meets s old new x → IsWalk H s entry old → IsImported H s entry x → IsWalk H s entry new
  walk_meets s entry old new x (again some same) w by = subst (IsWalk H s entry) (sym same) w
  walk_meets s entry old new x (first none update modules same) w by =
      let learns : Learns (known_at old.known) (known_at new.known) x (kind_of (located s x)) = record { update = update } in
      let all : walk_sources new ≡ walk_sources old ++ sources (added entry.name x (located s x)) =
      ap sources (modules ∙ ap (λ e. modules_of old ++ added e x (located s x)) w.entry_is) ∙ map-append (λ (m : Module). m.source) (modules_of old) (added entry.name x (located s x)) in
      record {
        walk = subst (λ xs. IsWalkOf H s entry xs (known_at new.known)) (sym all) (learns_by s entry (walk_sources old) (known_at old.known) (known_at new.known) x (located s x) w.walk none refl learns by);
        entry_is = same ∙ w.entry_is;
      }

-- a name that is met for the first time
pub met_first : (s : Setting) (old new : program.Walk) (x : List ℕ) (f : Found) (l : Located) → l ≡ located s x → f ≡ kind_of l → known_at old.known x ≡ None
    → ((y : List ℕ) → known_at new.known y ≡ (if bytes_eq x y then Some f else known_at old.known y))
    → modules_of new ≡ modules_of old ++ added old.entry x l → new.entry ≡ old.entry → Meets s old new x
met_first s old new x f l is kind none update modules same =
    first none (λ y. update y ∙ ap (λ k. if bytes_eq x y then Some k else known_at old.known y) (kind ∙ ap kind_of is)) (modules ∙ ap (λ k. modules_of old ++ added old.entry x k) is) same

-- and the walk has all that it had
pub grows_first : (old new : program.Walk) (x : List ℕ) (f : Found) (more : List Module) → known_at old.known x ≡ None
    → ((y : List ℕ) → known_at new.known y ≡ (if bytes_eq x y then Some f else known_at old.known y)) → modules_of new ≡ modules_of old ++ more → Grows old new
grows_first old new x f more none update modules = record {
  known = λ y k e. learned_keeps {known = known_at old.known} {new = known_at new.known} {x = x} {f = f} (record { update = update }) none y k e;
  modules = λ i m e. subst (λ ms. slice_get ms i ≡ Some m) (sym modules) (get_front (modules_of old) more i m e);
}
