-- The imports of one module are met, one after the other.
use Rattle.std.proofs.Common.{◌≡◌, ℕ, List, [], ◌∷◌, ◌++◌, length, map, Option, Some, None, ⊎_elim}
use Rattle.std.proofs.Common.{refl, sym, ap, ◌∙◌, subst, arith}
use Rattle.std.specs.Prelude.{IsSome, IfSome}
use Rattle.std.specs.List.{Contains}
use Rattle.std.proofs.lemmas.Bool.{false≢true}
use Rattle.std.proofs.lemmas.List.{map-append, append_assoc, append-nil}
use Rattle.std.proofs.lemmas.List.Elements.{Contains-push_cases, Contains-append_right}
use Rattle.import_graph.specs.Modules.{Word}
use Rattle.import_graph.specs.Words as words
use Rattle.import_graph.specs.declared.reader.Written as written
use Rattle.import_graph.specs.Modules.{Setting, Source, Import, located, kind_of, imports_found}
use Rattle.import_graph.specs.ModuleWalkView.{import_view}
use Rattle.import_graph.specs.Walk.{known_at, AreMet, Grows, AreImported, IsImported, IsWalk, Meets}
use Rattle.import_graph.proofs.Walking.{walk_meets}
use Rattle.import_graph.specs.declared.found.Found.{Found}
use Rattle.import_graph.specs.declared.walk.Import as program_import
use Rattle.import_graph.specs.declared.walk.Walk as program

-- the word of an import
abbrev pub word_view : program_import.Import → Word
word_view i = record { place = i.place; text = i.name }

abbrev pub words_done : List program_import.Import → List Word
words_done is = map word_view is

abbrev pub words_left : List written.Written → List Word
words_left is = map words.word_view is

-- facts that are there where a tree is told
pub both : {T : Type 0} (told : Option T) {P Q R : T → Type 0} → IfSome told P → IfSome told Q → ((t : T) → P t → Q t → R t) → IfSome told R
both None p q f = tt
both (Some t) p q f = f t p q

pub anyhow : {T : Type 0} (told : Option T) {P : T → Type 0} → ((t : T) → P t) → IfSome told P
anyhow None f = tt
anyhow (Some t) f = f t

pub grows_on : {a b c : program.Walk} → Grows a b → Grows b c → Grows a c
grows_on g h = record {
  known = λ x k e. h.known x k (g.known x k e);
  modules = λ i m e. h.modules i m (g.modules i m e);
}

pub grows_not : (a : program.Walk) → Grows a a
grows_not a = record { known = λ x k e. e; modules = λ i m e. e }

known_more : {a b : program.Walk} → Grows a b → (x : List ℕ) → IsSome (known_at a.known x) → IsSome (known_at b.known x)
known_more {a} {b} g x some = at (known_at a.known x) refl some
  where
    at : (k : Option Found) → known_at a.known x ≡ k → IsSome k → IsSome (known_at b.known x)
    at None e h = absurd (false≢true h)
    at (Some k) e h = subst IsSome (sym (g.known x k e)) refl

pub met_on : {a b : program.Walk} → Grows a b → (words : List Word) → AreMet a words → AreMet b words
met_on g words m = λ x c. known_more g x.text (m x c)

-- one more word is met
pub met_more : (w : program.Walk) (words : List Word) (x : Word) (k : Found) → AreMet w words → known_at w.known x.text ≡ Some k → AreMet w (words ++ x ∷ [])
met_more w words x k m e = λ y c. ⊎_elim (λ h. m y h) (λ h. subst (λ z. IsSome (known_at w.known z.text)) h (subst IsSome (sym e) refl)) (Contains-push_cases words x y c)

-- the words that are done and those that are left, after one more
pub one_done : (done : List program_import.Import) (i : program_import.Import) (left rest : List written.Written) (w : written.Written) (all : List Word)
    → words_done done ++ words_left left ≡ all → left ≡ w ∷ rest → word_view i ≡ words.word_view w → words_done (done ++ i ∷ []) ++ words_left rest ≡ all
one_done done i left rest w all e is same =
    ap (λ ws. ws ++ words_left rest) (map-append word_view done (i ∷ [])) ∙ append_assoc (words_done done) (word_view i ∷ []) (words_left rest)
    ∙ ap (λ x. words_done done ++ x ∷ words_left rest) same ∙ ap (λ l. words_done done ++ words_left l) (sym is) ∙ e

pub none_left : (done : List program_import.Import) (left : List written.Written) (all : List Word) → words_done done ++ words_left left ≡ all → length left ≡ 0 → words_done done ≡ all
none_left done [] all e l = sym (append-nil (words_done done)) ∙ e
none_left done (x ∷ left) all e l = absurd (omega (arith, l))

pub one_imported : (H : List ℕ → List Word → Type 0) (s : Setting) (entry : Source) (done : List Word) (left rest : List written.Written) (w : written.Written) (all : List Word)
    → AreImported H s entry all → done ++ words_left left ≡ all → left ≡ w ∷ rest → IsImported H s entry w.name
one_imported H s entry done left rest w all by e is = record {
  by = by.by;
  reached = by.reached;
  words = all;
  imports = by.imports;
  word = words.word_view w;
  among = subst (λ ws. Contains ws (words.word_view w)) e
      (Contains-append_right done (words_left left) (words.word_view w) (subst (λ l. Contains (words_left l) (words.word_view w)) (sym is) (0, omega arith, refl)));
  is = refl;
}

abbrev import_with : Word → Found → Import
import_with w k = record { word = w; found = k }

abbrev import_of : Setting → Word → Import
import_of s w = import_with w (kind_of (located s w.text))

-- one more import, with which modules have its name
pub right_more : (s : Setting) (done : List program_import.Import) (i : program_import.Import) → map import_view done ≡ imports_found s (words_done done)
    → i.found ≡ kind_of (located s i.name) → map import_view (done ++ i ∷ []) ≡ imports_found s (words_done (done ++ i ∷ []))
right_more s done i e is =
    map-append import_view done (i ∷ []) ∙ ap (λ is. is ++ import_view i ∷ []) e
    ∙ ap (λ k. imports_found s (words_done done) ++ import_with (word_view i) k ∷ []) is
    ∙ sym (ap (imports_found s) (map-append word_view done (i ∷ [])) ∙ map-append (import_of s) (words_done done) (word_view i ∷ []))

pub met_done : (w : program.Walk) (done : List program_import.Import) (i : program_import.Import) (k : Found) → AreMet w (words_done done) → known_at w.known i.name ≡ Some k
    → AreMet w (words_done (done ++ i ∷ []))
met_done w done i k m e = subst (AreMet w) (sym (map-append word_view done (i ∷ []))) (met_more w (words_done done) (word_view i) k m e)

-- the walk, and the imports so far
abbrev pub Right : Setting → List program_import.Import → Type 0
Right s done = map import_view done ≡ imports_found s (words_done done)

-- one more turn of the loop
pub loop_walk : (H : List ℕ → List Word → Type 0) (s : Setting) (m : Source) (now next : program.Walk) (done : List program_import.Import) (left rest : List written.Written)
    (w : written.Written) (all : List Word) (f : Found) → IsWalk H s m now × Right s done → AreImported H s m all → words_done done ++ words_left left ≡ all → left ≡ w ∷ rest
    → Meets s now next w.name → known_at next.known w.name ≡ Some f → IsWalk H s m next × Right s (done ++ (record { name = w.name; place = w.place; found = f }) ∷ [])
loop_walk H s m now next done left rest w all f is by e split meets known =
    let walk = walk_meets H s m now next w.name meets is.0 (one_imported H s m (words_done done) left rest w all by e split) in
    (walk, right_more s done (record { name = w.name; place = w.place; found = f }) is.1 (walk.walk.right w.name f known))
