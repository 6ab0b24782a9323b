-- At the end of the walk all modules that the entry reaches were met.
use Rattle.std.proofs.Common.{◌≡◌, ◌≢◌, ℕ, zero, suc, ◌<◌, ◌≤◌, List, [], ◌∷◌, length, map, Option, Some, None, inl, inr}
use Rattle.std.proofs.Common.{refl, sym, ap, ◌∙◌, subst, arith}
use Rattle.std.specs.Prelude.{IsSome}
use Rattle.std.specs.List.{All, Contains}
use Rattle.std.proofs.lemmas.Bool.{false≢true}
use Rattle.std.proofs.lemmas.List.{length-map}
use Rattle.std.proofs.lemmas.Option.{slice_get-get_or}
use Rattle.std.proofs.Common.{get_or}
use Rattle.import_graph.specs.Modules.{Word}
use Rattle.import_graph.specs.Modules.{Setting, InFile, Source, Module, Imports, IsReached, itself, imported, IsWhole, AreReached, AreTooMany, located, kind_of, sources}
use Rattle.import_graph.specs.Walk.{known_at, source_of, modules_of, walk_sources, HasModule, IsWalk, AreRead, IsWalked, IsWalkOf}
use Rattle.import_graph.specs.ModuleWalkView.{module_view, source_view}
use Rattle.import_graph.specs.declared.walk.Module as program_module
use Rattle.import_graph.specs.declared.found.Found.{Found}
use Rattle.import_graph.specs.declared.found.Found.TheVariants as kind
use Rattle.import_graph.specs.declared.walk.Walk as program
use Rattle.import_graph.proofs.Lists.{module_there}

-- by what texts import
module _ (H : List ℕ → List Word → Type 0) where
  module _ (s : Setting) (entry : Source) (w : program.Walk) (is : IsWalk H s entry w) where
    -- a name that was met and that one file alone has is the entry's, or its module was met
    met_file : (x path : List ℕ) (text : Option (List ℕ)) → located s x ≡ InFile path text → IsSome (known_at w.known x) → x ≢ entry.name → Contains (walk_sources w) (source_of x path text)
    met_file x path text file some other = at (known_at w.known x) refl some
      where
        placed : HasModule s entry (walk_sources w) x → Contains (walk_sources w) (source_of x path text)
        placed (inl e) = absurd (other e)
        placed (inr h) = let e : InFile h.0 h.1 ≡ InFile path text = sym h.2 ∙ file in same h.0 h.1 h.3 e
          where
            same : (p : List ℕ) (t : Option (List ℕ)) → Contains (walk_sources w) (source_of x p t) → InFile p t ≡ InFile path text → Contains (walk_sources w) (source_of x path text)
            same p t c e = let a : p ≡ path = cc in let b : t ≡ text = cc in subst (λ z. Contains (walk_sources w) (source_of x z text)) a (subst (λ z. Contains (walk_sources w) (source_of x p z)) b c)

        at : (k : Option Found) → known_at w.known x ≡ k → IsSome k → Contains (walk_sources w) (source_of x path text)
        at None e h = absurd (false≢true h)
        at (Some k) e h = placed (is.walk.placed x (e ∙ ap Some (is.walk.right x k e ∙ ap kind_of file)))

    pub all_met : (n : ℕ) → AreRead H s w n → length (modules_of w) ≤ n → (m : Source) → IsReached H s entry m → Contains (walk_sources w) m
    all_met n read l m itself = is.walk.first
    all_met n read l m (imported {m = by} words word {path = path} {text = text} r imports among other file) =
        let t = module_there (modules_of w) by (all_met n read l by r) in
        let d = read t.0 t.1 (omega (arith, t.2, l)) t.3 in
        let words_are : words ≡ d.0.words = d.0.only words (subst (λ z. Imports H z words) (sym t.4) imports) in
        met_file word.text path text file (d.1 word (subst (λ ws. Contains ws word) words_are among)) other

    all_whole : (n : ℕ) → AreRead H s w n → length (modules_of w) ≤ n → All (IsWhole H s) (modules_of w)
    all_whole n read l = λ i d h. let r = (read i (get_or (modules_of w) i d) (omega (arith, h, l)) (slice_get-get_or (modules_of w) i d h)).0 in (r.words, r.has, r.imports)

    pub are_reached : (n : ℕ) → AreRead H s w n → length (modules_of w) ≤ n → AreReached H s entry (modules_of w)
    are_reached n read l = record {
      sound = is.walk.reached;
      whole = all_met n read l;
      apart = is.walk.apart;
      imports = all_whole n read l;
    }

    pub are_many : 4096 < length (modules_of w) → AreTooMany H s entry
    are_many l = record { some = walk_sources w; sound = is.walk.reached; apart = is.walk.apart; many = omega (arith, l, length-map (modules_of w) (λ (m : Module). m.source)) }

  -- the walk at its beginning
  pub begins : (s : Setting) (w : program.Walk) (first : program_module.Module) → w.entry ≡ first.name → w.modules.items ≡ first ∷ [] → ((x : List ℕ) → known_at w.known x ≡ None)
      → IsWalked H s (source_view first) w 0
  begins s w first e ms none = record {
    walk = record {
      walk = subst (λ xs. IsWalkOf H s (source_view first) (sources (map module_view xs)) (known_at w.known)) (sym ms) (record {
        first = (0, omega arith, refl);
        right = λ x k h. absurd (nothing x k h);
        placed = λ x h. absurd (nothing x kind.File h);
        named = λ m c. inl (only m c (λ z. z.name ≡ first.name) refl);
        reached = λ m c. only m c (IsReached H s (source_view first)) itself;
        apart = ((λ other c. absurd (omega (arith, c.1))), tt);
      });
      entry_is = e;
    };
    read = λ i m l h. absurd (omega (arith, l));
  }
    where
      nothing : (x : List ℕ) (k : Found) → known_at w.known x ≡ Some k → ⊥
      nothing x k h = let z = sym (none x) ∙ h in cc

      only : (m : Source) → Contains (source_view first ∷ []) m → (P : Source → Type 0) → P (source_view first) → P m
      only m c P p = at c.0 c.1 c.2
        where
          at : (k : ℕ) → k < length (source_view first ∷ []) → get_or (source_view first ∷ []) k m ≡ m → P m
          at zero l q = subst P q p
          at (suc k) l q = absurd (omega (arith, l))
