-- Names with variables come into scope.
use Rattle.std.proofs.Common.{◌≡◌, ℕ, zero, suc, ◌+◌, List, [], ◌∷◌, ◌++◌, length, map, Some, sym, ap, subst}
use Rattle.std.proofs.Common.{arith}
use Rattle.std.specs.Prelude.{flat_map, slice_get}
use Rattle.std.specs.List.{AllByRecursion, AllZip, enumerate_from, range_with_len}
use Rattle.type_items.specs.Items.{Place, child, at}
use Rattle.type_items.specs.Scopes.{Mono, Instance, General, Entries, Known, Scope, with_names}
use Rattle.type_items.specs.Definitions.{Definition}
use Rattle.type_store.specs.Store.{Store}
use Rattle.type_walks.specs.Links.{Links, Live, Has, Tells}
use Rattle.type_walks.specs.Walks.{Around}
use Rattle.type_walks.specs.TypeCopiesLaws.{SaysWithMore}
use Rattle.infer_steps.specs.Codes.{Code, One, with_meaning}
use Rattle.infer_steps.specs.Ready.{IsReady}
use Rattle.infer_steps.specs.Means.{Means}
use Rattle.infer_steps.proofs.Entering.{ready_enters, enters_one}
use Rattle.infer_groups.specs.Members.{Named, with_named, AreNamed, variables_of, AreTitled}

pub readies_named : (code : Code) (d : ℕ) (s : Store) (names : List Named)
    → AllByRecursion (λ (n : Named). Live d s n.1) names
    → IsReady code d s → IsReady (with_named names code) d s
readies_named code d s [] live ready = ready
readies_named code d s (n ∷ ns) live ready =
    ready_enters (with_named ns code) d s n.0 (One n.1) (readies_named code d s ns live.1 ready) live.0

pub record NamedMeans (a : Around) (links : Links) (code : Code) (scope : Scope) (s : Store) : Type 0 where
  pub all : Links
  pub tells : Tells links all
  pub means : Means a all code scope s

module _ (says_with_more : SaysWithMore) (a : Around) (links named : Links) (code : Code) (scope : Scope) (s : Store)
    (tells : Tells links named)
    (means : Means a named code scope s) where
  pub names_mean : (names : List Named) (entries : Entries) → AllByRecursion (λ (n : Named). Live a.depth s n.1) names
      → AreNamed links names entries → NamedMeans a links (with_named names code) (with_names entries scope) s
  names_mean [] [] live h = record { all = named; tells = tells; means = means }
  names_mean [] (e ∷ es) live h = absurd h
  names_mean (n ∷ ns) [] live h = absurd h
  names_mean (n ∷ ns) ((x, Mono t) ∷ es) live h =
      let rest = names_mean ns es live.1 h.1 in
      let one = enters_one says_with_more a rest.all (with_named ns code) (with_names es scope) s n.0 n.1 t live.0
      rest.means in
      record {
        all = (n.1, t) ∷ rest.all;
        tells = record { each = λ σ types l. (h.0.1.same σ types l, rest.tells.each σ types l) };
        means =
            subst (λ y. Means a ((n.1, t) ∷ rest.all) (with_meaning n.0 (One n.1) (with_named ns code))
            (with_names ((y, Mono t) ∷ []) (with_names es scope)) s) (sym h.0.0) one;
      }
  names_mean (n ∷ ns) ((x, Instance scheme) ∷ es) live h = absurd h.0.1
  names_mean (n ∷ ns) ((x, General list type) ∷ es) live h = absurd h.0.1

-- definitions with titles have one name each, of the variable of their place
pub titles_named : (links : Links) (known : Known) (p : Place) (i : ℕ) (names : List Named) (ds : List Definition)
    → AreTitled names ds
    → AllZip (Has links) (variables_of names)
    (map (λ j. at (child p j)) (range_with_len i (length (variables_of names))))
    → AreNamed links names (flat_map (λ (d : ℕ × Definition). d.1.types known (child p d.0) (at (child p d.0)))
    (enumerate_from i ds))
titles_named links known p i [] [] titled has = tt
titles_named links known p i [] (d ∷ ds) titled has = absurd titled
titles_named links known p i (n ∷ ns) [] titled has = absurd titled
titles_named links known p i (n ∷ ns) (d ∷ ds) titled has =
    let rest = flat_map (λ (d : ℕ × Definition). d.1.types known (child p d.0) (at (child p d.0)))
    (enumerate_from (i + 1) ds) in
    subst (λ (x : Definition). AreNamed links (n ∷ ns) (x.types known (child p i) (at (child p i)) ++ rest))
    (sym titled.0.is)
    ((titled.0.name, has.0), titles_named links known p (i + 1) ns ds titled.1 has.1)

-- ---- at a place of a list

pub child_has : (links : Links) (p : Place) (vs : List ℕ) (i k j : ℕ) (v : ℕ)
    → AllZip (Has links) vs (map (λ j. at (child p j)) (range_with_len i (length vs))) → slice_get vs k ≡ Some v → i + k
    ≡ j
    → Has links v (at (child p j))
child_has links p [] i k j v h is e = absurd cc
child_has links p (w ∷ ws) i zero j v h is e =
    let same : w ≡ v = cc in
    let there : i ≡ j = omega arith in
    subst (λ m. Has links v (at (child p m))) there (subst (λ x. Has links x (at (child p i))) same h.0)
child_has links p (w ∷ ws) i (suc k) j v h is e = child_has links p ws (i + 1) k j v h.1 is (omega arith)

pub variable_at : (names : List Named) (k : ℕ) (n : Named) → slice_get names k ≡ Some n
    → slice_get (variables_of names) k ≡ Some n.1
variable_at [] k n is = absurd cc
variable_at (m ∷ ms) zero n is = let same : m ≡ n = cc in ap (λ (x : Named). Some x.1) same
variable_at (m ∷ ms) (suc k) n is = variable_at ms k n is
