-- How a crawl ends.
use Rattle.std.proofs.Common.{◌≡◌, ℕ, ◌≤◌, List, length, get_or, sym, subst, arith}
use Rattle.std.specs.List.{All, Contains}
use Rattle.std.proofs.lemmas.List.Elements.{All-contains, All-contains_itself, All-weaker, Contains-get_or}
use Rattle.elm_base.specs.declared.fault.Code.TheVariants.{EntryNotFound, TooManyModules}
use Rattle.elm_base.specs.declared.fault.Fault.{Fault}
use Rattle.decl_groups.proofs.Basics.{member_map, map_member}
use Rattle.import_graph.specs.Entry.{IsEntry, HasEntry}
use Rattle.import_graph.specs.Modules.{Setting, Word, Source, Module, sources, IsWhole, IsReached, AreReached}
use Rattle.import_graph.specs.ModuleWalkView.{HasReason}
use Rattle.import_graph.specs.declared.walk.ReachError.{ReachError}
use Rattle.import_graph.specs.declared.walk.ReachError.TheVariants as reach
use Rattle.import_graph.specs.Faults.{entry_fault}
use Rattle.import_graph.specs.Graph.{AreModules, names_of}
use Rattle.import_graph.specs.ModuleGraphView.{IsOf, HasEnd, IfRefused, IsEndOf}
use Rattle.import_graph.specs.declared.crawling.CrawlEnd.{CrawlEnd}
use Rattle.import_graph.specs.declared.crawling.CrawlEnd.TheVariants as end

-- ---- with modules

module _ (has_imports : List ℕ → List Word → Type 0) (s : Setting) (given ms : List Module) (is : IsOf given ms) where
  pub are_modules : (written : List ℕ) → length given ≤ 4096 → (m : Source) × IsEntry s written m × AreReached has_imports s m given → AreModules has_imports s written ms
  are_modules written l r = record {
    entry = r.0;
    is_entry = r.1;
    members = λ m. (sound m, whole m);
    imports = λ k d i. All-contains (IsWhole has_imports s) given (get_or ms k d) r.2.imports ((is.same r.2.apart (get_or ms k d)).0 (Contains-get_or ms k d i));
    numbered = record { ascend = is.ascend; few = omega (arith, l, is.few) };
  }
    where
      sound : (m : Source) → Contains (sources ms) m → IsReached has_imports s r.0 m
      sound m c =
          let x = map_member (λ (y : Module). y.source) ms m c in
          r.2.sound m (subst (Contains (sources given)) x.2 (member_map (λ (y : Module). y.source) given x.0 ((is.same r.2.apart x.0).0 x.1)))

      whole : (m : Source) → IsReached has_imports s r.0 m → Contains (sources ms) m
      whole m i =
          let x = map_member (λ (y : Module). y.source) given m (r.2.whole m i) in
          subst (Contains (sources ms)) x.2 (member_map (λ (y : Module). y.source) ms x.0 ((is.same r.2.apart x.0).1 x.1))

module _ (given ms : List Module) (is : IsOf given ms) where
  -- what holds of all that are given holds of each
  pub all_given : (P : Module → Type 0) → All P given → All P ms
  all_given P a =
      All-weaker (Contains ms) P (λ x c. All-contains P given x a (is.among x c)) ms (All-contains_itself ms)

  pub entry_given : (directories : List (List ℕ)) (written : List ℕ) → HasEntry directories written (names_of given)
      → HasEntry directories written (names_of ms)
  entry_given directories written h = (h.0, h.1, is.names h.0 h.2)

-- ---- with an error

module _ (Holds : Fault → Type 0) (before after : List ℕ → ℕ) where
  pub refused_for : (e : CrawlEnd) (For : Fault → Type 0) → IfRefused e For → ((f : Fault) → For f → Holds f) → after ≡ before → HasEnd e Holds before after
  refused_for (end.Refused f) For r h same = (h f r, same)
  refused_for (end.File path) For r h same = absurd r
  refused_for end.NoMemory For r h same = same

  pub ended : (error : ReachError) (e : CrawlEnd) (written : List ℕ) (P Q : Type 0) → HasReason error P Q before after → IsEndOf error written e
      → (P → Holds (entry_fault EntryNotFound written)) → (Q → Holds (entry_fault TooManyModules written)) → HasEnd e Holds before after
  ended reach.NoEntry e written P Q r is p q = refused_for e (λ f. f ≡ entry_fault EntryNotFound written) is (λ f i. subst Holds (sym i) (p r.0)) r.1
  ended reach.TooMany e written P Q r is p q = refused_for e (λ f. f ≡ entry_fault TooManyModules written) is (λ f i. subst Holds (sym i) (q r.0)) r.1
  ended (reach.File path) e written P Q r is p q = subst (λ x. HasEnd x Holds before after) (sym is) r
  ended reach.NoMemory e written P Q r is p q = subst (λ x. HasEnd x Holds before after) (sym is) r
