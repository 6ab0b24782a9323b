-- Names with annotations come into scope: definitions whose annotations were read are there.
use Rattle.std.proofs.Common.{◌≡◌, List, [], ◌∷◌, ◌++◌, refl, ap, ◌∙◌, subst, append-nil}
use Rattle.std.specs.List.{AllByRecursion, AllZip}
use Rattle.elm_canon.specs.Tree.{Title, Group}
use Rattle.type_items.specs.Scopes.{Mono, Instance, General, Entries, Constants, Scope, with_names}
use Rattle.type_items.specs.Definitions.{Definition, around_items, annotated_names}
use Rattle.type_store.specs.Store.{Store}
use Rattle.type_walks.specs.Regions.{none}
use Rattle.type_walks.specs.Links.{Links}
use Rattle.type_walks.specs.Walks.{Around, Walk}
use Rattle.type_constructs.specs.Passing.{NoSizes}
use Rattle.type_constructs.specs.Failing.{Bad, Fails}
use Rattle.type_constructs.proofs.Passing.{passes_plain}
use Rattle.infer_steps.specs.Codes.{Each, Code, State, with_meaning}
use Rattle.infer_steps.specs.Ready.{DeclaredReady, IsReady}
use Rattle.infer_steps.specs.Means.{Means, Setting}
use Rattle.infer_steps.specs.Laws.{ReadyLater, SettingLater, ReadyEnters, EntersEach}
use Rattle.infer_groups.specs.Defined.{Defined, DefinitionsStop}
use Rattle.infer_groups.specs.Lets.{listed_names}
use Rattle.infer_types.proofs.Owning.{constants_more}
use Rattle.infer_order.specs.Order.{AreDefinitions}
use Rattle.infer_order.specs.declared.order.Definition as program
use Rattle.infer_exprs.specs.Titles.{titles_of, titles_items, titles_names}
use Rattle.infer_exprs.specs.Reading.{Reading, with_readings, ReadsEntry, AreRead, NotRead}
use Rattle.infer_exprs.proofs.Titles.{same_items, same_names}
use Rattle.infer_exprs.proofs.Reading.{titles_sizes}

-- ---- the code's scope

pub readings_more : (rs ss : List Reading) (code : Code)
    → with_readings (rs ++ ss) code ≡ with_readings rs (with_readings ss code)
readings_more [] ss code = refl
readings_more (r ∷ rs) ss code = ap (with_meaning r.0 (Each r.1)) (readings_more rs ss code)

readings_ready : ReadyEnters → (code : Code) (s : State) (rs : List Reading) → IsReady code s.depth s.store
    → AllByRecursion (λ r. DeclaredReady s.depth s.store r.1) rs → IsReady (with_readings rs code) s.depth s.store
readings_ready enters code s [] ready h = ready
readings_ready enters code s (r ∷ rs) ready h =
    enters (with_readings rs code) s.depth s.store r.0 (Each r.1) (readings_ready enters code s rs ready h.1) h.0

module _ (enters : EntersEach) (a : Around) (links : Links) (code : Code) (scope : Scope) (s : Store)
    (means : Means a links code scope s) where
  readings_mean : (rs : List Reading) (es : Entries) → AllZip (ReadsEntry links) rs es
      → Means a links (with_readings rs code) (with_names es scope) s
  readings_mean [] [] h = means
  readings_mean [] (e ∷ es) h = absurd h
  readings_mean (r ∷ rs) [] h = absurd h
  readings_mean (r ∷ rs) ((x, Mono t) ∷ es) h = absurd h.0
  readings_mean (r ∷ rs) ((x, General list type) ∷ es) h = absurd h.0
  readings_mean (r ∷ rs) ((x, Instance scheme) ∷ es) h =
      subst (λ y. Means a links (with_meaning y (Each r.1) (with_readings rs code))
      (with_names ((x, Instance scheme) ∷ es) scope) s) h.0.0
      (enters a links (with_readings rs code) (with_names es scope) s x r.1 scheme h.0.1 (readings_mean rs es h.1))

-- ---- definitions

-- the titles are those of the definitions
pub record AreTitlesOf (titles : List Title) (ds : List Definition) : Type 0 where
  pub items : (around : Constants) → titles_items titles around ≡ around_items ds around
  pub names : (around : Constants) → titles_names titles around ≡ annotated_names ds around

pub titles_are : (gs : List Group) (xs : List program.Definition) (ds : List Definition) → AreDefinitions gs xs ds
    → AreTitlesOf (titles_of xs) ds
titles_are gs xs ds are = record {
  items = λ around. same_items gs around xs ds are;
  names = λ around. same_names gs around xs ds are;
}

module _ (code : Code) (titles : List Title) (ds : List Definition) (are : AreTitlesOf titles ds) (old new : State)
  where
    pub names_defined : ReadyLater → SettingLater → ReadyEnters → EntersEach → (rs : List Reading)
        → IsReady code old.depth old.store → AreRead code titles rs old new
        → Defined code (with_readings rs code) (λ q. none) (listed_names ds) old new
    names_defined later setting_later ready_enters enters rs ready read = record {
      follows = read.follows;
      ready = readings_ready ready_enters code new rs (later code old new ready read.follows) read.ready;
      walk = λ a links scope q set. walked a links scope set;
      setting = λ a links scope q set. entered a links scope set
          (setting_later a none (around_items ds scope.constants) old new links links links code scope ready
          read.follows (walked a links scope set) set);
      passes = λ a links scope set. passes_plain a old.store links none (around_items ds scope.constants)
          (subst NoSizes (are.items scope.constants) (titles_sizes scope.constants titles));
    }
      where
        walked : (a : Around) (links : Links) (scope : Scope) → Setting a links code scope old
            → Walk a none (around_items ds scope.constants) old.store links new.store links
        walked a links scope set =
            subst (λ l. Walk a none l old.store links new.store links) (are.items scope.constants)
            (read.walk a links scope.constants set.around.depth set.live
            (constants_more code set.named links scope.constants set.tells set.means.constants))

        entered : (a : Around) (links : Links) (scope : Scope) → Setting a links code scope old
            → Setting a links code scope new
            → Setting a links (with_readings rs code) (with_names (annotated_names ds scope.constants) scope) new
        entered a links scope old_set set = record {
          around = set.around;
          live = set.live;
          named = set.named;
          tells = set.tells;
          means =
              subst (λ es. Means a set.named (with_readings rs code) (with_names es scope) new.store)
              (are.names scope.constants)
              (readings_mean enters a set.named code scope new.store set.means rs (titles_names titles scope.constants)
              (read.names set.named scope.constants set.means.constants));
        }

    pub names_stop : (bad : Bad) → NotRead code titles old new bad
        → DefinitionsStop code (λ q. none) (listed_names ds) old new bad
    names_stop bad not_ = record {
      fails = λ a links scope set.
          subst (λ l. Fails a old.store links none l bad new.store)
          (append-nil (titles_items titles scope.constants) ∙ are.items scope.constants)
          (not_.fails a links scope.constants none [] set.around.depth set.live
          (constants_more code set.named links scope.constants set.tells set.means.constants));
    }
