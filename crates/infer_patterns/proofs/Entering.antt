-- After a pattern its names are in scope.
use Rattle.std.proofs.Common.{List, [], sym, subst}
use Rattle.std.specs.List.{AllByRecursion}
use Rattle.std.proofs.Math.Path.{fun_ext}
use Rattle.elm_canon.specs.Tree.{patterns_of}
use Rattle.type_items.specs.Items.{Item}
use Rattle.type_items.specs.Scopes.{Entries, Scope, with_names}
use Rattle.type_items.specs.Patterns.{pattern_items, pattern_names, patterns_names}
use Rattle.type_walks.specs.Regions.{Region, below}
use Rattle.type_walks.specs.Links.{Links, Live}
use Rattle.type_walks.specs.Walks.{Around}
use Rattle.type_constructs.specs.Binding.{Binding}
use Rattle.type_constructs.proofs.Naming.{names_over, all_names_over}
use Rattle.infer_steps.specs.Codes.{Code, State, Bound, with_bound}
use Rattle.infer_steps.specs.Ready.{IsReady, Follows}
use Rattle.infer_steps.specs.Means.{Setting}
use Rattle.infer_steps.specs.Laws.{ReadyLater, SettingLater, SettingBinds}
use Rattle.infer_steps.proofs.Entering.{readies_bound}
use Rattle.infer_steps.proofs.Staying.{setting_links}
use Rattle.infer_patterns.specs.Matches.{MatchesPattern, MatchesEach}
use Rattle.infer_patterns.specs.Scopes.{SameKnown, EntersPattern, ReadyPattern, EntersEach}
use Rattle.infer_patterns.specs.Scopes.{ReadyEach}
use Rattle.infer_patterns.proofs.Binding.{binds_of}

pub same_known : SameKnown
same_known a links code scope s set = fun_ext (λ m. fun_ext (λ x. set.means.known m x))

-- what was bound is in scope
binding_setting : SettingLater → SettingBinds → (a : Around) (R : Region) (items : List Item) (links : Links)
    (code : Code) (scope : Scope) (old new : State)
    (bound : List Bound) (names : Entries) → IsReady code old.depth old.store → Follows old new
    → AllByRecursion (λ (b : Bound). Live new.depth new.store b.1) bound →
    (m : Binding a R items old.store links new.store bound names)
    → Setting a links code scope old → Setting a m.after (with_bound bound code) (with_names names scope) new
binding_setting later binds a R items links code scope old new bound names ready follows live m set =
    binds a m.after code scope new bound names live (binds_of m.after bound names m.binds)
    (setting_links a links m.after code scope new m.tells (m.walk.live set.live)
    (later a R items old new links links m.after code scope ready follows m.walk set))

pub enters_pattern : SettingLater → SettingBinds → EntersPattern
enters_pattern later binds code pos v p bound old new ready m a links scope q t set has =
    let known = same_known a links code scope old set in
    let n = subst (λ k. MatchesPattern k pos v p bound old new) known m in
    let b = n.matched a links q t set.around.depth set.live has in
    record {
      matched = b;
      setting =
          subst (λ ns. Setting a b.after (with_bound bound code) (record scope { names = ns }) new)
          (sym (names_over p scope.known q t scope.names))
          (binding_setting later binds a (below q) (pattern_items p scope.known pos q t) links code scope old new bound
          (pattern_names p scope.known q t [])
          ready n.follows n.live b set);
    }

pub ready_pattern : ReadyLater → ReadyPattern
ready_pattern later code pos v p bound old new ready m =
    readies_bound code new.depth new.store bound m.live (later code old new ready m.follows)

pub enters_each : SettingLater → SettingBinds → EntersEach
enters_each later binds code pos vs ps bound old new ready m a links scope q ts set have =
    let known = same_known a links code scope old set in
    let n = subst (λ k. MatchesEach k pos vs ps bound old new) known m in
    let b = n.matched a links q ts set.around.depth set.live have in
    record {
      matched = b;
      setting =
          subst (λ ns. Setting a b.after (with_bound bound code) (record scope { names = ns }) new)
          (sym (all_names_over (patterns_of ps) scope.known q 0 ts scope.names))
          (binding_setting later binds a _ _ links code scope old new bound
          (patterns_names (patterns_of ps) scope.known q 0 ts [])
          ready n.follows n.live b set);
    }

pub ready_each : ReadyLater → ReadyEach
ready_each later code pos vs ps bound old new ready m =
    readies_bound code new.depth new.store bound m.live (later code old new ready m.follows)
