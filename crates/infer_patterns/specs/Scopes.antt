-- After a pattern its names are in scope.
use Rattle.std.specs.Prelude.{◌≡◌, ℕ, List}
use Rattle.std.specs.List.{AllZip}
use Rattle.elm_base.specs.declared.position.Pos.{Pos}
use Rattle.elm_canon.specs.Tree.{Pattern, patterns_of}
use Rattle.type_items.specs.Items.{Place, Wanted}
use Rattle.type_items.specs.Scopes.{Scope}
use Rattle.type_items.specs.Patterns.{bind_pattern, bind_patterns}
use Rattle.type_walks.specs.Links.{Links, Has}
use Rattle.type_walks.specs.Walks.{Around}
use Rattle.type_constructs.specs.Patterns.{Matched, MatchedEach}
use Rattle.infer_steps.specs.Codes.{Code, State, Bound, with_bound}
use Rattle.infer_steps.specs.Ready.{IsReady}
use Rattle.infer_steps.specs.Means.{Setting}
use Rattle.infer_patterns.specs.Matches.{MatchesPattern, MatchesEach}

-- the code's scope and the scope that it stands for know the same types
abbrev pub SameKnown : Type 0
SameKnown =
    (a : Around) (links : Links) (code : Code) (scope : Scope) (s : State)
    → Setting a links code scope s → code.known ≡ scope.known

-- a pattern was matched, and the code's scope with its names stands for the scope with its names
pub record BindsPattern (a : Around) (links : Links) (code : Code) (scope : Scope) (pos : Pos) (q : Place) (t : Wanted)
    (p : Pattern) (bound : List Bound) (old new : State) : Type 0 where
  pub matched : Matched a p scope.known pos q t old.store links new.store bound
  pub setting : Setting a matched.after (with_bound bound code) (bind_pattern p q t scope) new

abbrev pub EntersPattern : Type 0
EntersPattern =
    (code : Code) (pos : Pos) (v : ℕ) (p : Pattern) (bound : List Bound) (old new : State)
    → IsReady code old.depth old.store → MatchesPattern code.known pos v p bound old new
    → (a : Around) (links : Links) (scope : Scope) (q : Place) (t : Wanted)
    → Setting a links code scope old → Has links v t → BindsPattern a links code scope pos q t p bound old new

abbrev pub ReadyPattern : Type 0
ReadyPattern =
    (code : Code) (pos : Pos) (v : ℕ) (p : Pattern) (bound : List Bound) (old new : State)
    → IsReady code old.depth old.store → MatchesPattern code.known pos v p bound old new
    → IsReady (with_bound bound code) new.depth new.store

-- the same of patterns in turn
pub record BindsEach (a : Around) (links : Links) (code : Code) (scope : Scope) (pos : Pos) (q : Place)
    (ts : List Wanted) (ps : List Pattern) (bound : List Bound) (old new : State) : Type 0 where
  pub matched : MatchedEach a ps scope.known pos q ts old.store links new.store bound
  pub setting : Setting a matched.after (with_bound bound code) (bind_patterns (patterns_of ps) q ts scope) new

abbrev pub EntersEach : Type 0
EntersEach =
    (code : Code) (pos : Pos) (vs : List ℕ) (ps : List Pattern) (bound : List Bound) (old new : State)
    → IsReady code old.depth old.store → MatchesEach code.known pos vs ps bound old new
    → (a : Around) (links : Links) (scope : Scope) (q : Place) (ts : List Wanted)
    → Setting a links code scope old → AllZip (Has links) vs ts
    → BindsEach a links code scope pos q ts ps bound old new

abbrev pub ReadyEach : Type 0
ReadyEach =
    (code : Code) (pos : Pos) (vs : List ℕ) (ps : List Pattern) (bound : List Bound) (old new : State)
    → IsReady code old.depth old.store → MatchesEach code.known pos vs ps bound old new
    → IsReady (with_bound bound code) new.depth new.store
