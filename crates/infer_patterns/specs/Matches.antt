-- Patterns that are matched: what they ask was asked, and the names that they bind have variables, whatever place they
-- have. And where that cannot be.
use Rattle.std.specs.Prelude.{◌≡◌, ℕ, List, [], ◌∷◌, ◌++◌}
use Rattle.std.specs.List.{AllByRecursion, AllZip}
use Rattle.elm_base.specs.declared.position.Pos.{Pos}
use Rattle.elm_canon.specs.declared.unions.Alternative.{Alternative}
use Rattle.elm_canon.specs.Unions.{Union}
use Rattle.elm_canon.specs.Tree.{Pattern, Construct, patterns_of}
use Rattle.elm_canon.specs.View.{items_before}
use Rattle.type_items.specs.Items.{Place, child, Wanted, Same}
use Rattle.type_items.specs.Scopes.{Known}
use Rattle.type_items.specs.Patterns.{shape, shape_items}
use Rattle.type_store.specs.Store.{Store}
use Rattle.type_walks.specs.Regions.{none, below}
use Rattle.type_walks.specs.Links.{Links, Live, AreLive, Has}
use Rattle.type_walks.specs.Walks.{Around, Walk}
use Rattle.type_constructs.specs.Failing.{Bad}
use Rattle.type_constructs.specs.Binding.{Shaped}
use Rattle.type_constructs.specs.Patterns.{Matched, MatchedEach}
use Rattle.type_constructs.specs.Faults.{MatchFails, EachMatchFails}
use Rattle.infer_steps.specs.Codes.{State, Bound}
use Rattle.infer_steps.specs.Ready.{Follows}

-- a pattern that begins at `pos` or where it says was matched, for values of the type of the variable v
pub record MatchesPattern (known : Known) (pos : Pos) (v : ℕ) (p : Pattern) (bound : List Bound) (old new : State)
    : Type 0 where
  pub follows : Follows old new
  pub live : AllByRecursion (λ b. Live new.depth new.store b.1) bound
  pub matched : (a : Around) (links : Links) (q : Place) (t : Wanted) → a.depth ≡ old.depth
      → AreLive a.depth old.store links → Has links v t → Matched a p known pos q t old.store links new.store bound

pub record RefusesPattern (known : Known) (pos : Pos) (v : ℕ) (p : Pattern) (bad : Bad) (old new : State)
    : Type 0 where
  pub fails : (a : Around) (links : Links) (q : Place) (t : Wanted) → a.depth ≡ old.depth
      → AreLive a.depth old.store links → Has links v t → MatchFails a p known pos q t old.store links bad new.store

-- patterns at the children of a place were matched, each for values of the type of its variable
pub record MatchesEach (known : Known) (pos : Pos) (vs : List ℕ) (ps : List Pattern) (bound : List Bound)
    (old new : State) : Type 0 where
  pub follows : Follows old new
  pub live : AllByRecursion (λ b. Live new.depth new.store b.1) bound
  pub matched : (a : Around) (links : Links) (q : Place) (ts : List Wanted) → a.depth ≡ old.depth
      → AreLive a.depth old.store links → AllZip (Has links) vs ts
      → MatchedEach a ps known pos q ts old.store links new.store bound

pub record RefusesEach (known : Known) (pos : Pos) (vs : List ℕ) (ps : List Pattern) (bad : Bad) (old new : State)
    : Type 0 where
  pub fails : (a : Around) (links : Links) (q : Place) (ts : List Wanted) → a.depth ≡ old.depth
      → AreLive a.depth old.store links → AllZip (Has links) vs ts
      → EachMatchFails a ps known pos q ts old.store links bad new.store

-- ---- while patterns are matched

-- names were bound after others, and this holds of them
pub record AddsNames (P : List Bound → Type 0) (before after : List Bound) : Type 0 where
  pub own : List Bound
  pub so : P own
  pub is : after ≡ own ++ before

-- what the constructor makes has the type of the values, and its fields have the variables `parts`
pub record Begun (a : Around) (links : Links) (known : Known) (pos : Pos) (q : Place) (t : Wanted) (u : Union)
    (c : Alternative) (parts : List ℕ) (s s' : Store) : Type 0 where
  pub between : Store
  pub result : ℕ
  pub made : Shaped a (below (child q 0)) (shape_items u c known pos (child q 0)) (shape u c known (child q 0)) s links
      between result parts
  pub same : Walk a none (Same pos (shape u c known (child q 0)).result t ∷ []) between made.after s' made.after

pub record Begins (known : Known) (pos : Pos) (v : ℕ) (u : Union) (c : Alternative) (parts : List ℕ) (old new : State)
    : Type 0 where
  pub follows : Follows old new
  pub live : AllByRecursion (Live new.depth new.store) parts
  pub begun : (a : Around) (links : Links) (q : Place) (t : Wanted) → a.depth ≡ old.depth
      → AreLive a.depth old.store links → Has links v t
      → Begun a links known pos q t u c parts old.store new.store

-- whatever patterns the fields have
abbrev pub RefusesConstructor : Known → Pos → ℕ → Union → Alternative → Bad → State → State → Type 0
RefusesConstructor known pos v u c bad old new =
    (ps : List Pattern) → RefusesPattern known pos v (Construct u c (patterns_of ps)) bad old new

-- The first items of a list were matched, for lists of the type of the variable v. What comes after them is to be
-- matched for lists of the type of the variable w, which is the same.
pub record Leads (known : Known) (pos : Pos) (v w : ℕ) (ps : List Pattern) (own : List Bound) (old new : State)
    : Type 0 where
  pub follows : Follows old new
  pub live : AllByRecursion (λ b. Live new.depth new.store b.1) own
  pub list_live : Live new.depth new.store w
  pub matches : (rest : Pattern) (more : List Bound) (last : State) → MatchesPattern known pos w rest more new last
      → MatchesPattern known pos v (items_before rest ps) (more ++ own) old last
  pub refuses : (rest : Pattern) (bad : Bad) (last : State) → RefusesPattern known pos w rest bad new last
      → RefusesPattern known pos v (items_before rest ps) bad old last
