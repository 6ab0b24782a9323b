-- A pattern with its value: the pattern was matched, and its names are in scope.
use Rattle.std.specs.Prelude.{◌≡◌, ℕ, List}
use Rattle.std.specs.List.{AllByRecursion}
use Rattle.elm_base.specs.declared.position.Pos.{Pos}
use Rattle.elm_canon.specs.Tree.{Pattern, Expr, Destructure}
use Rattle.type_items.specs.Items.{child, Wanted}
use Rattle.type_items.specs.Patterns.{pattern_start}
use Rattle.type_items.specs.Expressions.{nowhere, group_definitions}
use Rattle.type_walks.specs.Regions.{below}
use Rattle.type_walks.specs.Links.{Live}
use Rattle.type_constructs.specs.Failing.{Bad}
use Rattle.infer_steps.specs.Codes.{Code, State, Bound, with_bound}
use Rattle.infer_steps.specs.Ready.{IsReady, Follows}
use Rattle.infer_steps.specs.Made.{IsOpened}
use Rattle.infer_groups.specs.Defined.{at_child, inside, moved}
use Rattle.infer_groups.specs.Members.{Named, GroupDone}
use Rattle.infer_groups.specs.Laws.{bound_named, IsMatched}
use Rattle.infer_parts.specs.Steps.{CanWalk, one, Went, Stuck}
use Rattle.infer_parts.specs.Parts.{listed}
use Rattle.infer_exprs.specs.Finished.{InferredStops}

-- It is the type group of the number i, and v is the variable of its type. Its value is to be walked at child 1.
pub record PatternBegun (code inner : Code) (p : Pattern) (i v : ℕ) (names : List Named) (old now : State)
    : Type 0 where
  pub bound : List Bound
  pub named : names ≡ bound_named bound
  pub scope : inner ≡ with_bound bound code
  pub before : IsReady code old.depth old.store
  pub mid : State
  pub place : mid.place ≡ child (child old.place i) 0
  pub opened : IsOpened (inside old i) (moved mid (child old.place i)) v
  pub follows : Follows mid now
  pub bound_live : AllByRecursion (λ b. Live now.depth now.store b.1) bound
  pub matched : IsMatched code p v bound mid now
  pub can : CanWalk inner now
  pub live : Live now.depth now.store v

-- such a group stops
abbrev pub PatternStops : Code → Pattern → Expr → ℕ → State → State → Bad → Type 0
PatternStops code p e i old new bad =
    InferredStops code (group_definitions (Destructure p e)) i old new bad

-- where its value stops it stops
abbrev pub ValueStops : Type 0
ValueStops =
    (code inner : Code) (p : Pattern) (e : Expr) (i v : ℕ) (names : List Named) (old now new : State) (bad : Bad)
    → PatternBegun code inner p i v names old now
    → Stuck Wanted inner (one v) below (listed e (pattern_start nowhere p)) (at_child now 1) new bad
    → PatternStops code p e i old new bad

-- after the value it is done
abbrev pub PatternEnds : Pos → ℕ → State → State → Type 0
PatternEnds here v walked new =
    (code inner : Code) (p : Pattern) (e : Expr) (i : ℕ) (names : List Named) (old now : State)
    → here ≡ pattern_start nowhere p → PatternBegun code inner p i v names old now
    → Went Wanted inner (one v) below (listed e here) (at_child now 1) walked
    → GroupDone code (group_definitions (Destructure p e)) i names old new

-- or its type is too large
abbrev pub PatternIsLarge : Pos → ℕ → State → State → Bad → Type 0
PatternIsLarge here v walked new bad =
    (code inner : Code) (p : Pattern) (e : Expr) (i : ℕ) (names : List Named) (old now : State)
    → here ≡ pattern_start nowhere p → PatternBegun code inner p i v names old now
    → Went Wanted inner (one v) below (listed e here) (at_child now 1) walked
    → PatternStops code p e i old new bad
