-- The members of a type group in turn.
use Rattle.std.specs.Prelude.{◌≡◌, ℕ, ◌+◌, List, length, map, Some, slice_get}
use Rattle.std.specs.List.{AllByRecursion}
use Rattle.elm_canon.specs.declared.reference.Ref.TheVariants.{Local}
use Rattle.elm_canon.specs.Tree.{Pattern, Expr, Destructure}
use Rattle.type_items.specs.Items.{Place, child, Wanted}
use Rattle.type_items.specs.Patterns.{pattern_start}
use Rattle.type_items.specs.Expressions.{items, nowhere, group_definitions}
use Rattle.type_walks.specs.Links.{Links, Live, AreLive, Has}
use Rattle.type_walks.specs.Walks.{Around}
use Rattle.type_constructs.specs.Patterns.{Matched}
use Rattle.type_items.specs.Definitions.{Definition}
use Rattle.type_constructs.specs.Failing.{Large, Bad}
use Rattle.infer_steps.specs.Codes.{Code, State, Bound, with_bound}
use Rattle.infer_steps.specs.Ready.{IsReady, Follows}
use Rattle.infer_steps.specs.Promises.{Walked, Stopped}
use Rattle.infer_steps.specs.Made.{IsOpened, AreOpened}
use Rattle.infer_groups.specs.Defined.{Defined, DefinitionsStop, IsSmallIn, IsLargeIn, group_places, at_child, inside}
use Rattle.infer_groups.specs.Defined.{moved}
use Rattle.infer_groups.specs.Members.{Named, with_named, variables_of, AreTitled, listed_group, at_number, MembersDone}
use Rattle.infer_groups.specs.Members.{GroupDone}
use Rattle.infer_groups.specs.General.{Generalised, with_general, AreFrozen}

-- the same state at the place of another
abbrev pub back_at : State → State → State
back_at now x = record { store = x.store; depth = x.depth; place = now.place }

-- each member has a variable, and no member was walked
abbrev pub MembersOpen : Type 0
MembersOpen =
    (code : Code) (ds : List Definition) (i : ℕ) (names : List Named) (old mid : State)
    → IsReady code old.depth old.store → AreTitled names ds → AreOpened (inside old i) mid (variables_of names)
    → MembersDone code ds i 0 names old mid

-- one member more was walked, at its child of the group's place, and its type is small
abbrev pub MemberGoesOn : Type 0
MemberGoesOn =
    (code : Code) (ds : List Definition) (i k : ℕ) (names : List Named) (d : Definition) (n : Named) (old now x : State)
    → MembersDone code ds i k names old now → slice_get ds k ≡ Some d → slice_get names k ≡ Some n
    → Follows (at_child now k) x → Walked (with_named names code) n.1 d.list (at_child now k) x → IsSmallIn x.store n.1
    → MembersDone code ds i (k + 1) names old (back_at now x)

-- where a member stops, the group stops
abbrev pub MemberStops : Type 0
MemberStops =
    (code : Code) (ds : List Definition) (i k : ℕ) (names : List Named) (d : Definition) (n : Named) (old now x : State)
    (bad : Bad)
    → MembersDone code ds i k names old now → slice_get ds k ≡ Some d → slice_get names k ≡ Some n
    → Stopped (with_named names code) n.1 d.list (at_child now k) x bad
    → DefinitionsStop code (λ q. group_places (child q i)) (at_number i (listed_group ds)) old x bad

-- and so it does where the type of a member is too large
abbrev pub MemberIsLarge : Type 0
MemberIsLarge =
    (code : Code) (ds : List Definition) (i k : ℕ) (names : List Named) (d : Definition) (n : Named) (old now x : State)
    → MembersDone code ds i k names old now → slice_get ds k ≡ Some d → slice_get names k ≡ Some n
    → Follows (at_child now k) x → Walked (with_named names code) n.1 d.list (at_child now k) x → IsLargeIn x.store n.1
    → DefinitionsStop code (λ q. group_places (child q i)) (at_number i (listed_group ds)) old x (Large d.place n.1)

-- all members were walked
abbrev pub MembersEnd : Type 0
MembersEnd =
    (code : Code) (ds : List Definition) (i k : ℕ) (names : List Named) (old now : State)
    → length ds ≡ k → MembersDone code ds i k names old now → GroupDone code ds i names old now

-- where the types of the names are frozen, the group was walked, and its names are general
abbrev pub GroupCloses : Type 0
GroupCloses =
    (code : Code) (ds : List Definition) (i : ℕ) (names : List Named) (gs : List Generalised) (old now : State)
    → GroupDone code ds i names old now → AreFrozen old.depth now.store names gs
    → Defined code (with_general gs code) (λ q. group_places (child q i)) (at_number i (listed_group ds)) old
    (record { store = now.store; depth = old.depth; place = old.place })

-- ---- a group that is one pattern with its value

-- the names that a pattern binds, each with the variable of its type
abbrev pub bound_named : List Bound → List Named
bound_named bound = map (λ b. (Local b.0, b.1)) bound

-- The pattern was matched for values of the type of the variable v, whatever the places.
abbrev pub IsMatched : Code → Pattern → ℕ → List Bound → State → State → Type 0
IsMatched code p v bound old new =
    (a : Around) (links : Links) (q : Place) (t : Wanted) → a.depth ≡ old.depth → AreLive a.depth old.store links
    → Has links v t → Matched a p code.known (pattern_start nowhere p) q t old.store links new.store bound

-- Inside the definition, at child 0 of its place, the pattern was matched, and its value walked at child 1 of that. Its
-- type is small.
abbrev pub PatternIsDone : Type 0
PatternIsDone =
    (code : Code) (p : Pattern) (e : Expr) (i v : ℕ) (bound : List Bound) (old mid u x : State)
    → IsReady code old.depth old.store → mid.place ≡ child (child old.place i) 0
    → IsOpened (inside old i) (moved mid (child old.place i)) v
    → Follows mid u → AllByRecursion (λ b. Live u.depth u.store b.1) bound → IsMatched code p v bound mid u
    → Follows (at_child u 1) x
    → Walked (with_bound bound code) v (λ s q w. items e s (pattern_start nowhere p) q w) (at_child u 1) x
    → IsSmallIn x.store v
    → GroupDone code (group_definitions (Destructure p e)) i (bound_named bound) old (moved x (child old.place i))
