-- An expression with which things are done one after the other: each of these is open while the expression inside it is
-- walked. The last one is outside of all others.
use Rattle.std.specs.Prelude.{◌≡◌, ℕ, suc, List, [], ◌∷◌, ◌++◌, length, get_or}
use Rattle.std.specs.List.{AllByRecursion}
use Rattle.elm_base.specs.declared.position.Pos.{Pos}
use Rattle.elm_canon.specs.Tree.{Expr}
use Rattle.elm_canon.specs.View.{LinkView, Given, Composed, After, Before, Decided, done, linked}
use Rattle.elm_type.specs.Types.{Name}
use Rattle.type_items.specs.Items.{Place, child, Wanted, at}
use Rattle.type_walks.specs.Regions.{below, either}
use Rattle.type_walks.specs.Links.{Live}
use Rattle.type_constructs.specs.Failing.{Bad}
use Rattle.infer_steps.specs.Codes.{Code, State}
use Rattle.infer_steps.specs.Ready.{Follows}
use Rattle.infer_steps.specs.Operations.{operands, logical_items, next_two, access_items, access_types}
use Rattle.infer_parts.specs.Steps.{CanWalk, one, each_and, Went, Stuck, Opens}
use Rattle.infer_parts.specs.Formed.{FormedOp}
use Rattle.infer_parts.specs.Parts.{IsStrict, listed, part_of, known_count, OpOpens, CallOpens}

-- ---- one thing that is done

-- where the expression inside stands
abbrev pub inner : LinkView → Place → Place
inner (Given f es) q = child (child q 1) (length es)
inner (Composed f a) q = child (child q 1) 0
inner (After op es) q = child (child q 0) (length es)
inner (Before op a) q = child (child q 0) 0
inner (Decided pos c a) q = child q 1

-- `a && _`: the left operand was walked, and the right one has the variable v
abbrev pub DecidedOpens : Code → ℕ → Pos → Pos → Expr → ℕ → State → State → Type 0
DecidedOpens code w pos here a v old new =
    Opens Wanted code (one w) (λ q. either (operands q) (below (child q 0)))
    (λ scope q t. logical_items pos scope q t ++ part_of a here 0 scope q (at (child q 0))) Wanted (one v)
    (λ scope q t. at (child q 1)) old new

-- what was done is open, wanted at the variable w: its parts have the variables `kept`, and the one inside has v
abbrev pub LinkOpens : Code → Pos → LinkView → List ℕ → State → ℕ → State → ℕ → Type 0
LinkOpens code here (Given f es) kept old w new v =
    CallOpens code w f (suc (length es)) here es kept old new × (v ≡ get_or kept (suc (length es)) 0)
LinkOpens code here (Composed f a) kept old w new v = CallOpens code w f 2 here [] kept old new × (v ≡ get_or kept 1 0)
LinkOpens code here (After op es) kept old w new v =
    OpOpens code w op (suc (length es)) here es kept old new × (v ≡ get_or kept (length es) 0)
LinkOpens code here (Before op a) kept old w new v = OpOpens code w op 2 here [] kept old new × (v ≡ get_or kept 0 0)
LinkOpens code here (Decided pos c a) kept old w new v = DecidedOpens code w pos here a v old new

-- its operation reads no field, and has all its parts
abbrev pub StrictLink : LinkView → Type 0
StrictLink (Given f es) = Unit {0}
StrictLink (Composed f a) = Unit {0}
StrictLink (After op es) = IsStrict op × FormedOp op (suc (length es))
StrictLink (Before op a) = IsStrict op × FormedOp op 2
StrictLink (Decided pos c a) = Unit {0}

-- so many variables are kept
abbrev pub link_count : LinkView → ℕ
link_count (Given f es) = suc (suc (length es))
link_count (Composed f a) = 3
link_count (After op es) = known_count op (suc (length es)) (length es)
link_count (Before op a) = known_count op 2 0
link_count (Decided pos c a) = 0

-- the same, and the state has gone inside
pub record IsInside (code : Code) (here : Pos) (l : LinkView) (kept : List ℕ) (old : State) (w : ℕ) (inside : State)
    (v : ℕ) : Type 0 where
  pub can : CanWalk code old
  pub strict : StrictLink l
  pub outside : State
  pub follows : Follows old outside
  pub opens : LinkOpens code here l kept old w outside v
  pub count : length kept ≡ link_count l
  pub live : AllByRecursion (Live outside.depth outside.store) kept
  pub inner_live : Live outside.depth outside.store v
  pub at : inside ≡ record outside { place = inner l outside.place }

-- one more was opened, and its variables are kept after the others
pub record OpensOne (code : Code) (here : Pos) (l : LinkView) (others kept : List (List ℕ)) (old : State) (w : ℕ)
    (inside : State) (v : ℕ) : Type 0 where
  pub own : List ℕ
  pub is : kept ≡ others ++ own ∷ []
  pub inside_is : IsInside code here l own old w inside v

-- the expression inside was walked, and it can be closed
pub record Closable (code : Code) (here : Pos) (l : LinkView) (kept : List (List ℕ)) (walked : State) : Type 0 where
  pub others : List (List ℕ)
  pub own : List ℕ
  pub is : kept ≡ others ++ own ∷ []
  pub before : State
  pub wanted : ℕ
  pub inside : State
  pub variable : ℕ
  pub opens : IsInside code here l own before wanted inside variable
  pub follows : Follows inside walked

-- it was closed: with the expression inside the whole was walked
pub record Closed (code : Code) (here : Pos) (l : LinkView) (others kept : List (List ℕ)) (before : State) (w : ℕ)
    (e : Expr) (new : State) : Type 0 where
  pub is : kept ≡ others
  pub went : Went Wanted code (one w) below (listed (done l e) here) before new

abbrev pub Closes : Code → Pos → LinkView → List (List ℕ) → List (List ℕ) → State → State → Type 0
Closes code here l kept rest walked new =
    (others : List (List ℕ)) (own : List ℕ) (before : State) (w : ℕ) (inside : State) (v : ℕ) (e : Expr)
    → kept ≡ others ++ own ∷ [] → IsInside code here l own before w inside v
    → Went Wanted code (one v) below (listed e here) inside walked → Closed code here l others rest before w e new

-- or it stops
abbrev pub ClosesStuck : Code → Pos → LinkView → List (List ℕ) → State → State → Bad → Type 0
ClosesStuck code here l kept walked new bad =
    (others : List (List ℕ)) (own : List ℕ) (before : State) (w : ℕ) (inside : State) (v : ℕ) (e : Expr)
    → kept ≡ others ++ own ∷ [] → IsInside code here l own before w inside v
    → Went Wanted code (one v) below (listed e here) inside walked
    → Stuck Wanted code (one w) below (listed (done l e) here) before new bad

-- ---- all of them

-- the innermost is open inside others
pub record Nested (X : Type 0) (IsOpen : X → State → ℕ → State → ℕ → Type 0)
    (Others : List X → State → ℕ → Type 0) (kept : List X) (inside : State) (v : ℕ)
    : Type 0 where
  pub others : List X
  pub own : X
  pub is : kept ≡ others ++ own ∷ []
  pub before : State
  pub wanted : ℕ
  pub waits : Others others before wanted
  pub opens : IsOpen own before wanted inside v

-- of these, the first is the innermost. The last of what is kept is for it.
abbrev pub Waits : Code → Pos → State → ℕ → List LinkView → List (List ℕ) → State → ℕ → Type 0
Waits code here old w [] kept inside v = (kept ≡ []) × ((inside ≡ old) × (v ≡ w))
Waits code here old w (l ∷ ls) kept inside v =
    Nested (List ℕ) (IsInside code here l) (Waits code here old w ls) kept inside v

-- e was walked with the first of the links, and the rest waits
pub record Winding (code : Code) (here : Pos) (old : State) (w : ℕ) (e : Expr) (rest : List LinkView)
    (kept : List (List ℕ)) (now : State) : Type 0 where
  pub inside : State
  pub variable : ℕ
  pub waits : Waits code here old w rest kept inside variable
  pub went : Went Wanted code (one variable) below (listed e here) inside now

-- some expression was walked, with which all these were opened
pub record Inside (code : Code) (here : Pos) (links : List LinkView) (kept : List (List ℕ)) (now : State) : Type 0 where
  pub before : State
  pub wanted : ℕ
  pub inner_one : Expr
  pub winds : Winding code here before wanted inner_one links kept now

-- all are closed
abbrev pub Unwinds : Code → Pos → List LinkView → List (List ℕ) → State → State → Type 0
Unwinds code here links kept now new =
    (before : State) (w : ℕ) (e : Expr) → Winding code here before w e links kept now
    → Went Wanted code (one w) below (listed (linked e links) here) before new

abbrev pub UnwindsStuck : Code → Pos → List LinkView → List (List ℕ) → State → State → Bad → Type 0
UnwindsStuck code here links kept now new bad =
    (before : State) (w : ℕ) (e : Expr) → Winding code here before w e links kept now
    → Stuck Wanted code (one w) below (listed (linked e links) here) before new bad

-- ---- a.x.y

-- the field of a.x has the first variable, and the whole is wanted at the second
abbrev pub Field : Type 0
Field = ℕ × ℕ

-- the field is read, and the record has the variable v
abbrev pub AccessOpens : Code → Pos → Name → Field → State → ℕ → State → ℕ → Type 0
AccessOpens code here x f old w new v =
    Opens Wanted code (one w) next_two (access_items x here) (List Wanted × Wanted) (each_and (v ∷ f.0 ∷ []) f.1)
    (λ scope q t. (access_types x scope q t, t)) old new

pub record IsRead (code : Code) (here : Pos) (x : Name) (f : Field) (old : State) (w : ℕ) (inside : State) (v : ℕ)
    : Type 0 where
  pub can : CanWalk code old
  pub outside : State
  pub follows : Follows old outside
  pub opens : AccessOpens code here x f old w outside v
  pub live : Live outside.depth outside.store f.0
  pub wanted_live : Live outside.depth outside.store f.1
  pub inner_live : Live outside.depth outside.store v
  pub at : inside ≡ record outside { place = child (child outside.place 0) 0 }

-- the first is read last
abbrev pub Reads : Code → Pos → State → ℕ → List Name → List Field → State → ℕ → Type 0
Reads code here old w [] kept inside v = (kept ≡ []) × ((inside ≡ old) × (v ≡ w))
Reads code here old w (x ∷ xs) kept inside v =
    Nested Field (IsRead code here x) (Reads code here old w xs) kept inside v
