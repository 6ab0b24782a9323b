-- The code's scope said by another name, and branches at their numbers.
use Rattle.std.proofs.Common.{Result, Err, ◌≡◌, ℕ, zero, suc, ◌+◌, ◌<◌, ◌≤◌, List, [], ◌∷◌, ◌++◌, length, map}
use Rattle.std.proofs.Common.{take, drop}
use Rattle.std.proofs.Common.{get_or, refl, sym, ap, ◌∙◌, subst, arith}
use Rattle.elm_base.specs.declared.position.Pos.{Pos}
use Rattle.std.specs.List.{AllByRecursion}
use Rattle.elm_canon.specs.Tree.{Pattern, Expr, branches_of}
use Rattle.elm_canon.specs.View.{branch_view, pattern_view, expr_view}
use Rattle.elm_canon.proofs.Views as view
use Rattle.elm_canon.proofs.Views as view
use Rattle.elm_canon.specs.declared.tree.Branch.{Branch}
use Rattle.type_items.specs.Items.{Place, child, Wanted}
use Rattle.type_constructs.specs.Failing.{Bad}
use Rattle.type_walks.specs.Regions.{Region, below}
use Rattle.type_walks.specs.Links.{Live}
use Rattle.infer_steps.specs.Codes.{Code, State, Bound, with_bound}
use Rattle.infer_steps.specs.Ready.{Follows}
use Rattle.infer_steps.proofs.Entering.{readies_bound}
use Rattle.infer_patterns.specs.Once.{FieldsOnce}
use Rattle.infer_parts.specs.Formed.{Formed, FormedBranches}
use Rattle.infer_parts.specs.Steps.{CanWalk, Lists, Saying, two, Went, Stuck}
use Rattle.infer_parts.specs.Parts.{operand_place, branch_of, branch_at}
use Rattle.infer_parts.proofs.Placing.{can_child, moved, still_there, went_back, stuck_back, sets_both}

-- ---- the code

pub can_at : {k l : Code} {s : State} → k ≡ l → CanWalk k s → CanWalk l s
can_at {s = s} e c = subst (λ m. CanWalk m s) e c

pub went_at : {W : Type 0} {k l : Code} {says : Saying W} {R : Place → Region} {list : Lists W} {old new : State}
    → k ≡ l → Went W k says R list old new → Went W l says R list old new
went_at {W = W} {says = says} {R = R} {list = list} {old = old} {new = new} e w =
    subst (λ m. Went W m says R list old new) e w

pub stuck_at : {W : Type 0} {k l : Code} {says : Saying W} {R : Place → Region} {list : Lists W} {old new : State}
    {bad : Bad} → k ≡ l → Stuck W k says R list old new bad → Stuck W l says R list old new bad
stuck_at {W = W} {says = says} {R = R} {list = list} {old = old} {new = new} {bad = bad} e s =
    subst (λ m. Stuck W m says R list old new bad) e s

-- ---- branches

pub branch_is : (b : Branch) → branch_view b ≡ (pattern_view b.pattern, expr_view b.body.value)
branch_is b = view.branch b

pub formed_branch : (bs : List Branch) (i : ℕ) (b : Branch) → i < length bs → b ≡ get_or bs i b
    → FormedBranches (branches_of (map branch_view bs)) → FieldsOnce (branch_view b).0 × Formed (branch_view b).1
formed_branch [] i b l is h = absurd (omega (arith, l))
formed_branch (x ∷ bs) zero b l is h =
    subst (λ (y : Branch). FieldsOnce (branch_view y).0 × Formed (branch_view y).1) (sym is) (h.0, h.1.0)
formed_branch (x ∷ bs) (suc i) b l is h = formed_branch bs i b (omega (arith, l)) is h.1.1

pub length_taken : (bs : List Branch) (i : ℕ) → i ≤ length bs → length (map branch_view (take i bs)) ≡ i
length_taken [] zero l = refl
length_taken [] (suc i) l = absurd (omega (arith, l))
length_taken (b ∷ bs) zero l = refl
length_taken (b ∷ bs) (suc i) l = ap suc (length_taken bs i (omega (arith, l)))

pub branches_split : (bs : List Branch) (i : ℕ) (b : Branch) → i < length bs → b ≡ get_or bs i b
    → map branch_view bs ≡ map branch_view (take i bs) ++ branch_view b ∷ map branch_view (drop (suc i) bs)
branches_split [] i b l is = absurd (omega (arith, l))
branches_split (x ∷ bs) zero b l is = ap (λ (y : Branch). branch_view y ∷ map branch_view bs) (sym is)
branches_split (x ∷ bs) (suc i) b l is = ap (λ ys. branch_view x ∷ ys) (branches_split bs i b (omega (arith, l)) is)

taken_next : (bs : List Branch) (i : ℕ) (b : Branch) → i < length bs → b ≡ get_or bs i b
    → map branch_view (take (suc i) bs) ≡ map branch_view (take i bs) ++ branch_view b ∷ []
taken_next [] i b l is = absurd (omega (arith, l))
taken_next (x ∷ bs) zero b l is = ap (λ (y : Branch). branch_view y ∷ []) (sym is)
taken_next (x ∷ bs) (suc i) b l is = ap (λ ys. branch_view x ∷ ys) (taken_next bs i b (omega (arith, l)) is)

pub branches_taken : (bs : List Branch) (i : ℕ) (b : Branch) → i < length bs → b ≡ get_or bs i b
    → map branch_view (take (i + 1) bs) ≡ map branch_view (take i bs) ++ branch_view b ∷ []
branches_taken bs i b l is =
    let e : i + 1 ≡ suc i = omega arith in ap (λ n. map branch_view (take n bs)) e ∙ taken_next bs i b l is

pub all_taken : (bs : List Branch) (i : ℕ) → length bs ≤ i → map branch_view (take i bs) ≡ map branch_view bs
all_taken [] zero l = refl
all_taken [] (suc i) l = refl
all_taken (b ∷ bs) zero l = absurd (omega (arith, l))
all_taken (b ∷ bs) (suc i) l = ap (λ ys. branch_view b ∷ ys) (all_taken bs i (omega (arith, l)))

-- ---- a branch at its place

abbrev Both : Type 0
Both = Wanted × Wanted

module _ (code : Code) (here : Pos) (p : Pattern) (e : Expr) (v w i : ℕ) (old entered inner : State)
    (is : entered ≡ moved old (child (child old.place 1) i)) where
  pub branch_out : (new : State) → new ≡ moved inner old.place
      → Went (Wanted × Wanted) code (two v w) below (branch_of p e here) entered inner
      → Went (Wanted × Wanted) code (two v w) (operand_place 1 i) (branch_at p e here i) old new
  branch_out new back went =
      subst (λ s. Went Both code (two v w) (operand_place 1 i) (branch_at p e here i) old s) (sym back)
      (went_back Both code (two v w) below (branch_of p e here) (λ q. child (child q 1) i) (sets_both code 1 i) old
      inner (subst (λ s. Went Both code (two v w) below (branch_of p e here) s inner) is went))

  pub branch_stuck_out : (bad : Bad) → Stuck (Wanted × Wanted) code (two v w) below (branch_of p e here) entered inner
      bad
      → Stuck (Wanted × Wanted) code (two v w) (operand_place 1 i) (branch_at p e here i) old inner bad
  branch_stuck_out bad stuck =
      stuck_back Both code (two v w) below (branch_of p e here) (λ q. child (child q 1) i) (sets_both code 1 i) old
      inner bad (subst (λ s. Stuck Both code (two v w) below (branch_of p e here) s inner bad) is stuck)

  pub branch_there : Follows entered inner
      → inner ≡ moved (moved inner old.place) (child (child (moved inner old.place).place 1) i)
  branch_there f = still_there old inner (child (child old.place 1) i) (subst (λ s. Follows s inner) is f)

  pub entered_can : CanWalk code old → CanWalk code entered
  entered_can c =
      subst (CanWalk code) (sym is) (can_child code (moved old (child old.place 1)) i (can_child code old 1 c))

  pub entered_live : (u : ℕ) → Live old.depth old.store u → Live entered.depth entered.store u
  entered_live u l = subst (λ s. Live s.depth s.store u) (sym is) l

-- names come into scope
pub can_bound : (code : Code) (s : State) (bound : List Bound) → AllByRecursion (λ b. Live s.depth s.store b.1) bound
    → CanWalk code s → CanWalk (with_bound bound code) s
can_bound code s bound live c = record {
  ready = readies_bound code s.depth s.store bound live c.ready;
  clear = c.clear;
}

-- ---- what a call answers

abbrev Failed : (A E : Type 0) → E → Result A E
Failed A E x = Err x

-- the same error of another call
pub other_error : {A B E : Type 0} (x y : E) → Failed A E x ≡ Failed A E y → Failed B E x ≡ Failed B E y
other_error x y e = ap Err (let d : x ≡ y = cc in d)
