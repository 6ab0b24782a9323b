-- The place of the state: at a child, and back.
use Rattle.std.proofs.Common.{◌≡◌, ℕ, Bool, true, false, refl, sym, ap, subst}
use Rattle.elm_base.specs.declared.position.Pos.{Pos}
use Rattle.elm_canon.specs.Tree.{Expr}
use Rattle.type_items.specs.Items.{Place, child, Wanted}
use Rattle.type_items.specs.Scopes.{Scope}
use Rattle.type_constructs.specs.Failing.{Bad}
use Rattle.type_walks.specs.Regions.{Region, below}
use Rattle.type_walks.specs.Links.{Links, Live}
use Rattle.type_walks.specs.Walks.{Around}
use Rattle.type_constructs.proofs.Spots.{Here, Child, Below, In, atom_inside}
use Rattle.infer_steps.specs.Codes.{Code, State}
use Rattle.infer_steps.specs.Means.{Setting}
use Rattle.infer_steps.specs.Ready.{Follows}
use Rattle.infer_steps.proofs.Staying.{setting_child}
use Rattle.infer_parts.specs.Steps.{CanWalk, Lists, Saying, one, Went, Stuck}
use Rattle.infer_parts.specs.Parts.{listed, part_of, part_place, operand_of, operand_place}
use Rattle.infer_parts.proofs.Going.{ready_on}

-- ---- it can go on

not_below : (p : Place) (i : ℕ) (r : Place) → below p r ≡ false → below (child p i) r ≡ false
not_below p i r off = go (below (child p i) r) refl
  where
    go : (b : Bool) → below (child p i) r ≡ b → b ≡ false
    go false e = refl
    go true e = absurd (let up : below p r ≡ true = (atom_inside p (In (Child Here i) Below) refl).each r e in cc)

pub can_child : (code : Code) (s : State) (i : ℕ) → CanWalk code s → CanWalk code (record s { place = child s.place i })
can_child code s i c = record { ready = c.ready; clear = λ r h. not_below s.place i r.place (c.clear r h) }

pub can_on : (code : Code) (old new : State) → CanWalk code old → Follows old new → CanWalk code new
can_on code old new c f = record {
  ready = ready_on code old new c.ready f;
  clear = λ r h. subst (λ (p : Place). below p r.place ≡ false) (sym f.place) (c.clear r (f.later.constants r h));
}

-- ---- at another place

-- the state at this place
abbrev pub moved : State → Place → State
moved s p = record s { place = p }

-- it follows from where it went to
pub follows_back : (old inner : State) (p : Place) → Follows (moved old p) inner → Follows old (moved inner old.place)
follows_back old inner p f = record { place = refl; depth = f.depth; whole = f.whole; later = f.later; back = f.back }

-- the state there, said by its place
pub still_there : (old inner : State) (p : Place) → Follows (moved old p) inner
    → inner ≡ moved (moved inner old.place) p
still_there old inner p f = ap (λ q. moved inner q) f.place

-- a walk at a place below is one of a part
module _ (W : Type 0) (code : Code) (says : Saying W) (R : Place → Region) (list : Lists W) (at : Place → Place)
    (sets : (a : Around) (links : Links) (scope : Scope) (s : State) → Setting a links code scope s → Setting a links
    code scope (moved s (at s.place)))
    (old inner : State) where
  pub went_back : Went W code says R list (moved old (at old.place)) inner
      → Went W code says (λ q. R (at q)) (λ scope q w. list scope (at q) w) old (moved inner old.place)
  went_back w = record {
    follows = follows_back old inner (at old.place) w.follows;
    step = λ real a links scope q x real_at set has. w.step real a links scope (at q) x (λ r. ap at (real_at r))
        (sets a links scope old set) has;
  }

  pub stuck_back : (bad : Bad) → Stuck W code says R list (moved old (at old.place)) inner bad
      → Stuck W code says (λ q. R (at q)) (λ scope q w. list scope (at q) w) old inner bad
  stuck_back bad s = record {
    fails = λ a links scope q x e set has. s.fails a links scope (at q) x (ap at e) (sets a links scope old set) has;
  }

pub sets_child : (code : Code) (i : ℕ) (a : Around) (links : Links) (scope : Scope) (s : State)
    → Setting a links code scope s
    → Setting a links code scope (moved s (child s.place i))
sets_child code i a links scope s set = setting_child a links code scope s i set

pub sets_both : (code : Code) (i j : ℕ) (a : Around) (links : Links) (scope : Scope) (s : State)
    → Setting a links code scope s
    → Setting a links code scope (moved s (child (child s.place i) j))
sets_both code i j a links scope s set =
    setting_child a links code scope (moved s (child s.place i)) j (setting_child a links code scope s i set)

-- ---- an expression at a child, and at a child of a child

module _ (code : Code) (v : ℕ) (e : Expr) (here : Pos) (old entered inner : State) where
  module _ (i : ℕ) (is : entered ≡ moved old (child old.place i)) where
    pub part_back : (new : State) → new ≡ moved inner old.place
        → Went Wanted code (one v) below (listed e here) entered inner
        → Went Wanted code (one v) (part_place i) (part_of e here i) old new
    part_back new back w =
        subst (λ s. Went Wanted code (one v) (part_place i) (part_of e here i) old s) (sym back)
        (went_back Wanted code (one v) below (listed e here) (λ q. child q i) (sets_child code i) old inner
        (subst (λ s. Went Wanted code (one v) below (listed e here) s inner) is w))

    pub part_stuck_back : (bad : Bad) → Stuck Wanted code (one v) below (listed e here) entered inner bad
        → Stuck Wanted code (one v) (part_place i) (part_of e here i) old inner bad
    part_stuck_back bad s =
        stuck_back Wanted code (one v) below (listed e here) (λ q. child q i) (sets_child code i) old inner bad
        (subst (λ s. Stuck Wanted code (one v) below (listed e here) s inner bad) is s)

    pub part_there : Follows entered inner → inner ≡ moved (moved inner old.place)
        (child (moved inner old.place).place i)
    part_there f = still_there old inner (child old.place i) (subst (λ s. Follows s inner) is f)

  module _ (i j : ℕ) (is : entered ≡ moved old (child (child old.place i) j)) where
    pub operand_back : (new : State) → new ≡ moved inner old.place
        → Went Wanted code (one v) below (listed e here) entered inner
        → Went Wanted code (one v) (operand_place i j) (operand_of e here i j) old new
    operand_back new back w =
        subst (λ s. Went Wanted code (one v) (operand_place i j) (operand_of e here i j) old s) (sym back)
        (went_back Wanted code (one v) below (listed e here) (λ q. child (child q i) j) (sets_both code i j) old inner
        (subst (λ s. Went Wanted code (one v) below (listed e here) s inner) is w))

    pub operand_stuck_back : (bad : Bad) → Stuck Wanted code (one v) below (listed e here) entered inner bad
        → Stuck Wanted code (one v) (operand_place i j) (operand_of e here i j) old inner bad
    operand_stuck_back bad s =
        stuck_back Wanted code (one v) below (listed e here) (λ q. child (child q i) j) (sets_both code i j) old inner
        bad
        (subst (λ s. Stuck Wanted code (one v) below (listed e here) s inner bad) is s)

    pub operand_there : Follows entered inner → inner ≡ moved (moved inner old.place)
        (child (child (moved inner old.place).place i) j)
    operand_there f = still_there old inner (child (child old.place i) j) (subst (λ s. Follows s inner) is f)

-- ---- and back

pub part_done : (code : Code) (v : ℕ) (e : Expr) (here : Pos) (i : ℕ) (old entered inner new : State)
    → entered ≡ moved old (child old.place i)
    → Went Wanted code (one v) below (listed e here) entered inner →
    ((s : State) (j : ℕ) → inner ≡ moved s (child s.place j) → new ≡ s)
    → Went Wanted code (one v) (part_place i) (part_of e here i) old new
part_done code v e here i old entered inner new is w back =
    part_back code v e here old entered inner i is new
    (back (moved inner old.place) i (part_there code v e here old entered inner i is w.follows)) w

pub operand_done : (code : Code) (v : ℕ) (e : Expr) (here : Pos) (i j : ℕ) (old entered inner new : State)
    → entered ≡ moved old (child (child old.place i) j) → Went Wanted code (one v) below (listed e here) entered inner
    → ((s : State) (k l : ℕ) → inner ≡ moved s (child (child s.place k) l) → new ≡ s)
    → Went Wanted code (one v) (operand_place i j) (operand_of e here i j) old new
operand_done code v e here i j old entered inner new is w back =
    operand_back code v e here old entered inner i j is new
    (back (moved inner old.place) i j (operand_there code v e here old entered inner i j is w.follows)) w

-- it can go on at a child, and after a step
pub can_part : (code : Code) (old entered : State) (i : ℕ) → entered ≡ moved old (child old.place i) → CanWalk code old
    → CanWalk code entered
can_part code old entered i is c = subst (λ s. CanWalk code s) (sym is) (can_child code old i c)

pub can_operand : (code : Code) (old entered : State) (i j : ℕ) → entered ≡ moved old (child (child old.place i) j)
    → CanWalk code old → CanWalk code entered
can_operand code old entered i j is c =
    subst (λ s. CanWalk code s) (sym is) (can_child code (moved old (child old.place i)) j (can_child code old i c))

pub can_then : (code k : Code) (old new : State) → k ≡ code → CanWalk code old → Follows old new → CanWalk k new
can_then code k old new e c f = subst (λ x. CanWalk x new) (sym e) (can_on code old new c f)

pub live_there : (old entered : State) (p : Place) (v : ℕ) → entered ≡ moved old p → Live old.depth old.store v
    → Live entered.depth entered.store v
live_there old entered p v is l = subst (λ (s : State). Live s.depth s.store v) (sym is) l
