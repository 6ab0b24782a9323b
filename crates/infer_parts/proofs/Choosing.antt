-- Choices: `case` and its branches, `if`, `&&` and `||`.
use Rattle.std.proofs.Common.{◌≡◌, ℕ, ◌+◌, List, [], ◌∷◌, ◌++◌, length, refl, sym, ap, ◌∙◌, arith}
use Rattle.std.proofs.lemmas.List.{append-nil, append_assoc, length_push, length-append}
use Rattle.elm_base.specs.declared.position.Pos.{Pos}
use Rattle.elm_canon.specs.declared.tree.Connective.{Connective}
use Rattle.elm_canon.specs.Tree.{Pattern, Expr, If, Logical, Case, branches_of}
use Rattle.elm_type.specs.Types.{bool_type, int_type}
use Rattle.type_items.specs.Items.{Place, child, Wanted, at}
use Rattle.type_items.specs.Scopes.{Scope}
use Rattle.type_items.specs.Patterns.{pattern_items, bind_pattern}
use Rattle.type_items.specs.Expressions.{items, branch_items}
use Rattle.type_constructs.specs.Failing.{Bad}
use Rattle.type_walks.specs.Regions.{Region, none, only, below, either, Inside, Apart}
use Rattle.type_walks.specs.Links.{Has}
use Rattle.type_walks.proofs.Regions.{none_inside, none_apart, either_inside}
use Rattle.type_walks.proofs.Linking.{left_inside, right_inside}
use Rattle.type_walks.proofs.Walking.{rests, widens}
use Rattle.type_constructs.specs.Regions.{deep}
use Rattle.type_constructs.proofs.Spots.{Here, Child, Itself, Below, Tops, Deep, In, atoms_apart, atom_inside}
use Rattle.type_constructs.proofs.Parts.{deep_in_deep, below_in_deep, deep_apart_below}
use Rattle.type_constructs.proofs.Walking.{branches_after}
use Rattle.type_constructs.proofs.Chains.{tells_same, tells_more, has_new, has_still}
use Rattle.infer_steps.specs.Codes.{Code, State}
use Rattle.infer_steps.specs.Ready.{IsReady}
use Rattle.infer_steps.specs.Made.{IsOpened, IsMade, Just}
use Rattle.infer_steps.proofs.Stepping.{follows_itself}
use Rattle.infer_steps.specs.Begun.{Begun, BeginStops}
use Rattle.infer_steps.specs.Operations.{operands, logical_items, logical_types}
use Rattle.infer_parts.specs.Steps.{Lists, one, two, each, Went, Stuck, Gives, Opens}
use Rattle.infer_parts.specs.Parts.{listed, part_of, part_place, operand_place, type_at, branch_at}
use Rattle.infer_parts.specs.Parts.{branches_at, branches_region, BranchesWent, BranchesStuck}
use Rattle.infer_parts.specs.Chains.{DecidedOpens}
use Rattle.infer_parts.proofs.Going.{plain_step, went_as, stuck_as, went_on, stuck_on, closes, goes, sticks}
use Rattle.infer_parts.proofs.Going.{same_inside, either_apart, zip_at}
use Rattle.infer_parts.proofs.Operating.{begun_opens, begin_stuck}
use Rattle.infer_parts.proofs.Calling.{part_for}

-- ---- regions

part_below : (i : ℕ) (q : Place) → Inside (part_place i q) (below q)
part_below i q = atom_inside q (In (Child Here i) Below) refl

-- ---- branches, one after the other

abbrev Both : Type 0
Both = Wanted × Wanted

pub branches_none : (code : Code) (v w : ℕ) (here : Pos) (s : State) → IsReady code s.depth s.store
    → BranchesWent code v w here [] s s
branches_none code v w here s ready = record {
  follows = follows_itself s ready.whole;
  step = λ real a links scope q ts real_at set has.
      plain_step real a (deep (child q 1) 0 0) [] s.store s.store links links tt
      (widens a none (deep (child q 1) 0 0) [] s.store s.store links links (none_inside (deep (child q 1) 0 0))
      (rests a s.store links));
}

module _ (code : Code) (v w : ℕ) (here : Pos) (bs : List (Pattern × Expr)) (p : Pattern) (e : Expr) (i : ℕ)
    (is : i ≡ length bs) where
  parts_apart : (q : Place) → Apart (branches_region bs q) (operand_place 1 i q)
  parts_apart q = deep_apart_below (child q 1) 0 (length bs) i (omega (arith, is))

  -- those so far, and the next one
  with_next : (scope : Scope) (q : Place) (ts : Both) (more : List (Pattern × Expr))
      → branches_at bs here scope q ts ++ (branch_at p e here i scope q ts ++ branch_items (branches_of more) scope here
      (child q 1) (i + 1) ts.0 ts.1)
      ≡ branches_at (bs ++ (p, e) ∷ more) here scope q ts
  with_next scope q ts more =
      let x = pattern_items p scope.known here (child (child (child q 1) i) 0) ts.0 in
      let y = items e (bind_pattern p (child (child (child q 1) i) 0) ts.0 scope) here (child (child (child q 1) i) 1)
      ts.1 in
      ap (λ l. branches_at bs here scope q ts ++ l)
      (append_assoc x y (branch_items (branches_of more) scope here (child q 1) (i + 1) ts.0 ts.1))
      ∙ sym (branches_after bs p e more scope here (child q 1) 0 i ts.0 ts.1 (omega (arith, is)))

  pub branches_next : (old mid new : State) → IsReady code old.depth old.store → BranchesWent code v w here bs old mid
      → Went (Wanted × Wanted) code (two v w) (operand_place 1 i) (branch_at p e here i) mid new
      → BranchesWent code v w here (bs ++ (p, e) ∷ []) old new
  branches_next old mid new ready one next =
      went_on Both code (two v w) (branches_region bs) (operand_place 1 i) (branches_region (bs ++ (p, e) ∷ []))
      (branches_at bs here) (branch_at p e here i)
      (branches_at (bs ++ (p, e) ∷ []) here) old mid new ready parts_apart
      (λ q. let l = length_push bs (p, e) in deep_in_deep (child q 1) 0 (length (bs ++ (p, e) ∷ [])) 0 (length bs)
      (omega arith) (omega (arith, l)))
      (λ q. let l = length_push bs (p, e) in below_in_deep (child q 1) 0 (length (bs ++ (p, e) ∷ [])) i (omega arith)
      (omega (arith, l, is)))
      (λ links scope q ts has.
      ap (λ l. branches_at bs here scope q ts ++ l) (sym (append-nil (branch_at p e here i scope q ts))) ∙ with_next
      scope q ts []) one next

  abbrev with_more : List (Pattern × Expr) → Lists Both
  with_more more scope q ts =
      branch_at p e here i scope q ts ++ branch_items (branches_of more) scope here (child q 1) (i + 1) ts.0 ts.1

  pub branches_next_stuck : (more : List (Pattern × Expr)) (old mid new : State) (bad : Bad)
      → IsReady code old.depth old.store
      → BranchesWent code v w here bs old mid
      → Stuck (Wanted × Wanted) code (two v w) (operand_place 1 i) (branch_at p e here i) mid new bad
      → BranchesStuck code v w here (bs ++ (p, e) ∷ more) old new bad
  branches_next_stuck more old mid new bad ready one next =
      let l = length-append bs ((p, e) ∷ more) in
      stuck_on Both code (two v w) (branches_region bs) (operand_place 1 i) (branches_region (bs ++ (p, e) ∷ more))
      (branches_at bs here) (with_more more)
      (branches_at (bs ++ (p, e) ∷ more) here) old mid new bad ready parts_apart
      (λ q. deep_in_deep (child q 1) 0 (length (bs ++ (p, e) ∷ more)) 0 (length bs) (omega arith) (omega (arith, l)))
      (λ q. below_in_deep (child q 1) 0 (length (bs ++ (p, e) ∷ more)) i (omega arith) (omega (arith, l, is)))
      (λ links scope q ts has. with_next scope q ts more) one
      (stuck_as Both Both code (two v w) (two v w) (operand_place 1 i) (operand_place 1 i) (branch_at p e here i)
      (with_more more) mid new bad (λ scope q ts. ts)
      (λ scope q ts. branch_items (branches_of more) scope here (child q 1) (i + 1) ts.0 ts.1)
      (λ links scope q ts has. has)
      (λ q. same_inside (operand_place 1 i q)) (λ links scope q ts has. refl) next)

-- ---- `case`

abbrev subject_place : Place → Region
subject_place q = only (child q 0)

abbrev no_items : Lists Wanted
no_items scope q t = []

abbrev case_types : Scope → Place → Wanted → Both
case_types scope q t = (at (child q 0), t)

case_opens : (code : Code) (v w : ℕ) (old s : State) → IsOpened old s v
    → Opens Wanted code (one w) subject_place no_items Both (two v w) case_types old s
case_opens code v w old s o = record {
  follows = o.follows;
  gives = λ real a links scope q t real_at set has. record {
    after = (v, at (child q 0)) ∷ links;
    step = plain_step real a (only (child q 0)) [] old.store s.store links ((v, at (child q 0)) ∷ links) tt
        (o.walk a links (child q 0) set.around.depth set.live);
    tells = tells_more v (at (child q 0)) (tells_same links);
    known = (has_new v (at (child q 0)) links, has_still (tells_more v (at (child q 0)) (tells_same links)) has);
  };
}

module _ (code : Code) (v w : ℕ) (here : Pos) (e : Expr) (bs : List (Pattern × Expr)) (old s : State)
    (ready : IsReady code old.depth old.store)
    (opened : IsOpened old s v) where
  abbrev whole : Lists Wanted
  whole = listed (Case e (branches_of bs)) here

  abbrev subject_items : Lists Both
  subject_items scope q ts = items e scope here (child q 0) ts.0

  own_apart : (q : Place) → Apart (subject_place q) (part_place 0 q)
  own_apart q = atoms_apart q (In (Child Here 0) Itself) (In (Child Here 0) Below) refl

  own_below : (q : Place) → Inside (subject_place q) (below q)
  own_below q = atom_inside q (In (Child Here 0) Itself) refl

  abbrev walked_place : Place → Region
  walked_place q = either (subject_place q) (part_place 0 q)

  walked_apart : (q : Place) → Apart (walked_place q) (branches_region bs q)
  walked_apart q =
      either_apart (subject_place q) (part_place 0 q) (branches_region bs q)
      (atoms_apart q (In (Child Here 0) Itself) (In (Child Here 1) (Deep 0 (length bs))) refl)
      (atoms_apart q (In (Child Here 0) Below) (In (Child Here 1) (Deep 0 (length bs))) refl)

  walked_below : (q : Place) → Inside (walked_place q) (below q)
  walked_below q = either_inside (subject_place q) (part_place 0 q) (below q) (own_below q) (part_below 0 q)

  branches_below : (q : Place) → Inside (branches_region bs q) (below q)
  branches_below q = atom_inside q (In (Child Here 1) (Deep 0 (length bs))) refl

  abbrev asked : Lists Wanted
  asked scope q t = items e scope here (child q 0) (at (child q 0))

  -- after the subject
  subject_went : (mid : State) → Went Wanted code (one v) (part_place 0) (part_of e here 0) s mid
      → Opens Wanted code (one w) walked_place asked Both (two v w) case_types old mid
  subject_went mid went =
      goes Wanted Both code (one w) (two v w) case_types subject_place (part_place 0) walked_place no_items
      subject_items asked old s ready own_apart
      (λ q. left_inside (subject_place q) (part_place 0 q)) (λ q. right_inside (subject_place q) (part_place 0 q))
      (λ links scope q t has. refl)
      (case_opens code v w old s opened) mid
      (went_as Wanted Both code (one v) (two v w) (part_place 0) (part_place 0) (part_of e here 0) subject_items s mid
      (λ scope q ts. ts.0)
      (λ links scope q ts has. has.0) (λ q. same_inside (part_place 0 q)) (λ links scope q ts has. refl) went)

  pub case_closes : (mid new : State) → Went Wanted code (one v) (part_place 0) (part_of e here 0) s mid
      → BranchesWent code v w here bs mid new
      → Went Wanted code (one w) below (listed (Case e (branches_of bs)) here) old new
  case_closes mid new went branches =
      closes Wanted Both code (one w) (two v w) case_types walked_place (branches_region bs) below asked
      (branches_at bs here) whole old mid ready
      walked_apart walked_below branches_below (λ links scope q t has. refl) (subject_went mid went) new branches

  abbrev with_branches : Lists Both
  with_branches scope q ts = items e scope here (child q 0) ts.0 ++ branches_at bs here scope q ts

  pub subject_stuck : (new : State) (bad : Bad) → Stuck Wanted code (one v) (part_place 0) (part_of e here 0) s new bad
      → Stuck Wanted code (one w) below (listed (Case e (branches_of bs)) here) old new bad
  subject_stuck new bad stuck =
      sticks Wanted Both code (one w) (two v w) case_types subject_place (part_place 0) below no_items with_branches
      whole old s ready own_apart
      own_below (part_below 0) (λ links scope q t has. refl) (case_opens code v w old s opened) new bad
      (stuck_as Wanted Both code (one v) (two v w) (part_place 0) (part_place 0) (part_of e here 0) with_branches s new
      bad (λ scope q ts. ts.0)
      (branches_at bs here) (λ links scope q ts has. has.0) (λ q. same_inside (part_place 0 q))
      (λ links scope q ts has. refl) stuck)

  pub branches_stuck : (mid new : State) (bad : Bad) → Went Wanted code (one v) (part_place 0) (part_of e here 0) s mid
      → BranchesStuck code v w here bs mid new bad → Stuck Wanted code (one w) below
      (listed (Case e (branches_of bs)) here) old new bad
  branches_stuck mid new bad went stuck =
      sticks Wanted Both code (one w) (two v w) case_types walked_place (branches_region bs) below asked
      (branches_at bs here) whole old mid ready
      walked_apart walked_below branches_below (λ links scope q t has. refl) (subject_went mid went) new bad stuck

-- ---- `if`

abbrev if_types : Scope → Place → Wanted → Both
if_types scope q t = (bool_type, t)

abbrev nowhere : Place → Region
nowhere q = none

if_opens : (code : Code) (v w : ℕ) (old s : State) → IsMade old s v (Just bool_type)
    → Opens Wanted code (one w) nowhere no_items Both (two v w) if_types old s
if_opens code v w old s m = record {
  follows = m.follows;
  gives = λ real a links scope q t real_at set has. (
      let y = m.typed a links bool_type set.around.depth set.live refl in
      record {
        after = y.after;
        step = plain_step real a none [] old.store s.store links y.after tt y.walk;
        tells = y.tells;
        known = (y.has, has_still y.tells has);
      });
}

module _ (code : Code) (v w : ℕ) (here : Pos) (c x y : Expr) (old s : State) (ready : IsReady code old.depth old.store)
    (made : IsMade old s v (Just bool_type)) where
  abbrev all : Lists Wanted
  all = listed (If c x y) here

  abbrev test_items : Lists Both
  test_items scope q ts = items c scope here (child q 0) ts.0

  abbrev then_items : Lists Both
  then_items scope q ts = items x scope here (child q 1) ts.1

  abbrev else_items : Lists Both
  else_items scope q ts = items y scope here (child q 2) ts.1

  abbrev tested : Lists Wanted
  tested scope q t = items c scope here (child q 0) bool_type

  abbrev chosen : Lists Wanted
  chosen scope q t = items c scope here (child q 0) bool_type ++ items x scope here (child q 1) t

  abbrev chosen_place : Place → Region
  chosen_place q = either (part_place 0 q) (part_place 1 q)

  nowhere_apart : (q : Place) → Apart (nowhere q) (part_place 0 q)
  nowhere_apart q = none_apart (part_place 0 q)

  nowhere_in : (q : Place) → Inside (nowhere q) (part_place 0 q)
  nowhere_in q = none_inside (part_place 0 q)

  then_apart : (q : Place) → Apart (part_place 0 q) (part_place 1 q)
  then_apart q = atoms_apart q (In (Child Here 0) Below) (In (Child Here 1) Below) refl

  else_apart : (q : Place) → Apart (chosen_place q) (part_place 2 q)
  else_apart q =
      either_apart (part_place 0 q) (part_place 1 q) (part_place 2 q)
      (atoms_apart q (In (Child Here 0) Below) (In (Child Here 2) Below) refl)
      (atoms_apart q (In (Child Here 1) Below) (In (Child Here 2) Below) refl)

  chosen_below : (q : Place) → Inside (chosen_place q) (below q)
  chosen_below q = either_inside (part_place 0 q) (part_place 1 q) (below q) (part_below 0 q) (part_below 1 q)

  -- after the test
  test_went : (one_ : State) → Went Wanted code (one v) (part_place 0) (part_of c here 0) s one_
      → Opens Wanted code (one w) (part_place 0) tested Both (two v w) if_types old one_
  test_went one_ went =
      goes Wanted Both code (one w) (two v w) if_types nowhere (part_place 0) (part_place 0) no_items test_items tested
      old s ready nowhere_apart nowhere_in
      (λ q. same_inside (part_place 0 q)) (λ links scope q t has. refl) (if_opens code v w old s made) one_
      (went_as Wanted Both code (one v) (two v w) (part_place 0) (part_place 0) (part_of c here 0) test_items s one_
      (λ scope q ts. ts.0)
      (λ links scope q ts has. has.0) (λ q. same_inside (part_place 0 q)) (λ links scope q ts has. refl) went)

  -- and what is chosen first
  then_went : (one_ two_ : State) → Went Wanted code (one v) (part_place 0) (part_of c here 0) s one_
      → Went Wanted code (one w) (part_place 1) (part_of x here 1) one_ two_
      → Opens Wanted code (one w) chosen_place chosen Both (two v w) if_types old two_
  then_went one_ two_ first went =
      goes Wanted Both code (one w) (two v w) if_types (part_place 0) (part_place 1) chosen_place tested then_items
      chosen old one_ ready then_apart
      (λ q. left_inside (part_place 0 q) (part_place 1 q)) (λ q. right_inside (part_place 0 q) (part_place 1 q))
      (λ links scope q t has. refl)
      (test_went one_ first) two_
      (went_as Wanted Both code (one w) (two v w) (part_place 1) (part_place 1) (part_of x here 1) then_items one_ two_
      (λ scope q ts. ts.1)
      (λ links scope q ts has. has.1) (λ q. same_inside (part_place 1 q)) (λ links scope q ts has. refl) went)

  pub if_closes : (one_ two_ new : State) → Went Wanted code (one v) (part_place 0) (part_of c here 0) s one_
      → Went Wanted code (one w) (part_place 1) (part_of x here 1) one_ two_ → Went Wanted code (one w) (part_place 2)
      (part_of y here 2) two_ new
      → Went Wanted code (one w) below (listed (If c x y) here) old new
  if_closes one_ two_ new first second went =
      closes Wanted Both code (one w) (two v w) if_types chosen_place (part_place 2) below chosen else_items all old
      two_ ready else_apart chosen_below
      (part_below 2)
      (λ links scope q t has. append_assoc (items c scope here (child q 0) bool_type) (items x scope here (child q 1) t)
      (items y scope here (child q 2) t))
      (then_went one_ two_ first second) new
      (went_as Wanted Both code (one w) (two v w) (part_place 2) (part_place 2) (part_of y here 2) else_items two_ new
      (λ scope q ts. ts.1)
      (λ links scope q ts has. has.1) (λ q. same_inside (part_place 2 q)) (λ links scope q ts has. refl) went)

  abbrev rest : Lists Both
  rest scope q ts = then_items scope q ts ++ else_items scope q ts

  abbrev with_rest : Lists Both
  with_rest scope q ts = test_items scope q ts ++ rest scope q ts

  pub test_stuck : (new : State) (bad : Bad) → Stuck Wanted code (one v) (part_place 0) (part_of c here 0) s new bad
      → Stuck Wanted code (one w) below (listed (If c x y) here) old new bad
  test_stuck new bad stuck =
      sticks Wanted Both code (one w) (two v w) if_types nowhere (part_place 0) below no_items with_rest all old s ready
      nowhere_apart
      (λ q. none_inside (below q)) (part_below 0) (λ links scope q t has. refl) (if_opens code v w old s made) new bad
      (stuck_as Wanted Both code (one v) (two v w) (part_place 0) (part_place 0) (part_of c here 0) with_rest s new bad
      (λ scope q ts. ts.0) rest
      (λ links scope q ts has. has.0) (λ q. same_inside (part_place 0 q)) (λ links scope q ts has. refl) stuck)

  abbrev with_else : Lists Both
  with_else scope q ts = then_items scope q ts ++ else_items scope q ts

  pub then_stuck : (one_ new : State) (bad : Bad) → Went Wanted code (one v) (part_place 0) (part_of c here 0) s one_
      → Stuck Wanted code (one w) (part_place 1) (part_of x here 1) one_ new bad
      → Stuck Wanted code (one w) below (listed (If c x y) here) old new bad
  then_stuck one_ new bad first stuck =
      sticks Wanted Both code (one w) (two v w) if_types (part_place 0) (part_place 1) below tested with_else all old
      one_ ready then_apart (part_below 0)
      (part_below 1) (λ links scope q t has. refl) (test_went one_ first) new bad
      (stuck_as Wanted Both code (one w) (two v w) (part_place 1) (part_place 1) (part_of x here 1) with_else one_ new
      bad (λ scope q ts. ts.1) else_items
      (λ links scope q ts has. has.1) (λ q. same_inside (part_place 1 q)) (λ links scope q ts has. refl) stuck)

  abbrev with_none : Lists Both
  with_none scope q ts = else_items scope q ts ++ []

  pub else_stuck : (one_ two_ new : State) (bad : Bad) → Went Wanted code (one v) (part_place 0)
      (part_of c here 0) s one_
      → Went Wanted code (one w) (part_place 1) (part_of x here 1) one_ two_
      → Stuck Wanted code (one w) (part_place 2) (part_of y here 2) two_ new bad
      → Stuck Wanted code (one w) below (listed (If c x y) here) old new bad
  else_stuck one_ two_ new bad first second stuck =
      sticks Wanted Both code (one w) (two v w) if_types chosen_place (part_place 2) below chosen with_none all old two_
      ready else_apart chosen_below
      (part_below 2) (λ links scope q t has. same scope q t) (then_went one_ two_ first second) new bad
      (stuck_as Wanted Both code (one w) (two v w) (part_place 2) (part_place 2) (part_of y here 2) with_none two_ new
      bad (λ scope q ts. ts.1)
      (λ scope q ts. []) (λ links scope q ts has. has.1) (λ q. same_inside (part_place 2 q))
      (λ links scope q ts has. refl) stuck)
    where
      same : (scope : Scope) (q : Place) (t : Wanted)
          → chosen scope q t ++ (items y scope here (child q 2) t ++ []) ≡ all scope q t
      same scope q t =
          ap (λ l. chosen scope q t ++ l) (append-nil (items y scope here (child q 2) t))
          ∙ append_assoc (items c scope here (child q 0) bool_type) (items x scope here (child q 1) t)
          (items y scope here (child q 2) t)

-- ---- `&&` and `||`

module _ (code : Code) (w : ℕ) (pos here : Pos) (o : Connective) (a b : Expr) where
  abbrev decided : Lists Wanted
  decided = listed (Logical pos o a b) here

  abbrev left_place : Place → Region
  left_place q = either (operands q) (below (child q 0))

  operands_apart : (q : Place) → Apart (operands q) (part_place 0 q)
  operands_apart q = atoms_apart q (In Here (Tops 0 2)) (In (Child Here 0) Below) refl

  operands_below : (q : Place) → Inside (operands q) (below q)
  operands_below q = atom_inside q (In Here (Tops 0 2)) refl

  left_apart : (q : Place) → Apart (left_place q) (part_place 1 q)
  left_apart q =
      either_apart (operands q) (below (child q 0)) (part_place 1 q)
      (atoms_apart q (In Here (Tops 0 2)) (In (Child Here 1) Below) refl)
      (atoms_apart q (In (Child Here 0) Below) (In (Child Here 1) Below) refl)

  left_below : (q : Place) → Inside (left_place q) (below q)
  left_below q = either_inside (operands q) (below (child q 0)) (below q) (operands_below q) (part_below 0 q)

  pub decided_unbegun : (old new : State) (bad : Bad) → BeginStops code w operands (logical_items pos) old new bad
      → Stuck Wanted code (one w) below (listed (Logical pos o a b) here) old new bad
  decided_unbegun old new bad stops =
      stuck_as Wanted Wanted code (one w) (one w) operands below (logical_items pos) decided old new bad
      (λ scope q t. t)
      (λ scope q t. items a scope here (child q 0) (at (child q 0)) ++ items b scope here (child q 1) (at (child q 1)))
      (λ links scope q t has. has)
      operands_below (λ links scope q t has. refl) (begin_stuck code w operands (logical_items pos) old new bad stops)

  module _ (l r : ℕ) (old s : State) (ready : IsReady code old.depth old.store)
      (begun : Begun code w operands (logical_items pos) (l ∷ r ∷ []) logical_types old s) where
    abbrev left_items : Lists Wanted
    left_items scope q t = logical_items pos scope q t ++ part_of a here 0 scope q (at (child q 0))

    pub decided_opens : (mid : State) → Went Wanted code (one l) (part_place 0) (part_of a here 0) s mid
        → DecidedOpens code w pos here a r old mid
    decided_opens mid went =
        record {
          follows = opens.follows;
          gives = λ real d links scope q t real_at set has. right
              (opens.gives real d links scope q t real_at set has);
        }
      where
        opens : Opens Wanted code (one w) left_place left_items (List Wanted) (each (l ∷ r ∷ [])) logical_types old mid
        opens =
            goes Wanted (List Wanted) code (one w) (each (l ∷ r ∷ [])) logical_types operands (part_place 0) left_place
            (logical_items pos)
            (λ scope q ts. items a scope here (child q 0) (type_at ts 0)) left_items old s ready operands_apart
            (λ q. left_inside (operands q) (below (child q 0))) (λ q. right_inside (operands q) (below (child q 0)))
            (λ links scope q t has. refl)
            (begun_opens code w operands (logical_items pos) (l ∷ r ∷ []) logical_types old s begun) mid
            (part_for code a here 0 0 (l ∷ r ∷ []) l s mid (omega arith) refl went)

        right : {real : _} {d : _} {R : _} {list : _} {u : _} {links : _} {u' : _} {t z : Wanted}
            → Gives real d R list u links u' (List Wanted) (each (l ∷ r ∷ [])) (t ∷ z ∷ []) → Gives real d R list u
            links u' Wanted (one r) z
        right g = record { after = g.after; step = g.step; tells = g.tells; known = g.known.1.0 }

    abbrev with_right : Lists (List Wanted)
    with_right scope q ts =
        items a scope here (child q 0) (type_at ts 0) ++ items b scope here (child q 1) (at (child q 1))

    pub left_stuck : (new : State) (bad : Bad) → Stuck Wanted code (one l) (part_place 0) (part_of a here 0) s new bad
        → Stuck Wanted code (one w) below (listed (Logical pos o a b) here) old new bad
    left_stuck new bad stuck =
        sticks Wanted (List Wanted) code (one w) (each (l ∷ r ∷ [])) logical_types operands (part_place 0) below
        (logical_items pos) with_right decided old s ready
        operands_apart operands_below (part_below 0) (λ links scope q t has. refl)
        (begun_opens code w operands (logical_items pos) (l ∷ r ∷ []) logical_types old s begun) new bad
        (stuck_as Wanted (List Wanted) code (one l) (each (l ∷ r ∷ [])) (part_place 0) (part_place 0) (part_of a here 0)
        with_right s new bad
        (λ scope q ts. type_at ts 0) (λ scope q ts. items b scope here (child q 1) (at (child q 1)))
        (λ links scope q ts has. zip_at (Has links) (l ∷ r ∷ []) ts 0 0 int_type (omega arith) has)
        (λ q. same_inside (part_place 0 q))
        (λ links scope q ts has. refl) stuck)

  pub decided_closes : (v : ℕ) (old mid new : State) → IsReady code old.depth old.store
      → DecidedOpens code w pos here a v old mid
      → Went Wanted code (one v) (part_place 1) (part_of b here 1) mid new
      → Went Wanted code (one w) below (listed (Logical pos o a b) here) old new
  decided_closes v old mid new ready opens went =
      closes Wanted Wanted code (one w) (one v) (λ scope q t. at (child q 1)) left_place (part_place 1) below
      (λ scope q t. logical_items pos scope q t ++ part_of a here 0 scope q (at (child q 0))) (part_of b here 1) decided
      old mid ready left_apart left_below
      (part_below 1) (λ links scope q t has. refl) opens new went

  pub right_stuck : (v : ℕ) (old mid new : State) (bad : Bad) → IsReady code old.depth old.store
      → DecidedOpens code w pos here a v old mid
      → Stuck Wanted code (one v) (part_place 1) (part_of b here 1) mid new bad
      → Stuck Wanted code (one w) below (listed (Logical pos o a b) here) old new bad
  right_stuck v old mid new bad ready opens stuck =
      sticks Wanted Wanted code (one w) (one v) (λ scope q t. at (child q 1)) left_place (part_place 1) below
      (λ scope q t. logical_items pos scope q t ++ part_of a here 0 scope q (at (child q 0))) (part_of b here 1) decided
      old mid ready left_apart left_below
      (part_below 1) (λ links scope q t has. refl) opens new bad stuck
