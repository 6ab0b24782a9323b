-- Operations with the values of all their parts: their parts one after the other.
use Rattle.std.proofs.Common.{◌≡◌, ℕ, zero, suc, ◌+◌, ◌<◌, ◌≤◌, List, [], ◌∷◌, ◌++◌, length, take, drop, get_or}
use Rattle.std.proofs.Common.{refl, sym, ap, ◌∙◌, subst, arith}
use Rattle.std.proofs.lemmas.List.{append-nil, append_assoc, length-append, take_more, drop_more, take-append-drop}
use Rattle.std.proofs.lemmas.List.{length-take-le, length_push, take_all}
use Rattle.elm_base.specs.declared.position.Pos.{Pos}
use Rattle.elm_canon.specs.Tree.{Op, TupleOf, ListOf, Build, RecordOf, Access, Update, Negate, Binary, Expr, Strict}
use Rattle.elm_canon.specs.Tree.{exprs_of}
use Rattle.elm_canon.specs.View.{op_view}
use Rattle.elm_canon.specs.declared.tree.Op.{Op as Stored}
use Rattle.elm_canon.specs.declared.tree.Op.TheVariants as op
use Rattle.elm_type.specs.Types.{int_type}
use Rattle.type_items.specs.Items.{Place, child, Wanted, at, Item}
use Rattle.type_items.specs.Scopes.{Scope}
use Rattle.type_items.specs.Operations.{plan}
use Rattle.type_items.specs.Expressions.{items, each_items, part_items}
use Rattle.type_constructs.specs.Failing.{Bad}
use Rattle.type_walks.specs.Regions.{Region, none, below, span, either, Inside, Apart}
use Rattle.type_walks.specs.Links.{Has}
use Rattle.type_walks.proofs.Regions.{none_apart, apart_none, none_inside, either_inside}
use Rattle.type_walks.proofs.Linking.{left_inside, right_inside}
use Rattle.type_constructs.specs.Regions.{tops, deep}
use Rattle.type_constructs.proofs.Spots.{Here, Child, Below, Tops, Deep, Span, In, atoms_apart, atom_inside}
use Rattle.type_constructs.proofs.Parts.{deep_in_deep, below_in_deep, deep_apart_below}
use Rattle.type_constructs.proofs.Walking.{each_after, count_each, length_children, length_replicate}
use Rattle.infer_steps.specs.Codes.{Code, State}
use Rattle.infer_steps.specs.Ready.{IsReady}
use Rattle.infer_steps.specs.Begun.{Types, Begun, BeginStops}
use Rattle.infer_steps.specs.Operations.{width, beside, before_region, before_items, all_types, part_types, BeginsOp}
use Rattle.infer_steps.specs.Operations.{OpStops}
use Rattle.infer_parts.specs.Formed.{FormedOp}
use Rattle.infer_parts.specs.Steps.{Lists, one, each, Went, Stuck, Opens}
use Rattle.infer_parts.specs.Parts.{IsStrict, listed, operand_of, operand_place, type_at, between_items, between_region}
use Rattle.infer_parts.specs.Parts.{later_types, GoesOn, GoesOnStuck, op_region, op_items, op_types, OpOpens}
use Rattle.infer_parts.proofs.Going.{plain_step, went_as, stuck_as, goes, reopens, sticks, opens_as}
use Rattle.infer_parts.proofs.Going.{opens_ends, same_inside, inside_on, either_apart, zip_at}

-- ---- what was begun

pub begun_opens : (code : Code) (v : ℕ) (R : Place → Region) (list : Lists Wanted) (vs : List ℕ) (types : Types)
    (old new : State)
    → Begun code v R list vs types old new → Opens Wanted code (one v) R list (List Wanted) (each vs) types old new
begun_opens code v R list vs types old new b = record {
  follows = b.follows;
  gives = λ real a links scope q w real_at set has. (
      let g = b.gives a links scope q w set has in
      record {
        after = g.after;
        step = plain_step real a (R q) (list scope q w) old.store new.store links g.after (b.plain scope q w) g.walk;
        tells = g.tells;
        known = g.has;
      });
}

pub begin_stuck : (code : Code) (v : ℕ) (R : Place → Region) (list : Lists Wanted) (old new : State) (bad : Bad)
    → BeginStops code v R list old new bad → Stuck Wanted code (one v) R list old new bad
begin_stuck code v R list old new bad b =
    record { fails = λ a links scope q w e set has. b.fails a links scope q w set has }

-- ---- parts in turn

pub each_next : (es : List Expr) (e : Expr) (scope : Scope) (here : Pos) (p : Place) (i j : ℕ) (ts : List Wanted)
    → length es < length ts
    → i + length es ≡ j
    → each_items (exprs_of es) scope here p i (take (length es) ts) ++ items e scope here (child p j)
    (type_at ts (length es))
    ≡ each_items (exprs_of (es ++ e ∷ [])) scope here p i (take (length (es ++ e ∷ [])) ts)
each_next es e scope here p i j ts lt number =
    let k = length es in
    let count : length (es ++ e ∷ []) ≡ k + 1 = let l = length_push es e in omega (arith, l) in
    let few : k ≡ length (take k ts) = sym (length-take-le k ts (omega (arith, lt))) in
    sym (ap (λ n. each_items (exprs_of (es ++ e ∷ [])) scope here p i (take n ts)) count
    ∙ (ap (each_items (exprs_of (es ++ e ∷ [])) scope here p i) (take_more ts k int_type lt)
    ∙ (each_after es e [] scope here p i j (take k ts) (type_at ts k) [] few number
    ∙ ap (λ l. each_items (exprs_of es) scope here p i (take k ts) ++ l)
    (append-nil (items e scope here (child p j) (type_at ts k))))))

pub each_split : (es : List Expr) (e : Expr) (more : List Expr) (scope : Scope) (here : Pos) (p : Place) (i j : ℕ)
    (ts : List Wanted)
    → length es < length ts → i + length es ≡ j
    → each_items (exprs_of (es ++ e ∷ more)) scope here p i ts
    ≡ each_items (exprs_of es) scope here p i (take (length es) ts)
    ++ (items e scope here (child p j) (type_at ts (length es)) ++ each_items (exprs_of more) scope here p (j + 1)
    (drop (length es + 1) ts))
each_split es e more scope here p i j ts lt number =
    let k = length es in
    let few : k ≡ length (take k ts) = sym (length-take-le k ts (omega (arith, lt))) in
    let split : ts ≡ take k ts ++ type_at ts k ∷ drop (k + 1) ts =
    sym (take-append-drop k ts) ∙ ap (λ l. take k ts ++ l) (drop_more ts k int_type lt) in
    ap (each_items (exprs_of (es ++ e ∷ more)) scope here p i) split
    ∙ each_after es e more scope here p i j (take k ts) (type_at ts k) (drop (k + 1) ts) few number

pub take_whole : {X : Type 0} (n : ℕ) (xs : List X) → n ≡ length xs → take n xs ≡ xs
take_whole n xs e = take_all n xs (omega (arith, e))

-- ---- what an operation wants

pub strict_op : (o : Stored) → IsStrict (op_view o)
strict_op op.Tuple = tt
strict_op op.List = tt
strict_op (op.Build pos u c) = tt
strict_op (op.Record xs) = tt
strict_op (op.Update xs) = tt
strict_op op.Negate = tt
strict_op (op.Binary pos o) = tt

no_after : (op : Op) (n : ℕ) (scope : Scope) (here : Pos) (q : Place) (w : Wanted) → IsStrict op → FormedOp op n
    → (plan op n scope here q w).after ≡ []
no_after TupleOf zero scope here q w s f = refl
no_after TupleOf (suc n) scope here q w s f = refl
no_after ListOf zero scope here q w s f = refl
no_after ListOf (suc n) scope here q w s f = refl
no_after (Build pos u c) zero scope here q w s f = refl
no_after (Build pos u c) (suc n) scope here q w s f = refl
no_after (RecordOf []) n scope here q w s f = refl
no_after (RecordOf (x ∷ xs)) n scope here q w s f = refl
no_after (Access x) n scope here q w s f = absurd s
no_after (Update xs) n scope here q w s f = refl
no_after Negate n scope here q w s f = refl
no_after (Binary pos op) n scope here q w s f = refl

-- there is a type for each part
rest_count : (op : Op) (n : ℕ) (scope : Scope) (here : Pos) (q : Place) (w : Wanted) → IsStrict op → FormedOp op (suc n)
    → length (plan op (suc n) scope here q w).rest ≡ n
rest_count TupleOf n scope here q w s f = length_children (child q 0) 1 n
rest_count ListOf n scope here q w s f = length_replicate n (at (child q 1))
rest_count (Build pos u c) n scope here q w s f = length_children (child q 0) 1 n
rest_count (RecordOf []) n scope here q w s f = absurd (let e : suc n ≡ 0 = f.1 in omega (arith, e))
rest_count (RecordOf (x ∷ xs)) n scope here q w s f =
    length_children (child q 0) 1 (length xs) ∙ (let e : suc n ≡ suc (length xs) = f.1 in omega (arith, e))
rest_count (Access x) n scope here q w s f = absurd s
rest_count (Update xs) n scope here q w s f =
    length_children (child q 2) 0 (length xs) ∙ (let e : suc n ≡ suc (length xs) = f.1 in omega (arith, e))
rest_count Negate n scope here q w s f = let e : suc n ≡ 1 = f.1 in omega (arith, e)
rest_count (Binary pos op) n scope here q w s f = let e : suc n ≡ 2 = f.1 in omega (arith, e)

-- the first part's type is known from the start
first_known : (op : Op) (n : ℕ) (scope : Scope) (here : Pos) (q : Place) (w : Wanted) → IsStrict op
    → type_at (part_types op (suc n) here scope q w) 0 ≡ (plan op (suc n) scope here q w).first
first_known TupleOf n scope here q w s = refl
first_known ListOf n scope here q w s = refl
first_known (Build pos u c) n scope here q w s = refl
first_known (RecordOf xs) n scope here q w s = refl
first_known (Access x) n scope here q w s = absurd s
first_known (Update xs) n scope here q w s = refl
first_known Negate n scope here q w s = refl
first_known (Binary pos op) n scope here q w s = refl

between_known : (op : Op) (n : ℕ) (scope : Scope) (here : Pos) (q : Place) (w : Wanted) → IsStrict op
    → FormedOp op (suc n)
    → between_items op (suc n) here scope q (part_types op (suc n) here scope q w) ≡
    (plan op (suc n) scope here q w).between
between_known TupleOf n scope here q w s f = refl
between_known ListOf n scope here q w s f = refl
between_known (Build pos u c) n scope here q w s f = refl
between_known (RecordOf []) n scope here q w s f = refl
between_known (RecordOf (x ∷ xs)) n scope here q w s f = refl
between_known (Access x) n scope here q w s f = absurd s
between_known (Update xs) n scope here q w s f = refl
between_known Negate n scope here q w s f = refl
between_known (Binary pos op) n scope here q w s f = refl

later_known : (op : Op) (n : ℕ) (scope : Scope) (here : Pos) (q : Place) (w : Wanted) → IsStrict op
    → later_types op scope q (part_types op (suc n) here scope q w) ≡ all_types (plan op (suc n) scope here q w)
later_known TupleOf n scope here q w s = refl
later_known ListOf n scope here q w s = refl
later_known (Build pos u c) n scope here q w s = refl
later_known (RecordOf xs) n scope here q w s = refl
later_known (Access x) n scope here q w s = absurd s
later_known (Update xs) n scope here q w s = refl
later_known Negate n scope here q w s = refl
later_known (Binary pos op) n scope here q w s = refl

-- ---- regions

beside_apart : (n j : ℕ) (q : Place) → Apart (beside n q) (operand_place 0 j q)
beside_apart n j q =
    either_apart (tops (child q 0) 0 n) (span q 1 2) (operand_place 0 j q)
    (atoms_apart q (In (Child Here 0) (Tops 0 n)) (In (Child (Child Here 0) j) Below) refl)
    (atoms_apart q (In Here (Span 1 2)) (In (Child (Child Here 0) j) Below) refl)

beside_below : (n : ℕ) (q : Place) → Inside (beside n q) (below q)
beside_below n q =
    either_inside (tops (child q 0) 0 n) (span q 1 2) (below q) (atom_inside q (In (Child Here 0) (Tops 0 n)) refl)
    (atom_inside q (In Here (Span 1 2)) refl)

before_apart : (op : Op) (n j : ℕ) (q : Place) → Apart (before_region op n q) (operand_place 0 j q)
before_apart TupleOf n j q = beside_apart (width TupleOf n) j q
before_apart ListOf n j q = beside_apart (width ListOf n) j q
before_apart (Build pos u c) n j q = beside_apart (width (Build pos u c) n) j q
before_apart (RecordOf xs) n j q = beside_apart (width (RecordOf xs) n) j q
before_apart (Access x) n j q = beside_apart (width (Access x) n) j q
before_apart (Update xs) n j q = none_apart (operand_place 0 j q)
before_apart Negate n j q = beside_apart (width Negate n) j q
before_apart (Binary pos op) n j q = beside_apart (width (Binary pos op) n) j q

before_beside : (op : Op) (n : ℕ) (q : Place) → Inside (before_region op n q) (beside (width op n) q)
before_beside TupleOf n q = same_inside (beside (width TupleOf n) q)
before_beside ListOf n q = same_inside (beside (width ListOf n) q)
before_beside (Build pos u c) n q = same_inside (beside (width (Build pos u c) n) q)
before_beside (RecordOf xs) n q = same_inside (beside (width (RecordOf xs) n) q)
before_beside (Access x) n q = same_inside (beside (width (Access x) n) q)
before_beside (Update xs) n q = none_inside (beside (width (Update xs) n) q)
before_beside Negate n q = same_inside (beside (width Negate n) q)
before_beside (Binary pos op) n q = same_inside (beside (width (Binary pos op) n) q)

between_beside : (op : Op) (n : ℕ) (q : Place) → Inside (between_region op q) (beside (width op n) q)
between_beside TupleOf n q = none_inside (beside (width TupleOf n) q)
between_beside ListOf n q = none_inside (beside (width ListOf n) q)
between_beside (Build pos u c) n q = none_inside (beside (width (Build pos u c) n) q)
between_beside (RecordOf xs) n q = none_inside (beside (width (RecordOf xs) n) q)
between_beside (Access x) n q = none_inside (beside (width (Access x) n) q)
between_beside (Update xs) n q = right_inside (tops (child q 0) 0 n) (span q 1 2)
between_beside Negate n q = none_inside (beside (width Negate n) q)
between_beside (Binary pos op) n q = none_inside (beside (width (Binary pos op) n) q)

-- what was asked before the first part, and that part, are apart from what is asked after it
first_apart : (op : Op) (n : ℕ) (q : Place) → Apart (either (before_region op n q) (operand_place 0 0 q))
    (between_region op q)
first_apart TupleOf n q = apart_none (either (before_region TupleOf n q) (operand_place 0 0 q))
first_apart ListOf n q = apart_none (either (before_region ListOf n q) (operand_place 0 0 q))
first_apart (Build pos u c) n q = apart_none (either (before_region (Build pos u c) n q) (operand_place 0 0 q))
first_apart (RecordOf xs) n q = apart_none (either (before_region (RecordOf xs) n q) (operand_place 0 0 q))
first_apart (Access x) n q = apart_none (either (before_region (Access x) n q) (operand_place 0 0 q))
first_apart (Update xs) n q =
    either_apart none (operand_place 0 0 q) (span q 1 2) (none_apart (span q 1 2))
    (atoms_apart q (In (Child (Child Here 0) 0) Below) (In Here (Span 1 2)) refl)
first_apart Negate n q = apart_none (either (before_region Negate n q) (operand_place 0 0 q))
first_apart (Binary pos op) n q = apart_none (either (before_region (Binary pos op) n q) (operand_place 0 0 q))

op_apart : (op : Op) (n : ℕ) (es : List Expr) (j : ℕ) (q : Place) → length es ≤ j → Apart (op_region op n es q)
    (operand_place 0 j q)
op_apart op n [] j q le = before_apart op n j q
op_apart op n (e ∷ es) j q le =
    either_apart (beside (width op n) q) (deep (child q 0) 0 (suc (length es))) (operand_place 0 j q)
    (beside_apart (width op n) j q)
    (deep_apart_below (child q 0) 0 (suc (length es)) j (omega (arith, le)))

op_below : (op : Op) (n : ℕ) (es : List Expr) (q : Place) → Inside (op_region op n es q) (below q)
op_below op n [] q =
    inside_on (before_region op n q) (beside (width op n) q) (below q) (before_beside op n q)
    (beside_below (width op n) q)
op_below op n (e ∷ es) q =
    either_inside (beside (width op n) q) (deep (child q 0) 0 (suc (length es))) (below q) (beside_below (width op n) q)
    (atom_inside q (In (Child Here 0) (Deep 0 (suc (length es)))) refl)

operand_below : (i j : ℕ) (q : Place) → Inside (operand_place i j q) (below q)
operand_below i j q = atom_inside q (In (Child (Child Here i) j) Below) refl

-- ---- a part whose type has a variable among others

pub operand_for : (code : Code) (e : Expr) (here : Pos) (i j k : ℕ) (vs : List ℕ) (u : ℕ) (old new : State)
    → k < length vs → u ≡ get_or vs k 0
    → Went Wanted code (one u) (operand_place i j) (operand_of e here i j) old new
    → Went (List Wanted) code (each vs) (operand_place i j)
    (λ scope q ts. items e scope here (child (child q i) j) (type_at ts k)) old new
operand_for code e here i j k vs u old new lt is w =
    went_as Wanted (List Wanted) code (one u) (each vs) (operand_place i j) (operand_place i j) (operand_of e here i j)
    (λ scope q ts. items e scope here (child (child q i) j) (type_at ts k)) old new (λ scope q ts. type_at ts k)
    (λ links scope q ts has. subst (λ x. Has links x (type_at ts k)) (sym is)
    (zip_at (Has links) vs ts k 0 int_type lt has))
    (λ q. same_inside (operand_place i j q)) (λ links scope q ts has. refl) w

pub operand_stuck_for : (code : Code) (e : Expr) (here : Pos) (i j k : ℕ) (vs : List ℕ) (u : ℕ) (old new : State)
    (bad : Bad) (more : Lists (List Wanted))
    → k < length vs → u ≡ get_or vs k 0 → Stuck Wanted code (one u) (operand_place i j) (operand_of e here i j) old new
    bad
    → Stuck (List Wanted) code (each vs) (operand_place i j)
    (λ scope q ts. items e scope here (child (child q i) j) (type_at ts k) ++ more scope q ts) old new bad
operand_stuck_for code e here i j k vs u old new bad more lt is s =
    stuck_as Wanted (List Wanted) code (one u) (each vs) (operand_place i j) (operand_place i j) (operand_of e here i j)
    (λ scope q ts. items e scope here (child (child q i) j) (type_at ts k) ++ more scope q ts) old new bad
    (λ scope q ts. type_at ts k) more
    (λ links scope q ts has. subst (λ x. Has links x (type_at ts k)) (sym is)
    (zip_at (Has links) vs ts k 0 int_type lt has))
    (λ q. same_inside (operand_place i j q)) (λ links scope q ts has. refl) s

-- ---- lists of items

after_four : (b x m e y : List Item) → (b ++ (x ++ (m ++ e))) ++ y ≡ b ++ (x ++ (m ++ (e ++ y)))
after_four b x m e y =
    append_assoc b (x ++ (m ++ e)) y ∙ ap (λ l. b ++ l)
    (append_assoc x (m ++ e) y ∙ ap (λ l. x ++ l) (append_assoc m e y))

-- an operation with its number of parts
abbrev whole_at : Op → ℕ → List Expr → Pos → Lists Wanted
whole_at op m es here scope q w = part_items (exprs_of es) (plan op m scope here q w) scope here (child q 0)

whole_is : (op : Op) (m : ℕ) (es : List Expr) (here : Pos) (scope : Scope) (q : Place) (w : Wanted) → length es ≡ m
    → whole_at op m es here scope q w ≡ items (Strict op (exprs_of es)) scope here q w
whole_is op m es here scope q w h =
    ap (λ k. part_items (exprs_of es) (plan op k scope here q w) scope here (child q 0)) (sym (count_each es ∙ h))

-- ---- from part to part

module _ (code : Code) (v : ℕ) (op : Op) (here : Pos) (strict : IsStrict op) where
  pub op_begun : (n : ℕ) (vs : List ℕ) (old new : State) → BeginsOp code op n here v vs old new
      → OpOpens code v op n here [] vs old new
  op_begun n vs old new b =
      begun_opens code v (before_region op n) (before_items op n here) vs (part_types op n here) old new b

  module _ (n : ℕ) (formed : FormedOp op (suc n)) where
    abbrev first_items : Expr → Lists Wanted
    first_items e scope q w =
        (plan op (suc n) scope here q w).before
        ++ items e scope here (child (child q 0) 0) (type_at (part_types op (suc n) here scope q w) 0)

    abbrev first_region : Place → Region
    first_region q = either (before_region op (suc n) q) (operand_place 0 0 q)

    with_first : (e : Expr) (vs : List ℕ) (u : ℕ) (old mid new : State) → IsReady code old.depth old.store
        → 0 < length vs → u ≡ get_or vs 0 0
        → OpOpens code v op (suc n) here [] vs old mid → Went Wanted code (one u) (operand_place 0 0)
        (operand_of e here 0 0) mid new
        → Opens Wanted code (one v) first_region (first_items e) (List Wanted) (each vs) (part_types op (suc n) here)
        old new
    with_first e vs u old mid new ready some is o w =
        goes Wanted (List Wanted) code (one v) (each vs) (part_types op (suc n) here) (before_region op (suc n))
        (operand_place 0 0) first_region
        (op_items op (suc n) [] here) (λ scope q ts. items e scope here (child (child q 0) 0) (type_at ts 0))
        (first_items e) old mid ready
        (before_apart op (suc n) 0) (λ q. left_inside (before_region op (suc n) q) (operand_place 0 0 q))
        (λ q. right_inside (before_region op (suc n) q) (operand_place 0 0 q)) (λ links scope q t has. refl) o new
        (operand_for code e here 0 0 0 vs u mid new some is w)

    abbrev first_where : Expr → Place → Region
    first_where e = op_region op (suc n) (e ∷ [])

    -- the first part, and what is asked after it
    pub op_first : (e : Expr) (vs us : List ℕ) (u : ℕ) (old mid walked new : State) → IsReady code old.depth old.store
        → 0 < length vs
        → u ≡ get_or vs 0 0 → OpOpens code v op (suc n) here [] vs old mid
        → Went Wanted code (one u) (operand_place 0 0) (operand_of e here 0 0) mid walked → GoesOn code op (suc n) here
        vs us walked new
        → OpOpens code v op (suc n) here (e ∷ []) us old new
    op_first e vs us u old mid walked new ready some is o w g =
        opens_as Wanted (List Wanted) code (one v) (each us) (first_where e) (first_where e)
        (λ scope q t. first_items e scope q t ++ between_items op (suc n) here scope q
        (part_types op (suc n) here scope q t)) (op_items op (suc n) (e ∷ []) here)
        (λ scope q t. later_types op scope q (part_types op (suc n) here scope q t)) (op_types op (suc n) (e ∷ []) here)
        old new
        (λ q. same_inside ((first_where e) q)) (λ links scope q t has. same scope q t)
        (λ links scope q t has. later_known op n scope here q t strict)
        (reopens Wanted (List Wanted) code (one v) (each vs) (part_types op (suc n) here) first_region
        (between_region op) (first_where e) (first_items e)
        (between_items op (suc n) here) (λ scope q t. first_items e scope q t ++ between_items op (suc n) here scope q
        (part_types op (suc n) here scope q t))
        old walked ready (first_apart op (suc n)) left right (λ links scope q t has. refl)
        (with_first e vs u old mid walked ready some is o w)
        (List Wanted) (each us) (later_types op) new g)
      where
        left : (q : Place) → Inside (first_region q) ((first_where e) q)
        left q =
            either_inside (before_region op (suc n) q) (operand_place 0 0 q) ((first_where e) q)
            (inside_on (before_region op (suc n) q) (beside (width op (suc n)) q) ((first_where e) q)
            (before_beside op (suc n) q)
            (left_inside (beside (width op (suc n)) q) (deep (child q 0) 0 1)))
            (inside_on (operand_place 0 0 q) (deep (child q 0) 0 1) ((first_where e) q)
            (below_in_deep (child q 0) 0 1 0 (omega arith) (omega arith))
            (right_inside (beside (width op (suc n)) q) (deep (child q 0) 0 1)))

        right : (q : Place) → Inside (between_region op q) ((first_where e) q)
        right q =
            inside_on (between_region op q) (beside (width op (suc n)) q) ((first_where e) q)
            (between_beside op (suc n) q)
            (left_inside (beside (width op (suc n)) q) (deep (child q 0) 0 1))

        same : (scope : Scope) (q : Place) (t : Wanted)
            → first_items e scope q t ++ between_items op (suc n) here scope q (part_types op (suc n) here scope q t)
            ≡ op_items op (suc n) (e ∷ []) here scope q t
        same scope q t =
            let b = (plan op (suc n) scope here q t).before in
            let x = items e scope here (child (child q 0) 0) (plan op (suc n) scope here q t).first in
            ap (λ z. (b ++ items e scope here (child (child q 0) 0) z) ++ between_items op (suc n) here scope q
            (part_types op (suc n) here scope q t))
            (first_known op n scope here q t strict)
            ∙ (ap (λ l. (b ++ x) ++ l) (between_known op n scope here q t strict formed)
            ∙ (append_assoc b x (plan op (suc n) scope here q t).between
            ∙ ap (λ l. b ++ (x ++ l)) (sym (append-nil (plan op (suc n) scope here q t).between))))

    -- another one
    pub op_next : (e : Expr) (es : List Expr) (f : Expr) (vs : List ℕ) (u : ℕ) (old mid new : State)
        → IsReady code old.depth old.store
        → length es < n → suc (length es) < length vs → u ≡ get_or vs (suc (length es)) 0
        → OpOpens code v op (suc n) here (e ∷ es) vs old mid
        → Went Wanted code (one u) (operand_place 0 (suc (length es))) (operand_of f here 0 (suc (length es))) mid new
        → OpOpens code v op (suc n) here (e ∷ (es ++ f ∷ [])) vs old new
    op_next e es f vs u old mid new ready few some is o w =
        goes Wanted (List Wanted) code (one v) (each vs) (op_types op (suc n) (e ∷ es) here)
        (op_region op (suc n) (e ∷ es))
        (operand_place 0 (suc (length es))) (op_region op (suc n) (e ∷ (es ++ f ∷ [])))
        (op_items op (suc n) (e ∷ es) here)
        (λ scope q ts. items f scope here (child (child q 0) (suc (length es))) (type_at ts (suc (length es))))
        (op_items op (suc n) (e ∷ (es ++ f ∷ [])) here)
        old mid ready (λ q. op_apart op (suc n) (e ∷ es) (suc (length es)) q
        (let l : length (e ∷ es) ≡ suc (length es) = refl in omega (arith, l))) left right
        (λ links scope q t has. same scope q t) o new
        (operand_for code f here 0 (suc (length es)) (suc (length es)) vs u mid new some is w)
      where
        left : (q : Place) → Inside (op_region op (suc n) (e ∷ es) q) (op_region op (suc n) (e ∷ (es ++ f ∷ [])) q)
        left q =
            let l = length_push es f in
            either_inside (beside (width op (suc n)) q) (deep (child q 0) 0 (suc (length es)))
            (op_region op (suc n) (e ∷ (es ++ f ∷ [])) q)
            (left_inside (beside (width op (suc n)) q) (deep (child q 0) 0 (suc (length (es ++ f ∷ [])))))
            (inside_on (deep (child q 0) 0 (suc (length es))) (deep (child q 0) 0 (suc (length (es ++ f ∷ []))))
            (op_region op (suc n) (e ∷ (es ++ f ∷ [])) q)
            (deep_in_deep (child q 0) 0 (suc (length (es ++ f ∷ []))) 0 (suc (length es)) (omega arith)
            (omega (arith, l)))
            (right_inside (beside (width op (suc n)) q) (deep (child q 0) 0 (suc (length (es ++ f ∷ []))))))

        right : (q : Place) → Inside (operand_place 0 (suc (length es)) q) (op_region op (suc n) (e ∷ (es ++ f ∷ [])) q)
        right q =
            let l = length_push es f in
            inside_on (operand_place 0 (suc (length es)) q) (deep (child q 0) 0 (suc (length (es ++ f ∷ []))))
            (op_region op (suc n) (e ∷ (es ++ f ∷ [])) q)
            (below_in_deep (child q 0) 0 (suc (length (es ++ f ∷ []))) (suc (length es)) (omega arith)
            (omega (arith, l)))
            (right_inside (beside (width op (suc n)) q) (deep (child q 0) 0 (suc (length (es ++ f ∷ [])))))

        same : (scope : Scope) (q : Place) (t : Wanted)
            → op_items op (suc n) (e ∷ es) here scope q t
            ++ items f scope here (child (child q 0) (suc (length es)))
            (type_at (all_types (plan op (suc n) scope here q t)) (suc (length es)))
            ≡ op_items op (suc n) (e ∷ (es ++ f ∷ [])) here scope q t
        same scope q t =
            let p = plan op (suc n) scope here q t in
            let x = items e scope here (child (child q 0) 0) p.first in
            let count = rest_count op n scope here q t strict formed in
            after_four p.before x p.between (each_items (exprs_of es) scope here (child q 0) 1
            (take (length es) p.rest)) _
            ∙ ap (λ l. p.before ++ (x ++ (p.between ++ l)))
            (each_next es f scope here (child q 0) 1 (suc (length es)) p.rest (omega (arith, count, few)) (omega arith))

  -- ---- all parts are walked

  closes_items : (es : List Expr) (m : ℕ) (scope : Scope) (q : Place) (w : Wanted) → length es ≡ m → FormedOp op m
      → op_items op m es here scope q w ≡ whole_at op m es here scope q w
  closes_items [] m scope q w h formed = refl
  closes_items (e ∷ es) zero scope q w h formed = absurd (omega (arith, h))
  closes_items (e ∷ es) (suc n) scope q w h formed =
      let p = plan op (suc n) scope here q w in
      let x = items e scope here (child (child q 0) 0) p.first in
      let count = rest_count op n scope here q w strict formed in
      let few : length es ≡ length p.rest = omega (arith, h, count) in
      ap (λ l. p.before ++ (x ++ (p.between ++ l)))
      (ap (each_items (exprs_of es) scope here (child q 0) 1) (take_whole (length es) p.rest few)
      ∙ (sym (append-nil (each_items (exprs_of es) scope here (child q 0) 1 p.rest))
      ∙ ap (λ l. each_items (exprs_of es) scope here (child q 0) 1 p.rest ++ l)
      (sym (no_after op (suc n) scope here q w strict formed))))

  pub op_closes : (es : List Expr) (m : ℕ) (vs : List ℕ) (old new : State) → length es ≡ m → FormedOp op m
      → OpOpens code v op m here es vs old new → Went Wanted code (one v) below (listed (Strict op (exprs_of es)) here)
      old new
  op_closes es m vs old new h formed o =
      opens_ends Wanted (List Wanted) code (one v) (each vs) (op_region op m es) below (op_items op m es here)
      (listed (Strict op (exprs_of es)) here)
      (op_types op m es here) old new (op_below op m es)
      (λ links scope q w has. closes_items es m scope q w h formed ∙ whole_is op m es here scope q w h) o

  -- ---- where it stops

  abbrev rest_items : List Expr → ℕ → Lists Wanted
  rest_items [] m scope q w = []
  rest_items (e ∷ es) m scope q w =
      let p = plan op m scope here q w in
      items e scope here (child (child q 0) 0) p.first ++
      (p.between ++ (each_items (exprs_of es) scope here (child q 0) 1 p.rest ++ p.after))

  before_rest : (es : List Expr) (m : ℕ) (scope : Scope) (q : Place) (w : Wanted)
      → (plan op m scope here q w).before ++ rest_items es m scope q w ≡ whole_at op m es here scope q w
  before_rest [] m scope q w = append-nil (plan op m scope here q w).before
  before_rest (e ∷ es) m scope q w = refl

  pub op_unbegun : (es : List Expr) (m : ℕ) (old new : State) (bad : Bad) → length es ≡ m
      → OpStops code op m here v old new bad
      → Stuck Wanted code (one v) below (listed (Strict op (exprs_of es)) here) old new bad
  op_unbegun es m old new bad h s =
      stuck_as Wanted Wanted code (one v) (one v) (before_region op m) below (before_items op m here)
      (listed (Strict op (exprs_of es)) here) old new bad
      (λ scope q w. w) (rest_items es m) (λ links scope q w has. has) (op_below op m [])
      (λ links scope q w has. before_rest es m scope q w ∙ whole_is op m es here scope q w h)
      (begin_stuck code v (before_region op m) (before_items op m here) old new bad s)

  module _ (n : ℕ) (formed : FormedOp op (suc n)) where
    abbrev first_front : Expr → Lists Wanted
    first_front e scope q w =
        (plan op (suc n) scope here q w).before
        ++ (items e scope here (child (child q 0) 0) (type_at (part_types op (suc n) here scope q w) 0) ++ [])

    abbrev first_tail : List Expr → Lists Wanted
    first_tail more scope q w =
        let p = plan op (suc n) scope here q w in
        p.between ++ (each_items (exprs_of more) scope here (child q 0) 1 p.rest ++ p.after)

    -- the first part stops
    pub op_first_stuck : (e : Expr) (more : List Expr) (vs : List ℕ) (u : ℕ) (old mid new : State) (bad : Bad)
        → IsReady code old.depth old.store
        → suc (length more) ≡ suc n → 0 < length vs → u ≡ get_or vs 0 0 → OpOpens code v op (suc n) here [] vs old mid
        → Stuck Wanted code (one u) (operand_place 0 0) (operand_of e here 0 0) mid new bad
        → Stuck Wanted code (one v) below (listed (Strict op (exprs_of (e ∷ more))) here) old new bad
    op_first_stuck e more vs u old mid new bad ready h some is o s =
        stuck_as Wanted Wanted code (one v) (one v) below below (first_front e)
        (listed (Strict op (exprs_of (e ∷ more))) here) old new bad (λ scope q w. w) (first_tail more)
        (λ links scope q w has. has) (λ q. same_inside (below q))
        (λ links scope q w has. same scope q w ∙ whole_is op (suc n) (e ∷ more) here scope q w h)
        (sticks Wanted (List Wanted) code (one v) (each vs) (part_types op (suc n) here) (before_region op (suc n))
        (operand_place 0 0) below
        (op_items op (suc n) [] here) (λ scope q ts. items e scope here (child (child q 0) 0) (type_at ts 0) ++ [])
        (first_front e) old mid ready
        (before_apart op (suc n) 0) (op_below op (suc n) []) (operand_below 0 0) (λ links scope q w has. refl) o new bad
        (operand_stuck_for code e here 0 0 0 vs u mid new bad (λ scope q ts. []) some is s))
      where
        same : (scope : Scope) (q : Place) (w : Wanted)
            → (first_front e) scope q w ++ (first_tail more) scope q w ≡ whole_at op (suc n) (e ∷ more) here scope q w
        same scope q w =
            let p = plan op (suc n) scope here q w in
            ap (λ l. (p.before ++ l) ++ (first_tail more) scope q w)
            (append-nil (items e scope here (child (child q 0) 0) (type_at (part_types op (suc n) here scope q w) 0)))
            ∙ (ap (λ t. (p.before ++ items e scope here (child (child q 0) 0) t) ++ (first_tail more) scope q w)
            (first_known op n scope here q w strict)
            ∙ append_assoc p.before (items e scope here (child (child q 0) 0) p.first) ((first_tail more) scope q w))

    abbrev between_front : Expr → Lists Wanted
    between_front e scope q t =
        first_items n formed e scope q t ++ between_items op (suc n) here scope q (part_types op (suc n) here scope q t)

    abbrev between_tail : List Expr → Lists Wanted
    between_tail more scope q t =
        let p = plan op (suc n) scope here q t in
        each_items (exprs_of more) scope here (child q 0) 1 p.rest ++ p.after

    -- what is asked after it stops
    pub op_between_stuck : (e : Expr) (more : List Expr) (vs : List ℕ) (u : ℕ) (old mid walked new : State) (bad : Bad)
        → IsReady code old.depth old.store
        → suc (length more) ≡ suc n → 0 < length vs → u ≡ get_or vs 0 0 → OpOpens code v op (suc n) here [] vs old mid
        → Went Wanted code (one u) (operand_place 0 0) (operand_of e here 0 0) mid walked → GoesOnStuck code op (suc n)
        here vs walked new bad
        → Stuck Wanted code (one v) below (listed (Strict op (exprs_of (e ∷ more))) here) old new bad
    op_between_stuck e more vs u old mid walked new bad ready h some is o w s =
        stuck_as Wanted Wanted code (one v) (one v) below below (between_front e)
        (listed (Strict op (exprs_of (e ∷ more))) here) old new bad (λ scope q t. t) (between_tail more)
        (λ links scope q t has. has) (λ q. same_inside (below q))
        (λ links scope q t has. same scope q t ∙ whole_is op (suc n) (e ∷ more) here scope q t h)
        (sticks Wanted (List Wanted) code (one v) (each vs) (part_types op (suc n) here) (first_region n formed)
        (between_region op) below
        (first_items n formed e) (between_items op (suc n) here) (between_front e) old walked ready
        (first_apart op (suc n)) left right
        (λ links scope q t has. refl) (with_first n formed e vs u old mid walked ready some is o w) new bad s)
      where
        left : (q : Place) → Inside (first_region n formed q) (below q)
        left q =
            either_inside (before_region op (suc n) q) (operand_place 0 0 q) (below q) (op_below op (suc n) [] q)
            (operand_below 0 0 q)

        right : (q : Place) → Inside (between_region op q) (below q)
        right q =
            inside_on (between_region op q) (beside (width op (suc n)) q) (below q) (between_beside op (suc n) q)
            (beside_below (width op (suc n)) q)

        same : (scope : Scope) (q : Place) (t : Wanted)
            → (between_front e) scope q t ++ (between_tail more) scope q t ≡ whole_at op (suc n) (e ∷ more) here scope q
            t
        same scope q t =
            let p = plan op (suc n) scope here q t in
            let x = items e scope here (child (child q 0) 0) p.first in
            ap (λ z. ((p.before ++ items e scope here (child (child q 0) 0) z) ++ between_items op (suc n) here scope q
            (part_types op (suc n) here scope q t)) ++ (between_tail more) scope q t)
            (first_known op n scope here q t strict)
            ∙ (ap (λ l. ((p.before ++ x) ++ l) ++ (between_tail more) scope q t)
            (between_known op n scope here q t strict formed)
            ∙ (append_assoc (p.before ++ x) p.between ((between_tail more) scope q t) ∙ append_assoc p.before x
            (p.between ++ (between_tail more) scope q t)))

    abbrev next_front : Expr → List Expr → Expr → Lists Wanted
    next_front e es f scope q w =
        op_items op (suc n) (e ∷ es) here scope q w
        ++ (items f scope here (child (child q 0) (suc (length es)))
        (type_at (all_types (plan op (suc n) scope here q w)) (suc (length es))) ++ [])

    abbrev next_tail : List Expr → List Expr → Lists Wanted
    next_tail es more scope q w =
        let p = plan op (suc n) scope here q w in
        each_items (exprs_of more) scope here (child q 0) (suc (length es) + 1) (drop (length es + 1) p.rest) ++ p.after

    -- another part stops
    pub op_next_stuck : (e : Expr) (es : List Expr) (f : Expr) (more : List Expr) (vs : List ℕ) (u : ℕ)
        (old mid new : State) (bad : Bad)
        → IsReady code old.depth old.store → length (e ∷ (es ++ f ∷ more)) ≡ suc n → suc (length es) < length vs → u ≡
        get_or vs (suc (length es)) 0
        → OpOpens code v op (suc n) here (e ∷ es) vs old mid
        → Stuck Wanted code (one u) (operand_place 0 (suc (length es))) (operand_of f here 0 (suc (length es))) mid new
        bad
        → Stuck Wanted code (one v) below (listed (Strict op (exprs_of (e ∷ (es ++ f ∷ more)))) here) old new bad
    op_next_stuck e es f more vs u old mid new bad ready h some is o s =
        stuck_as Wanted Wanted code (one v) (one v) below below (next_front e es f)
        (listed (Strict op (exprs_of (e ∷ (es ++ f ∷ more)))) here) old new bad
        (λ scope q w. w) (next_tail es more) (λ links scope q w has. has) (λ q. same_inside (below q))
        (λ links scope q w has. same scope q w ∙ whole_is op (suc n) (e ∷ (es ++ f ∷ more)) here scope q w h)
        (sticks Wanted (List Wanted) code (one v) (each vs) (op_types op (suc n) (e ∷ es) here)
        (op_region op (suc n) (e ∷ es))
        (operand_place 0 (suc (length es))) below (op_items op (suc n) (e ∷ es) here)
        (λ scope q ts. items f scope here (child (child q 0) (suc (length es))) (type_at ts (suc (length es))) ++ [])
        (next_front e es f) old mid ready
        (λ q. op_apart op (suc n) (e ∷ es) (suc (length es)) q
        (let l : length (e ∷ es) ≡ suc (length es) = refl in omega (arith, l)))
        (op_below op (suc n) (e ∷ es)) (operand_below 0 (suc (length es))) (λ links scope q w has. refl) o new bad
        (operand_stuck_for code f here 0 (suc (length es)) (suc (length es)) vs u mid new bad (λ scope q ts. []) some is
        s))
      where
        same : (scope : Scope) (q : Place) (w : Wanted)
            → (next_front e es f) scope q w ++ (next_tail es more) scope q w ≡ whole_at op (suc n)
            (e ∷ (es ++ f ∷ more)) here scope q w
        same scope q w =
            let p = plan op (suc n) scope here q w in
            let x = items e scope here (child (child q 0) 0) p.first in
            let done = each_items (exprs_of es) scope here (child q 0) 1 (take (length es) p.rest) in
            let y = items f scope here (child (child q 0) (suc (length es))) (type_at p.rest (length es)) in
            let later = each_items (exprs_of more) scope here (child q 0) (suc (length es) + 1)
            (drop (length es + 1) p.rest) in
            let count = rest_count op n scope here q w strict formed in
            let many : length (es ++ f ∷ more) ≡ length es + suc (length more) = length-append es (f ∷ more) in
            let few : length es < length p.rest = omega (arith, h, count, many) in
            ap (λ l. (op_items op (suc n) (e ∷ es) here scope q w ++ l) ++ (later ++ p.after)) (append-nil y)
            ∙ (ap (λ l. l ++ (later ++ p.after)) (after_four p.before x p.between done y)
            ∙ (after_four p.before x p.between (done ++ y) (later ++ p.after)
            ∙ ap (λ l. p.before ++ (x ++ (p.between ++ l)))
            (append_assoc done y (later ++ p.after)
            ∙ (ap (λ l. done ++ l) (sym (append_assoc y later p.after))
            ∙ (sym (append_assoc done (y ++ later) p.after)
            ∙ ap (λ l. l ++ p.after) (sym (each_split es f more scope here (child q 0) 1 (suc (length es)) p.rest few
            (omega arith))))))))
