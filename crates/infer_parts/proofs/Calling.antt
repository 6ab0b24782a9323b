-- A function and its arguments, one after the other.
use Rattle.std.proofs.Common.{◌≡◌, ℕ, suc, ◌+◌, ◌<◌, List, [], ◌∷◌, ◌++◌, length, take, drop, get_or}
use Rattle.std.proofs.Common.{refl, sym, ap, ◌∙◌, subst, arith}
use Rattle.std.proofs.lemmas.List.{append-nil, append_assoc, length-append, length_push}
use Rattle.elm_base.specs.declared.position.Pos.{Pos}
use Rattle.elm_canon.specs.Tree.{Expr, Apply, exprs_of}
use Rattle.elm_type.specs.Types.{functions}
use Rattle.type_items.specs.Items.{Place, child, Wanted, children}
use Rattle.type_items.specs.Scopes.{Scope}
use Rattle.type_items.specs.Expressions.{items, each_items}
use Rattle.type_constructs.specs.Failing.{Bad}
use Rattle.type_walks.specs.Regions.{below, either, Inside, Apart}
use Rattle.type_walks.specs.Links.{Has}
use Rattle.type_walks.proofs.Regions.{either_inside}
use Rattle.type_walks.proofs.Linking.{left_inside, right_inside}
use Rattle.type_constructs.specs.Regions.{tops, deep}
use Rattle.type_constructs.proofs.Spots.{Here, Child, Below, Tops, Deep, In, atoms_apart, atom_inside}
use Rattle.type_constructs.proofs.Parts.{deep_in_deep, below_in_deep, deep_apart_below}
use Rattle.type_constructs.proofs.Walking.{count_each, length_children}
use Rattle.infer_steps.specs.Codes.{Code, State}
use Rattle.infer_steps.specs.Ready.{IsReady}
use Rattle.infer_steps.specs.Begun.{Begun}
use Rattle.infer_steps.specs.Operations.{arguments, nothing, apply_types}
use Rattle.infer_parts.specs.Steps.{Lists, one, each, Went, Stuck}
use Rattle.infer_parts.specs.Parts.{listed, part_of, part_place, operand_of, operand_place, type_at, call_region}
use Rattle.infer_parts.specs.Parts.{call_items, CallOpens}
use Rattle.infer_parts.proofs.Going.{went_as, stuck_as, goes, sticks, opens_ends, same_inside, inside_on}
use Rattle.infer_parts.proofs.Going.{either_apart, zip_at}
use Rattle.infer_parts.proofs.Operating.{begun_opens, operand_for, operand_stuck_for, each_next, each_split, take_whole}

-- ---- a part whose type has a variable among others

pub part_for : (code : Code) (e : Expr) (here : Pos) (i k : ℕ) (vs : List ℕ) (u : ℕ) (old new : State) → k < length vs
    → u ≡ get_or vs k 0
    → Went Wanted code (one u) (part_place i) (part_of e here i) old new
    → Went (List Wanted) code (each vs) (part_place i) (λ scope q ts. items e scope here (child q i) (type_at ts k)) old
    new
part_for code e here i k vs u old new lt is w =
    went_as Wanted (List Wanted) code (one u) (each vs) (part_place i) (part_place i) (part_of e here i)
    (λ scope q ts. items e scope here (child q i) (type_at ts k)) old new (λ scope q ts. type_at ts k)
    (λ links scope q ts has. subst (λ x. Has links x (type_at ts k)) (sym is) (zip_at (Has links) vs ts k 0 _ lt has))
    (λ q. same_inside (part_place i q)) (λ links scope q ts has. refl) w

pub part_stuck_for : (code : Code) (e : Expr) (here : Pos) (i k : ℕ) (vs : List ℕ) (u : ℕ) (old new : State) (bad : Bad)
    → k < length vs → u ≡ get_or vs k 0 → Stuck Wanted code (one u) (part_place i) (part_of e here i) old new bad
    → Stuck (List Wanted) code (each vs) (part_place i)
    (λ scope q ts. items e scope here (child q i) (type_at ts k) ++ []) old new bad
part_stuck_for code e here i k vs u old new bad lt is s =
    stuck_as Wanted (List Wanted) code (one u) (each vs) (part_place i) (part_place i) (part_of e here i)
    (λ scope q ts. items e scope here (child q i) (type_at ts k) ++ []) old new bad (λ scope q ts. type_at ts k)
    (λ scope q ts. [])
    (λ links scope q ts has. subst (λ x. Has links x (type_at ts k)) (sym is) (zip_at (Has links) vs ts k 0 _ lt has))
    (λ q. same_inside (part_place i q)) (λ links scope q ts has. refl) s

-- ---- regions

arguments_below : (n : ℕ) (q : Place) → Inside (arguments n q) (below q)
arguments_below n q = atom_inside q (In (Child Here 1) (Tops 0 n)) refl

part_below : (i : ℕ) (q : Place) → Inside (part_place i q) (below q)
part_below i q = atom_inside q (In (Child Here i) Below) refl

operand_in : (i j : ℕ) (q : Place) → Inside (operand_place i j q) (below q)
operand_in i j q = atom_inside q (In (Child (Child Here i) j) Below) refl

callee_apart : (n : ℕ) (q : Place) → Apart (arguments n q) (part_place 0 q)
callee_apart n q = atoms_apart q (In (Child Here 1) (Tops 0 n)) (In (Child Here 0) Below) refl

call_apart : (n : ℕ) (es : List Expr) (q : Place) → Apart (call_region n es q) (operand_place 1 (length es) q)
call_apart n es q =
    either_apart (tops (child q 1) 0 n) (either (below (child q 0)) (deep (child q 1) 0 (length es)))
    (operand_place 1 (length es) q)
    (atoms_apart q (In (Child Here 1) (Tops 0 n)) (In (Child (Child Here 1) (length es)) Below) refl)
    (either_apart (below (child q 0)) (deep (child q 1) 0 (length es)) (operand_place 1 (length es) q)
    (atoms_apart q (In (Child Here 0) Below) (In (Child (Child Here 1) (length es)) Below) refl)
    (deep_apart_below (child q 1) 0 (length es) (length es) (omega arith)))

call_below : (n : ℕ) (es : List Expr) (q : Place) → Inside (call_region n es q) (below q)
call_below n es q =
    either_inside (tops (child q 1) 0 n) (either (below (child q 0)) (deep (child q 1) 0 (length es))) (below q)
    (arguments_below n q)
    (either_inside (below (child q 0)) (deep (child q 1) 0 (length es)) (below q) (part_below 0 q)
    (atom_inside q (In (Child Here 1) (Deep 0 (length es))) refl))

-- ---- from part to part

module _ (code : Code) (v : ℕ) (f : Expr) (n : ℕ) (here : Pos) where
  abbrev callee_items : Lists (List Wanted)
  callee_items scope q ts = items f scope here (child q 0) (type_at ts 0)

  -- the function
  pub call_begun : (vs : List ℕ) (u : ℕ) (old mid new : State) → IsReady code old.depth old.store → 0 < length vs
      → u ≡ get_or vs 0 0
      → Begun code v (arguments n) nothing vs (apply_types n) old mid → Went Wanted code (one u) (part_place 0)
      (part_of f here 0) mid new
      → CallOpens code v f n here [] vs old new
  call_begun vs u old mid new ready some is b w =
      goes Wanted (List Wanted) code (one v) (each vs) (apply_types n) (arguments n) (part_place 0) (call_region n [])
      nothing callee_items (call_items f n [] here)
      old mid ready (callee_apart n) (λ q. left_inside (tops (child q 1) 0 n)
      (either (below (child q 0)) (deep (child q 1) 0 0)))
      (λ q. inside_on (part_place 0 q) (either (below (child q 0)) (deep (child q 1) 0 0)) (call_region n [] q)
      (left_inside (below (child q 0)) (deep (child q 1) 0 0))
      (right_inside (tops (child q 1) 0 n) (either (below (child q 0)) (deep (child q 1) 0 0))))
      (λ links scope q w has. sym (append-nil (items f scope here (child q 0) (functions (children (child q 1) n) w))))
      (begun_opens code v (arguments n) nothing vs (apply_types n) old mid b) new
      (part_for code f here 0 0 vs u mid new some is w)

  -- another argument
  pub call_next : (es : List Expr) (e : Expr) (vs : List ℕ) (u : ℕ) (old mid new : State)
      → IsReady code old.depth old.store
      → length es < n → suc (length es) < length vs → u ≡ get_or vs (suc (length es)) 0 → CallOpens code v f n here es
      vs old mid
      → Went Wanted code (one u) (operand_place 1 (length es)) (operand_of e here 1 (length es)) mid new
      → CallOpens code v f n here (es ++ e ∷ []) vs old new
  call_next es e vs u old mid new ready few some is o w =
      goes Wanted (List Wanted) code (one v) (each vs) (apply_types n) (call_region n es) (operand_place 1 (length es))
      (call_region n (es ++ e ∷ []))
      (call_items f n es here) (λ scope q ts. items e scope here (child (child q 1) (length es))
      (type_at ts (suc (length es))))
      (call_items f n (es ++ e ∷ []) here) old mid ready (call_apart n es) left right
      (λ links scope q w has. same scope q w) o new
      (operand_for code e here 1 (length es) (suc (length es)) vs u mid new some is w)
    where
      left : (q : Place) → Inside (call_region n es q) (call_region n (es ++ e ∷ []) q)
      left q =
          let l = length_push es e in
          either_inside (tops (child q 1) 0 n) (either (below (child q 0)) (deep (child q 1) 0 (length es)))
          (call_region n (es ++ e ∷ []) q)
          (left_inside (tops (child q 1) 0 n) (either (below (child q 0)) (deep (child q 1) 0 (length (es ++ e ∷ [])))))
          (inside_on (either (below (child q 0)) (deep (child q 1) 0 (length es)))
          (either (below (child q 0)) (deep (child q 1) 0 (length (es ++ e ∷ []))))
          (call_region n (es ++ e ∷ []) q)
          (either_inside (below (child q 0)) (deep (child q 1) 0 (length es))
          (either (below (child q 0)) (deep (child q 1) 0 (length (es ++ e ∷ []))))
          (left_inside (below (child q 0)) (deep (child q 1) 0 (length (es ++ e ∷ []))))
          (inside_on (deep (child q 1) 0 (length es)) (deep (child q 1) 0 (length (es ++ e ∷ [])))
          (either (below (child q 0)) (deep (child q 1) 0 (length (es ++ e ∷ []))))
          (deep_in_deep (child q 1) 0 (length (es ++ e ∷ [])) 0 (length es) (omega arith) (omega (arith, l)))
          (right_inside (below (child q 0)) (deep (child q 1) 0 (length (es ++ e ∷ []))))))
          (right_inside (tops (child q 1) 0 n)
          (either (below (child q 0)) (deep (child q 1) 0 (length (es ++ e ∷ []))))))

      right : (q : Place) → Inside (operand_place 1 (length es) q) (call_region n (es ++ e ∷ []) q)
      right q =
          let l = length_push es e in
          inside_on (operand_place 1 (length es) q)
          (either (below (child q 0)) (deep (child q 1) 0 (length (es ++ e ∷ [])))) (call_region n (es ++ e ∷ []) q)
          (inside_on (operand_place 1 (length es) q) (deep (child q 1) 0 (length (es ++ e ∷ [])))
          (either (below (child q 0)) (deep (child q 1) 0 (length (es ++ e ∷ []))))
          (below_in_deep (child q 1) 0 (length (es ++ e ∷ [])) (length es) (omega arith) (omega (arith, l)))
          (right_inside (below (child q 0)) (deep (child q 1) 0 (length (es ++ e ∷ [])))))
          (right_inside (tops (child q 1) 0 n)
          (either (below (child q 0)) (deep (child q 1) 0 (length (es ++ e ∷ [])))))

      same : (scope : Scope) (q : Place) (w : Wanted)
          → call_items f n es here scope q w ++ items e scope here (child (child q 1) (length es))
          (type_at (children (child q 1) n) (length es))
          ≡ call_items f n (es ++ e ∷ []) here scope q w
      same scope q w =
          let x = items f scope here (child q 0) (functions (children (child q 1) n) w) in
          let count = length_children (child q 1) 0 n in
          append_assoc x (each_items (exprs_of es) scope here (child q 1) 0 (take (length es) (children (child q 1) n)))
          _
          ∙ ap (λ l. x ++ l) (each_next es e scope here (child q 1) 0 (length es) (children (child q 1) n)
          (omega (arith, few, count)) (omega arith))

  -- ---- all arguments are walked

  -- a call with its number of arguments
  whole_at : (es : List Expr) (scope : Scope) (q : Place) (w : Wanted) → length es ≡ n
      → items f scope here (child q 0) (functions (children (child q 1) n) w) ++ each_items (exprs_of es) scope here
      (child q 1) 0 (children (child q 1) n)
      ≡ items (Apply f (exprs_of es)) scope here q w
  whole_at es scope q w h =
      ap (λ k. items f scope here (child q 0) (functions (children (child q 1) k) w) ++ each_items (exprs_of es) scope
      here (child q 1) 0 (children (child q 1) k))
      (sym (count_each es ∙ h))

  pub call_closes : (es : List Expr) (vs : List ℕ) (old new : State) → length es ≡ n
      → CallOpens code v f n here es vs old new
      → Went Wanted code (one v) below (listed (Apply f (exprs_of es)) here) old new
  call_closes es vs old new h o =
      opens_ends Wanted (List Wanted) code (one v) (each vs) (call_region n es) below (call_items f n es here)
      (listed (Apply f (exprs_of es)) here)
      (apply_types n) old new (call_below n es)
      (λ links scope q w has. ap (λ ts. items f scope here (child q 0) (functions (children (child q 1) n) w) ++
      each_items (exprs_of es) scope here (child q 1) 0 ts)
      (take_whole (length es) (children (child q 1) n) (h ∙ sym (length_children (child q 1) 0 n))) ∙ whole_at es scope
      q w h) o

  abbrev callee_front : Lists Wanted
  callee_front scope q w = items f scope here (child q 0) (functions (children (child q 1) n) w) ++ []

  -- ---- where it stops
  pub callee_stuck : (es : List Expr) (vs : List ℕ) (u : ℕ) (old mid new : State) (bad : Bad)
      → IsReady code old.depth old.store → length es ≡ n
      → 0 < length vs → u ≡ get_or vs 0 0 → Begun code v (arguments n) nothing vs (apply_types n) old mid
      → Stuck Wanted code (one u) (part_place 0) (part_of f here 0) mid new bad
      → Stuck Wanted code (one v) below (listed (Apply f (exprs_of es)) here) old new bad
  callee_stuck es vs u old mid new bad ready h some is b s =
      stuck_as Wanted Wanted code (one v) (one v) below below callee_front (listed (Apply f (exprs_of es)) here) old new
      bad (λ scope q w. w)
      (λ scope q w. each_items (exprs_of es) scope here (child q 1) 0 (children (child q 1) n))
      (λ links scope q w has. has) (λ q. same_inside (below q))
      (λ links scope q w has. ap (λ l. l ++ each_items (exprs_of es) scope here (child q 1) 0 (children (child q 1) n))
      (append-nil (items f scope here (child q 0) (functions (children (child q 1) n) w))) ∙ whole_at es scope q w h)
      (sticks Wanted (List Wanted) code (one v) (each vs) (apply_types n) (arguments n) (part_place 0) below nothing
      (λ scope q ts. items f scope here (child q 0) (type_at ts 0) ++ []) callee_front old mid ready (callee_apart n)
      (arguments_below n) (part_below 0)
      (λ links scope q w has. refl) (begun_opens code v (arguments n) nothing vs (apply_types n) old mid b) new bad
      (part_stuck_for code f here 0 0 vs u mid new bad some is s))

  abbrev next_front : List Expr → Expr → Lists Wanted
  next_front es e scope q w =
      call_items f n es here scope q w
      ++ (items e scope here (child (child q 1) (length es)) (type_at (children (child q 1) n) (length es)) ++ [])

  abbrev next_tail : List Expr → List Expr → Lists Wanted
  next_tail es more scope q w =
      each_items (exprs_of more) scope here (child q 1) (length es + 1) (drop (length es + 1) (children (child q 1) n))

  pub call_next_stuck : (es : List Expr) (e : Expr) (more : List Expr) (vs : List ℕ) (u : ℕ) (old mid new : State)
      (bad : Bad)
      → IsReady code old.depth old.store → length (es ++ e ∷ more) ≡ n → suc (length es) < length vs → u ≡ get_or vs
      (suc (length es)) 0
      → CallOpens code v f n here es vs old mid
      → Stuck Wanted code (one u) (operand_place 1 (length es)) (operand_of e here 1 (length es)) mid new bad
      → Stuck Wanted code (one v) below (listed (Apply f (exprs_of (es ++ e ∷ more))) here) old new bad
  call_next_stuck es e more vs u old mid new bad ready h some is o s =
      stuck_as Wanted Wanted code (one v) (one v) below below (next_front es e)
      (listed (Apply f (exprs_of (es ++ e ∷ more))) here) old new bad (λ scope q w. w) (next_tail es more)
      (λ links scope q w has. has) (λ q. same_inside (below q))
      (λ links scope q w has. same scope q w ∙ whole_at (es ++ e ∷ more) scope q w h)
      (sticks Wanted (List Wanted) code (one v) (each vs) (apply_types n) (call_region n es)
      (operand_place 1 (length es)) below (call_items f n es here)
      (λ scope q ts. items e scope here (child (child q 1) (length es)) (type_at ts (suc (length es))) ++ [])
      (next_front es e) old mid ready (call_apart n es)
      (call_below n es) (operand_in 1 (length es)) (λ links scope q w has. refl) o new bad
      (operand_stuck_for code e here 1 (length es) (suc (length es)) vs u mid new bad (λ scope q ts. []) some is s))
    where
      same : (scope : Scope) (q : Place) (w : Wanted) → (next_front es e) scope q w ++ (next_tail es more) scope q w
          ≡ items f scope here (child q 0) (functions (children (child q 1) n) w)
          ++ each_items (exprs_of (es ++ e ∷ more)) scope here (child q 1) 0 (children (child q 1) n)
      same scope q w =
          let x = items f scope here (child q 0) (functions (children (child q 1) n) w) in
          let done = each_items (exprs_of es) scope here (child q 1) 0 (take (length es) (children (child q 1) n)) in
          let y = items e scope here (child (child q 1) (length es)) (type_at (children (child q 1) n) (length es)) in
          let count = length_children (child q 1) 0 n in
          let many : length (es ++ e ∷ more) ≡ length es + suc (length more) = length-append es (e ∷ more) in
          ap (λ l. ((x ++ done) ++ l) ++ (next_tail es more) scope q w) (append-nil y)
          ∙ (append_assoc (x ++ done) y ((next_tail es more) scope q w)
          ∙ (append_assoc x done (y ++ (next_tail es more) scope q w)
          ∙ ap (λ l. x ++ l) (sym (each_split es e more scope here (child q 1) 0 (length es) (children (child q 1) n)
          (omega (arith, h, many, count)) (omega arith)))))
