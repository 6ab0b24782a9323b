-- The walk of each expression.
use Rattle.std.proofs.Common.{◌≡◌, ℕ, zero, suc, ◌+◌, List, [], ◌∷◌, ◌++◌, length, map, Bool, refl, sym, ap, ◌∙◌, subst, arith, append_assoc}
use Rattle.std.specs.Prelude.{replicate}
use Rattle.std.specs.List.{range_with_len}
use Rattle.std.proofs.lemmas.List.{append-nil, length_push}
use Rattle.elm_base.specs.declared.position.Pos.{Pos}
use Rattle.elm_canon.specs.Tree.{Pattern, Expr, Strict, Op, TupleOf, ListOf, Build, RecordOf, Negate, Binary, exprs_of, patterns_of, branches_of}
use Rattle.elm_canon.specs.Proper.{count_exprs}
use Rattle.elm_type.specs.Types.{functions}
use Rattle.type_items.specs.Items.{Place, child, Wanted, at, children, Item, Same, lack_items, class_items}
use Rattle.type_items.specs.Scopes.{Scope}
use Rattle.type_items.specs.Patterns.{pattern_items, shape_items, parameter_types, bind_pattern, open_record}
use Rattle.type_items.specs.Operations.{Plan, plan, in_turn, operator_class}
use Rattle.type_items.specs.Expressions.{items, each_items, part_items, branch_items}
use Rattle.type_store.specs.Store.{Store}
use Rattle.type_walks.specs.Regions.{none, below}
use Rattle.type_walks.specs.Links.{Links}
use Rattle.type_walks.specs.Walks.{Around}
use Rattle.type_walks.proofs.Regions.{none_inside}
use Rattle.type_walks.proofs.Walking.{rests, widens}
use Rattle.type_constructs.specs.Regions.{deep}
use Rattle.type_constructs.specs.Stepping.{Step}
use Rattle.type_constructs.specs.Expressions.{Walked, WalksNumber, WalksType, WalksCopy, WalksAccessor, WalksFunction, WalksApply, WalksNone, WalksOneMore, WalksIf, WalksLogical, WalksCase, WalksNoBranch, WalksOneBranch, WalksLet, WalksTuple, WalksList, WalksBuild, WalksRecord, WalksAccess, WalksUpdate, WalksNegate, WalksBinary}
use Rattle.type_constructs.proofs.Spots.{Here, Child, Itself, Below, Tops, Deep, Nowhere, In}
use Rattle.type_constructs.proofs.Chains.{tells_same, tells_more, tells_on}
use Rattle.type_constructs.proofs.Sizes.{class_sizes, lack_sizes, shape_sizes, pattern_sizes, patterns_sizes}
use Rattle.type_constructs.proofs.Running.{plain, last, nothing, on, whole, next}

-- ---- without parts

pub walks_number : WalksNumber
walks_number real a n scope here q w s s1 s2 s' links v live opened class same =
    whole refl (tells_more v (at (child q 0)) (tells_same links)) live
    (on (In (Child Here 0) Itself) refl (plain tt opened)
    (on Nowhere refl (plain (refl, tt) class) (last Nowhere (plain (refl, tt) same))))

pub walks_type : WalksType
walks_type real a t here q w s u s' links v live made same =
    whole refl made.tells live (on Nowhere refl (plain tt made.walk) (last Nowhere (plain (refl, tt) same)))

pub walks_copy : WalksCopy
walks_copy real a list t here q w s u s' links v live sizes copy same =
    whole refl (tells_more v t (tells_same links)) live
    (on (In (Child Here 0) Below) refl (plain sizes copy) (last Nowhere (plain (refl, tt) same)))

pub walks_accessor : WalksAccessor
walks_accessor real a x scope here q w s s1 s2 s3 s4 s' links rest field v live opened lacks opened_field made same =
    whole refl (tells_on made.tells (tells_more field (at (child (child q 1) 0)) (tells_more rest (at (child q 0)) (tells_same links)))) live
    (on (In (Child Here 0) Itself) refl (plain tt opened)
    (on Nowhere refl (plain (refl, tt) lacks)
    (on (In (Child (Child Here 1) 0) Itself) refl (plain tt opened_field)
    (on Nowhere refl (plain tt made.walk) (last Nowhere (plain (refl, tt) same))))))

-- ---- functions

pub walks_function : WalksFunction
walks_function real a ps body scope here q v s s1 s2 s3 s4 s5 s' links vs result made_at bound live count opened opened_result made same each inner =
    whole refl
    (tells_on each.tells (tells_on made.tells (tells_more result (at (child q 1)) opened.tells))) live
    (on (In (Child Here 0) (Tops 0 (length vs))) refl (plain tt opened.walk)
    (on (In (Child Here 1) Itself) refl (plain tt opened_result)
    (on Nowhere refl (plain tt made.walk)
    (on Nowhere refl (plain (refl, tt) same)
    (on (In (Child Here 0) (Deep 0 (length ps))) refl
    (plain (patterns_sizes (patterns_of ps) scope.known here (child q 0) 0 (parameter_types (patterns_of ps) (child q 0))) each.walk)
    (last (In (Child Here 1) Below) inner))))))

-- ---- in turn

pub walks_none : WalksNone
walks_none real a scope here q i s links =
    plain tt (widens a none (deep q i 0) [] s s links links (none_inside (deep q i 0)) (rests a s links))

pub each_after : (es : List Expr) (e : Expr) (more : List Expr) (scope : Scope) (here : Pos) (q : Place) (i j : ℕ) (ts : List Wanted) (t : Wanted) (us : List Wanted)
    → length es ≡ length ts → i + length es ≡ j
    → each_items (exprs_of (es ++ e ∷ more)) scope here q i (ts ++ t ∷ us)
    ≡ each_items (exprs_of es) scope here q i ts
    ++ (items e scope here (child q j) t ++ each_items (exprs_of more) scope here q (j + 1) us)
each_after [] e more scope here q i j [] t us h k =
    let f : i ≡ j = omega arith in
    ap (λ n. items e scope here (child q n) t ++ each_items (exprs_of more) scope here q (n + 1) us) f
each_after [] e more scope here q i j (u ∷ ts) t us h k = absurd (omega arith)
each_after (o ∷ es) e more scope here q i j [] t us h k = absurd (omega arith)
each_after (o ∷ es) e more scope here q i j (u ∷ ts) t us h k =
    ap (λ l. items o scope here (child q i) u ++ l) (each_after es e more scope here q (i + 1) j ts t us (omega arith) (omega arith))
    ∙ sym (append_assoc (items o scope here (child q i) u) (each_items (exprs_of es) scope here q (i + 1) ts) _)

pub walks_one_more : WalksOneMore
walks_one_more real a es e scope here q i j ts t s u s' links live count number first second =
    subst (λ l. Step real a (deep q i (length (es ++ e ∷ []))) l s links s' links)
    (sym (each_after es e [] scope here q i j ts t [] count number
    ∙ ap (λ l. each_items (exprs_of es) scope here q i ts ++ l) (append-nil (items e scope here (child q j) t))))
    (next q i (length es) j (length (es ++ e ∷ [])) number (let l = length_push es e in omega arith) live first second)

pub count_each : (es : List Expr) → count_exprs (exprs_of es) ≡ length es
count_each [] = refl
count_each (e ∷ es) = ap suc (count_each es)

pub walks_apply : WalksApply
walks_apply real a f es scope here q w s s1 s2 s3 s' links vs v live count opened made first each =
    subst
    (λ n. Step real a (below q)
    (items f scope here (child q 0) (functions (children (child q 1) n) w)
    ++ each_items (exprs_of es) scope here (child q 1) 0 (children (child q 1) n))
    s links s' links)
    (sym (count_each es))
    (whole refl (tells_on made.tells opened.tells) live
    (on (In (Child Here 1) (Tops 0 (length vs))) refl (plain tt opened.walk)
    (on Nowhere refl (plain tt made.walk)
    (on (In (Child Here 0) Below) refl first (last (In (Child Here 1) (Deep 0 (length es))) each)))))

-- ---- choices

pub walks_if : WalksIf
walks_if real a c x y scope here q w s s1 s2 s3 s' links v live made one two three =
    whole refl made.tells live
    (on Nowhere refl (plain tt made.walk)
    (on (In (Child Here 0) Below) refl one
    (on (In (Child Here 1) Below) refl two (last (In (Child Here 2) Below) three))))

pub walks_logical : WalksLogical
walks_logical real a pos op x y scope here q w s s1 s2 s3 s4 s5 s6 s' links left right is wanted live opened_left opened_right one two same first second =
    whole refl
    (tells_on two.tells (tells_on one.tells (tells_more right (at (child q 1)) (tells_more left (at (child q 0)) (tells_same links))))) live
    (on (In (Child Here 0) Itself) refl (plain tt opened_left)
    (on (In (Child Here 1) Itself) refl (plain tt opened_right)
    (on Nowhere refl (plain tt one.walk)
    (on Nowhere refl (plain tt two.walk)
    (on Nowhere refl (plain (refl, tt) same)
    (on (In (Child Here 0) Below) refl first (last (In (Child Here 1) Below) second)))))))

pub walks_case : WalksCase
walks_case real a e bs scope here q w s s1 s2 s' links v live opened first each =
    whole refl (tells_more v (at (child q 0)) (tells_same links)) live
    (on (In (Child Here 0) Itself) refl (plain tt opened)
    (on (In (Child Here 0) Below) refl first (last (In (Child Here 1) (Deep 0 (length bs))) each)))

pub walks_no_branch : WalksNoBranch
walks_no_branch real a scope here q t w s links =
    plain tt (widens a none (deep q 0 0) [] s s links links (none_inside (deep q 0 0)) (rests a s links))

pub branches_after : (bs : List (Pattern × Expr)) (p : Pattern) (e : Expr) (more : List (Pattern × Expr)) (scope : Scope) (here : Pos) (q : Place) (i j : ℕ) (t w : Wanted)
    → i + length bs ≡ j
    → branch_items (branches_of (bs ++ (p, e) ∷ more)) scope here q i t w
    ≡ branch_items (branches_of bs) scope here q i t w
    ++ (pattern_items p scope.known here (child (child q j) 0) t
    ++ (items e (bind_pattern p (child (child q j) 0) t scope) here (child (child q j) 1) w
    ++ branch_items (branches_of more) scope here q (j + 1) t w))
branches_after [] p e more scope here q i j t w k =
    let f : i ≡ j = omega arith in
    ap (λ n. pattern_items p scope.known here (child (child q n) 0) t
    ++ (items e (bind_pattern p (child (child q n) 0) t scope) here (child (child q n) 1) w
    ++ branch_items (branches_of more) scope here q (n + 1) t w)) f
branches_after (b ∷ bs) p e more scope here q i j t w k =
    let one = pattern_items b.0 scope.known here (child (child q i) 0) t in
    let two = items b.1 (bind_pattern b.0 (child (child q i) 0) t scope) here (child (child q i) 1) w in
    ap (λ l. one ++ (two ++ l)) (branches_after bs p e more scope here q (i + 1) j t w (omega arith))
    ∙ (ap (λ l. one ++ l) (sym (append_assoc two (branch_items (branches_of bs) scope here q (i + 1) t w) _))
    ∙ sym (append_assoc one (two ++ branch_items (branches_of bs) scope here q (i + 1) t w) _))

pub walks_one_branch : WalksOneBranch
walks_one_branch real a bs p e scope here q t w s s1 s2 s' links bound live first matched inner =
    subst (λ l. Step real a (deep q 0 (length (bs ++ (p, e) ∷ []))) l s links s' links)
    (sym (branches_after bs p e [] scope here q 0 (length bs) t w (omega arith)))
    (next q 0 (length bs) (length bs) (length (bs ++ (p, e) ∷ [])) (omega arith) (let l = length_push bs (p, e) in omega arith) live first
    (whole refl matched.tells (first.walk.live live)
    (on (In (Child Here 0) Below) refl (plain (pattern_sizes p scope.known here (child (child q (length bs)) 0) t) matched.walk)
    (on (In (Child Here 1) Below) refl inner (nothing s' matched.after)))))

pub walks_let : WalksLet
walks_let real a gs e scope here q w s u s' links between live tells first second =
    whole refl tells live (on (In (Child Here 0) Below) refl first (last (In (Child Here 1) Below) second))

-- ---- operations

pub length_children : (p : Place) (i n : ℕ) → length (map (λ j. at (child p j)) (range_with_len i n)) ≡ n
length_children p i zero = refl
length_children p i (suc n) = ap suc (length_children p (i + 1) n)

pub length_replicate : (n : ℕ) (t : Wanted) → length (replicate n t) ≡ n
length_replicate zero t = refl
length_replicate (suc n) t = ap suc (length_replicate n t)

pub parts_in_turn : (es : List Expr) (before : List Item) (ts : List Wanted) (scope : Scope) (here : Pos) (p : Place) → length es ≡ length ts
    → part_items (exprs_of es) (in_turn before ts) scope here p ≡ before ++ each_items (exprs_of es) scope here p 0 ts
parts_in_turn [] before [] scope here p h = sym (append-nil before)
parts_in_turn [] before (t ∷ ts) scope here p h = absurd (omega arith)
parts_in_turn (e ∷ es) before [] scope here p h = absurd (omega arith)
parts_in_turn (e ∷ es) before (t ∷ ts) scope here p h =
    ap (λ l. before ++ (items e scope here (child p 0) t ++ l)) (append-nil (each_items (exprs_of es) scope here p 1 ts))

module _ (real : Bool) (a : Around) (op : Op) (es : List Expr) (scope : Scope) (here : Pos) (q : Place) (w : Wanted) (s s' : Store) (links : Links)
    (before : List Item) (ts : List Wanted) (is : plan op (length es) scope here q w ≡ in_turn before ts) (count : length es ≡ length ts) where
  turned : Step real a (below q) (before ++ each_items (exprs_of es) scope here (child q 0) 0 ts) s links s' links
      → Walked real a (Strict op (exprs_of es)) scope here q w s links s'
  turned h =
      subst (λ n. Step real a (below q) (part_items (exprs_of es) (plan op n scope here q w) scope here (child q 0)) s links s' links)
      (sym (count_each es))
      (subst (λ (x : Plan). Step real a (below q) (part_items (exprs_of es) x scope here (child q 0)) s links s' links) (sym is)
      (subst (λ l. Step real a (below q) l s links s' links) (sym (parts_in_turn es before ts scope here (child q 0) count)) h))

pub walks_tuple : WalksTuple
walks_tuple real a es scope here q w s s1 s2 s3 s' links vs v live count opened made same each =
    turned real a TupleOf es scope here q w s s' links _ (children (child q 0) (length es)) refl (sym (length_children (child q 0) 0 (length es)))
    (whole refl (tells_on made.tells opened.tells) live
    (on (In (Child Here 0) (Tops 0 (length vs))) refl (plain tt opened.walk)
    (on Nowhere refl (plain tt made.walk)
    (on Nowhere refl (plain (refl, tt) same) (last (In (Child Here 0) (Deep 0 (length es))) each)))))

pub walks_list : WalksList
walks_list real a es scope here q w s s1 s2 s3 s' links item v live opened made same each =
    turned real a ListOf es scope here q w s s' links _ (replicate (length es) (at (child q 1))) refl (sym (length_replicate (length es) (at (child q 1))))
    (whole refl (tells_on made.tells (tells_more item (at (child q 1)) (tells_same links))) live
    (on (In (Child Here 1) Itself) refl (plain tt opened)
    (on Nowhere refl (plain tt made.walk)
    (on Nowhere refl (plain (refl, tt) same) (last (In (Child Here 0) (Deep 0 (length es))) each)))))

pub walks_build : WalksBuild
walks_build real a pos u c es scope here q w s s1 s2 s3 s4 s5 s' links vs parts result is wanted live count opened shaped one two same each =
    turned real a (Build pos u c) es scope here q w s s' links _ (children (child q 0) (length es)) refl (sym (length_children (child q 0) 0 (length es)))
    (subst (λ l. Step real a (below q) l s links s' links)
    (sym (append_assoc (shape_items u c scope.known pos (child q 1)) _ (each_items (exprs_of es) scope here (child q 0) 0 (children (child q 0) (length es)))))
    (whole refl (tells_on two.tells (tells_on one.tells (tells_on shaped.tells opened.tells))) live
    (on (In (Child Here 0) (Tops 0 (length vs))) refl (plain tt opened.walk)
    (on (In (Child Here 1) Below) refl (plain (shape_sizes u c scope.known pos (child q 1)) shaped.walk)
    (on Nowhere refl (plain tt one.walk)
    (on Nowhere refl (plain tt two.walk)
    (on Nowhere refl (plain (refl, tt) same) (last (In (Child Here 0) (Deep 0 (length es))) each))))))))

pub walks_record : WalksRecord
walks_record real a xs es scope here q w s s1 s2 s3 s' links vs v live fields count opened made same each =
    turned real a (RecordOf xs) es scope here q w s s' links _ (children (child q 0) (length xs)) refl
    (fields ∙ sym (length_children (child q 0) 0 (length xs)))
    (whole refl (tells_on made.tells opened.tells) live
    (on (In (Child Here 0) (Tops 0 (length vs))) refl (plain tt opened.walk)
    (on Nowhere refl (plain tt made.walk)
    (on Nowhere refl (plain (refl, tt) same) (last (In (Child Here 0) (Deep 0 (length es))) each)))))

pub walks_access : WalksAccess
walks_access real a x e scope here q w s s1 s2 s3 s4 s5 s' links rest field v live opened lacks opened_field made inner same =
    whole refl (tells_on made.tells (tells_more field (at (child (child q 2) 0)) (tells_more rest (at (child q 1)) (tells_same links)))) live
    (on (In (Child Here 1) Itself) refl (plain tt opened)
    (on Nowhere refl (plain (refl, tt) lacks)
    (on (In (Child (Child Here 2) 0) Itself) refl (plain tt opened_field)
    (on Nowhere refl (plain tt made.walk)
    (on (In (Child (Child Here 0) 0) Below) refl inner (last Nowhere (plain (refl, tt) same)))))))

pub walks_update : WalksUpdate
walks_update real a xs e es scope here q w s s1 s2 s3 s4 s5 s6 s' links rest v vs live fields count inner opened_rest lacks opened made same each =
    subst (λ l. Step real a (below q) l s links s' links)
    (ap (λ l. items e scope here (child (child q 0) 0) w ++ l)
    (sym (append_assoc (lack_items here (at (child q 1)) xs) (Same here (open_record xs (child q 2) (at (child q 1))) w ∷ [])
    (each_items (exprs_of es) scope here (child q 0) 1 (children (child q 2) (length xs)) ++ []))))
    (whole refl (tells_on made.tells (tells_on opened.tells (tells_more rest (at (child q 1)) (tells_same links)))) live
    (on (In (Child (Child Here 0) 0) Below) refl inner
    (on (In (Child Here 1) Itself) refl (plain tt opened_rest)
    (on Nowhere refl (plain (lack_sizes here (at (child q 1)) xs) lacks)
    (on (In (Child Here 2) (Tops 0 (length vs))) refl (plain tt opened.walk)
    (on Nowhere refl (plain tt made.walk)
    (on Nowhere refl (plain (refl, tt) same)
    (on (In (Child Here 0) (Deep 1 (length es))) refl each (nothing s' made.after)))))))))

pub walks_negate : WalksNegate
walks_negate real a e scope here q w s u s' links live class inner =
    turned real a Negate (e ∷ []) scope here q w s s' links _ (w ∷ []) refl refl
    (whole refl (tells_same links) live
    (on Nowhere refl (plain (refl, tt) class) (on (In (Child (Child Here 0) 0) Below) refl inner (nothing s' links))))

pub walks_binary : WalksBinary
walks_binary real a pos op x y scope here q w s s1 s2 s3 s4 s5 s6 s7 s' links vs v is wanted live count opened opened_item class one two same first second =
    turned real a (Binary pos op) (x ∷ y ∷ []) scope here q w s s' links _ (children (child q 0) 2) refl refl
    (subst (λ l. Step real a (below q) l s links s' links)
    (sym (append_assoc (class_items pos (at (child q 1)) (operator_class op)) _ (each_items (exprs_of (x ∷ y ∷ [])) scope here (child q 0) 0 (children (child q 0) 2))))
    (whole refl (tells_on two.tells (tells_on one.tells (tells_more v (at (child q 1)) opened.tells))) live
    (on (In (Child Here 0) (Tops 0 (length vs))) refl (plain tt opened.walk)
    (on (In (Child Here 1) Itself) refl (plain tt opened_item)
    (on Nowhere refl (plain (class_sizes pos (at (child q 1)) (operator_class op)) class)
    (on Nowhere refl (plain tt one.walk)
    (on Nowhere refl (plain tt two.walk)
    (on Nowhere refl (plain (refl, tt) same)
    (on (In (Child (Child Here 0) 0) Below) refl first
    (on (In (Child (Child Here 0) 1) Below) refl second (nothing s' two.after)))))))))))
