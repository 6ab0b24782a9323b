-- Where expressions stop.
use Rattle.std.proofs.Common.{◌≡◌, ℕ, ◌+◌, ◌≤◌, List, [], ◌∷◌, ◌++◌, length, refl, sym, ap, ◌∙◌, subst, arith, append_assoc}
use Rattle.elm_base.specs.declared.position.Pos.{Pos}
use Rattle.elm_canon.specs.Tree.{Expr, exprs_of, patterns_of, branches_of}
use Rattle.elm_type.specs.Types.{functions}
use Rattle.type_items.specs.Items.{Place, child, Wanted, children, nonsense}
use Rattle.type_items.specs.Scopes.{Scope}
use Rattle.type_items.specs.Patterns.{pattern_items, parameter_types, bind_pattern}
use Rattle.type_items.specs.Expressions.{items, each_items, branch_items}
use Rattle.type_walks.specs.Regions.{below}
use Rattle.type_constructs.specs.Failing.{Fails}
use Rattle.type_constructs.specs.Regions.{deep}
use Rattle.type_constructs.proofs.Spots.{Here, Child, Itself, Below, Tops, Deep, Nowhere, In}
use Rattle.type_constructs.proofs.Sizes.{pattern_sizes, patterns_sizes}
use Rattle.type_constructs.proofs.Running.{plain}
use Rattle.type_constructs.proofs.Walking.{each_after, count_each, branches_after}
use Rattle.type_constructs.proofs.Stops.{stuck, ends, past, stopped, stops_next, stops_there}
use Rattle.type_constructs.specs.TypeStopsExpressions.{FailsNumberClass, FailsNumber, FailsType, FailsCopy, FailsAccessorLack, FailsAccessor, FailsFunction, FailsParameters, FailsBody, FailsApplied, FailsArguments, FailsTest, FailsThen, FailsElse, FailsLogical, FailsLogicalLeft, FailsLogicalRight, FailsSubject, FailsBranches, FailsDefinitions, FailsLetBody, FailsNextPart, FailsMoreParts, FailsFewerParts, FailsBranchPattern, FailsBranchBody}

pub fails_number_class : FailsNumberClass
fails_number_class a n scope here q w s s1 s' links v bad p0 fails =
    stopped refl
    (past (In (Child Here 0) Itself) refl (plain tt p0)
    (stuck Nowhere _ fails))

pub fails_number : FailsNumber
fails_number a n scope here q w s s1 s2 s' links v bad p0 p1 fails =
    stopped refl
    (past (In (Child Here 0) Itself) refl (plain tt p0)
    (past Nowhere refl (plain (refl, tt) p1)
    (ends Nowhere fails)))

pub fails_type : FailsType
fails_type a t here q w s u s' links v bad p0 fails =
    stopped refl
    (past Nowhere refl (plain tt p0.walk)
    (ends Nowhere fails))

pub fails_copy : FailsCopy
fails_copy a list t here q w s u s' links v bad sizes p0 fails =
    stopped refl
    (past (In (Child Here 0) Below) refl (plain sizes p0)
    (ends Nowhere fails))

pub fails_accessor_lack : FailsAccessorLack
fails_accessor_lack a x scope here q w s s1 s' links rest bad p0 fails =
    stopped refl
    (past (In (Child Here 0) Itself) refl (plain tt p0)
    (stuck Nowhere _ fails))

pub fails_accessor : FailsAccessor
fails_accessor a x scope here q w s s1 s2 s3 s4 s' links rest field v bad p0 p1 p2 p3 fails =
    stopped refl
    (past (In (Child Here 0) Itself) refl (plain tt p0)
    (past Nowhere refl (plain (refl, tt) p1)
    (past (In (Child (Child Here 1) 0) Itself) refl (plain tt p2)
    (past Nowhere refl (plain tt p3.walk)
    (ends Nowhere fails)))))

pub fails_function : FailsFunction
fails_function a ps body scope here q v s s1 s2 s3 s' links vs result made_at bad count0 p0 p1 p2 fails =
    stopped refl
    (past (In (Child Here 0) (Tops 0 (length vs))) refl (plain tt p0.walk)
    (past (In (Child Here 1) Itself) refl (plain tt p1)
    (past Nowhere refl (plain tt p2.walk)
    (stuck Nowhere _ fails))))

pub fails_parameters : FailsParameters
fails_parameters a ps body scope here q v s s1 s2 s3 s4 s' links vs result made_at bad count0 p0 p1 p2 p3 fails =
    stopped refl
    (past (In (Child Here 0) (Tops 0 (length vs))) refl (plain tt p0.walk)
    (past (In (Child Here 1) Itself) refl (plain tt p1)
    (past Nowhere refl (plain tt p2.walk)
    (past Nowhere refl (plain (refl, tt) p3)
    (stuck (In (Child Here 0) (Deep 0 (length ps))) _ fails)))))

pub fails_body : FailsBody
fails_body a ps body scope here q v s s1 s2 s3 s4 s5 s' links vs result made_at bound bad count0 p0 p1 p2 p3 p4 fails =
    stopped refl
    (past (In (Child Here 0) (Tops 0 (length vs))) refl (plain tt p0.walk)
    (past (In (Child Here 1) Itself) refl (plain tt p1)
    (past Nowhere refl (plain tt p2.walk)
    (past Nowhere refl (plain (refl, tt) p3)
    (past (In (Child Here 0) (Deep 0 (length ps))) refl (plain (patterns_sizes (patterns_of ps) scope.known here (child q 0) 0 (parameter_types (patterns_of ps) (child q 0))) p4.walk)
    (ends (In (Child Here 1) Below) fails))))))

pub fails_applied : FailsApplied
fails_applied a f es scope here q w s s1 s2 s' links vs v bad count0 p0 p1 fails =
    subst
    (λ n. Fails a s links (below q)
    (items f scope here (child q 0) (functions (children (child q 1) n) w)
    ++ each_items (exprs_of es) scope here (child q 1) 0 (children (child q 1) n))
    bad s')
    (sym (count_each es))
    (stopped refl
    (past (In (Child Here 1) (Tops 0 (length vs))) refl (plain tt p0.walk)
    (past Nowhere refl (plain tt p1.walk)
    (stuck (In (Child Here 0) Below) _ fails))))

pub fails_arguments : FailsArguments
fails_arguments a f es scope here q w s s1 s2 s3 s' links vs v bad count0 p0 p1 p2 fails =
    subst
    (λ n. Fails a s links (below q)
    (items f scope here (child q 0) (functions (children (child q 1) n) w)
    ++ each_items (exprs_of es) scope here (child q 1) 0 (children (child q 1) n))
    bad s')
    (sym (count_each es))
    (stopped refl
    (past (In (Child Here 1) (Tops 0 (length vs))) refl (plain tt p0.walk)
    (past Nowhere refl (plain tt p1.walk)
    (past (In (Child Here 0) Below) refl p2
    (ends (In (Child Here 1) (Deep 0 (length es))) fails)))))

pub fails_test : FailsTest
fails_test a c x y scope here q w s s1 s' links v bad p0 fails =
    stopped refl
    (past Nowhere refl (plain tt p0.walk)
    (stuck (In (Child Here 0) Below) _ fails))

pub fails_then : FailsThen
fails_then a c x y scope here q w s s1 s2 s' links v bad p0 p1 fails =
    stopped refl
    (past Nowhere refl (plain tt p0.walk)
    (past (In (Child Here 0) Below) refl p1
    (stuck (In (Child Here 1) Below) _ fails)))

pub fails_else : FailsElse
fails_else a c x y scope here q w s s1 s2 s3 s' links v bad p0 p1 p2 fails =
    stopped refl
    (past Nowhere refl (plain tt p0.walk)
    (past (In (Child Here 0) Below) refl p1
    (past (In (Child Here 1) Below) refl p2
    (ends (In (Child Here 2) Below) fails))))

pub fails_logical : FailsLogical
fails_logical a pos op x y scope here q w s s1 s2 s3 s4 s' links left right is wanted bad p0 p1 p2 p3 fails =
    stopped refl
    (past (In (Child Here 0) Itself) refl (plain tt p0)
    (past (In (Child Here 1) Itself) refl (plain tt p1)
    (past Nowhere refl (plain tt p2.walk)
    (past Nowhere refl (plain tt p3.walk)
    (stuck Nowhere _ fails)))))

pub fails_logical_left : FailsLogicalLeft
fails_logical_left a pos op x y scope here q w s s1 s2 s3 s4 s5 s' links left right is wanted bad p0 p1 p2 p3 p4 fails =
    stopped refl
    (past (In (Child Here 0) Itself) refl (plain tt p0)
    (past (In (Child Here 1) Itself) refl (plain tt p1)
    (past Nowhere refl (plain tt p2.walk)
    (past Nowhere refl (plain tt p3.walk)
    (past Nowhere refl (plain (refl, tt) p4)
    (stuck (In (Child Here 0) Below) _ fails))))))

pub fails_logical_right : FailsLogicalRight
fails_logical_right a pos op x y scope here q w s s1 s2 s3 s4 s5 s6 s' links left right is wanted bad p0 p1 p2 p3 p4 p5 fails =
    stopped refl
    (past (In (Child Here 0) Itself) refl (plain tt p0)
    (past (In (Child Here 1) Itself) refl (plain tt p1)
    (past Nowhere refl (plain tt p2.walk)
    (past Nowhere refl (plain tt p3.walk)
    (past Nowhere refl (plain (refl, tt) p4)
    (past (In (Child Here 0) Below) refl p5
    (ends (In (Child Here 1) Below) fails)))))))

pub fails_subject : FailsSubject
fails_subject a e bs scope here q w s s1 s' links v bad p0 fails =
    stopped refl
    (past (In (Child Here 0) Itself) refl (plain tt p0)
    (stuck (In (Child Here 0) Below) _ fails))

pub fails_branches : FailsBranches
fails_branches a e bs scope here q w s s1 s2 s' links v bad p0 p1 fails =
    stopped refl
    (past (In (Child Here 0) Itself) refl (plain tt p0)
    (past (In (Child Here 0) Below) refl p1
    (ends (In (Child Here 1) (Deep 0 (length bs))) fails)))

pub fails_definitions : FailsDefinitions
fails_definitions a gs e scope here q w s s' links bad fails =
    stopped refl
    (stuck (In (Child Here 0) Below) _ fails)

pub fails_let_body : FailsLetBody
fails_let_body a gs e scope here q w s u s' links between bad p0 fails =
    stopped refl
    (past (In (Child Here 0) Below) refl p0
    (ends (In (Child Here 1) Below) fails))

-- ---- parts in turn

longer : {A : Type 0} (xs : List A) (x : A) (ys : List A) → length xs + 1 ≤ length (xs ++ x ∷ ys)
longer [] x ys = omega arith
longer (o ∷ xs) x ys = let h = longer xs x ys in omega (arith, h)

pub fails_next_part : FailsNextPart
fails_next_part a es e more scope here q i j ts t us s u s' links bad count number first fails =
    subst (λ l. Fails a s links (deep q i (length (es ++ e ∷ more))) l bad s') (sym (each_after es e more scope here q i j ts t us count number))
    (stops_next q i (length es) j (length (es ++ e ∷ more)) (each_items (exprs_of more) scope here q (j + 1) us) number (longer es e more)
    first.walk (first.passes refl) fails)

each_more : (es : List Expr) (e : Expr) (more : List Expr) (scope : Scope) (here : Pos) (q : Place) (i : ℕ) (ts : List Wanted) → length es ≡ length ts
    → each_items (exprs_of (es ++ e ∷ more)) scope here q i ts ≡ each_items (exprs_of es) scope here q i ts ++ nonsense here
each_more [] e more scope here q i [] h = refl
each_more [] e more scope here q i (t ∷ ts) h = absurd (omega arith)
each_more (o ∷ es) e more scope here q i [] h = absurd (omega arith)
each_more (o ∷ es) e more scope here q i (t ∷ ts) h =
    ap (λ l. items o scope here (child q i) t ++ l) (each_more es e more scope here q (i + 1) ts (omega arith))
    ∙ sym (append_assoc (items o scope here (child q i) t) (each_items (exprs_of es) scope here q (i + 1) ts) (nonsense here))

pub fails_more_parts : FailsMoreParts
fails_more_parts a es e more scope here q i ts s u s' links bad count first fails =
    subst (λ l. Fails a s links (deep q i (length (es ++ e ∷ more))) l bad s') (sym (each_more es e more scope here q i ts count))
    (stops_there q i (length es) (length (es ++ e ∷ more)) (let l = longer es e more in omega (arith, l)) first.walk (first.passes refl) fails)

each_fewer : (es : List Expr) (scope : Scope) (here : Pos) (q : Place) (i : ℕ) (ts : List Wanted) (t : Wanted) (us : List Wanted) → length es ≡ length ts
    → each_items (exprs_of es) scope here q i (ts ++ t ∷ us) ≡ each_items (exprs_of es) scope here q i ts ++ nonsense here
each_fewer [] scope here q i [] t us h = refl
each_fewer [] scope here q i (o ∷ ts) t us h = absurd (omega arith)
each_fewer (e ∷ es) scope here q i [] t us h = absurd (omega arith)
each_fewer (e ∷ es) scope here q i (o ∷ ts) t us h =
    ap (λ l. items e scope here (child q i) o ++ l) (each_fewer es scope here q (i + 1) ts t us (omega arith))
    ∙ sym (append_assoc (items e scope here (child q i) o) (each_items (exprs_of es) scope here q (i + 1) ts) (nonsense here))

pub fails_fewer_parts : FailsFewerParts
fails_fewer_parts a es scope here q i ts t us s u s' links bad count first fails =
    subst (λ l. Fails a s links (deep q i (length es)) l bad s') (sym (each_fewer es scope here q i ts t us count))
    (stops_there q i (length es) (length es) (omega arith) first.walk (first.passes refl) fails)

pub fails_branch_pattern : FailsBranchPattern
fails_branch_pattern a bs p e more scope here q t w s u s' links bad first fails =
    subst (λ l. Fails a s links (deep q 0 (length (bs ++ (p, e) ∷ more))) l bad s')
    (sym (branches_after bs p e more scope here q 0 (length bs) t w (omega arith)))
    (stops_next q 0 (length bs) (length bs) (length (bs ++ (p, e) ∷ more))
    (items e (bind_pattern p (child (child q (length bs)) 0) t scope) here (child (child q (length bs)) 1) w
    ++ branch_items (branches_of more) scope here q (length bs + 1) t w)
    (omega arith) (longer bs (p, e) more) first.walk (first.passes refl) (stopped refl (ends (In (Child Here 0) Below) fails)))

pub fails_branch_body : FailsBranchBody
fails_branch_body a bs p e more scope here q t w s u v s' links bound bad first matched fails =
    let one = pattern_items p scope.known here (child (child q (length bs)) 0) t in
    let two = items e (bind_pattern p (child (child q (length bs)) 0) t scope) here (child (child q (length bs)) 1) w in
    let rest = branch_items (branches_of more) scope here q (length bs + 1) t w in
    subst (λ l. Fails a s links (deep q 0 (length (bs ++ (p, e) ∷ more))) l bad s')
    (ap (λ l. branch_items (branches_of bs) scope here q 0 t w ++ l) (append_assoc one two rest)
    ∙ sym (branches_after bs p e more scope here q 0 (length bs) t w (omega arith)))
    (stops_next q 0 (length bs) (length bs) (length (bs ++ (p, e) ∷ more)) rest (omega arith) (longer bs (p, e) more) first.walk (first.passes refl)
    (stopped refl
    (past (In (Child Here 0) Below) refl (plain (pattern_sizes p scope.known here (child (child q (length bs)) 0) t) matched.walk)
    (ends (In (Child Here 1) Below) fails))))
