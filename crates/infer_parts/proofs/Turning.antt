-- A part of an operation, and what is asked after it.
use Rattle.std.proofs.Common.{◌≡◌, ℕ, zero, suc, ◌+◌, ◌<◌, List, [], ◌∷◌, ◌++◌, length, get_or, sym, ap, ◌∙◌}
use Rattle.std.proofs.Common.{subst, arith}
use Rattle.elm_base.specs.declared.position.Pos.{Pos}
use Rattle.elm_canon.specs.Tree.{Op, TupleOf, ListOf, Build, RecordOf, Access, Update, Negate, Binary, Expr, Strict}
use Rattle.elm_canon.specs.Tree.{exprs_of}
use Rattle.type_items.specs.Items.{Wanted}
use Rattle.type_constructs.specs.Failing.{Bad}
use Rattle.type_walks.specs.Regions.{below}
use Rattle.infer_steps.specs.Codes.{Code, State}
use Rattle.infer_steps.specs.Ready.{IsReady}
use Rattle.infer_parts.specs.Formed.{FormedOp}
use Rattle.infer_parts.specs.Steps.{one, Went, Stuck}
use Rattle.infer_parts.specs.Parts.{IsStrict, listed, operand_of, operand_place, GoesOnAt, StopsOnAt, known_count}
use Rattle.infer_parts.specs.Parts.{later_count, OpOpens}
use Rattle.infer_parts.proofs.Operating.{op_first, op_next, op_first_stuck, op_between_stuck, op_next_stuck}

-- so many variables are known after the next part
pub next_count : (op : Op) (n i m : ℕ) → FormedOp op (suc n) → m ≡ known_count op (suc n) i → later_count op i m ≡ suc n
next_count op n (suc i) m f h = h
next_count TupleOf n zero m f h = h
next_count ListOf n zero m f h = h
next_count (Build pos u c) n zero m f h = h
next_count (RecordOf []) n zero m f h = absurd (let e : suc n ≡ 0 = f.1 in omega (arith, e))
next_count (RecordOf (x ∷ xs)) n zero m f h = h ∙ sym f.1
next_count (Access x) n zero m f h = h ∙ sym f.1
next_count (Update xs) n zero m f h = sym f.1
next_count Negate n zero m f h = h ∙ sym f.1
next_count (Binary pos op) n zero m f h = h ∙ sym f.1

-- there is one for the part
pub known_enough : (op : Op) (n i : ℕ) → FormedOp op (suc n) → i < suc n → i < known_count op (suc n) i
known_enough op n (suc i) f lt = lt
known_enough TupleOf n zero f lt = lt
known_enough ListOf n zero f lt = lt
known_enough (Build pos u c) n zero f lt = lt
known_enough (RecordOf []) n zero f lt = omega arith
known_enough (RecordOf (x ∷ xs)) n zero f lt = omega arith
known_enough (Access x) n zero f lt = omega arith
known_enough (Update xs) n zero f lt = omega arith
known_enough Negate n zero f lt = omega arith
known_enough (Binary pos op) n zero f lt = omega arith

module _ (code : Code) (v : ℕ) (op : Op) (here : Pos) (strict : IsStrict op) (n : ℕ) (formed : FormedOp op (suc n))
  where
    -- a part was walked, and what is asked after it was
    pub op_step : (es : List Expr) (e : Expr) (vs us : List ℕ) (u : ℕ) (old mid walked new : State)
        → IsReady code old.depth old.store
        → length es < suc n
        → length vs ≡ known_count op (suc n) (length es) → u ≡ get_or vs (length es) 0
        → OpOpens code v op (suc n) here es vs old mid
        → Went Wanted code (one u) (operand_place 0 (length es)) (operand_of e here 0 (length es)) mid walked
        → GoesOnAt (length es) code op (suc n) here vs us walked new → OpOpens code v op (suc n) here (es ++ e ∷ []) us
        old new
    op_step [] e vs us u old mid walked new ready few count is o w g =
        let some = known_enough op n 0 formed few in
        op_first code v op here strict n formed e vs us u old mid walked new ready (omega (arith, some, count)) is o w g
    op_step (x ∷ es) e vs us u old mid walked new ready few count is o w g =
        subst (λ (ws : List ℕ). OpOpens code v op (suc n) here (x ∷ (es ++ e ∷ [])) ws old new) (sym g.0)
        (subst (λ s. OpOpens code v op (suc n) here (x ∷ (es ++ e ∷ [])) vs old s) (sym g.1)
        (op_next code v op here strict n formed x es e vs u old mid walked ready (omega (arith, few))
        (omega (arith, few, count)) is o w))

    -- the part stops
    pub op_step_stuck : (es : List Expr) (e : Expr) (more : List Expr) (vs : List ℕ) (u : ℕ) (old mid new : State)
        (bad : Bad)
        → IsReady code old.depth old.store → length (es ++ e ∷ more) ≡ suc n → length es < suc n
        → length vs ≡ known_count
        op (suc n) (length es)
        → u ≡ get_or vs (length es) 0 → OpOpens code v op (suc n) here es vs old mid
        → Stuck Wanted code (one u) (operand_place 0 (length es)) (operand_of e here 0 (length es)) mid new bad
        → Stuck Wanted code (one v) below (listed (Strict op (exprs_of (es ++ e ∷ more))) here) old new bad
    op_step_stuck [] e more vs u old mid new bad ready h few count is o s =
        let some = known_enough op n 0 formed few in
        op_first_stuck code v op here strict n formed e more vs u old mid new bad ready h
        (omega (arith, some, count)) is
        o s
    op_step_stuck (x ∷ es) e more vs u old mid new bad ready h few count is o s =
        op_next_stuck code v op here strict n formed x es e more vs u old mid new bad ready h
        (omega (arith, few, count))
        is o s

    -- what is asked after it stops
    pub op_go_stuck : (es : List Expr) (e : Expr) (more : List Expr) (vs : List ℕ) (u : ℕ) (old mid walked new : State)
        (bad : Bad)
        → IsReady code old.depth old.store → length (es ++ e ∷ more) ≡ suc n → length es < suc n
        → length vs ≡ known_count
        op (suc n) (length es)
        → u ≡ get_or vs (length es) 0 → OpOpens code v op (suc n) here es vs old mid
        → Went Wanted code (one u) (operand_place 0 (length es)) (operand_of e here 0 (length es)) mid walked
        → StopsOnAt (length es) code op (suc n) here vs walked new bad
        → Stuck Wanted code (one v) below (listed (Strict op (exprs_of (es ++ e ∷ more))) here) old new bad
    op_go_stuck [] e more vs u old mid walked new bad ready h few count is o w s =
        let some = known_enough op n 0 formed few in
        op_between_stuck code v op here strict n formed e more vs u old mid walked new bad ready h
        (omega (arith, some, count)) is o w s
    op_go_stuck (x ∷ es) e more vs u old mid walked new bad ready h few count is o w s = absurd s

-- ---- the same for any number of parts, of which the one at i is walked at the child j

module _ (code : Code) (v : ℕ) (op : Op) (here : Pos) (strict : IsStrict op) (count : ℕ) (formed : FormedOp op count)
    (es : List Expr) (e : Expr)
    (i j : ℕ) (at : length es ≡ i) (same : j ≡ i) (few : i < count) (vs : List ℕ) (u : ℕ)
    (known : length vs ≡ known_count op count i) (is : u ≡ get_or vs i 0)
    (old mid : State) (ready : IsReady code old.depth old.store) (o : OpOpens code v op count here es vs old mid) where
  pub part_enough : i < length vs
  part_enough = go count formed few known
    where
      go : (n : ℕ) → FormedOp op n → i < n → length vs ≡ known_count op n i → i < length vs
      go zero f lt k = absurd (omega (arith, lt))
      go (suc n) f lt k = let m = known_enough op n i f lt in omega (arith, m, k)

  pub part_count : (us : List ℕ) → length us ≡ later_count op i (length vs) → length us ≡ known_count op count (suc i)
  part_count us h = h ∙ go count formed few known
    where
      go : (n : ℕ) → FormedOp op n → i < n → length vs ≡ known_count op n i → later_count op i (length vs) ≡ n
      go zero f lt k = absurd (omega (arith, lt))
      go (suc n) f lt k = next_count op n i (length vs) f k

  at_place : (walked : State) → Went Wanted code (one u) (operand_place 0 j) (operand_of e here 0 j) mid walked
      → Went Wanted code (one u) (operand_place 0 (length es)) (operand_of e here 0 (length es)) mid walked
  at_place walked w =
      subst (λ k. Went Wanted code (one u) (operand_place 0 k) (operand_of e here 0 k) mid walked) (same ∙ sym at) w

  pub part_step : (us : List ℕ) (walked new : State) → Went Wanted code (one u) (operand_place 0 j)
      (operand_of e here 0 j) mid walked
      → GoesOnAt i code op count here vs us walked new → OpOpens code v op count here (es ++ e ∷ []) us old new
  part_step us walked new w g =
      go count formed few known o (subst (λ k. GoesOnAt k code op count here vs us walked new) (sym at) g)
    where
      go : (n : ℕ) → FormedOp op n → i < n → length vs ≡ known_count op n i → OpOpens code v op n here es vs old mid
          → GoesOnAt (length es) code op n here vs us walked new → OpOpens code v op n here (es ++ e ∷ []) us old new
      go zero f lt k o1 g1 = absurd (omega (arith, lt))
      go (suc n) f lt k o1 g1 =
          op_step code v op here strict n f es e vs us u old mid walked new ready (omega (arith, lt, at))
          (k ∙ ap (known_count op (suc n)) (sym at))
          (is ∙ ap (λ m. get_or vs m 0) (sym at)) o1 (at_place walked w) g1

  pub part_stuck : (more : List Expr) (new : State) (bad : Bad) → length (es ++ e ∷ more) ≡ count
      → Stuck Wanted code (one u) (operand_place 0 j) (operand_of e here 0 j) mid new bad
      → Stuck Wanted code (one v) below (listed (Strict op (exprs_of (es ++ e ∷ more))) here) old new bad
  part_stuck more new bad h s =
      go count formed few known o h
    where
      go : (n : ℕ) → FormedOp op n → i < n → length vs ≡ known_count op n i → OpOpens code v op n here es vs old mid
          → length (es ++ e ∷ more) ≡ n
          → Stuck Wanted code (one v) below (listed (Strict op (exprs_of (es ++ e ∷ more))) here) old new bad
      go zero f lt k o1 h1 = absurd (omega (arith, lt))
      go (suc n) f lt k o1 h1 =
          op_step_stuck code v op here strict n f es e more vs u old mid new bad ready h1 (omega (arith, lt, at))
          (k ∙ ap (known_count op (suc n)) (sym at))
          (is ∙ ap (λ m. get_or vs m 0) (sym at)) o1
          (subst (λ m. Stuck Wanted code (one u) (operand_place 0 m) (operand_of e here 0 m) mid new bad)
          (same ∙ sym at) s)

  pub part_go_stuck : (more : List Expr) (walked new : State) (bad : Bad) → length (es ++ e ∷ more) ≡ count
      → Went Wanted code (one u) (operand_place 0 j) (operand_of e here 0 j) mid walked → StopsOnAt i code op count here
      vs walked new bad
      → Stuck Wanted code (one v) below (listed (Strict op (exprs_of (es ++ e ∷ more))) here) old new bad
  part_go_stuck more walked new bad h w s =
      go count formed few known o h (subst (λ k. StopsOnAt k code op count here vs walked new bad) (sym at) s)
    where
      go : (n : ℕ) → FormedOp op n → i < n → length vs ≡ known_count op n i → OpOpens code v op n here es vs old mid
          → length (es ++ e ∷ more) ≡ n
          → StopsOnAt (length es) code op n here vs walked new bad
          → Stuck Wanted code (one v) below (listed (Strict op (exprs_of (es ++ e ∷ more))) here) old new bad
      go zero f lt k o1 h1 s1 = absurd (omega (arith, lt))
      go (suc n) f lt k o1 h1 s1 =
          op_go_stuck code v op here strict n f es e more vs u old mid walked new bad ready h1 (omega (arith, lt, at))
          (k ∙ ap (known_count op (suc n)) (sym at))
          (is ∙ ap (λ m. get_or vs m 0) (sym at)) o1 (at_place walked w) s1

-- there is a variable for a last part
pub enough_at : (op : Op) (n m : ℕ) → FormedOp op (n + 1) → m ≡ known_count op (n + 1) n → n < m
enough_at op n m f k =
    let e : n + 1 ≡ suc n = omega arith in
    let l = known_enough op n n (subst (FormedOp op) e f) (omega arith) in
    let k2 : m ≡ known_count op (suc n) n = k ∙ ap (λ j. known_count op j n) e in
    omega (arith, l, k2)
