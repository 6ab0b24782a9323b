-- What is emitted for an operator, a constructor or a record: its parts have their values, from left to right, and then
-- one thing is done with them.
use Rattle.std.proofs.Common.{◌≡◌, ℕ, suc, ◌<◌, ℤ, pos, negsuc, List, [], ◌∷◌, Bool, true, false, refl, sym, ap, ◌∙◌, subst, arith}
use Rattle.std.specs.Prelude.{length, ◌&&◌, ◌||◌, ◌==◌, not, nat_lt}
use Rattle.std.specs.List.{list_all}
use Rattle.std.proofs.lemmas.Bool.{eqb-true}
use Rattle.runs.specs.Ends.{End, Val, then_do, Metered, MVal, and_then, with_budget}
use Rattle.runs.proofs.Spends.{spends_same, follows_after, follows_then}
use Rattle.elm_canon.specs.Names.{Name}
use Rattle.elm_canon.specs.declared.unions.Tag.{Tag}
use Rattle.elm_canon.specs.declared.unions.Tag.TheVariants.{Number, Truth, Blank}
use Rattle.elm_canon.specs.declared.tree.Operator.{Operator}
use Rattle.elm_canon.specs.declared.tree.Operator.TheVariants as operator
use Rattle.elm_canon.specs.Tree.{Op, TupleOf, ListOf, Build, RecordOf, Access, Update, Negate, Binary}
use Rattle.elm_canon.specs.declared.unions.Alternative.{Alternative}
use Rattle.elm_canon.specs.Unions.{Union, alternatives}
use Rattle.elm_canon.specs.Spelled.{are_fields}
use Rattle.elm_canon.specs.Constructors.{same_tag, same_kind, is_exact_tag, is_exact_alternative, has_tag, are_apart, is_one_of, is_constructor}
use Rattle.elm_canon.specs.Proper.{ProperOp}
use Rattle.elm_meaning.specs.Operate.{perform}
use Rattle.js_tree.specs.Tree as js
use Rattle.js_tree.specs.Tree.{Js, JInt, JBool, JBinary, JHelper, JObject, JsList, NoJs, MoreJs}
use Rattle.js_meaning.specs.Values.{JVal, JNumV, JBoolV, JObjV, JVals, NoJVal, MoreJVal, JEnv}
use Rattle.js_meaning.specs.Lists as lists
use Rattle.js_meaning.specs.Helpers.{j_help}
use Rattle.js_meaning.specs.Eval.{JCallee, JLoop, j_eval, j_evals, j_call, j_loop, j_operate}
use Rattle.js_emit.specs.Names.{one, two, fields_js, build_js}
use Rattle.js_emit.specs.Operators.{binary_js, perform_js}
use Rattle.emit_laws.specs.Sizes.{FewFor}
use Rattle.emit_laws.proofs.Ends.{and_and, and_same, budget_then, follows_end}
use Rattle.emit_laws.proofs.Constructs.{count_vals}
use Rattle.emit_laws.proofs.Objects.{count_js, all_same, tagged_run, fields_run, made_parts, named}
use Rattle.emit_laws.proofs.Operators.{binary_now, build_now, tuple_now, perform_now, perform_same}
use Rattle.emit_laws.proofs.Binding.{few_parts}
use Rattle.emit_laws.proofs.Expressions.{PerformsFollow}

-- ---- a constructor without a number has no fields

both_true : (a b : Bool) → (a && b) ≡ true → (a ≡ true) × (b ≡ true)
both_true true b e = (refl, e)
both_true false b e = absurd (cc)

kinds : (s t : Tag) → same_tag s t ≡ true → same_kind t (Number (pos 0)) ≡ same_kind s (Number (pos 0))
kinds (Number j) (Number k) e = refl
kinds (Truth a) (Truth b) e = refl
kinds Blank Blank e = refl
kinds (Number j) (Truth b) e = absurd (cc)
kinds (Number j) Blank e = absurd (cc)
kinds (Truth a) (Number k) e = absurd (cc)
kinds (Truth a) Blank e = absurd (cc)
kinds Blank (Number k) e = absurd (cc)
kinds Blank (Truth b) e = absurd (cc)

pub bare : (a : Alternative) → is_exact_alternative a ≡ true → same_kind a.tag (Number (pos 0)) ≡ false → a.arity ≡ 0
bare a e f = eqb-true a.arity 0 (sym (ap (λ t. t || a.arity == 0) f) ∙ (both_true (is_exact_tag a.tag) (same_kind a.tag (Number (pos 0)) || a.arity == 0) e).1)

bare_among : (a : Alternative) (bs : List Alternative) → are_apart bs ≡ true → is_one_of a bs ≡ true → same_kind a.tag (Number (pos 0)) ≡ false → a.arity ≡ 0
bare_among a [] e f k = absurd (cc)
bare_among a (b ∷ bs) e f k =
    let p = both_true (is_exact_alternative b) (not (has_tag b.tag bs) && are_apart bs) e in
    let q = both_true (not (has_tag b.tag bs)) (are_apart bs) p.1 in
    go (same_tag a.tag b.tag && (a.arity == b.arity)) refl f p.0 (λ g. bare_among a bs q.1 g k)
  where
    go : (t : Bool) → (same_tag a.tag b.tag && (a.arity == b.arity)) ≡ t → (t || is_one_of a bs) ≡ true → is_exact_alternative b ≡ true → (is_one_of a bs ≡ true → a.arity ≡ 0) → a.arity ≡ 0
    go true same f exact rec =
        let s = both_true (same_tag a.tag b.tag) (a.arity == b.arity) same in
        eqb-true a.arity b.arity s.1 ∙ bare b exact (kinds a.tag b.tag s.0 ∙ k)
    go false same f exact rec = rec f

bare_one : (u : Union) (a : Alternative) → is_constructor u a ≡ true → same_kind a.tag (Number (pos 0)) ≡ false → a.arity ≡ 0
bare_one u a e =
    let p = both_true (are_apart (alternatives u) && list_all (λ b. same_kind a.tag b.tag) (alternatives u)) (is_one_of a (alternatives u) && nat_lt a.arity 4294967296) e in
    let q = both_true (are_apart (alternatives u)) (list_all (λ b. same_kind a.tag b.tag) (alternatives u)) p.0 in
    let r = both_true (is_one_of a (alternatives u)) (nat_lt a.arity 4294967296) p.1 in
    bare_among a (alternatives u) q.0 r.0

-- ---- evaluated

module _ (call : JCallee) (loop : JLoop) (env : JEnv) where
  pub one_run : {B : Type 0} (x : Js) (m : ℕ) (f : JVals → ℕ → Metered B) → and_then (j_evals call loop (one x) env m) f ≡ and_then (j_eval call loop x env m) (λ v m1. f (MoreJVal v NoJVal) m1)
  one_run x m f = and_and (j_eval call loop x env m) (λ v m1. MVal (MoreJVal v NoJVal) m1) f

  pub two_run : {B : Type 0} (x y : Js) (m : ℕ) (f : JVals → ℕ → Metered B) → and_then (j_evals call loop (two x y) env m) f ≡ and_then (j_eval call loop x env m) (λ v m1. and_then (j_eval call loop y env m1) (λ w m2. f (MoreJVal v (MoreJVal w NoJVal)) m2))
  two_run x y m f =
      and_and (j_eval call loop x env m) (λ v m1. and_then (j_evals call loop (one y) env m1) (λ vs m2. MVal (MoreJVal v vs) m2)) f
      ∙ and_same (j_eval call loop x env m) (λ v m1. and_and (j_evals call loop (one y) env m1) (λ vs m2. MVal (MoreJVal v vs) m2) f ∙ one_run y m1 (λ vs m2. f (MoreJVal v vs) m2))

  -- the expression does that with the values of the parts
  abbrev pub Does : Js → JsList → (JVals → End JVal) → Type 0
  Does x xs f = (m : ℕ) → j_eval call loop x env m ≡ and_then (j_evals call loop xs env m) (λ vs k. with_budget (f vs) k)

  number_does : (op : js.Operator) (x y : Js) (f : JVals → End JVal) → ((v w : JVal) → f (MoreJVal v (MoreJVal w NoJVal)) ≡ j_operate op v w)
      → ((m : ℕ) → j_eval call loop (JBinary op x y) env m ≡ and_then (j_eval call loop x env m) (λ v m1. and_then (j_eval call loop y env m1) (λ w m2. with_budget (j_operate op v w) m2))) → Does (JBinary op x y) (two x y) f
  number_does op x y f same is m =
      is m ∙ and_same (j_eval call loop x env m) (λ v m1. and_same (j_eval call loop y env m1) (λ w m2. ap (λ o. with_budget o m2) (sym (same v w)))) ∙ sym (two_run x y m (λ vs k. with_budget (f vs) k))

  helper_does : (h : js.Helper) (xs : JsList) → Does (JHelper h xs) xs (λ vs. j_help h vs)
  helper_does h xs m = refl

  -- and then something with its value
  then_does : (x z : Js) (xs : JsList) (f : JVals → End JVal) (g : JVal → End JVal) → Does x xs f → ((m : ℕ) → j_eval call loop z env m ≡ and_then (j_eval call loop x env m) (λ v m1. with_budget (g v) m1)) → Does z xs (λ vs. then_do (f vs) g)
  then_does x z xs f g does is m =
      is m ∙ ap (λ o. and_then o (λ v m1. with_budget (g v) m1)) (does m) ∙ and_and (j_evals call loop xs env m) (λ vs k. with_budget (f vs) k) (λ v m1. with_budget (g v) m1)
      ∙ and_same (j_evals call loop xs env m) (λ vs k. sym (budget_then (f vs) g k))

  compares_does : (x y : Js) (n : ℤ) → Does (JBinary js.StrictEquals (JHelper js.Compare (two x y)) (JInt n)) (two x y) (λ vs. then_do (j_help js.Compare vs) (λ v. j_operate js.StrictEquals v (JNumV n)))
  compares_does x y n = then_does (JHelper js.Compare (two x y)) (JBinary js.StrictEquals (JHelper js.Compare (two x y)) (JInt n)) (two x y) (λ vs. j_help js.Compare vs) (λ v. j_operate js.StrictEquals v (JNumV n)) (helper_does js.Compare (two x y)) (λ m. refl)

  binary_does : (op : Operator) (x y : Js) → Does (binary_js op x y) (two x y) (λ vs. binary_now op vs)
  binary_does operator.Add x y = number_does js.Plus x y (λ vs. binary_now operator.Add vs) (λ v w. refl) (λ m. refl)
  binary_does operator.Subtract x y = number_does js.Minus x y (λ vs. binary_now operator.Subtract vs) (λ v w. refl) (λ m. refl)
  binary_does operator.Multiply x y = number_does js.Times x y (λ vs. binary_now operator.Multiply vs) (λ v w. refl) (λ m. refl)
  binary_does operator.Divide x y = helper_does js.Quotient (two x y)
  binary_does operator.Append x y = helper_does js.Append (two x y)
  binary_does operator.Cons x y = λ m. tagged_run call loop env (pos 1) (two x y) m (omega arith)
  binary_does operator.Equal x y = helper_does js.Equal (two x y)
  binary_does operator.Unequal x y = then_does (JHelper js.Equal (two x y)) (binary_js operator.Unequal x y) (two x y) (λ vs. j_help js.Equal vs) (λ v. j_operate js.StrictEquals v (JBoolV false)) (helper_does js.Equal (two x y)) (λ m. refl)
  binary_does operator.Less x y = compares_does x y (negsuc 0)
  binary_does operator.Greater x y = compares_does x y (pos 1)
  binary_does operator.AtMost x y = then_does (binary_js operator.Greater x y) (binary_js operator.AtMost x y) (two x y) (λ vs. binary_now operator.Greater vs) (λ v. j_operate js.StrictEquals v (JBoolV false)) (compares_does x y (pos 1)) (λ m. refl)
  binary_does operator.AtLeast x y = then_does (binary_js operator.Less x y) (binary_js operator.AtLeast x y) (two x y) (λ vs. binary_now operator.Less vs) (λ v. j_operate js.StrictEquals v (JBoolV false)) (compares_does x y (negsuc 0)) (λ m. refl)

  nonempty : (vs : JVals) (n k : ℕ) → count_vals vs ≡ suc n → MVal (lists.tagged (pos 0) (made_parts 0 vs)) k ≡ MVal (tuple_now vs) k
  nonempty NoJVal n k e = absurd (cc)
  nonempty (MoreJVal v vs) n k e = refl

  pub object_does : (ks : List Name) (xs : JsList) → are_fields ks ≡ true → count_js xs ≡ length ks → Does (JObject (fields_js ks xs)) xs (λ vs. Val (JObjV (named ks vs)))
  object_does ks xs fields count m =
      ap (λ o. and_then o (λ fs k. MVal (JObjV fs) k)) (fields_run call loop env ks xs m fields count) ∙ and_and (j_evals call loop xs env m) (λ vs k. MVal (named ks vs) k) (λ fs k. MVal (JObjV fs) k)

  pub build_does : (t : Tag) (arity : ℕ) (xs : JsList) → count_js xs ≡ arity → arity < 4294967296 → (same_kind t (Number (pos 0)) ≡ false → arity ≡ 0) → Does (build_js t xs) xs (λ vs. Val (build_now t vs))
  build_does (Number k) arity xs count few bare m = tagged_run call loop env k xs m (subst (λ z. z < 4294967296) (sym count) few)
  build_does (Truth b) arity NoJs count few bare m = refl
  build_does (Truth b) arity (MoreJs x xs) count few bare m = let e = count ∙ bare refl in absurd (cc)
  build_does Blank arity NoJs count few bare m = refl
  build_does Blank arity (MoreJs x xs) count few bare m = let e = count ∙ bare refl in absurd (cc)

  perform_does : (op : Op) (xs : JsList) → ProperOp op (count_js xs) → FewFor op (count_js xs) → Does (perform_js op xs) xs (λ vs. perform_now op vs)
  perform_does TupleOf NoJs pr few m = refl
  perform_does TupleOf (MoreJs x xs) pr few m =
      tagged_run call loop env (pos 0) (MoreJs x xs) m few ∙ all_same call loop env (MoreJs x xs) m (λ vs k. MVal (lists.tagged (pos 0) (made_parts 0 vs)) k) (λ vs k. MVal (tuple_now vs) k) (λ vs k c. nonempty vs (count_js xs) k c)
  perform_does ListOf NoJs pr few m = refl
  perform_does ListOf (MoreJs x xs) pr few m = refl
  perform_does (Build place u a) xs pr few m = build_does a.tag a.arity xs pr.1 (few_parts u a pr.0) (bare_one u a pr.0) m
  perform_does (RecordOf ks) xs pr few m = object_does ks xs pr.0 pr.1 m
  perform_does (Access k) NoJs pr few m = let e = pr.1 in absurd (cc)
  perform_does (Access k) (MoreJs x NoJs) pr few m = sym (one_run x m (λ vs k2. with_budget (perform_now (Access k) vs) k2))
  perform_does (Access k) (MoreJs x (MoreJs y xs)) pr few m = let e = pr.1 in absurd (cc)
  perform_does (Update ks) NoJs pr few m = let e = pr.1 in absurd (cc)
  perform_does (Update ks) (MoreJs r xs) pr few m =
      two_run r (JObject (fields_js ks xs)) m (λ vs k. with_budget (j_help js.Update vs) k)
      ∙ and_same (j_eval call loop r env m) (λ v m1. ap (λ o. and_then o (λ w m2. with_budget (j_help js.Update (MoreJVal v (MoreJVal w NoJVal))) m2)) (object_does ks xs pr.0 (cc) m1)
      ∙ and_and (j_evals call loop xs env m1) (λ vs k. MVal (JObjV (named ks vs)) k) (λ w m2. with_budget (j_help js.Update (MoreJVal v (MoreJVal w NoJVal))) m2)
      ∙ sym (and_and (j_evals call loop xs env m1) (λ vs m2. MVal (MoreJVal v vs) m2) (λ vs k. with_budget (perform_now (Update ks) vs) k)))
      ∙ sym (and_and (j_eval call loop r env m) (λ v m1. and_then (j_evals call loop xs env m1) (λ vs m2. MVal (MoreJVal v vs) m2)) (λ vs k. with_budget (perform_now (Update ks) vs) k))
  perform_does Negate NoJs pr few m = absurd (cc)
  perform_does Negate (MoreJs x NoJs) pr few m = sym (one_run x m (λ vs k. with_budget (perform_now Negate vs) k))
  perform_does Negate (MoreJs x (MoreJs y xs)) pr few m = absurd (cc)
  perform_does (Binary place op) NoJs pr few m = absurd (cc)
  perform_does (Binary place op) (MoreJs x NoJs) pr few m = absurd (cc)
  perform_does (Binary place op) (MoreJs x (MoreJs y NoJs)) pr few m = binary_does op x y m
  perform_does (Binary place op) (MoreJs x (MoreJs y (MoreJs z xs))) pr few m = absurd (cc)

-- an operator, a constructor, a record, ..
pub performs : (n : ℕ) → PerformsFollow n
performs n op xs pr few o jenv f =
    follows_after (spends_same (λ b m. perform_does (j_call b) (j_loop b) jenv op xs pr few m))
    (follows_then (λ vs. perform op vs) (λ b ws m. with_budget (perform_now op ws) m) f (λ vs ws r. follows_end (perform_same op (count_js xs) pr few r.1 r.0)))
