-- Operators and constructors do the same with values that stand for each other.
use Rattle.std.proofs.Common.{◌≡◌, ℕ, ◌<◌, ℤ, pos, negsuc, List, Bool, true, false, refl, sym, ap, ◌∙◌, subst, arith}
use Rattle.std.specs.Prelude.{if◌then◌else◌, not, ◌+ℤ◌, ◌-ℤ◌, ◌*ℤ◌}
use Rattle.std.specs.declared.cmp.Ordering.{Ordering}
use Rattle.std.specs.declared.cmp.Ordering.TheVariants.{Less, Equal, Greater}
use Rattle.std.specs.Ordering.{is_lt, is_gt, is_le, is_ge}
use Rattle.wire_value.specs.Exact.{is_exact}
use Rattle.runs.specs.Ends.{End, Val, Unsafe, Stuck, then_do}
use Rattle.runs.specs.Numbers as numbers
use Rattle.elm_canon.specs.Names.{Name}
use Rattle.elm_canon.specs.declared.unions.Tag.{Tag}
use Rattle.elm_canon.specs.declared.unions.Tag.TheVariants.{Number, Truth, Blank}
use Rattle.elm_canon.specs.declared.tree.Operator.{Operator}
use Rattle.elm_canon.specs.declared.tree.Operator.TheVariants as operator
use Rattle.elm_canon.specs.Tree.{Op, TupleOf, ListOf, Build, RecordOf, Access, Update, Negate, Binary}
use Rattle.elm_canon.specs.Spelled.{are_fields}
use Rattle.elm_canon.specs.Proper.{ProperOp}
use Rattle.elm_meaning.specs.Values.{Value, IntV, TextV, Values, NoValue, MoreValue, truth, tuple, field_of, count_of}
use Rattle.elm_meaning.specs.Equal.{equals}
use Rattle.elm_meaning.specs.Order.{compares, order_number}
use Rattle.elm_meaning.specs.Operate.{operate, on_ints, by_order, perform, build}
use Rattle.js_tree.specs.Tree as js
use Rattle.js_meaning.specs.Values.{JVal, JNumV, JBoolV, JTextV, JObjV, JVals, NoJVal, MoreJVal, get_field}
use Rattle.js_meaning.specs.Lists.{tagged, list_value}
use Rattle.js_meaning.specs.Shapes.{shape, compare, equal}
use Rattle.js_meaning.specs.Helpers.{j_help, on_values, update}
use Rattle.js_meaning.specs.Eval.{j_operate}
use Rattle.emit_laws.specs.Sizes.{FewFor}
use Rattle.emit_laws.specs.For.{For, for_int, for_text, for_number, for_truth, for_blank, for_record, ForField, no_field, one_field}
use Rattle.emit_laws.proofs.Ends.{EndFor, both_give, any_unsafe, any_stuck, end_then, end_right}
use Rattle.emit_laws.proofs.Constructs.{ForAll, for_none, for_more, then_then, count_vals}
use Rattle.emit_laws.proofs.Objects.{made_parts, named, for_parts, same_counts}
use Rattle.emit_laws.proofs.Binding.{few_parts}
use Rattle.emit_laws.proofs.Arithmetic.{same_quotient}
use Rattle.emit_laws.proofs.Sameness.{equal_same, compare_same}
use Rattle.emit_laws.proofs.Lists.{for_list, for_nil_list, append_same, record_same, update_same}

-- ---- what the output does

abbrev pub is_false : End JVal → End JVal
is_false o = then_do o (λ v. j_operate js.StrictEquals v (JBoolV false))

abbrev pub compares_as : JVals → ℤ → End JVal
compares_as vs n = then_do (j_help js.Compare vs) (λ v. j_operate js.StrictEquals v (JNumV n))

abbrev pub binary_now : Operator → JVals → End JVal
binary_now operator.Add vs = on_values vs (λ a b. j_operate js.Plus a b)
binary_now operator.Subtract vs = on_values vs (λ a b. j_operate js.Minus a b)
binary_now operator.Multiply vs = on_values vs (λ a b. j_operate js.Times a b)
binary_now operator.Divide vs = j_help js.Quotient vs
binary_now operator.Append vs = j_help js.Append vs
binary_now operator.Cons vs = Val (tagged (pos 1) (made_parts 0 vs))
binary_now operator.Equal vs = j_help js.Equal vs
binary_now operator.Unequal vs = is_false (j_help js.Equal vs)
binary_now operator.Less vs = compares_as vs (negsuc 0)
binary_now operator.Greater vs = compares_as vs (pos 1)
binary_now operator.AtMost vs = is_false (compares_as vs (pos 1))
binary_now operator.AtLeast vs = is_false (compares_as vs (negsuc 0))

abbrev pub build_now : Tag → JVals → JVal
build_now (Number k) vs = tagged k (made_parts 0 vs)
build_now (Truth b) vs = JBoolV b
build_now Blank vs = JNumV (pos 0)

abbrev pub tuple_now : JVals → JVal
tuple_now NoJVal = JNumV (pos 0)
tuple_now vs = tagged (pos 0) (made_parts 0 vs)

abbrev pub perform_now : Op → JVals → End JVal
perform_now TupleOf vs = Val (tuple_now vs)
perform_now ListOf vs = Val (list_value vs)
perform_now (Build place u a) vs = Val (build_now a.tag vs)
perform_now (RecordOf ks) vs = Val (JObjV (named ks vs))
perform_now (Access k) (MoreJVal v NoJVal) = get_field k v
perform_now (Update ks) (MoreJVal r vs) = update r (JObjV (named ks vs))
perform_now Negate (MoreJVal v NoJVal) = j_operate js.Minus (JNumV (pos 0)) v
perform_now (Binary place op) vs = binary_now op vs
perform_now _ vs = Stuck

-- ---- numbers

pub ints_same : {v w : Value} {a b : JVal} (go : ℤ → ℤ → End ℤ) (h : JVal → JVal → End JVal) → For v a → For w b → ((m n : ℤ) → EndFor For (then_do (go m n) (λ k. Val (IntV k))) (h (JNumV m) (JNumV n))) → EndFor For (on_ints v w go) (h a b)
ints_same go h (for_int {n = m}) (for_int {n}) next = next m n
ints_same go h for_int _ next = any_stuck
ints_same go h _ _ next = any_stuck

exact_same : (n : ℤ) → EndFor For (then_do (numbers.exact n) (λ k. Val (IntV k))) (if is_exact n then Val (JNumV n) else Unsafe)
exact_same n = go (is_exact n)
  where
    go : (t : Bool) → EndFor For (then_do (if t then Val n else Unsafe) (λ k. Val (IntV k))) (if t then Val (JNumV n) else Unsafe)
    go true = both_give for_int
    go false = any_unsafe

pub number_same : {m n : ℤ} → m ≡ n → EndFor For (Val (IntV m)) (Val (JNumV n))
number_same {m} e = both_give (subst (λ z. For (IntV m) (JNumV z)) e for_int)

pub text_same : {s t : List ℕ} → s ≡ t → EndFor For (Val (TextV s)) (Val (JTextV t))
text_same {s} e = both_give (subst (λ z. For (TextV s) (JTextV z)) e for_text)

-- ---- truth values

truth_same : {a b : Bool} → a ≡ b → EndFor For (Val (truth a)) (Val (JBoolV b))
truth_same {a} e = both_give (subst (λ z. For (truth a) (JBoolV z)) e for_truth)

not_same : (b : Bool) → EndFor For (Val (truth (not b))) (is_false (Val (JBoolV b)))
not_same true = both_give for_truth
not_same false = both_give for_truth

numbered : {v w : Value} {a b : JVal} → For v a → For w b → EndFor (λ (o : Ordering) (x : JVal). x ≡ JNumV (order_number o)) (compares v w) (then_do (compare (shape a) (shape b)) (λ order. Val (JNumV order)))
numbered r q = end_right (λ n. Val (JNumV n)) (compare_same r q) (λ o n e. both_give (ap (λ z. JNumV z) e))

-- by the order of two values
ordered_same : {v w : Value} {a b : JVal} (holds : Ordering → Bool) (g : JVal → End JVal) → For v a → For w b → ((o : Ordering) → EndFor For (Val (truth (holds o))) (g (JNumV (order_number o))))
    → EndFor For (by_order v w holds) (then_do (then_do (compare (shape a) (shape b)) (λ order. Val (JNumV order))) g)
ordered_same {v} {w} {a} {b} holds g r q next = end_then (λ o. Val (truth (holds o))) g (numbered r q) (λ o x e. subst (λ z. EndFor For (Val (truth (holds o))) (g z)) (sym e) (next o))

-- and turned around
ordered_not : {v w : Value} {a b : JVal} (holds : Ordering → Bool) (n : ℤ) → For v a → For w b → ((o : Ordering) → EndFor For (Val (truth (holds o))) (is_false (j_operate js.StrictEquals (JNumV (order_number o)) (JNumV n))))
    → EndFor For (by_order v w holds) (is_false (then_do (then_do (compare (shape a) (shape b)) (λ order. Val (JNumV order))) (λ x. j_operate js.StrictEquals x (JNumV n))))
ordered_not {v} {w} {a} {b} holds n r q next = subst (λ p. EndFor For (by_order v w holds) p) (sym (then_then (then_do (compare (shape a) (shape b)) (λ order. Val (JNumV order))) (λ x. j_operate js.StrictEquals x (JNumV n)) (λ v. j_operate js.StrictEquals v (JBoolV false)))) (ordered_same holds (λ x. is_false (j_operate js.StrictEquals x (JNumV n))) r q next)

less_same : (o : Ordering) → EndFor For (Val (truth (is_lt o))) (j_operate js.StrictEquals (JNumV (order_number o)) (JNumV (negsuc 0)))
less_same Less = both_give for_truth
less_same Equal = both_give for_truth
less_same Greater = both_give for_truth

greater_same : (o : Ordering) → EndFor For (Val (truth (is_gt o))) (j_operate js.StrictEquals (JNumV (order_number o)) (JNumV (pos 1)))
greater_same Less = both_give for_truth
greater_same Equal = both_give for_truth
greater_same Greater = both_give for_truth

at_most_same : (o : Ordering) → EndFor For (Val (truth (is_le o))) (is_false (j_operate js.StrictEquals (JNumV (order_number o)) (JNumV (pos 1))))
at_most_same Less = both_give for_truth
at_most_same Equal = both_give for_truth
at_most_same Greater = both_give for_truth

at_least_same : (o : Ordering) → EndFor For (Val (truth (is_ge o))) (is_false (j_operate js.StrictEquals (JNumV (order_number o)) (JNumV (negsuc 0))))
at_least_same Less = both_give for_truth
at_least_same Equal = both_give for_truth
at_least_same Greater = both_give for_truth

-- ---- operators

equal_value : {v w : Value} {a b : JVal} → For v a → For w b → EndFor (λ (x : Bool) (z : JVal). z ≡ JBoolV x) (equals v w) (then_do (equal (shape a) (shape b)) (λ same. Val (JBoolV same)))
equal_value r q = end_right (λ same. Val (JBoolV same)) (equal_same r q) (λ x y e. both_give (ap (λ z. JBoolV z) (sym e)))

abbrev two : JVal → JVal → JVals
two a b = MoreJVal a (MoreJVal b NoJVal)

pub operate_same : (op : Operator) {v w : Value} {a b : JVal} → For v a → For w b → EndFor For (operate op v w) (binary_now op (two a b))
operate_same operator.Add r q = ints_same numbers.add (λ a b. j_operate js.Plus a b) r q (λ m n. exact_same (m +ℤ n))
operate_same operator.Subtract r q = ints_same numbers.subtract (λ a b. j_operate js.Minus a b) r q (λ m n. exact_same (m -ℤ n))
operate_same operator.Multiply r q = ints_same numbers.multiply (λ a b. j_operate js.Times a b) r q (λ m n. exact_same (m *ℤ n))
operate_same operator.Divide r q = ints_same (λ a b. Val (numbers.quotient a b)) (λ a b. j_help js.Quotient (two a b)) r q (λ m n. number_same (same_quotient m n))
operate_same operator.Append {v} {w} {a} {b} r q = append_same v w a b r q
operate_same operator.Cons r q = both_give (for_number (omega arith) (for_parts 0 (for_more r (for_more q for_none))))
operate_same operator.Equal r q = end_then (λ same. Val (truth same)) (λ same. Val (JBoolV same)) (equal_same r q) (λ x y e. truth_same e)
operate_same operator.Unequal r q = end_then (λ same. Val (truth (not same))) (λ v. j_operate js.StrictEquals v (JBoolV false)) (equal_value r q) (λ x z e. subst (λ u. EndFor For (Val (truth (not x))) (j_operate js.StrictEquals u (JBoolV false))) (sym e) (not_same x))
operate_same operator.Less r q = ordered_same is_lt (λ v. j_operate js.StrictEquals v (JNumV (negsuc 0))) r q less_same
operate_same operator.Greater r q = ordered_same is_gt (λ v. j_operate js.StrictEquals v (JNumV (pos 1))) r q greater_same
operate_same operator.AtMost r q = ordered_not is_le (pos 1) r q at_most_same
operate_same operator.AtLeast r q = ordered_not is_ge (negsuc 0) r q at_least_same

-- ---- constructors

pub build_same : (t : Tag) {vs : Values} {ws : JVals} → count_of vs < 4294967296 → ForAll vs ws → EndFor For (build t vs) (Val (build_now t ws))
build_same (Number k) few r = both_give (for_number few (for_parts 0 r))
build_same (Truth b) few for_none = both_give for_truth
build_same (Truth b) few (for_more r rs) = any_stuck
build_same Blank few for_none = both_give for_blank
build_same Blank few (for_more r rs) = any_stuck

-- ---- each operation

values_few : (n m : ℕ) {vs : Values} {ws : JVals} → ForAll vs ws → count_vals ws ≡ n → n ≡ m → m < 4294967296 → count_of vs < 4294967296
values_few n m r e f l = subst (λ k. k < 4294967296) (sym (same_counts r ∙ e ∙ f)) l

tuple_same : {vs : Values} {ws : JVals} → count_of vs < 4294967296 → ForAll vs ws → EndFor For (Val (tuple vs)) (Val (tuple_now ws))
tuple_same few for_none = both_give for_blank
tuple_same few (for_more r rs) = both_give (for_number few (for_parts 0 (for_more r rs)))

pub field_same : (k : Name) {v : Value} {w : JVal} → For v w → EndFor For (field_of k v) (get_field k w)
field_same k (for_record {fs} {gs} rises is found) = go (found k)
  where
    go : {o : End Value} {p : End JVal} → ForField o p → EndFor For o p
    go no_field = any_stuck
    go (one_field r) = both_give r
field_same k _ = any_stuck

negated : {v : Value} {w : JVal} → For v w → EndFor For (perform Negate (MoreValue v NoValue)) (j_operate js.Minus (JNumV (pos 0)) w)
negated (for_int {n}) = exact_same (pos 0 -ℤ n)
negated _ = any_stuck

updated : {v : Value} {w : JVal} {vs : Values} {ws : JVals} (ks : List Name) → are_fields ks ≡ true → For v w → ForAll vs ws → EndFor For (perform (Update ks) (MoreValue v vs)) (update w (JObjV (named ks ws)))
updated ks fields (for_record rises is found) q = update_same ks fields (for_record rises is found) q
updated ks fields _ q = any_stuck

-- what is done with the values of the parts
pub perform_same : (op : Op) (n : ℕ) {vs : Values} {ws : JVals} → ProperOp op n → FewFor op n → count_vals ws ≡ n → ForAll vs ws → EndFor For (perform op vs) (perform_now op ws)
perform_same TupleOf n pr few count r = tuple_same (values_few n n r count refl few) r
perform_same ListOf n pr few count r = both_give (for_list r for_nil_list)
perform_same (Build place u a) n pr few count r = build_same a.tag (values_few n a.arity r count pr.1 (few_parts u a pr.0)) r
perform_same (RecordOf ks) n pr few count r = record_same ks pr.0 r
perform_same (Access k) n pr few count (for_more r for_none) = field_same k r
perform_same (Update ks) n pr few count (for_more r rs) = updated ks pr.0 r rs
perform_same Negate n pr few count (for_more r for_none) = negated r
perform_same (Binary place op) n pr few count (for_more r (for_more q for_none)) = operate_same op r q
perform_same (Access k) n pr few count for_none = any_stuck
perform_same (Access k) n pr few count (for_more r (for_more q rest)) = let e = count ∙ pr.1 in absurd (cc)
perform_same (Update ks) n pr few count for_none = any_stuck
perform_same Negate n pr few count for_none = any_stuck
perform_same Negate n pr few count (for_more r (for_more q rest)) = let e = count ∙ pr in absurd (cc)
perform_same (Binary place op) n pr few count for_none = any_stuck
perform_same (Binary place op) n pr few count (for_more r for_none) = any_stuck
perform_same (Binary place op) n pr few count (for_more r (for_more q (for_more x rest))) = let e = count ∙ pr in absurd (cc)
