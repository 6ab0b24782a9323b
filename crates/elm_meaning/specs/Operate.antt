-- What operators and constructors do with the values of their parts. (Elm guide: core language, records; elm/core
-- 1.0.5: Basics, List.) A number beyond plus or minus 9007199254740991 is Unsafe. Values of another kind have no rule.
use Rattle.std.specs.Prelude.{ℤ, ◌++◌, Bool, not}
use Rattle.std.specs.declared.cmp.Ordering.{Ordering}
use Rattle.std.specs.Ordering.{is_lt, is_gt, is_le, is_ge}
use Rattle.runs.specs.Ends.{End, Val, Stuck, then_do}
use Rattle.runs.specs.Numbers.{add, subtract, multiply, negate, quotient}
use Rattle.elm_canon.specs.declared.unions.Tag.{Tag}
use Rattle.elm_canon.specs.declared.unions.Tag.TheVariants.{Number}
use Rattle.elm_canon.specs.declared.tree.Operator.{Operator}
use Rattle.elm_canon.specs.declared.tree.Operator.TheVariants as operator
use Rattle.elm_canon.specs.Tree.{Op, TupleOf, ListOf, Build, RecordOf, Access, Update, Negate, Binary}
use Rattle.elm_meaning.specs.Values.{Value, IntV, TextV, TagV, RecordV, Values, NoValue, MoreValue}
use Rattle.elm_meaning.specs.Values.{truth, cons, tuple, list_before, list_of, items, record_of, field_of, replace_fields}
use Rattle.elm_meaning.specs.Equal.{equals}
use Rattle.elm_meaning.specs.Order.{compares}

-- a text before another, or a list before another
abbrev pub append : Value → Value → End Value
append (TextV s) (TextV t) = Val (TextV (s ++ t))
append (TextV s) w = Stuck
append v w = then_do (items v) (λ vs. Val (list_before vs w))

abbrev pub on_ints : Value → Value → (ℤ → ℤ → End ℤ) → End Value
on_ints (IntV a) (IntV b) go = then_do (go a b) (λ n. Val (IntV n))
on_ints _ _ go = Stuck

abbrev pub by_order : Value → Value → (Ordering → Bool) → End Value
by_order v w holds = then_do (compares v w) (λ order. Val (truth (holds order)))

abbrev pub operate : Operator → Value → Value → End Value
operate operator.Add v w = on_ints v w add
operate operator.Subtract v w = on_ints v w subtract
operate operator.Multiply v w = on_ints v w multiply
operate operator.Divide v w = on_ints v w (λ a b. Val (quotient a b))
operate operator.Append v w = append v w
operate operator.Cons v w = Val (cons v w)
operate operator.Equal v w = then_do (equals v w) (λ same. Val (truth same))
operate operator.Unequal v w = then_do (equals v w) (λ same. Val (truth (not same)))
operate operator.Less v w = by_order v w is_lt
operate operator.Greater v w = by_order v w is_gt
operate operator.AtMost v w = by_order v w is_le
operate operator.AtLeast v w = by_order v w is_ge

-- a constructor with its fields; True, False and () have none
abbrev pub build : Tag → Values → End Value
build (Number k) vs = Val (TagV (Number k) vs)
build tag NoValue = Val (TagV tag NoValue)
build tag vs = Stuck

-- what is done with the values of the parts
abbrev pub perform : Op → Values → End Value
perform TupleOf vs = Val (tuple vs)
perform ListOf vs = Val (list_of vs)
perform (Build place union a) vs = build a.tag vs
perform (RecordOf ks) vs = record_of ks vs
perform (Access k) (MoreValue v NoValue) = field_of k v
perform (Update ks) (MoreValue (RecordV fs) vs) = then_do (replace_fields ks vs fs) (λ gs. Val (RecordV gs))
perform Negate (MoreValue (IntV n) NoValue) = then_do (negate n) (λ m. Val (IntV m))
perform (Binary place op) (MoreValue v (MoreValue w NoValue)) = operate op v w
perform _ vs = Stuck
