-- The calls of a function among the values of its body are its turns, and no others.
use Rattle.std.proofs.Common.{◌≡◌, ℕ, Bool, true, false, ◌||◌, ◌&&◌, nat_eq, refl, ap, ◌∙◌, arith}
use Rattle.std.proofs.lemmas.Bool.{eqb-true}
use Rattle.std.proofs.lemmas.Bool.Decides.{nat_tests}
use Rattle.elm_canon.specs.declared.reference.Ref.{Ref}
use Rattle.elm_canon.specs.Tree.{Expr, Is, NameOf, Accessor, Lambda, Apply, Strict, If, Logical, Let, Case}
use Rattle.elm_canon.specs.Tree.{Located, Branches, NoBranch, MoreBranch}
use Rattle.elm_canon.specs.Proper.{count_exprs}
use Rattle.js_emit.specs.Loops.{is_name, has_turn, have_turn}
use Rattle.emit_exprs.specs.Tails.{IsBranch, first, later, IsValue, itself, where_true, where_false, of_body, of_branch}
use Rattle.emit_exprs.specs.Tails.{at_place, CallsItself, ExactTurns}

from_either : {R : Type 0} (x y : Bool) → (x || y) ≡ true → (x ≡ true → R) → (y ≡ true → R) → R
from_either true y h f g = f refl
from_either false y h f g = g h

left_true : (x y : Bool) → (x && y) ≡ true → x ≡ true
left_true true y h = refl
left_true false y h = absurd (cc)

right_true : (x y : Bool) → (x && y) ≡ true → y ≡ true
right_true true y h = h
right_true false y h = absurd (cc)

-- from a value of a part
through : {f : Ref} {n : ℕ} {a e : Expr} → ((v : Expr) → IsValue v a → IsValue v e) → CallsItself f n a → CallsItself f n e
through go c = record { callee = c.callee; arguments = c.arguments; last = go (Apply c.callee c.arguments) c.last; names = c.names; all = c.all }

record InBranch (f : Ref) (n : ℕ) (bs : Branches) : Type 0 where
  e : Expr
  is : IsBranch e bs
  calls : CallsItself f n e

mutual
  found : (f : Ref) (n : ℕ) (e : Expr) → has_turn f n e ≡ true → CallsItself f n e
  found f n (Is l) h = absurd (cc)
  found f n (NameOf r) h = absurd (cc)
  found f n (Accessor k) h = absurd (cc)
  found f n (Lambda ps e) h = absurd (cc)
  found f n (Apply g es) h = record {
    callee = g;
    arguments = es;
    last = itself;
    names = left_true (is_name f g) (nat_eq (count_exprs es) n) h;
    all = eqb-true (count_exprs es) n (right_true (is_name f g) (nat_eq (count_exprs es) n) h);
  }
  found f n (Strict op es) h = absurd (cc)
  found f n (If c a b) h =
      from_either (has_turn f n a) (has_turn f n b) h (λ i. through (λ w v. where_true v) (found f n a i))
      (λ i. through (λ w v. where_false v) (found f n b i))
  found f n (Logical place op a b) h = absurd (cc)
  found f n (Let gs e) h = through (λ w v. of_body v) (found f n e h)
  found f n (Case s bs) h = let b = found_in f n bs h in through (λ w v. of_branch b.is v) b.calls
  found f n (Located place e) h = through (λ w v. at_place v) (found f n e h)

  found_in : (f : Ref) (n : ℕ) (bs : Branches) → have_turn f n bs ≡ true → InBranch f n bs
  found_in f n NoBranch h = absurd (cc)
  found_in f n (MoreBranch p e bs) h =
      from_either (has_turn f n e) (have_turn f n bs) h
      (λ i. record { e = e; is = first; calls = found f n e i })
      (λ i. let b = found_in f n bs i in record { e = b.e; is = later b.is; calls = b.calls })

or_true : (x y : Bool) → y ≡ true → (x || y) ≡ true
or_true true y h = refl
or_true false y h = h

true_or : (x y : Bool) → x ≡ true → (x || y) ≡ true
true_or x y h = ap (λ b. b || y) h

marked_in : (f : Ref) (n : ℕ) {e : Expr} {bs : Branches} → IsBranch e bs → has_turn f n e ≡ true → have_turn f n bs ≡ true
marked_in f n (first {e = e} {bs = bs}) h = true_or (has_turn f n e) (have_turn f n bs) h
marked_in f n (later {other = other} {bs = bs} i) h = or_true (has_turn f n other) (have_turn f n bs) (marked_in f n i h)

marked_by : (f : Ref) (n : ℕ) {v e : Expr} → IsValue v e → has_turn f n v ≡ true → has_turn f n e ≡ true
marked_by f n itself h = h
marked_by f n (where_true {a = a} {b = b} i) h = true_or (has_turn f n a) (has_turn f n b) (marked_by f n i h)
marked_by f n (where_false {a = a} {b = b} i) h = or_true (has_turn f n a) (has_turn f n b) (marked_by f n i h)
marked_by f n (of_body i) h = marked_by f n i h
marked_by f n (of_branch b i) h = marked_in f n b (marked_by f n i h)
marked_by f n (at_place i) h = marked_by f n i h

eqb_same : (n : ℕ) → nat_eq n n ≡ true
eqb_same n = grind (arith, nat_tests)

pub exact_turns : ExactTurns
exact_turns = record {
  found = found;
  marked = λ f n e c.
      marked_by f n c.last (ap (λ b. b && nat_eq (count_exprs c.arguments) n) c.names
      ∙ ap (λ k. nat_eq k n) c.all ∙ eqb_same n);
}
