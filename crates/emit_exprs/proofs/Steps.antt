-- Fields of a value, and what is done with it: only a call is a turn, and only a name is a name.
use Rattle.std.proofs.Common.{◌≡◌, ℕ, zero, suc, ◌+◌, List, [], ◌∷◌, ◌++◌, Bool, true, false, ◌&&◌, ◌||◌, ◌<◌, ◌≤◌, nat_eq, length, map}
use Rattle.std.proofs.Common.{refl, sym, ap, ◌∙◌, arith}
use Rattle.std.proofs.lemmas.Bool.{ne_eqb}
use Rattle.elm_canon.specs.Names.{Name}
use Rattle.elm_canon.specs.declared.reference.Ref.{Ref}
use Rattle.elm_canon.specs.Tree.{Pattern, patterns_of, Expr, Exprs, Op, Strict, Access, MoreExpr, NoExpr, exprs_of}
use Rattle.elm_canon.specs.View.{LinkView, Given, Composed, After, Before, Decided, accessed, done, linked}
use Rattle.elm_canon.specs.Proper.{count_of, count_exprs}
use Rattle.js_emit.specs.Names.{made_names}
use Rattle.js_emit.specs.Loops.{is_name, has_turn}
use Rattle.js_emit.specs.Made.{is_loop}

pub strict_name : (x : Ref) (o : Op) (es : Exprs) (ks : List Name) → is_name x (accessed (Strict o es) ks) ≡ false
strict_name x o es [] = refl
strict_name x o es (k ∷ ks) = strict_name x (Access k) (MoreExpr (Strict o es) NoExpr) ks

pub strict_turn : (x : Ref) (n : ℕ) (o : Op) (es : Exprs) (ks : List Name) →
    has_turn x n (accessed (Strict o es) ks) ≡ false
strict_turn x n o es [] = refl
strict_turn x n o es (k ∷ ks) = strict_turn x n (Access k) (MoreExpr (Strict o es) NoExpr) ks

pub done_name : (x : Ref) (l : LinkView) (e : Expr) → is_name x (done l e) ≡ false
done_name x (Given f es) e = refl
done_name x (Composed f a) e = refl
done_name x (After o es) e = refl
done_name x (Before o a) e = refl
done_name x (Decided place c a) e = refl

pub linked_name : (x : Ref) (e : Expr) (l : LinkView) (ls : List LinkView) → is_name x (linked e (l ∷ ls)) ≡ false
linked_name x e l [] = done_name x l e
linked_name x e l (m ∷ ls) = linked_name x (done l e) m ls

pub linked_last : (e : Expr) (ls : List LinkView) (l : LinkView) → linked e (ls ++ l ∷ []) ≡ done l (linked e ls)
linked_last e [] l = refl
linked_last e (m ∷ ls) l = linked_last (done m e) ls l

-- of no fields, and of some; m is how many there are
pub named_access : (x : Ref) (e : Expr) (ks : List Name) (m : ℕ) → m ≡ length ks → m ≡ 0 →
    is_name x e ≡ is_name x (accessed e ks)
named_access x e [] m h z = refl
named_access x e (k ∷ ks) m h z = absurd (omega (arith, h, z))

pub no_access : (x : Ref) (e : Expr) (ks : List Name) (m : ℕ) → m ≡ length ks → (m ≡ 0 → ⊥) →
    nat_eq m 0 ≡ is_name x (accessed e ks)
no_access x e [] m h z = absurd (z h)
no_access x e (k ∷ ks) m h z = ne_eqb m 0 z ∙ sym (strict_name x (Access k) (MoreExpr e NoExpr) ks)

pub turned_access : (x : Ref) (n : ℕ) (e : Expr) (ks : List Name) (m : ℕ) → m ≡ length ks → m ≡ 0 →
    has_turn x n e ≡ has_turn x n (accessed e ks)
turned_access x n e [] m h z = refl
turned_access x n e (k ∷ ks) m h z = absurd (omega (arith, h, z))

pub no_turn : (x : Ref) (n : ℕ) (e : Expr) (ks : List Name) (m : ℕ) → m ≡ length ks → (m ≡ 0 → ⊥) →
    nat_eq m 0 ≡ has_turn x n (accessed e ks)
no_turn x n e [] m h z = absurd (z h)
no_turn x n e (k ∷ ks) m h z = ne_eqb m 0 z ∙ sym (strict_turn x n (Access k) (MoreExpr e NoExpr) ks)

pub named_chain : {L : Type 0} (view : L → LinkView) (x : Ref) (e : Expr) (ls : List L) (m : ℕ) → m ≡ length ls → m ≡ 0 →
    is_name x e ≡ is_name x (linked e (map view ls))
named_chain view x e [] m h z = refl
named_chain view x e (l ∷ ls) m h z = absurd (omega (arith, h, z))

pub no_chain : {L : Type 0} (view : L → LinkView) (x : Ref) (e : Expr) (ls : List L) (m : ℕ) → m ≡ length ls → (m ≡ 0 → ⊥) →
    nat_eq m 0 ≡ is_name x (linked e (map view ls))
no_chain view x e [] m h z = absurd (z h)
no_chain view x e (l ∷ ls) m h z = ne_eqb m 0 z ∙ sym (linked_name x e (view l) (map view ls))

pub count_of_exprs : (es : List Expr) → count_exprs (exprs_of es) ≡ length es
count_of_exprs [] = refl
count_of_exprs (e ∷ es) = ap suc (count_of_exprs es)

pub count_with : (es : List Expr) (e : Expr) → count_exprs (exprs_of (es ++ e ∷ [])) ≡ length es + 1
count_with [] e = refl
count_with (d ∷ es) e = ap suc (count_with es e) ∙ omega arith

pub count_made : (n d : ℕ) → length (made_names d n) ≡ n
count_made zero d = refl
count_made (suc n) d = ap suc (count_made n (suc d))

-- two tests in turn, r the first one's result
pub both_then : {r b : Bool} (c : Bool) → r ≡ b → r ≡ true → c ≡ (b && c)
both_then c e h = sym (ap (λ x. x && c) (sym e ∙ h))

pub both_else : {r b : Bool} (c : Bool) → r ≡ b → r ≡ false → r ≡ (b && c)
both_else c e h = h ∙ sym (ap (λ x. x && c) (sym e ∙ h))

pub either_then : {r b : Bool} (c : Bool) → r ≡ b → r ≡ true → r ≡ (b || c)
either_then c e h = h ∙ sym (ap (λ x. x || c) (sym e ∙ h))

pub either_else : {r b : Bool} (c : Bool) → r ≡ b → r ≡ false → c ≡ (b || c)
either_else c e h = sym (ap (λ x. x || c) (sym e ∙ h))

pub count_of_patterns : (ps : List Pattern) → count_of (patterns_of ps) ≡ length ps
count_of_patterns [] = refl
count_of_patterns (p ∷ ps) = ap suc (count_of_patterns ps)

-- with some parameters, m of them
pub looped_some : (x : Ref) (ps : List Pattern) (e : Expr) (m : ℕ) → m ≡ length ps → 0 < m →
    has_turn x m e ≡ is_loop x (patterns_of ps) e
looped_some x [] e m h z = absurd (omega (arith, h, z))
looped_some x (p ∷ ps) e m h z = ap (λ k. has_turn x k e) (h ∙ ap suc (sym (count_of_patterns ps)))

-- with none
pub looped_none : (x : Ref) (ps : List Pattern) (e : Expr) (m : ℕ) → m ≡ length ps → m ≤ 0 →
    false ≡ is_loop x (patterns_of ps) e
looped_none x [] e m h z = refl
looped_none x (p ∷ ps) e m h z = absurd (omega (arith, h, z))
