-- How many names are made does not depend on a loop's variables, but for how many they are.
use Rattle.std.proofs.Common.{◌≡◌, ℕ, zero, suc, ◌+◌, List, length, refl, sym, ap, ◌∙◌}
use Rattle.std.specs.Prelude.{if◌then◌else◌}
use Rattle.elm_canon.specs.declared.reference.Ref.{Ref}
use Rattle.elm_canon.specs.Tree as source
use Rattle.elm_canon.specs.Tree.{Patterns, Expr, Exprs, Apply, Is, NameOf, Accessor, Lambda, Strict}
use Rattle.elm_canon.specs.Tree.{Logical, Case, Located, Branches, NoBranch, MoreBranch}
use Rattle.elm_canon.specs.Proper.{count_of}
use Rattle.js_tree.specs.Tree.{Name}
use Rattle.js_emit.specs.Names.{made_names}
use Rattle.js_emit.specs.Loops.{Outside, Inside, is_call}
use Rattle.js_emit.specs.Made.{loop_of, made_in, made_all, made_round, made_choice, made_branches, made_groups}

count_made : (n d : ℕ) → length (made_names d n) ≡ n
count_made zero d = refl
count_made (suc n) d = ap suc (count_made n (suc d))

mutual
  made_same : (f : Ref) (rs qs : List Name) (e : Expr) → length rs ≡ length qs →
      made_in (Inside f rs) e ≡ made_in (Inside f qs) e
  made_same f rs qs (Is l) h = refl
  made_same f rs qs (NameOf r) h = refl
  made_same f rs qs (Accessor k) h = refl
  made_same f rs qs (Lambda ps e) h = refl
  made_same f rs qs (Apply g es) h =
      ap (λ n. if is_call f n g es then made_round es else made_in Outside g + made_all es) h
  made_same f rs qs (Strict op es) h = refl
  made_same f rs qs (source.If c a b) h =
      ap (λ n. made_in Outside c + n + made_in (Inside f rs) b) (made_same f rs qs a h)
      ∙ ap (λ n. made_in Outside c + made_in (Inside f qs) a + n) (made_same f rs qs b h)
  made_same f rs qs (Logical place op a b) h = refl
  made_same f rs qs (source.Let gs e) h = ap (λ n. made_groups gs + n) (made_same f rs qs e h)
  made_same f rs qs (Case e bs) h =
      ap (λ n. suc (made_in Outside e + (made_choice bs + n))) (branches_same f rs qs bs h)
  made_same f rs qs (Located place e) h = made_same f rs qs e h

  branches_same : (f : Ref) (rs qs : List Name) (bs : Branches) → length rs ≡ length qs →
      made_branches (Inside f rs) bs ≡ made_branches (Inside f qs) bs
  branches_same f rs qs NoBranch h = refl
  branches_same f rs qs (MoreBranch p e bs) h =
      ap (λ n. n + made_branches (Inside f rs) bs) (made_same f rs qs e h)
      ∙ ap (λ n. made_in (Inside f qs) e + n) (branches_same f rs qs bs h)

pub made_anywhere : (d : ℕ) (f : Ref) (ps : Patterns) (e : Expr) →
    made_in (loop_of d f ps) e ≡ made_in (loop_of 0 f ps) e
made_anywhere d f ps e =
    let n = count_of ps in
    made_same f (made_names (d + n) n) (made_names (0 + n) n) e (count_made n (d + n) ∙ sym (count_made n (0 + n)))
