-- Objects: what an object with parts, and one with fields, evaluates to once its parts have their values.
use Rattle.std.proofs.Common.{◌≡◌, ℕ, suc, ◌+◌, ◌≤◌, ◌<◌, ◌^◌, ℤ, List, [], ◌∷◌, Bool, true, false, refl, sym, ap, ◌∙◌, subst, arith, codes}
use Rattle.std.specs.Prelude.{if◌then◌else◌, ◌||◌, ◌&&◌, not, length}
use Rattle.std.specs.List.{list_any}
use Rattle.std.specs.Str.{bytes_eq}
use Rattle.std.proofs.lemmas.Slice.Eq.{bytes_eq-Decides}
use Rattle.runs.specs.Ends.{Val, Stuck, Metered, MVal, and_then, with_budget}
use Rattle.elm_canon.specs.Names.{Name, same_name}
use Rattle.elm_canon.specs.Spelled.{is_word, are_fields}
use Rattle.elm_meaning.specs.Values.{Values, NoValue, MoreValue}
use Rattle.elm_meaning.specs.Values as source
use Rattle.js_tree.specs.Tree.{JsList, NoJs, MoreJs}
use Rattle.js_meaning.specs.Values.{JVal, JNumV, JObjV, JVals, NoJVal, MoreJVal, JFields, NoJField, MoreJField, JEnv, has_field, put_field}
use Rattle.js_meaning.specs.Lists.{part_name}
use Rattle.js_meaning.specs.Lists as lists
use Rattle.js_meaning.specs.Eval.{JCallee, JLoop, j_eval, j_evals, j_fields}
use Rattle.js_emit.specs.Names.{parts_from, fields_js, tagged}
use Rattle.emit_laws.specs.For.{ForParts, no_part, more_part}
use Rattle.emit_laws.proofs.Ends.{and_and, and_same}
use Rattle.emit_laws.proofs.Constructs.{ForAll, for_none, for_more, count_vals}
use Rattle.emit_laws.proofs.Trees.{part_apart}

abbrev pub count_js : JsList → ℕ
count_js NoJs = 0
count_js (MoreJs x xs) = suc (count_js xs)

-- values as parts from the i-th on, and under names
abbrev pub made_parts : ℕ → JVals → JFields
made_parts i NoJVal = NoJField
made_parts i (MoreJVal v vs) = MoreJField (part_name i) v (made_parts (suc i) vs)

abbrev pub named : List Name → JVals → JFields
named (k ∷ ks) (MoreJVal v vs) = MoreJField k v (named ks vs)
named _ _ = NoJField

-- ---- which names there are

either_false : (a b : Bool) → a ≡ false → b ≡ false → (a || b) ≡ false
either_false true b e f = e
either_false false b e f = f

pub no_part_again : (limit : ℕ) → limit ≡ 2 ^ 64 → (i j : ℕ) (vs : JVals) → i < j → j + count_vals vs ≤ limit → has_field (part_name i) (made_parts j vs) ≡ false
no_part_again limit is64 i j NoJVal l le = refl
no_part_again limit is64 i j (MoreJVal v vs) l le =
    either_false (bytes_eq (part_name i) (part_name j)) (has_field (part_name i) (made_parts (suc j) vs))
    (part_apart j i (subst (λ n. j < n) is64 (omega arith)) (subst (λ n. i < n) is64 (omega arith)) (λ e. absurd (omega arith)))
    (no_part_again limit is64 i (suc j) vs (omega arith) (omega arith))

no_tag : (j : ℕ) (vs : JVals) → has_field (codes "$") (made_parts j vs) ≡ false
no_tag j NoJVal = refl
no_tag j (MoreJVal v vs) = no_tag (suc j) vs

not_there : (k : Name) (ks : List Name) (vs : JVals) → list_any (same_name k) ks ≡ false → has_field k (named ks vs) ≡ false
not_there k [] vs e = refl
not_there k (j ∷ ks) NoJVal e = refl
not_there k (j ∷ ks) (MoreJVal v vs) e = go (same_name k j) e (not_there k ks vs)
  where
    go : (t : Bool) → (t || list_any (same_name k) ks) ≡ false → (list_any (same_name k) ks ≡ false → has_field k (named ks vs) ≡ false) → (t || has_field k (named ks vs)) ≡ false
    go true e rest = absurd (cc)
    go false e rest = rest e

both_true : (a b : Bool) → (a && b) ≡ true → (a ≡ true) × (b ≡ true)
both_true true b e = (refl, e)
both_true false b e = absurd (cc)

not_true : (b : Bool) → not b ≡ true → b ≡ false
not_true true e = absurd (cc)
not_true false e = refl

-- a field's name is a word, and none of the later ones
pub record NextField (k : Name) (ks : List Name) : Type 0 where
  pub word : is_word k ≡ true
  pub new : list_any (same_name k) ks ≡ false
  pub rest : are_fields ks ≡ true

pub next_field : (k : Name) (ks : List Name) → are_fields (k ∷ ks) ≡ true → NextField k ks
next_field k ks e =
    let a = both_true (is_word k) (not (list_any (same_name k) ks) && are_fields ks) e in
    let b = both_true (not (list_any (same_name k) ks)) (are_fields ks) a.1 in
    record { word = a.0; new = not_true (list_any (same_name k) ks) b.0; rest = b.1 }

pub word_is_not : (k other : Name) → is_word k ≡ true → is_word other ≡ false → bytes_eq k other ≡ false
word_is_not k other w n = go (bytes_eq k other) refl
  where
    go : (t : Bool) → bytes_eq k other ≡ t → t ≡ false
    go true e = let same = ap is_word ((bytes_eq-Decides k other).0 e) in absurd (cc)
    go false e = refl

pub puts : (k : Name) (v : JVal) (fs : JFields) → bytes_eq k (codes "__proto__") ≡ false → has_field k fs ≡ false → put_field k v fs ≡ Val (MoreJField k v fs)
puts k v fs e f = ap (λ t. if t then Stuck else Val (MoreJField k v fs)) (either_false (bytes_eq k (codes "__proto__")) (has_field k fs) e f)

-- ---- evaluated

module _ (call : JCallee) (loop : JLoop) (env : JEnv) where
  -- what comes of the values may be put by its equals at so many values
  pub all_same : {B : Type 0} (xs : JsList) (m : ℕ) (f g : JVals → ℕ → Metered B) → ((vs : JVals) (k : ℕ) → count_vals vs ≡ count_js xs → f vs k ≡ g vs k) → and_then (j_evals call loop xs env m) f ≡ and_then (j_evals call loop xs env m) g
  all_same NoJs m f g h = h NoJVal m refl
  all_same (MoreJs x xs) m f g h =
      and_and (j_eval call loop x env m) (λ v m1. and_then (j_evals call loop xs env m1) (λ vs m2. MVal (MoreJVal v vs) m2)) f
      ∙ and_same (j_eval call loop x env m) (λ v m1. and_and (j_evals call loop xs env m1) (λ vs m2. MVal (MoreJVal v vs) m2) f
      ∙ all_same xs m1 (λ vs k. f (MoreJVal v vs) k) (λ vs k. g (MoreJVal v vs) k) (λ vs k c. h (MoreJVal v vs) k (ap suc c))
      ∙ sym (and_and (j_evals call loop xs env m1) (λ vs m2. MVal (MoreJVal v vs) m2) g))
      ∙ sym (and_and (j_eval call loop x env m) (λ v m1. and_then (j_evals call loop xs env m1) (λ vs m2. MVal (MoreJVal v vs) m2)) g)

  parts_run : (limit : ℕ) → limit ≡ 2 ^ 64 → (i : ℕ) (xs : JsList) (m : ℕ) → i + count_js xs ≤ limit → j_fields call loop (parts_from i xs) env m ≡ and_then (j_evals call loop xs env m) (λ vs k. MVal (made_parts i vs) k)
  parts_run limit is64 i NoJs m le = refl
  parts_run limit is64 i (MoreJs x xs) m le =
      and_same (j_eval call loop x env m) (λ v m1.
      ap (λ o. and_then o (λ vs m2. with_budget (put_field (part_name i) v vs) m2)) (parts_run limit is64 (suc i) xs m1 (omega arith))
      ∙ and_and (j_evals call loop xs env m1) (λ vs k. MVal (made_parts (suc i) vs) k) (λ vs m2. with_budget (put_field (part_name i) v vs) m2)
      ∙ all_same xs m1 (λ vs k. with_budget (put_field (part_name i) v (made_parts (suc i) vs)) k) (λ vs k. MVal (made_parts i (MoreJVal v vs)) k) (λ vs k c.
      ap (λ o. with_budget o k) (puts (part_name i) v (made_parts (suc i) vs) refl (no_part_again limit is64 i (suc i) vs (omega arith) (subst (λ z. suc i + z ≤ limit) (sym c) (omega arith)))))
      ∙ sym (and_and (j_evals call loop xs env m1) (λ vs m2. MVal (MoreJVal v vs) m2) (λ vs k. MVal (made_parts i vs) k)))
      ∙ sym (and_and (j_eval call loop x env m) (λ v m1. and_then (j_evals call loop xs env m1) (λ vs m2. MVal (MoreJVal v vs) m2)) (λ vs k. MVal (made_parts i vs) k))

  pub tagged_run : (t : ℤ) (xs : JsList) (m : ℕ) → count_js xs < 4294967296 → j_eval call loop (tagged t xs) env m ≡ and_then (j_evals call loop xs env m) (λ vs k. MVal (lists.tagged t (made_parts 0 vs)) k)
  tagged_run t xs m few =
      ap (λ o. and_then (and_then o (λ vs m2. with_budget (put_field (codes "$") (JNumV t) vs) m2)) (λ vs m1. MVal (JObjV vs) m1)) (parts_run (2 ^ 64) refl 0 xs m (enough (count_js xs) few))
      ∙ ap (λ o. and_then o (λ vs m1. MVal (JObjV vs) m1)) (and_and (j_evals call loop xs env m) (λ vs k. MVal (made_parts 0 vs) k) (λ vs m2. with_budget (put_field (codes "$") (JNumV t) vs) m2))
      ∙ and_and (j_evals call loop xs env m) (λ vs k. with_budget (put_field (codes "$") (JNumV t) (made_parts 0 vs)) k) (λ vs m1. MVal (JObjV vs) m1)
      ∙ and_same (j_evals call loop xs env m) (λ vs k. ap (λ o. and_then (with_budget o k) (λ fs m1. MVal (JObjV fs) m1)) (puts (codes "$") (JNumV t) (made_parts 0 vs) refl (no_tag 0 vs)))
    where
      enough : (n : ℕ) → n < 4294967296 → 0 + n ≤ 2 ^ 64
      enough n l = omega arith

  pub fields_run : (ks : List Name) (xs : JsList) (m : ℕ) → are_fields ks ≡ true → count_js xs ≡ length ks → j_fields call loop (fields_js ks xs) env m ≡ and_then (j_evals call loop xs env m) (λ vs k. MVal (named ks vs) k)
  fields_run [] NoJs m fields count = refl
  fields_run [] (MoreJs x xs) m fields count = absurd (cc)
  fields_run (k ∷ ks) NoJs m fields count = absurd (cc)
  fields_run (k ∷ ks) (MoreJs x xs) m fields count =
      let next = next_field k ks fields in
      and_same (j_eval call loop x env m) (λ v m1.
      ap (λ o. and_then o (λ vs m2. with_budget (put_field k v vs) m2)) (fields_run ks xs m1 next.rest (cc))
      ∙ and_and (j_evals call loop xs env m1) (λ vs j. MVal (named ks vs) j) (λ vs m2. with_budget (put_field k v vs) m2)
      ∙ and_same (j_evals call loop xs env m1) (λ vs j. ap (λ o. with_budget o j) (puts k v (named ks vs) (word_is_not k (codes "__proto__") next.word refl) (not_there k ks vs next.new)))
      ∙ sym (and_and (j_evals call loop xs env m1) (λ vs m2. MVal (MoreJVal v vs) m2) (λ vs j. MVal (named (k ∷ ks) vs) j)))
      ∙ sym (and_and (j_eval call loop x env m) (λ v m1. and_then (j_evals call loop xs env m1) (λ vs m2. MVal (MoreJVal v vs) m2)) (λ vs j. MVal (named (k ∷ ks) vs) j))

-- ---- values that stand for each other

pub for_parts : {vs : Values} {ws : JVals} (i : ℕ) → ForAll vs ws → ForParts i vs (made_parts i ws)
for_parts i for_none = no_part
for_parts i (for_more r rs) = more_part r (for_parts (suc i) rs)

pub same_counts : {vs : Values} {ws : JVals} → ForAll vs ws → source.count_of vs ≡ count_vals ws
same_counts for_none = refl
same_counts (for_more r rs) = ap suc (same_counts rs)
