-- What a step leaves, from how a task comes apart.
use Rattle.std.proofs.Common.{◌≡◌, ℕ, zero, suc, ◌+◌, ◌-◌, ◌*◌, ◌<◌, ◌≤◌, List, [], ◌∷◌, ◌++◌, length, reverse, OnOk}
use Rattle.std.proofs.Common.{Result, Ok, Err, refl, sym, ap, ◌∙◌, subst, append_assoc, append-nil, arith}
use Rattle.std.proofs.Common.{if◌then◌else◌}
use Rattle.std.specs.Result.{is_ok}
use Rattle.std.proofs.lemmas.List.{reverse-append}
use Rattle.js_tree.specs.declared.tree.Node.{Node}
use Rattle.js_printer.specs.declared.task.Task as task
use Rattle.js_printer.specs.declared.task.Task.{Task}
use Rattle.js_printer.specs.Tasks.{task_text, parts_text, left_text, weight_at, task_weight, tasks_weight, AreInside}
use Rattle.js_printer.specs.Tasks.{IsStep}

pub left_text-append : (ns : List Node) (ts us : List Task) → left_text ns (ts ++ us) ≡ left_text ns us ++ left_text ns ts
left_text-append ns [] us = sym (append-nil (left_text ns us))
left_text-append ns (t ∷ ts) us = rw (left_text-append ns ts us) (append_assoc (left_text ns us) (left_text ns ts) (task_text ns t))

left_text-reverse : (ns : List Node) (ps : List Task) → left_text ns (reverse ps) ≡ parts_text ns ps
left_text-reverse ns [] = refl
left_text-reverse ns (p ∷ ps) =
    ap (left_text ns) (reverse-append (p ∷ []) ps)
    ∙ (left_text-append ns (reverse ps) (p ∷ []) ∙ ap (λ x. task_text ns p ++ x) (left_text-reverse ns ps))

pub tasks_weight-append : (ts us : List Task) → tasks_weight (ts ++ us) ≡ tasks_weight ts + tasks_weight us
tasks_weight-append [] us = omega arith
tasks_weight-append (t ∷ ts) us = let e = tasks_weight-append ts us in omega arith

tasks_weight-reverse : (ps : List Task) → tasks_weight (reverse ps) ≡ tasks_weight ps
tasks_weight-reverse [] = refl
tasks_weight-reverse (p ∷ ps) =
    let e : tasks_weight (reverse (p ∷ ps)) ≡ tasks_weight (reverse ps ++ p ∷ []) = ap tasks_weight (reverse-append (p ∷ []) ps) in
    let f = tasks_weight-append (reverse ps) (p ∷ []) in
    let g = tasks_weight-reverse ps in
    omega arith

AreInside-append : (n : ℕ) (ts us : List Task) → AreInside n ts → AreInside n us → AreInside n (ts ++ us)
AreInside-append n [] us h k = k
AreInside-append n (t ∷ ts) us h k = (h.0, AreInside-append n ts us h.1 k)

AreInside-reverse : (n : ℕ) (ps : List Task) → AreInside n ps → AreInside n (reverse ps)
AreInside-reverse n [] h = tt
AreInside-reverse n (p ∷ ps) h =
    subst (AreInside n) (sym (reverse-append (p ∷ []) ps)) (AreInside-append n (reverse ps) (p ∷ []) (AreInside-reverse n ps h.1) (h.0, tt))

-- weights, from place to place
weight-zero : weight_at 0 ≡ 1
unfolding weight_at
weight-zero = refl

weight-suc : (p : ℕ) → weight_at (suc p) ≡ 16 * weight_at p
unfolding weight_at
weight-suc p = refl

pub weight-positive : (p : ℕ) → 0 < weight_at p
weight-positive zero = let e = weight-zero in omega arith
weight-positive (suc p) = let e = weight-suc p in let h = weight-positive p in omega arith

pub weight-le : (i j : ℕ) → i ≤ j → weight_at i ≤ weight_at j
weight-le zero j h = let e = weight-zero in let k = weight-positive j in omega arith
weight-le (suc i) zero h = absurd (omega arith)
weight-le (suc i) (suc j) h = let e = weight-suc i in let f = weight-suc j in let k = weight-le i j (omega arith) in omega arith

pub weight-before : (p : ℕ) → 0 < p → weight_at p ≡ 16 * weight_at (p - 1)
weight-before zero h = absurd (omega arith)
weight-before (suc p) h = let e : suc p - 1 ≡ p = omega arith in rw e (weight-suc p)

pub weight-task : (t : Task) → 0 < task_weight t
weight-task (task.Task.Bytes b) = omega arith
weight-task (task.Task.Expression p) = let h = weight-positive p in omega arith
weight-task (task.Task.Key p) = let h = weight-positive p in omega arith
weight-task (task.Task.Items p) = let h = weight-positive p in omega arith
weight-task (task.Task.ItemsBefore p) = let h = weight-positive p in omega arith
weight-task (task.Task.Members p) = let h = weight-positive p in omega arith
weight-task (task.Task.MembersBefore p) = let h = weight-positive p in omega arith
weight-task (task.Task.Member p) = let h = weight-positive p in omega arith
weight-task (task.Task.Statements p) = let h = weight-positive p in omega arith
weight-task (task.Task.Statement p) = let h = weight-positive p in omega arith
weight-task (task.Task.Block p) = let h = weight-positive p in omega arith
weight-task (task.Task.Lines p) = let h = weight-positive p in omega arith
weight-task (task.Task.Line p) = let h = weight-positive p in omega arith
weight-task (task.Task.Program p) = let h = weight-positive p in omega arith
weight-task (task.Task.Main p) = let h = weight-positive p in omega arith
weight-task (task.Task.Outs p) = let h = weight-positive p in omega arith

-- a task is split into what is written and parts that weigh less
pub record IsSplit (ns : List Node) (t : Task) (written : List ℕ) (parts : List Task) : Type 0 where
  pub whole : task_text ns t ≡ written ++ parts_text ns parts
  pub lighter : tasks_weight parts < task_weight t
  pub inside : AreInside (length ns) parts

pub stepped : (ns : List Node) (t : Task) (text written text_then : List ℕ) (tasks tasks_then parts : List Task)
    → IsSplit ns t written parts → text_then ≡ text ++ written → tasks_then ≡ tasks ++ reverse parts → IsStep ns t text tasks text_then tasks_then
stepped ns t text written text_then tasks tasks_then parts s e f = record {
  whole =
      let g : left_text ns tasks_then ≡ parts_text ns parts ++ left_text ns tasks =
      ap (left_text ns) f ∙ (left_text-append ns tasks (reverse parts) ∙ ap (λ x. x ++ left_text ns tasks) (left_text-reverse ns parts)) in
      rw (e, g, s.whole) (simp append_assoc);
  lighter =
      let g : tasks_weight tasks_then ≡ tasks_weight (tasks ++ reverse parts) = ap tasks_weight f in
      let h = tasks_weight-append tasks (reverse parts) in
      let k = tasks_weight-reverse parts in
      let l = s.lighter in
      omega arith;
  inside = λ i. subst (AreInside (length ns)) (sym f) (AreInside-append (length ns) tasks (reverse parts) i (AreInside-reverse (length ns) parts s.inside));
}

-- the same where the last call may fail
pub on_ok : {E P Q : Type 0} (r : Result (Unit {0}) E) → (P → Q) → OnOk r P → OnOk r Q
on_ok (Ok x) f p = f p
on_ok (Err e) f p = tt

pub pushed : {E : Type 0} (ns : List Node) (t : Task) (text written text_then : List ℕ) (tasks tasks_then parts : List Task) (r : Result (Unit {0}) E)
    → IsSplit ns t written parts → text_then ≡ text ++ written → OnOk r (tasks_then ≡ tasks ++ reverse parts) → OnOk r (IsStep ns t text tasks text_then tasks_then)
pushed ns t text written text_then tasks tasks_then parts r s e k = on_ok r (λ f. stepped ns t text written text_then tasks tasks_then parts s e f) k

-- nothing is left of the task
pub wrote : (ns : List Node) (t : Task) (text written text_then : List ℕ) (tasks : List Task) → task_text ns t ≡ written → text_then ≡ text ++ written → IsStep ns t text tasks text_then tasks
wrote ns t text written text_then tasks w e =
    stepped ns t text written text_then tasks tasks [] (record { whole = w ∙ sym (append-nil written); lighter = weight-task t; inside = tt }) e (sym (append-nil tasks))

pub written_whole : {E : Type 0} (ns : List Node) (t : Task) (text written text_then : List ℕ) (tasks : List Task) (r : Result (Unit {0}) E)
    → task_text ns t ≡ written → OnOk r (text_then ≡ text ++ written) → OnOk r (IsStep ns t text tasks text_then tasks)
written_whole ns t text written text_then tasks r w k = on_ok r (wrote ns t text written text_then tasks w) k

pub skipped : (ns : List Node) (t : Task) (text : List ℕ) (tasks : List Task) → task_text ns t ≡ [] → IsStep ns t text tasks text tasks
skipped ns t text tasks w = wrote ns t text [] text tasks w (sym (append-nil text))

-- what is written piece by piece
pub after_two : (text a b text_then text_last : List ℕ) → text_then ≡ text ++ a → text_last ≡ text_then ++ b → text_last ≡ text ++ (a ++ b)
after_two text a b text_then text_last e f = f ∙ (ap (λ x. x ++ b) e ∙ append_assoc text a b)

pub after_three : (text a b c text_then text_more text_last : List ℕ) → text_then ≡ text ++ a → text_more ≡ text_then ++ b → text_last ≡ text_more ++ c → text_last ≡ text ++ (a ++ b ++ c)
after_three text a b c text_then text_more text_last e f g = after_two text (a ++ b) c text_more text_last (after_two text a b text_then text_more e f) g

-- the last piece is written if nothing fails
pub if_ok : {E : Type 0} (r : Result (Unit {0}) E) (text_then a b : List ℕ) → text_then ≡ (if is_ok r then a else b) → OnOk r (text_then ≡ a)
if_ok (Ok x) text_then a b e = e
if_ok (Err x) text_then a b e = tt

pub last_ok : {E : Type 0} (r : Result (Unit {0}) E) (text a text_then b text_last : List ℕ) → text_then ≡ text ++ a → text_last ≡ (if is_ok r then text_then ++ b else text_then)
    → OnOk r (text_last ≡ text ++ (a ++ b))
last_ok (Ok x) text a text_then b text_last e f = after_two text a b text_then text_last e f
last_ok (Err x) text a text_then b text_last e f = tt

-- a call writes and leaves at once
pub valued : {E : Type 0} (ns : List Node) (t : Task) (text front written text_then text_last : List ℕ) (tasks tasks_then parts : List Task) (r : Result (Unit {0}) E)
    → IsSplit ns t (front ++ written) parts → text_then ≡ text ++ front → OnOk r (text_last ≡ text_then ++ written) → OnOk r (tasks_then ≡ tasks ++ reverse parts)
    → OnOk r (IsStep ns t text tasks text_last tasks_then)
valued ns t text front written text_then text_last tasks tasks_then parts (Ok x) s e f g =
    stepped ns t text (front ++ written) text_last tasks tasks_then parts s (after_two text front written text_then text_last e f) g
valued ns t text front written text_then text_last tasks tasks_then parts (Err x) s e f g = tt
