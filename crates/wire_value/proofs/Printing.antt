-- What a step of the printer leaves.
use Rattle.std.proofs.Common.{◌≡◌, ℕ, suc, ◌+◌, ◌<◌, ◌≤◌, List, [], ◌∷◌, ◌++◌, length, map, codes, OnOk, Result, Ok}
use Rattle.std.proofs.Common.{Err, refl, sym, ap, ◌∙◌, append_assoc, append-nil, arith, rules, if◌then◌else◌, Bool}
use Rattle.std.proofs.Common.{false, ◌==◌, Bor}
use Rattle.std.specs.Result.{is_ok}
use Rattle.std.proofs.lemmas.Bool.Decides.{nat_tests}
use Rattle.wire_value.specs.Wire.{Wire}
use Rattle.wire_value.specs.View.{wires_of, members_of, wire_view, member_view}
use Rattle.wire_value.specs.declared.wire.Wire as program
use Rattle.wire_value.specs.declared.wire.Member as member
use Rattle.wire_value.specs.Text.{wire_text, wires_text, later_wires_text, members_text, later_members_text, text_text}
use Rattle.wire_value.specs.declared.task.Task.{Task}
use Rattle.wire_value.specs.declared.task.Task.TheVariants as task
use Rattle.wire_value.specs.Tasks.{task_text, left_text, wire_weight, wires_weight, members_weight, task_weight}
use Rattle.wire_value.specs.Tasks.{tasks_weight, Leaves}

left_text-append : (ts us : List Task) → left_text (ts ++ us) ≡ left_text us ++ left_text ts
left_text-append [] us = sym (append-nil (left_text us))
left_text-append (t ∷ ts) us = rw (left_text-append ts us) (append_assoc (left_text us) (left_text ts) (task_text t))

tasks_weight-append : (ts us : List Task) → tasks_weight (ts ++ us) ≡ tasks_weight ts + tasks_weight us
tasks_weight-append [] us = omega arith
tasks_weight-append (t ∷ ts) us = let e = tasks_weight-append ts us in omega arith

pub on_ok : {E P Q : Type 0} (r : Result (Unit {0}) E) → (P → Q) → OnOk r P → OnOk r Q
on_ok (Ok x) f p = f p
on_ok (Err e) f p = tt

-- the last piece is written if nothing fails
pub if_ok : {E : Type 0} (r : Result (Unit {0}) E) (text_then a b : List ℕ) → text_then ≡ (if is_ok r then a else b) → OnOk r (text_then ≡ a)
if_ok (Ok x) text_then a b e = e
if_ok (Err x) text_then a b e = tt

-- all is written at once
pub wrote : (bytes : List ℕ) (weight : ℕ) (text written text_then : List ℕ) (tasks : List Task) → 0 < weight → bytes ≡ written → text_then ≡ text ++ written → Leaves bytes weight text tasks text_then tasks
wrote bytes weight text written text_then tasks heavy w e = record {
  whole = rw (e, w) (append_assoc text written (left_text tasks));
  lighter = omega arith;
}

pub wrote_whole : {E : Type 0} (bytes : List ℕ) (weight : ℕ) (text written text_then : List ℕ) (tasks : List Task) (r : Result (Unit {0}) E)
    → 0 < weight → bytes ≡ written → OnOk r (text_then ≡ text ++ written) → OnOk r (Leaves bytes weight text tasks text_then tasks)
wrote_whole bytes weight text written text_then tasks r heavy w k = on_ok r (wrote bytes weight text written text_then tasks heavy w) k

-- a front is written first
fronted : (front bytes all : List ℕ) (weight more : ℕ) (text text_next text_then : List ℕ) (tasks tasks_then : List Task)
    → all ≡ front ++ bytes → weight ≤ more → text_next ≡ text ++ front → Leaves bytes weight text_next tasks text_then tasks_then → Leaves all more text tasks text_then tasks_then
fronted front bytes all weight more text text_next text_then tasks tasks_then is le e s = record {
  whole = s.whole ∙ rw (e, is) (simp append_assoc);
  lighter = let l = s.lighter in omega arith;
}

pub fronted_whole : {E : Type 0} (front bytes all : List ℕ) (weight more : ℕ) (text text_next text_then : List ℕ) (tasks tasks_then : List Task) (r : Result (Unit {0}) E)
    → all ≡ front ++ bytes → weight ≤ more → text_next ≡ text ++ front → OnOk r (Leaves bytes weight text_next tasks text_then tasks_then) → OnOk r (Leaves all more text tasks text_then tasks_then)
fronted_whole front bytes all weight more text text_next text_then tasks tasks_then r is le e k =
    on_ok r (fronted front bytes all weight more text text_next text_then tasks tasks_then is le e) k

-- two tasks are left, the first of which goes on the stack last
pub left_two : (bytes : List ℕ) (weight : ℕ) (text front text_then : List ℕ) (tasks tasks_next tasks_then : List Task) (first later : Task)
    → bytes ≡ front ++ (task_text first ++ task_text later) → task_weight first + task_weight later < weight → text_then ≡ text ++ front
    → tasks_next ≡ tasks ++ later ∷ [] → tasks_then ≡ tasks_next ++ first ∷ [] → Leaves bytes weight text tasks text_then tasks_then
left_two bytes weight text front text_then tasks tasks_next tasks_then first later is light e f g = record {
  whole =
      let left : left_text tasks_then ≡ task_text first ++ (task_text later ++ left_text tasks) =
      ap left_text g ∙ (left_text-append tasks_next (first ∷ []) ∙ ap (λ x. task_text first ++ x) (ap left_text f ∙ left_text-append tasks (later ∷ []))) in
      rw (left, e, is) (simp append_assoc);
  lighter =
      let h : tasks_weight tasks_then ≡ tasks_weight (tasks_next ++ first ∷ []) = ap tasks_weight g in
      let k = tasks_weight-append tasks_next (first ∷ []) in
      let l : tasks_weight tasks_next ≡ tasks_weight (tasks ++ later ∷ []) = ap tasks_weight f in
      let m = tasks_weight-append tasks (later ∷ []) in
      omega arith;
}

-- lists
abbrev pub list_text : List program.Wire → List ℕ
list_text ws = wires_text (wires_of (map wire_view ws)) ++ codes "]"

pub list_ends : (ws : List program.Wire) → length ws ≡ 0 → list_text ws ≡ codes "]"
list_ends [] e = refl
list_ends (w ∷ ws) e = absurd (omega arith)

pub list_splits : (ws rest : List program.Wire) (first : program.Wire) (f : Bor program.Wire) (l : Bor (List program.Wire)) → ws ≡ first ∷ rest → f.now ≡ first → l.now ≡ rest
    → (list_text ws ≡ [] ++ (task_text (task.Value f) ++ task_text (task.Items l)))
    × (task_weight (task.Value f) + task_weight (task.Items l) < wires_weight (wires_of (map wire_view ws)))
list_splits ws rest first f l e is_first is_rest = (
  rw (e, is_first, is_rest) (append_assoc (wire_text (wire_view first)) (later_wires_text (wires_of (map wire_view rest))) (codes "]")),
  rw (e, is_first, is_rest) (omega arith),
)

-- the comma before items, if there are some
abbrev pub comma : Bool → List ℕ
comma ends = if ends then [] else codes ","

no_end : (n : ℕ) → (suc n == 0) ≡ false
no_end n = grind (arith, nat_tests)

pub items_go_on : (ws : List program.Wire) (ends : Bool) → ends ≡ (length ws == 0) → later_wires_text (wires_of (map wire_view ws)) ++ codes "]" ≡ comma ends ++ list_text ws
items_go_on [] ends e = rw e refl
items_go_on (w ∷ ws) ends e = rw (e, no_end (length ws)) refl

-- objects
abbrev pub object_text : List member.Member → List ℕ
object_text ms = members_text (members_of (map member_view ms)) ++ codes "}"

pub object_ends : (ms : List member.Member) → length ms ≡ 0 → object_text ms ≡ codes "}"
object_ends [] e = refl
object_ends (m ∷ ms) e = absurd (omega arith)

member_view-is : (m : member.Member) → member_view m ≡ ((member.out-Member m).name, wire_view (member.out-Member m).value)
member_view-is m = search (rules, member.the_lemmas)

object_splits : (ms rest : List member.Member) (first : member.Member) (name : List ℕ) (f : Bor program.Wire) (l : Bor (List member.Member))
    → ms ≡ first ∷ rest → name ≡ (member.out-Member first).name → f.now ≡ (member.out-Member first).value → l.now ≡ rest
    → (object_text ms ≡ (text_text name ++ codes ":") ++ (task_text (task.Value f) ++ task_text (task.Members l)))
    × (task_weight (task.Value f) + task_weight (task.Members l) < members_weight (members_of (map member_view ms)))
object_splits ms rest first name f l e name-is value-is is_rest =
    let later : List ℕ = later_members_text (members_of (map member_view rest)) in (
      ap object_text e
          ∙ (ap (λ (m : List ℕ × Wire). (text_text m.0 ++ codes ":" ++ wire_text m.1 ++ later) ++ codes "}") (member_view-is first)
          ∙ (rw (name-is, value-is, is_rest) (pieces (text_text (member.out-Member first).name) (codes ":") (wire_text (wire_view (member.out-Member first).value)) later (codes "}")))),
      rw (e, value-is, is_rest) (let g : wire_weight (member_view first).1 ≡ wire_weight (wire_view (member.out-Member first).value) = ap (λ (m : List ℕ × Wire). wire_weight m.1) (member_view-is first) in omega arith),
    )
  where
    pieces : (a b c d e : List ℕ) → (a ++ b ++ c ++ d) ++ e ≡ (a ++ b) ++ (c ++ (d ++ e))
    pieces a b c d e = simp append_assoc

pub members_go_on : (ms : List member.Member) (ends : Bool) → ends ≡ (length ms == 0) → later_members_text (members_of (map member_view ms)) ++ codes "}" ≡ comma ends ++ object_text ms
members_go_on [] ends e = rw e refl
members_go_on (m ∷ ms) ends e = rw (e, no_end (length ms)) refl

-- turns of the loop over the tasks
pub next_whole : (whole text text_then : List ℕ) (before tasks tasks_then : List Task) (t : Task)
    → text ++ left_text before ≡ whole → before ≡ tasks ++ t ∷ [] → Leaves (task_text t) (task_weight t) text tasks text_then tasks_then → text_then ++ left_text tasks_then ≡ whole
next_whole whole text text_then before tasks tasks_then t c e s =
    s.whole ∙ (ap (λ x. text ++ x) (sym (ap left_text e ∙ left_text-append tasks (t ∷ []))) ∙ c)

pub less_left : (text text_then : List ℕ) (before tasks tasks_then : List Task) (t : Task)
    → before ≡ tasks ++ t ∷ [] → Leaves (task_text t) (task_weight t) text tasks text_then tasks_then → tasks_weight tasks_then < tasks_weight before
less_left text text_then before tasks tasks_then t e s =
    let f : tasks_weight before ≡ tasks_weight (tasks ++ t ∷ []) = ap tasks_weight e in
    let g = tasks_weight-append tasks (t ∷ []) in
    let l = s.lighter in
    omega arith

pub nothing_left : (whole text : List ℕ) (tasks : List Task) → text ++ left_text tasks ≡ whole → length tasks ≡ 0 → text ≡ whole
nothing_left whole text [] c e = sym (append-nil text) ∙ c
nothing_left whole text (t ∷ ts) c e = absurd (omega arith)

-- what is written piece by piece
pub after_two : (text a b text_then text_last : List ℕ) → text_then ≡ text ++ a → text_last ≡ text_then ++ b → text_last ≡ text ++ (a ++ b)
after_two text a b text_then text_last e f = f ∙ (ap (λ x. x ++ b) e ∙ append_assoc text a b)

-- the name of the first member is written, and its value and the others are left
pub object_left : (ms rest : List member.Member) (first : member.Member) (name : List ℕ) (f : Bor program.Wire) (l : Bor (List member.Member)) (text text_then : List ℕ) (tasks tasks_next tasks_then : List Task)
    → tasks_then ≡ tasks_next ++ task.Value f ∷ [] → tasks_next ≡ tasks ++ task.Members l ∷ [] → text_then ≡ text ++ (text_text name ++ codes ":")
    → ms ≡ first ∷ rest → name ≡ (member.out-Member first).name → f.now ≡ (member.out-Member first).value → l.now ≡ rest
    → Leaves (object_text ms) (members_weight (members_of (map member_view ms))) text tasks text_then tasks_then
object_left ms rest first name f l text text_then tasks tasks_next tasks_then g k t e name-is value-is is_rest =
    let s = object_splits ms rest first name f l e name-is value-is is_rest in
    left_two _ _ text (text_text name ++ codes ":") text_then tasks tasks_next tasks_then (task.Value f) (task.Members l) s.0 s.1 t k g
