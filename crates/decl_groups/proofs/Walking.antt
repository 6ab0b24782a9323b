-- Walks, step by step: `note_new`, `note_old`, `notes_none`, `notes_then`, `walk_start`, `walk_step`, `walk_end`.
use Rattle.std.proofs.Common.{◌≡◌, ℕ, zero, suc, ◌+◌, ◌<◌, List, [], ◌∷◌, ◌++◌, Bool, true, false, ◌⊎◌, inl, inr}
use Rattle.std.proofs.Common.{⊎_elim, length, map, get_or, set, refl, sym, ap, ◌∙◌, subst, arith, zero-add}
use Rattle.std.proofs.Math.ListN.{replicate}
use Rattle.std.specs.List.{All, Contains, range_with_len}
use Rattle.std.specs.declared.alloc.Global.{Global}
use Rattle.std.specs.declared.vec.Vec.{Vec}
use Rattle.std.proofs.lemmas.List.{get_or-set_same, length-append, length-set, length-map, get_or-map}
use Rattle.std.proofs.lemmas.Bool.{false≢true}
use Rattle.decl_groups.specs.Groups.{plain, list_at, Uses, Reaches, here, through}
use Rattle.decl_groups.proofs.Basics.{no_member, first_member, member_cases}
use Rattle.decl_groups.specs.InOrder.{reaches, places_of, AreWithin}
use Rattle.decl_groups.proofs.Reaching.{sound, complete, joined_reaches}
use Rattle.decl_groups.proofs.Standing.{same_bool, member_append, append_member, front_member}
use Rattle.decl_groups.specs.Walk.{Marked, unmarked, Notes, IsWalk}

only_member : (x y : ℕ) → Contains (x ∷ []) y → x ≡ y
only_member x y m = ⊎_elim (λ e. e) (λ k. absurd (no_member y k)) (member_cases x y [] m)

-- ---- one place

unmarked_set : (ms : List Bool) (i : ℕ) → i < length ms → get_or ms i false ≡ false →
    suc (unmarked (set ms i true)) ≡ unmarked ms
unmarked_set [] i l e = absurd (omega arith)
unmarked_set (true ∷ ms) zero l e = absurd (false≢true (sym e))
unmarked_set (false ∷ ms) zero l e = refl
unmarked_set (true ∷ ms) (suc i) l e = unmarked_set ms i (omega arith) e
unmarked_set (false ∷ ms) (suc i) l e = ap suc (unmarked_set ms i (omega arith) e)

set_marked : (ms : List Bool) (i j : ℕ) → i < length ms → Marked ms j → Marked (set ms i true) j
set_marked [] i j l m = absurd (omega arith)
set_marked (b ∷ ms) zero zero l m = refl
set_marked (b ∷ ms) zero (suc j) l m = m
set_marked (b ∷ ms) (suc i) zero l m = m
set_marked (b ∷ ms) (suc i) (suc j) l m = set_marked ms i j (omega arith) m

set_only : (ms : List Bool) (i j : ℕ) → i < length ms → Marked (set ms i true) j → Marked ms j ⊎ (i ≡ j)
set_only [] i j l m = absurd (omega arith)
set_only (b ∷ ms) zero zero l m = inr refl
set_only (b ∷ ms) zero (suc j) l m = inl m
set_only (b ∷ ms) (suc i) zero l m = inl m
set_only (b ∷ ms) (suc i) (suc j) l m = ⊎_elim inl (λ e. inr (ap suc e)) (set_only ms i j (omega arith) m)

pub note_new : (p : ℕ) (ms : List Bool) (ws : List ℕ) → p < length ms → get_or ms p false ≡ false →
    Notes (p ∷ []) ms ws (set ms p true) (ws ++ p ∷ [])
note_new p ms ws l e = record {
  count = length-set ms p true;
  work = let u = unmarked_set ms p l e in let n = length-append ws (p ∷ []) in omega (arith, u, n);
  marked = λ i m. subst (Marked (set ms p true)) (only_member p i m) (get_or-set_same ms p true false l);
  keeps = λ i m. set_marked ms p i l m;
  only = λ i m. ⊎_elim inl (λ s. inr (subst (λ z. Contains (p ∷ []) z × Contains (ws ++ p ∷ []) z) s
      (first_member p [], append_member ws (p ∷ []) p (first_member p [])))) (set_only ms p i l m);
  stays = λ i m. front_member ws (p ∷ []) i m;
  from = λ i m. member_append ws (p ∷ []) i m;
}

pub note_old : (p : ℕ) (ms : List Bool) (ws : List ℕ) → get_or ms p false ≡ true → Notes (p ∷ []) ms ws ms ws
note_old p ms ws e = record {
  count = refl;
  work = refl;
  marked = λ i m. subst (Marked ms) (only_member p i m) e;
  keeps = λ i m. m;
  only = λ i m. inl m;
  stays = λ i m. m;
  from = λ i m. inl m;
}

-- ---- several

pub notes_none : (ms : List Bool) (ws : List ℕ) → Notes [] ms ws ms ws
notes_none ms ws = record {
  count = refl;
  work = refl;
  marked = λ i m. absurd (no_member i m);
  keeps = λ i m. m;
  only = λ i m. inl m;
  stays = λ i m. m;
  from = λ i m. inl m;
}

pub notes_then : (ps qs : List ℕ) {a c e : List Bool} {b d f : List ℕ} → Notes ps a b c d → Notes qs c d e f →
    Notes (ps ++ qs) a b e f
notes_then ps qs m n = record {
  count = n.count ∙ m.count;
  work = n.work ∙ m.work;
  marked = λ i k. ⊎_elim (λ h. n.keeps i (m.marked i h)) (n.marked i) (member_append ps qs i k);
  keeps = λ i k. n.keeps i (m.keeps i k);
  only = λ i k. ⊎_elim (λ h. ⊎_elim inl (λ g. inr (front_member ps qs i g.0, n.stays i g.1)) (m.only i h))
      (λ h. inr (append_member ps qs i h.0, h.1)) (n.only i k);
  stays = λ i k. n.stays i (m.stays i k);
  from = λ i k. ⊎_elim (λ h. ⊎_elim inl (λ g. inr (front_member ps qs i g)) (m.from i h))
      (λ h. inr (append_member ps qs i h)) (n.from i k);
}

-- ---- walks

none_marked : (n i : ℕ) → Marked (replicate n false) i → ⊥
none_marked zero i m = absurd (false≢true m)
none_marked (suc n) zero m = absurd (false≢true m)
none_marked (suc n) (suc i) m = none_marked n i m

pub walk_start : (uses : List (List ℕ)) (s : ℕ) {marks : List Bool} {ws : List ℕ} (ms : List Bool) →
    ms ≡ replicate (length uses) false → length ms ≡ length uses → Notes (s ∷ []) ms [] marks ws →
    IsWalk uses s marks ws
walk_start uses s {marks} {ws} ms e l n = record {
  count = n.count ∙ l;
  begins = n.marked s (first_member s []);
  reached = λ i m. subst (Reaches uses s) (is i m) here;
  kept = λ i m. ⊎_elim (λ h. absurd (no_member i h)) (n.marked i) (n.from i m);
  done = λ i j m u. inr (waits i m);
}
  where
    new : (i : ℕ) → Marked marks i → Contains (s ∷ []) i × Contains ws i
    new i m = ⊎_elim (λ h. absurd (none_marked (length uses) i (subst (λ z. Marked z i) e h))) (λ h. h) (n.only i m)

    is : (i : ℕ) → Marked marks i → s ≡ i
    is i m = only_member s i (new i m).0

    waits : (i : ℕ) → Marked marks i → Contains ws i
    waits i m = (new i m).1

pub walk_step : (uses : List (List ℕ)) (s p : ℕ) {marks new : List Bool} {waited rest waits : List ℕ} →
    IsWalk uses s marks waited → waited ≡ rest ++ p ∷ [] → Notes (list_at uses p) marks rest new waits →
    IsWalk uses s new waits
walk_step uses s p {marks} {new} {waited} {rest} {waits} w e n = record {
  count = n.count ∙ w.count;
  begins = n.keeps s w.begins;
  reached = λ i m. ⊎_elim (w.reached i) (λ h. joined_reaches uses p_reached (through h.0 here)) (n.only i m);
  kept = λ i m. ⊎_elim (λ h. n.keeps i (w.kept i (subst (λ z. Contains z i) (sym e) (front_member rest (p ∷ []) i
      h)))) (n.marked i) (n.from i m);
  done = λ i j m u. ⊎_elim (λ h. old i j h u) (λ h. inr h.1) (n.only i m);
}
  where
    p_marked : Marked marks p
    p_marked = w.kept p (subst (λ z. Contains z p) (sym e) (append_member rest (p ∷ []) p (first_member p [])))

    p_reached : Reaches uses s p
    p_reached = w.reached p p_marked

    old : (i j : ℕ) → Marked marks i → Uses uses i j → Marked new j ⊎ Contains waits i
    old i j m u =
        ⊎_elim (λ h. inl (n.keeps j h))
        (λ h. ⊎_elim (λ k. inr (n.stays i k)) (λ k. inl (n.marked j (subst (λ z. Uses uses z j) (sym (only_member p i
        k)) u)))
        (member_append rest (p ∷ []) i (subst (λ z. Contains z i) e h)))
        (w.done i j m u)

closed : (uses : List (List ℕ)) (s : ℕ) {marks : List Bool} → IsWalk uses s marks [] → {i j : ℕ} → Marked marks i →
    Reaches uses i j → Marked marks j
closed uses s w m here = m
closed uses s w {i} m (through {j = x} u r) = closed uses s w (⊎_elim (λ h. h) (λ h. absurd (no_member i h)) (w.done i
    x m u)) r

range_is : (marks : List Bool) (n k : ℕ) (f : ℕ → Bool) → length marks ≡ k →
    ((i : ℕ) → i < k → get_or marks i false ≡ f (n + i)) → marks ≡ map f (range_with_len n k)
range_is [] n zero f l h = refl
range_is [] n (suc k) f l h = absurd (omega arith)
range_is (b ∷ marks) n zero f l h = absurd (omega arith)
range_is (b ∷ marks) n (suc k) f l h =
    ap (λ c. c ∷ marks) (h 0 (omega arith) ∙ ap f (omega arith))
    ∙ ap (λ ms. f n ∷ ms) (range_is marks (n + 1) k f (omega arith) (λ i b. h (suc i) (omega arith)
    ∙ ap f (omega arith)))

pub walk_end : (uses : List (List ℕ)) (s : ℕ) (marks : List Bool) (ws : List ℕ) → AreWithin uses →
    IsWalk uses s marks ws → ws ≡ [] →
    marks ≡ map (reaches uses s) (places_of uses)
walk_end uses s marks ws within w e =
    range_is marks 0 (length uses) (reaches uses s) w.count (λ i l.
    same_bool (get_or marks i false) (reaches uses s i) (λ m. complete uses within s i (w.reached i m))
    (λ r. closed uses s (subst (IsWalk uses s marks) e w) w.begins (sound uses (length uses) s i r))
    ∙ ap (reaches uses s) (sym (zero-add i)))

-- ---- places

pub marked_within : (ms : List Bool) (i : ℕ) → Marked ms i → i < length ms
marked_within [] i m = absurd (false≢true m)
marked_within (b ∷ ms) zero m = omega arith
marked_within (b ∷ ms) (suc i) m = let l = marked_within ms i m in omega (arith, l)

pub row_at : (uses : List (Vec ℕ Global)) (i : ℕ) (row : Vec ℕ Global) → i < length uses → row ≡ get_or uses i row →
    list_at (plain uses) i ≡ row.items
row_at uses i row l e =
    get_or-map (λ (v : Vec ℕ Global). v.items) uses i row [] l ∙ ap (λ (v : Vec ℕ Global). v.items) (sym e)

pub row_within : (uses : List (Vec ℕ Global)) (i : ℕ) (row : Vec ℕ Global) → i < length uses → row ≡ get_or uses i row →
    All (λ v. All (λ j. j < length uses) v.items) uses → All (λ j. j < length uses) row.items
row_within uses i row l e all = subst (λ (v : Vec ℕ Global). All (λ j. j < length uses) v.items) (sym e) (all i row l)

pub popped_within : (uses : List (Vec ℕ Global)) (s p : ℕ) (marks : List Bool) (waited rest : List ℕ) →
    IsWalk (plain uses) s marks waited → waited ≡ rest ++ p ∷ [] → p < length uses
popped_within uses s p marks waited rest w e =
    let m = w.kept p (subst (λ z. Contains z p) (sym e) (append_member rest (p ∷ []) p (first_member p []))) in
    omega (arith, marked_within marks p m, w.count, length-map uses (λ (v : Vec ℕ Global). v.items))

pub none_left : (ws : List ℕ) → length ws ≡ 0 → ws ≡ []
none_left [] l = refl
none_left (w ∷ ws) l = absurd (omega arith)
