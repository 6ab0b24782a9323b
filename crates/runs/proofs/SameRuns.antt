-- Two machines whose steps follow each other have the same runs, at all inputs.
use Rattle.std.proofs.Common.{◌≡◌, ℕ, zero, suc, ◌+◌, ◌≤◌, List, [], ◌∷◌, ◌⊎◌, inl, inr, refl, sym, ◌∙◌, subst, arith}
use Rattle.wire_value.specs.Wire.{Wire}
use Rattle.runs.specs.Ends.{End, Metered, MVal, MCrashed, MOutOfFuel, with_budget}
use Rattle.runs.specs.Trace.{Crashed, OutOfFuel, Trace, Ends, Covers, cut_off, same_last, same_event, SameRun}
use Rattle.runs.specs.Trace.{IsClaimed, send_all}
use Rattle.runs.specs.Driver.{Stage, Start, Heard, Machine, go_on, at_stage, deliver, take_in, drive, begin, run}
use Rattle.runs.specs.Driver.{Nested, metered}
use Rattle.runs.specs.Pay.{pay, Run, Spends, Follows, gives, crashes, starves, unclaimed_unsafe, unclaimed_stuck}
use Rattle.runs.specs.Alike.{AllAlike, none_alike, more_alike, StageAlike, at_alike, StartAlike, wrong_flags, started}
use Rattle.runs.specs.Alike.{HeardAlike, wrong_input, heard_by, IsAlike}

-- a budget that is enough, with what is left of it
pay_left : {A : Type 0} (c m : ℕ) (t : ℕ → Metered A) → c ≤ m → (r : ℕ) × (c + r ≡ m) × (pay c m t ≡ t r)
pay_left zero m t le = (m, omega arith, refl)
pay_left (suc c) zero t le = absurd (omega arith)
pay_left (suc c) (suc m) t le = let e = pay_left c m t (omega arith) in (e.0, omega arith, e.2)

-- any budget: it is enough, with no more than it left, or runs out
pay_left_or_out : {A : Type 0} (c m : ℕ) (t : ℕ → Metered A) → (pay c m t ≡ MOutOfFuel) ⊎ ((r : ℕ) × (r ≤ m) × (pay c m t ≡ t r))
pay_left_or_out zero m t = inr (m, omega arith, refl)
pay_left_or_out (suc c) zero t = inl refl
pay_left_or_out {A} (suc c) (suc m) t = go (pay_left_or_out c m t)
  where
    go : (pay c m t ≡ MOutOfFuel) ⊎ ((r : ℕ) × (r ≤ m) × (pay c m t ≡ t r)) → (pay c m t ≡ MOutOfFuel) ⊎ ((r : ℕ) × (r ≤ suc m) × (pay c m t ≡ t r))
    go (inl e) = inl e
    go (inr e) = inr (e.0, omega arith, e.2)

-- sends claim nothing of their own
claimed_after : (sends : List (List ℕ × Wire)) (t : Trace) → IsClaimed (send_all sends t) → IsClaimed t
claimed_after [] t h = h
claimed_after (s ∷ ss) t h = claimed_after ss t h

-- the same sends, and then covered
covers_sends : (sends : List (List ℕ × Wire)) {a b : Trace} → Covers a b → Covers (send_all sends a) (send_all sends b)
covers_sends [] c = c
covers_sends (s ∷ ss) c = same_event (covers_sends ss c)

covers_sent : {sends sends' : List (List ℕ × Wire)} {a b : Trace} → sends ≡ sends' → Covers a b → Covers (send_all sends a) (send_all sends' b)
covers_sent {sends} {a = a} {b = b} e c = subst (λ l. Covers (send_all sends a) (send_all l b)) e (covers_sends sends c)

-- covered with any fuel and any units left of it, from some number on
abbrev Soon : Trace → (ℕ → ℕ → Trace) → Type 0
Soon a b = (c : ℕ) × ((m r : ℕ) → c ≤ r → r ≤ m → Covers a (b m r))

-- after a stretch
soon_after : {B : Type 0} {f : Run B} (l : ℕ → B → ℕ → Trace) (a : Trace) (t : ℕ → Metered B) → Spends f (λ _ m. t m) → Soon a (λ m r. go_on (t r) (l m)) → Soon a (λ m r. go_on (f m r) (l m))
soon_after l a t p s = (
  p.cost + s.0,
  λ m r enough within.
      let e = pay_left p.cost r t (omega arith) in
      subst (λ o. Covers a (go_on o (l m))) (sym (p.by m r within ∙ e.2)) (s.1 m e.0 (omega arith) (omega arith)),
)

-- one step, and what follows from its value
soon_on : {A B : Type 0} {S : A → B → Type 0} {n : ℕ} {o : End A} {f : Run B} (left : ℕ) (k : A → ℕ → Trace) (l : ℕ → B → ℕ → Trace) → Follows S n o f → IsClaimed (go_on (with_budget o left) k) → ((a : A) (b : B) → S a b → IsClaimed (k a left) → Soon (k a left) (λ m r. l m b r)) → Soon (go_on (with_budget o left) k) (λ m r. go_on (f m r) (l m))
soon_on left k l (gives {a} b s p) claimed more = soon_after l (k a left) (λ m. MVal b m) p (more a b s claimed)
soon_on left k l (crashes {t} p) claimed more = soon_after l (Ends (Crashed t)) (λ _. MCrashed t) p (zero, λ m r enough within. same_last)
soon_on left k l (starves h) claimed more = (zero, λ m r enough within. cut_off)
soon_on left k l unclaimed_unsafe claimed more = absurd claimed
soon_on left k l unclaimed_stuck claimed more = absurd claimed

-- the other way after a stretch, with as much fuel
back_after : {B : Type 0} {f : Run B} (l : B → ℕ → Trace) (a : Trace) (t : ℕ → Metered B) (m r : ℕ) → r ≤ m → Spends f (λ _ m. t m) → ((r' : ℕ) → r' ≤ m → Covers (go_on (t r') l) a) → Covers (go_on (f m r) l) a
back_after l a t m r within p covers = subst (λ o. Covers (go_on o l) a) (sym (p.by m r within)) (go (pay_left_or_out p.cost r t))
  where
    go : (pay p.cost r t ≡ MOutOfFuel) ⊎ ((r' : ℕ) × (r' ≤ r) × (pay p.cost r t ≡ t r')) → Covers (go_on (pay p.cost r t) l) a
    go (inl e) = subst (λ o. Covers (go_on o l) a) (sym e) cut_off
    go (inr e) = subst (λ o. Covers (go_on o l) a) (sym e.2) (covers e.0 (omega arith))

-- one step the other way, and what follows from its value
back_on : {A B : Type 0} {S : A → B → Type 0} {m : ℕ} {o : End A} {f : Run B} (left r : ℕ) (k : A → ℕ → Trace) (l : B → ℕ → Trace) → r ≤ m → Follows S m o f → IsClaimed (go_on (with_budget o left) k) → ((a : A) (b : B) (r' : ℕ) → r' ≤ m → S a b → IsClaimed (k a left) → Covers (l b r') (k a left)) → Covers (go_on (f m r) l) (go_on (with_budget o left) k)
back_on {m} left r k l within (gives {a} b s p) claimed more = back_after l (k a left) (λ m. MVal b m) m r within p (λ r' le. more a b r' le s claimed)
back_on {m} left r k l within (crashes {t} p) claimed more = back_after l (Ends (Crashed t)) (λ _. MCrashed t) m r within p (λ r' le. same_last)
back_on {m} left r k l within (starves h) claimed more = subst (λ o. Covers (go_on o l) (Ends OutOfFuel)) (sym (h m r within within)) cut_off
back_on left r k l within unclaimed_unsafe claimed more = absurd claimed
back_on left r k l within unclaimed_stuck claimed more = absurd claimed

module _ {V W : Type 0} (P R : V → W → Type 0) (nested : Nested V) (machine : Machine W) (alike : IsAlike P R nested machine) where
  -- what is sent at a stage, and what follows from its model
  soon_stage : (n : ℕ) {s : Stage V} {t : Stage W} (k : V → Trace) (l : ℕ → ℕ → W → Trace) → StageAlike R s t → IsClaimed (at_stage (metered nested) n s k) → ((v : V) (w : W) → R v w → IsClaimed (k v) → Soon (k v) (λ m r. l m r w)) → Soon (at_stage (metered nested) n s k) (λ m r. at_stage machine m t (l m r))
  soon_stage n k l (at_alike {v} {w} {sends} s e) claimed more =
      let next = more v w s (claimed_after sends (k v) claimed) in
      (next.0, λ m r enough within. covers_sent e (next.1 m r enough within))

  -- the functions that hear an input, one after the other
  soon_delivered : (n left : ℕ) {fs : List V} {gs : List W} {v p m : V} {w q k : W} (next : V → Trace) (later : ℕ → W → Trace) → AllAlike R fs gs → R v w → P p q → R m k → IsClaimed (deliver (metered nested) n fs v p m left next) → ((m : V) (k : W) → R m k → IsClaimed (next m) → Soon (next m) (λ fuel _. later fuel k)) → Soon (deliver (metered nested) n fs v p m left next) (λ fuel r. deliver machine fuel gs w q k r (later fuel))
  soon_delivered n left {m = m} {k = k} next later none_alike sv sp sm claimed more = more m k sm claimed
  soon_delivered n left {v = v} {p = p} {w = w} {q = q} next later (more_alike {vs = fs} {ws = gs} sf sfs) sv sp sm claimed more =
      soon_on
      left
      (λ stage left'. at_stage (metered nested) n stage (λ model. deliver (metered nested) n fs v p model left' next))
      (λ fuel stage r. at_stage machine fuel stage (λ model. deliver machine fuel gs w q model r (later fuel)))
      (alike.tell n sf sv sp sm)
      claimed
      (λ stage stage' s claimed'.
      soon_stage
      n
      (λ model. deliver (metered nested) n fs v p model left next)
      (λ fuel r model. deliver machine fuel gs w q model r (later fuel))
      s
      claimed'
      (λ model model' sm' claimed''. soon_delivered n left next later sfs sv sp sm' claimed'' more))

  -- an input, once it is read
  soon_taken : (n left : ℕ) (input : List ℕ × Wire) {h : Heard V} {h' : Heard W} {p m : V} {q k : W} (next : V → Trace) (later : ℕ → W → Trace) → HeardAlike R h h' → P p q → R m k → IsClaimed (take_in (metered nested) n input h p m left next) → ((m : V) (k : W) → R m k → IsClaimed (next m) → Soon (next m) (λ fuel _. later fuel k)) → Soon (take_in (metered nested) n input h p m left next) (λ fuel r. take_in machine fuel input h' q k r (later fuel))
  soon_taken n left input {m = m} {k = k} next later wrong_input sp sm claimed more =
      let after = more m k sm claimed in
      (after.0, λ fuel r enough within. same_event (after.1 fuel r enough within))
  soon_taken n left input next later (heard_by sfs sv) sp sm claimed more = soon_delivered n left next later sfs sv sp sm claimed more

  -- each input in turn
  soon_driven : (n : ℕ) (inputs : List (List ℕ × Wire)) {p m : V} {q k : W} → P p q → R m k → IsClaimed (drive (metered nested) n inputs p m) → Soon (drive (metered nested) n inputs p m) (λ fuel _. drive machine fuel inputs q k)
  soon_driven n [] sp sm claimed = (zero, λ fuel r enough within. same_last)
  soon_driven n (input ∷ inputs) {p} {m} {q} {k} sp sm claimed =
      let heard =
      soon_on
      n
      (λ heard left. take_in (metered nested) n input heard p m left (λ model. drive (metered nested) n inputs p model))
      (λ fuel heard left. take_in machine fuel input heard q k left (λ model. drive machine fuel inputs q model))
      (alike.hear n input sp sm)
      claimed
      (λ h h' s claimed'.
      soon_taken
      n
      n
      input
      (λ model. drive (metered nested) n inputs p model)
      (λ fuel model. drive machine fuel inputs q model)
      s
      sp
      sm
      claimed'
      (λ model model' sm' claimed''. soon_driven n inputs sp sm' claimed'')) in
      (heard.0, λ fuel r enough within. heard.1 fuel fuel (omega arith) (omega arith))

  -- from the start
  soon_begun : (n : ℕ) (inputs : List (List ℕ × Wire)) {s : Start V} {t : Start W} → StartAlike P R s t → IsClaimed (begin (metered nested) n s inputs) → Soon (begin (metered nested) n s inputs) (λ fuel _. begin machine fuel t inputs)
  soon_begun n inputs wrong_flags claimed = (zero, λ fuel r enough within. same_last)
  soon_begun n inputs (started {p} {q} sp s) claimed =
      soon_stage
      n
      (λ model. drive (metered nested) n inputs p model)
      (λ fuel r model. drive machine fuel inputs q model)
      s
      claimed
      (λ model model' sm claimed'. soon_driven n inputs sp sm claimed')

  -- the other way: a stage
  back_stage : (n : ℕ) {s : Stage V} {t : Stage W} (k : V → Trace) (l : W → Trace) → StageAlike R s t → IsClaimed (at_stage (metered nested) n s k) → ((v : V) (w : W) → R v w → IsClaimed (k v) → Covers (l w) (k v)) → Covers (at_stage machine n t l) (at_stage (metered nested) n s k)
  back_stage n k l (at_alike {v} {w} {sends} s e) claimed more = covers_sent (sym e) (more v w s (claimed_after sends (k v) claimed))

  -- the other way: the functions that hear an input
  back_delivered : (n left r : ℕ) {fs : List V} {gs : List W} {v p m : V} {w q k : W} (next : V → Trace) (later : W → Trace) → r ≤ n → AllAlike R fs gs → R v w → P p q → R m k → IsClaimed (deliver (metered nested) n fs v p m left next) → ((m : V) (k : W) → R m k → IsClaimed (next m) → Covers (later k) (next m)) → Covers (deliver machine n gs w q k r later) (deliver (metered nested) n fs v p m left next)
  back_delivered n left r {m = m} {k = k} next later within none_alike sv sp sm claimed more = more m k sm claimed
  back_delivered n left r {v = v} {p = p} {w = w} {q = q} next later within (more_alike {vs = fs} {ws = gs} sf sfs) sv sp sm claimed more =
      back_on
      left
      r
      (λ stage left'. at_stage (metered nested) n stage (λ model. deliver (metered nested) n fs v p model left' next))
      (λ stage r'. at_stage machine n stage (λ model. deliver machine n gs w q model r' later))
      within
      (alike.tell n sf sv sp sm)
      claimed
      (λ stage stage' r' within' s claimed'.
      back_stage
      n
      (λ model. deliver (metered nested) n fs v p model left next)
      (λ model. deliver machine n gs w q model r' later)
      s
      claimed'
      (λ model model' sm' claimed''. back_delivered n left r' next later within' sfs sv sp sm' claimed'' more))

  -- the other way: an input, once it is read
  back_taken : (n left r : ℕ) (input : List ℕ × Wire) {h : Heard V} {h' : Heard W} {p m : V} {q k : W} (next : V → Trace) (later : W → Trace) → r ≤ n → HeardAlike R h h' → P p q → R m k → IsClaimed (take_in (metered nested) n input h p m left next) → ((m : V) (k : W) → R m k → IsClaimed (next m) → Covers (later k) (next m)) → Covers (take_in machine n input h' q k r later) (take_in (metered nested) n input h p m left next)
  back_taken n left r input {m = m} {k = k} next later within wrong_input sp sm claimed more = same_event (more m k sm claimed)
  back_taken n left r input next later within (heard_by sfs sv) sp sm claimed more = back_delivered n left r next later within sfs sv sp sm claimed more

  -- the other way: each input in turn
  back_driven : (n : ℕ) (inputs : List (List ℕ × Wire)) {p m : V} {q k : W} → P p q → R m k → IsClaimed (drive (metered nested) n inputs p m) → Covers (drive machine n inputs q k) (drive (metered nested) n inputs p m)
  back_driven n [] sp sm claimed = same_last
  back_driven n (input ∷ inputs) {p} {m} {q} {k} sp sm claimed =
      back_on
      n
      n
      (λ heard left. take_in (metered nested) n input heard p m left (λ model. drive (metered nested) n inputs p model))
      (λ heard left. take_in machine n input heard q k left (λ model. drive machine n inputs q model))
      (omega arith)
      (alike.hear n input sp sm)
      claimed
      (λ h h' r within s claimed'.
      back_taken
      n
      n
      r
      input
      (λ model. drive (metered nested) n inputs p model)
      (λ model. drive machine n inputs q model)
      within
      s
      sp
      sm
      claimed'
      (λ model model' sm' claimed''. back_driven n inputs sp sm' claimed''))

  -- the other way: from the start
  back_begun : (n : ℕ) (inputs : List (List ℕ × Wire)) {s : Start V} {t : Start W} → StartAlike P R s t → IsClaimed (begin (metered nested) n s inputs) → Covers (begin machine n t inputs) (begin (metered nested) n s inputs)
  back_begun n inputs wrong_flags claimed = same_last
  back_begun n inputs (started {p} {q} sp s) claimed =
      back_stage
      n
      (λ model. drive (metered nested) n inputs p model)
      (λ model. drive machine n inputs q model)
      s
      claimed
      (λ model model' sm claimed'. back_driven n inputs sp sm claimed')

  -- the same runs, where something is claimed of the nested one at each fuel
  pub same_runs : (inputs : List (List ℕ × Wire)) → ((n : ℕ) → IsClaimed (run (metered nested) inputs n)) → SameRun (run (metered nested) inputs) (run machine inputs)
  same_runs inputs claimed = record {
    there = λ n.
        let r =
        soon_on
        n
        (λ start left. begin (metered nested) n start inputs)
        (λ fuel start left. begin machine fuel start inputs)
        (alike.start n)
        (claimed n)
        (λ s t alike' claimed'. soon_begun n inputs alike' claimed') in
        (r.0, r.1 r.0 r.0 (omega arith) (omega arith));
    back = λ n. (
      n,
      back_on
          n
          n
          (λ start left. begin (metered nested) n start inputs)
          (λ start left. begin machine n start inputs)
          (omega arith)
          (alike.start n)
          (claimed n)
          (λ s t r within alike' claimed'. back_begun n inputs alike' claimed'),
    );
  }
