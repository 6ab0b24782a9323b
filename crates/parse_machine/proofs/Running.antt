-- The machine's state, and each of its steps.
use Rattle.std.proofs.Common.{◌≡◌, ℕ, zero, suc, ◌+◌, ◌<◌, ◌≤◌, Bool, true, false, cond, List, [], ◌∷◌, ◌++◌, Option}
use Rattle.std.proofs.Common.{Some, None, ◌⊎◌, inl, inr, refl, sym, ◌∙◌, ap, subst, arith, length, nat_eq, get_or, take}
use Rattle.std.proofs.Common.{append_assoc, append-nil}
use Rattle.parse_machine.specs.declared.table.Symbol.{Symbol}
use Rattle.parse_machine.specs.declared.table.Symbol.TheVariants.{Word, Part, Line, Block}
use Rattle.parse_machine.specs.declared.table.Token.{Token}
use Rattle.parse_machine.specs.declared.table.Step.{Step}
use Rattle.parse_machine.specs.declared.table.Step.TheVariants.{Take, Read}
use Rattle.parse_machine.specs.declared.table.Rule.{Rule}
use Rattle.parse_machine.specs.declared.table.Row.{Row}
use Rattle.parse_machine.specs.declared.machine.Frame as declared
use Rattle.parse_machine.specs.Grammar.{Production, Is, Holds, Place, inside, Stands, Calls, a_part, a_line, a_block}
use Rattle.parse_machine.specs.Grammar.{Tree, Spells, IsViable, IsLongest, IsCommon, IsReading, IsRefused, steps_of}
use Rattle.parse_machine.specs.Grammar.{tokens_of}
use Rattle.parse_machine.specs.Plan.{Plan, IsPlanned, look, Opens, choice, select, Ends, Fits, Full, Ranked, IsNoWord}
use Rattle.parse_machine.specs.Plan.{WordAt}
use Rattle.parse_machine.specs.Rows.{grammar_of, plan_of, place}
use Rattle.parse_machine.specs.Stopped.{IsStop, set_aside}
use Rattle.parse_machine.proofs.Stack.{Frame, frame, Reads, finished, closed, start, spelled}
use Rattle.parse_machine.proofs.Opening.{Good, true_eq, not_eq}
use Rattle.parse_machine.proofs.Selection.{Selected, selected, selects_how, selects_none}
use Rattle.parse_machine.proofs.Reaching.{reaches}
use Rattle.parse_machine.proofs.Keeping.{Keeps, keeps_start, keeps_closed, keeps_tail, keeps_word, keeps_call}
use Rattle.parse_machine.proofs.Keeping.{like_self, Refuses, RefusesMore, refuses_call, refuses_word, refuses_more}
use Rattle.parse_machine.proofs.Keeping.{viable_by, longest_at, read_whole, read_none, steps_so_far}

abbrev pub frame_of : declared.Frame → Frame
frame_of f = frame f.rest.now f.column (place f.leading)

-- the frames, the last on top
abbrev pub tower : List declared.Frame → List Frame → List Frame
tower [] S = S
tower (f ∷ fs) S = tower fs (frame_of f ∷ S)

tower_more : (fs : List declared.Frame) (f : declared.Frame) (S : List Frame) →
    tower (fs ++ f ∷ []) S ≡ frame_of f ∷ tower fs S
tower_more [] f S = refl
tower_more (g ∷ fs) f S = tower_more fs f (frame_of g ∷ S)

abbrev pub stack_of : declared.Frame → List declared.Frame → List Frame
stack_of top below = frame_of top ∷ tower below []

-- the next token can be read
pub record Ahead (g : List Production) (ss : List Symbol) (c : ℕ) (front at : List Token) : Type 0 where
  pub token : Token
  pub more : List Token
  pub is : at ≡ token ∷ more
  pub viable : IsViable g ss c (front ++ token ∷ [])

-- the first of the steps are known from the tokens of front alone, and no others have read any
pub record Known (g : List Production) (ss : List Symbol) (c : ℕ) (front : List Token) (steps : List Step)
    (sure : ℕ) : Type 0 where
  pub known : List Step
  pub others : List Step
  pub split : steps ≡ known ++ others
  pub count : length known ≡ sure
  pub common : IsCommon g ss c front known
  pub idle : tokens_of others ≡ []

-- after front, the stack is to read what begins as at does, and nothing if nothing is left, unless the next token can
-- be read
pub record State (g : List Production) (P : Plan) (ss : List Symbol) (c : ℕ) (ts front at : List Token)
    (S : List Frame) (steps : List Step) : Type 0 where
  pub place : ts ≡ front ++ at
  pub keeps : Keeps g P (start ss c) front at S steps
  pub if_ended : Keeps g P (start ss c) front [] S steps ⊎ Ahead g ss c front at

pub record Running (rules : List Rule) (rows : List Row) (begin : List Symbol) (column : ℕ) (tokens : List Token)
    (below : List declared.Frame) (steps : List Step) (sure : ℕ) (top : declared.Frame) (at : List Token) : Type 0 where
  pub front : List Token
  pub state : State (grammar_of rules) (plan_of rows) begin column tokens front at (stack_of top below) steps
  pub known : Known (grammar_of rules) begin column front steps sure

-- ---- how much is left to do before the next token is read

may_vanish : Plan → Symbol → Bool
may_vanish P (Part n) = some (P.empty n)
  where
    some : Option ℕ → Bool
    some (Some p) = true
    some None = false
may_vanish P s = false

rank_of : Plan → Symbol → ℕ
rank_of P (Word k) = 0
rank_of P (Part n) = suc (P.rank n)
rank_of P (Line n) = suc (P.rank n)
rank_of P (Block n) = suc (P.rank n)

weight_of : Plan → List Symbol → ℕ
weight_of P [] = 0
weight_of P (s ∷ ss) = 2 + rank_of P s + weight_of P ss

weight : Plan → List Frame → ℕ
weight P [] = 0
weight P (frame ss c m ∷ S) = 1 + weight_of P ss + weight P S

pub measure : Plan → List Frame → ℕ
measure P [] = 0
measure P (frame [] c m ∷ S) = weight P (frame [] c m ∷ S)
measure P (frame (s ∷ ss) c m ∷ S) = cond (may_vanish P s) (weight P (frame (s ∷ ss) c m ∷ S)) (1 + rank_of P s)

measure-weight : (P : Plan) (S : List Frame) → measure P S ≤ weight P S
unfolding measure weight weight_of
measure-weight P [] = omega arith
measure-weight P (frame [] c m ∷ S) = omega arith
measure-weight P (frame (s ∷ ss) c m ∷ S) = go (may_vanish P s)
  where
    go : (b : Bool) → cond b (1 + (2 + rank_of P s + weight_of P ss) + weight P S)
        (1 + rank_of P s) ≤ 1 + (2 + rank_of P s + weight_of P ss) + weight P S
    go true = omega arith
    go false = omega arith

measure_closed : (P : Plan) (c : ℕ) (m : Place) (S : List Frame) → measure P S < measure P (frame [] c m ∷ S)
unfolding measure weight weight_of
measure_closed P c m S = let h = measure-weight P S in omega arith

full_stays : (P : Plan) (s : Symbol) → Full P s → may_vanish P s ≡ false
unfolding may_vanish
full_stays P (Word k) f = refl
full_stays P (Part n) f = rw f refl
full_stays P (Line n) f = refl
full_stays P (Block n) f = refl

ranked : (P : Plan) (h : ℕ) (s : Symbol) → Ranked P h s → rank_of P s < suc h
unfolding rank_of
ranked P h (Word k) r = omega arith
ranked P h (Part n) r = omega arith
ranked P h (Line n) r = omega arith
ranked P h (Block n) r = omega arith

rank_asked : (P : Plan) {m l : Place} {c b n : ℕ} {s : Symbol} → Calls m c s n l b → rank_of P s ≡ suc (P.rank n)
unfolding rank_of
rank_asked P a_part = refl
rank_asked P a_line = refl
rank_asked P (a_block w) = refl

more_than : (b : Bool) (x y r : ℕ) → r < y → y ≤ x → r < cond b x y
more_than true x y r h k = omega arith
more_than false x y r h k = h

-- a call that takes nothing leaves less, and so does one that takes something
pub measure_call : (g : List Production) (P : Plan) → IsPlanned g P → {m l : Place} {c b n : ℕ} {s : Symbol} →
    (p : ℕ) (r ss : List Symbol) (S : List Frame) → Fits g P s →
    Calls m c s n l b → Is g p n r →
    measure P (frame r b l ∷ frame ss c inside ∷ S) < measure P (frame (s ∷ ss) c m ∷ S)
unfolding measure weight weight_of may_vanish rank_of
measure_call g P C {n = n} p [] ss S f a_part i = rw (C.vanishing p n i) (omega arith)
measure_call g P C {n = n} p [] ss S f a_line i = absurd (let e = C.vanishing p n i in let h = f.2 in cc)
measure_call g P C {n = n} p [] ss S f (a_block w) i = absurd (let e = C.vanishing p n i in let h = f.1 in cc)
measure_call g P C {n = n} {s = s} p (s2 ∷ r) ss S f k i =
    let e = full_stays P s2 (C.firm p n s2 r i) in
    let q = rank_asked P k in
    rw e (more_than (may_vanish P s) _ (1 + rank_of P s) (1 + rank_of P s2) (let h =
    ranked P (P.rank n) s2 (C.falling p n s2 r i) in omega arith) (omega arith))

measure_tail : (P : Plan) (ss : List Symbol) (b c : ℕ) (l m : Place) (S : List Frame) →
    measure P (frame ss b l ∷ S) ≤ measure P (frame ss b l ∷ frame [] c m ∷ S)
unfolding measure weight weight_of
measure_tail P [] b c l m S = omega arith
measure_tail P (s ∷ ss) b c l m S = go (may_vanish P s)
  where
    go : (v : Bool) → cond v (1 + (2 + rank_of P s + weight_of P ss) + weight P S)
        (1 + rank_of P s) ≤ cond v (1 + (2 + rank_of P s + weight_of P ss) + (1 + 0 + weight P S)) (1 + rank_of P s)
    go true = omega arith
    go false = omega arith

-- ---- the table

in_rules : (rs : List Rule) (p n : ℕ) (r : List Symbol) → Is (grammar_of rs) p n r → p < length rs
in_rules [] p n r i = absurd cc
in_rules (x ∷ rs) zero n r i = omega arith
in_rules (x ∷ rs) (suc p) n r i = let h = in_rules rs p n r i in omega arith

right_is : (rs : List Rule) (d : Rule) (p n : ℕ) (r : List Symbol) → Is (grammar_of rs) p n r →
    (get_or rs p d).right.now ≡ r
right_is [] d p n r i = absurd cc
right_is (x ∷ rs) d zero n r i = cc
right_is (x ∷ rs) d (suc p) n r i = right_is rs d p n r i

-- ---- the stack, where a frame in which nothing is left is not put on it

abbrev aside : Frame → List Frame → List Frame
aside (frame [] c m) S = S
aside (frame (s ∷ ss) c m) S = frame (s ∷ ss) c m ∷ S

tower_aside : (f : declared.Frame) (below : List declared.Frame) →
    tower (set_aside f below) [] ≡ aside (frame_of f) (tower below [])
tower_aside f below = go f.rest.now refl
  where
    go : (r : List Symbol) → f.rest.now ≡ r →
        tower (cond (nat_eq (length f.rest.now) 0) below (below ++ f ∷ [])) []
        ≡ aside (frame f.rest.now f.column (place f.leading)) (tower below [])
    go [] q =
        (let w : nat_eq (length f.rest.now) 0 ≡ true = true_eq (length f.rest.now) 0 (ap length q) in
        ap (λ z. tower (cond z below (below ++ f ∷ [])) []) w ∙ ap
        (λ z. aside (frame z f.column (place f.leading)) (tower below [])) (sym q))
    go (s ∷ ss) q =
        (let e : length f.rest.now ≡ suc (length ss) = ap length q in
        let w : nat_eq (length f.rest.now) 0 ≡ false = not_eq (length f.rest.now) 0 (λ z. omega arith) in
        let v : frame_of f ≡ frame (s ∷ ss) f.column (place f.leading) =
        ap (λ z. frame z f.column (place f.leading)) q in
        ap (λ z. tower (cond z below (below ++ f ∷ [])) []) w ∙
        (tower_more below f [] ∙
        (ap (λ z. z ∷ tower below []) v ∙ ap (λ z. aside (frame z f.column (place f.leading)) (tower below []))
        (sym q))))

keeps_aside : (g : List Production) (P : Plan) (K : List Frame) (front at : List Token) (r ss : List Symbol) (b c : ℕ)
    (l m : Place) (S : List Frame) (out : List Step) →
    Keeps g P K front at (frame r b l ∷ frame ss c m ∷ S) out →
    Keeps g P K front at (frame r b l ∷ aside (frame ss c m) S) out
keeps_aside g P K front at r [] b c l m S out k = keeps_tail g P K front at r b c l m S out k
keeps_aside g P K front at r (s ∷ ss) b c l m S out k = k

measure_aside : (P : Plan) (r ss : List Symbol) (b c : ℕ) (l m : Place) (S : List Frame) →
    measure P (frame r b l ∷ aside (frame ss c m) S) ≤ measure P (frame r b l ∷ frame ss c m ∷ S)
measure_aside P r [] b c l m S = measure_tail P r b c l m S
measure_aside P r (s ∷ ss) b c l m S = omega arith

-- ---- what is known of the steps

tokens_append : (xs ys : List Step) → tokens_of (xs ++ ys) ≡ tokens_of xs ++ tokens_of ys
tokens_append [] ys = refl
tokens_append (Read t ∷ xs) ys = ap (λ z. t ∷ z) (tokens_append xs ys)
tokens_append (Take p ∷ xs) ys = tokens_append xs ys

take_known : (xs ys : List Step) → take (length xs) (xs ++ ys) ≡ xs
take_known [] ys = refl
take_known (x ∷ xs) ys = ap (λ z. x ∷ z) (take_known xs ys)

known_start : (g : List Production) (ss : List Symbol) (c : ℕ) → Known g ss c [] [] 0
known_start g ss c = record {
  known = [];
  others = [];
  split = refl;
  count = refl;
  common = record { tokens = refl; begins = λ x more s. (steps_of x, refl) };
  idle = refl;
}

known_take : (g : List Production) (ss : List Symbol) (c : ℕ) (front : List Token) (steps : List Step) (sure p : ℕ) →
    Known g ss c front steps sure → Known g ss c front (steps ++ Take p ∷ []) sure
known_take g ss c front steps sure p k = record {
  known = k.known;
  others = k.others ++ Take p ∷ [];
  split = ap (λ z. z ++ Take p ∷ []) k.split ∙ append_assoc k.known k.others (Take p ∷ []);
  count = k.count;
  common = k.common;
  idle = tokens_append k.others (Take p ∷ []) ∙ (append-nil (tokens_of k.others) ∙ k.idle);
}

tokens_known : (g : List Production) (ss : List Symbol) (c : ℕ) (front : List Token) (steps : List Step) (sure : ℕ) →
    Known g ss c front steps sure → tokens_of steps ≡ front
tokens_known g ss c front steps sure k =
    ap tokens_of k.split ∙
    (tokens_append k.known k.others ∙
    (ap (λ z. tokens_of k.known ++ z) k.idle ∙ (append-nil (tokens_of k.known) ∙ k.common.tokens)))

-- all steps are known where each derivation that goes on after front begins with them
known_read : (g : List Production) (P : Plan) (ss : List Symbol) (c : ℕ) (front : List Token) (t : Token)
    (S : List Frame) (steps : List Step) (sure : ℕ) → tokens_of steps ≡ front →
    ((at : List Token) → Keeps g P (start ss c) (front ++ t ∷ []) at S (steps ++ Read t ∷ [])) →
    sure ≡ length (steps ++ Read t ∷ []) → Known g ss c (front ++ t ∷ []) (steps ++ Read t ∷ []) sure
known_read g P ss c front t S steps sure e k n = record {
  known = steps ++ Read t ∷ [];
  others = [];
  split = sym (append-nil (steps ++ Read t ∷ []));
  count = sym n;
  common =
      record {
        tokens = tokens_append steps (Read t ∷ []) ∙ ap (λ z. z ++ t ∷ []) e;
        begins = λ x more s. steps_so_far g P ss c (front ++ t ∷ []) more S (steps ++ Read t ∷ []) (k more) x more
            (like_self more) s;
      };
  idle = refl;
}

known_common : (g : List Production) (ss : List Symbol) (c : ℕ) (front : List Token) (steps : List Step) (sure : ℕ) →
    Known g ss c front steps sure → IsCommon g ss c front (take sure steps)
known_common g ss c front steps sure k =
    let e : k.known ≡ take sure steps =
    sym (take_known k.known k.others) ∙
    (ap (λ z. take z (k.known ++ k.others)) k.count ∙ ap (λ z. take sure z) (sym k.split)) in
    subst (λ z. IsCommon g ss c front z) e k.common

-- ---- the state

no_more_there : (g : List Production) (c : ℕ) (xs : List Tree) (t : Token) (ts us : List Token) →
    Reads g (frame [] c inside ∷ []) xs us → us ≡ t ∷ ts → ⊥
no_more_there g c _ t ts us (closed finished) e = cc

good_start : (g : List Production) (P : Plan) (n c : ℕ) → Ends g P n → Good g P (start (Part n ∷ []) c)
good_start g P n c e = (tt, (e, (λ xs t ts d. absurd (no_more_there g c xs t ts (t ∷ ts) d refl)), tt), tt)

state_start : (g : List Production) (P : Plan) (n c : ℕ) (ts : List Token) → Ends g P n →
    State g P (Part n ∷ []) c ts [] ts (start (Part n ∷ []) c) []
state_start g P n c ts e = record {
  place = refl;
  keeps = keeps_start g P (Part n ∷ []) c (good_start g P n c e) ts;
  if_ended = inl (keeps_start g P (Part n ∷ []) c (good_start g P n c e) []);
}

pub running_start : (rules : List Rule) (rows : List Row) (ss : List Symbol) (c n : ℕ) (ts : List Token)
    (top : declared.Frame) (below : List declared.Frame) (steps : List Step) →
    Ends (grammar_of rules) (plan_of rows) n →
    ss ≡ Part n ∷ [] → frame_of top ≡ frame ss c inside → below ≡ [] → steps ≡ [] →
    Running rules rows ss c ts below steps 0 top ts
running_start rules rows ss c n ts top below steps e q f b s =
    let g = grammar_of rules in
    let P = plan_of rows in
    let one : start ss c ≡ stack_of top below = rw (f, b) refl in
    let h : State g P ss c ts [] ts (start ss c) [] =
    subst (λ z. State g P z c ts [] ts (start z c) []) (sym q) (state_start g P n c ts e) in
    record {
      front = [];
      state = subst (λ z. State g P ss c ts [] ts (stack_of top below) z) (sym s)
          (subst (λ z. State g P ss c ts [] ts z []) one h);
      known = subst (λ z. Known g ss c [] z 0) (sym s) (known_start g ss c);
    }

state_closed : (g : List Production) (P : Plan) (ss : List Symbol) (e : ℕ) (ts front at : List Token) (c : ℕ)
    (m : Place) (S : List Frame) (out : List Step) → State g P ss e ts front at (frame [] c m ∷ S) out →
    State g P ss e ts front at S out
state_closed g P ss e ts front at c m S out r = record {
  place = r.place;
  keeps = keeps_closed g P (start ss e) front at c m S out r.keeps;
  if_ended = elim r.if_ended [ inl k ↦ inl (keeps_closed g P (start ss e) front [] c m S out k) | inr a ↦ inr a ];
}

stack_closed : (top f : declared.Frame) (below less : List declared.Frame) → top.rest.now ≡ [] →
    below ≡ less ++ f ∷ [] → stack_of top below ≡ frame [] top.column (place top.leading) ∷ stack_of f less
stack_closed top f below less e b = rw (e, b, tower_more less f []) refl

-- the state with its stack written out
over_stack : {rules : List Rule} {rows : List Row} {ss : List Symbol} {c : ℕ} {tokens : List Token}
    {below : List declared.Frame} {steps : List Step} {sure : ℕ} {top : declared.Frame} {at : List Token} →
    (r : Running rules rows ss c tokens below steps sure top at) (S : List Frame) → stack_of top below ≡ S →
    State (grammar_of rules) (plan_of rows) ss c tokens r.front at S steps
over_stack {rules = rules} {rows = rows} {ss = ss} {c = c} {tokens = tokens} {steps = steps} {at = at} r S e =
    subst (λ z. State (grammar_of rules) (plan_of rows) ss c tokens r.front at z steps) e r.state

pub running_closed : {rules : List Rule} {rows : List Row} {ss : List Symbol} {c : ℕ} {tokens : List Token}
    {below : List declared.Frame} {steps : List Step} {sure : ℕ} {top : declared.Frame} {at : List Token} →
    Running rules rows ss c tokens below steps sure top at → (f : declared.Frame) (less : List declared.Frame) →
    top.rest.now ≡ [] → below ≡ less ++ f ∷ [] → Running rules rows ss c tokens less steps sure f at
running_closed {rules = rules} {rows = rows} {ss = ss} {c = c} {tokens = tokens} {below = below} {steps =
    steps} {top = top} {at = at} r f less e b = record {
      front = r.front;
      state = state_closed (grammar_of rules) (plan_of rows) ss c tokens r.front at top.column (place top.leading)
          (stack_of f less) steps (over_stack r _ (stack_closed top f below less e b));
      known = r.known;
    }

pub less_closed : (rows : List Row) (top f : declared.Frame) (below less : List declared.Frame) → top.rest.now ≡ [] →
    below ≡ less ++ f ∷ [] → measure (plan_of rows) (stack_of f less) < measure (plan_of rows) (stack_of top below)
less_closed rows top f below less e b =
    rw (stack_closed top f below less e b)
    (measure_closed (plan_of rows) top.column (place top.leading) (stack_of f less))

stack_open : (top : declared.Frame) (below : List declared.Frame) (ss : List Symbol) → top.rest.now ≡ ss →
    stack_of top below ≡ frame ss top.column (place top.leading) ∷ tower below []
stack_open top below ss e = rw e refl

state_word : (g : List Production) (P : Plan) (ask : List Symbol) (e : ℕ) (ts front rest : List Token) (t : Token)
    (c set : ℕ) (m : Place) (ss : List Symbol) (S : List Frame) (out : List Step) → Holds set t.class → Stands m c t →
    State g P ask e ts front (t ∷ rest) (frame (Word set ∷ ss) c m ∷ S) out →
    State g P ask e ts (front ++ t ∷ []) rest (frame ss c inside ∷ S) (out ++ Read t ∷ [])
state_word g P ask e ts front rest t c set m ss S out h st r = record {
  place = r.place ∙ sym (append_assoc front (t ∷ []) rest);
  keeps = keeps_word g P (start ask e) front rest t c set m ss S out h st r.keeps rest;
  if_ended = inl (keeps_word g P (start ask e) front rest t c set m ss S out h st r.keeps []);
}

pub running_word : {rules : List Rule} {rows : List Row} {ask : List Symbol} {e : ℕ} {tokens : List Token}
    {below : List declared.Frame} {steps : List Step} {sure : ℕ} {top : declared.Frame} {at : List Token} →
    Running rules rows ask e tokens below steps sure top at →
    (s : Symbol) (ss : List Symbol) (k : ℕ) (t : Token) (rest : List Token) → top.rest.now ≡ s ∷ ss → s ≡ Word k →
    WordAt (place top.leading) top.column k at t rest →
    (f : declared.Frame) (further : List Step) (surer : ℕ) → frame_of f ≡ frame ss top.column inside →
    further ≡ steps ++ Read t ∷ [] → surer ≡ length further →
    Running rules rows ask e tokens below further surer f rest
running_word {rules = rules} {rows = rows} {ask = ask} {e = e} {tokens = tokens} {below = below} {steps =
    steps} {sure = sure} {top = top} {at = at} r s ss k t rest q w h f further surer same z n =
    let g = grammar_of rules in
    let P = plan_of rows in
    let S = tower below [] in
    let m = place top.leading in
    let a : State g P ask e tokens r.front at (frame (Word k ∷ ss) top.column m ∷ S) steps =
    over_stack r _ (stack_open top below (Word k ∷ ss) (q ∙ ap (λ z. z ∷ ss) w)) in
    let b : State g P ask e tokens r.front (t ∷ rest) (frame (Word k ∷ ss) top.column m ∷ S) steps =
    subst (λ z. State g P ask e tokens r.front z (frame (Word k ∷ ss) top.column m ∷ S) steps) h.0 a in
    let d : State g P ask e tokens (r.front ++ t ∷ []) rest (frame ss top.column inside ∷ S) (steps ++ Read t ∷ []) =
    state_word g P ask e tokens r.front rest t top.column k m ss S steps h.1 h.2 b in
    let known : Known g ask e (r.front ++ t ∷ []) (steps ++ Read t ∷ []) surer =
    known_read g P ask e r.front t (frame ss top.column inside ∷ S) steps surer
    (tokens_known g ask e r.front steps sure r.known)
    (keeps_word g P (start ask e) r.front rest t top.column k m ss S steps h.1 h.2 b.keeps) (n ∙ ap length z) in
    record {
      front = r.front ++ t ∷ [];
      state = subst (λ y. State g P ask e tokens (r.front ++ t ∷ []) rest (stack_of f below) y) (sym z)
          (subst (λ z. State g P ask e tokens (r.front ++ t ∷ []) rest (z ∷ S) (steps ++ Read t ∷ [])) (sym same) d);
      known = subst (λ y. Known g ask e (r.front ++ t ∷ []) y surer) (sym z) known;
    }

-- ---- a call

-- what the selection names
pub choice_stands : (rules : List Rule) (rows : List Row) (top : declared.Frame) (at : List Token) →
    IsPlanned (grammar_of rules) (plan_of rows) →
    (s : Symbol) (p b : ℕ) (l : Place) →
    Some (choice p l b) ≡ select (plan_of rows) s (place top.leading) top.column at →
    Selected (grammar_of rules) s (place top.leading) top.column p l b
choice_stands rules rows top at C s p b l e =
    selected (grammar_of rules) (plan_of rows) C s (place top.leading) top.column at p l b (sym e)

pub choice_in : (rules : List Rule) (rows : List Row) (top : declared.Frame) (at : List Token) →
    IsPlanned (grammar_of rules) (plan_of rows) →
    (s : Symbol) (p b : ℕ) (l : Place) →
    Some (choice p l b) ≡ select (plan_of rows) s (place top.leading) top.column at → p < length rules
choice_in rules rows top at C s p b l e =
    let x = choice_stands rules rows top at C s p b l e in
    in_rules rules p x.asked x.right x.is

-- the symbol opens with the next token, which can therefore be read
ahead : (g : List Production) (P : Plan) → IsPlanned g P →
    (ask : List Symbol) (e : ℕ) (front at : List Token) (t : Token) (more : List Token) (m : Place) (c : ℕ)
    (s : Symbol) (ss : List Symbol) (S : List Frame) (out : List Step) →
    at ≡ t ∷ more → Opens P s (look m c t) → Keeps g P (start ask e) front at (frame (s ∷ ss) c m ∷ S) out →
    Ahead g ask e front at
ahead g P C ask e front at t more m c s ss S out q o k =
    let b = reaches g P C s m c ss S t k.good o in
    record {
      token = t;
      more = more;
      is = q;
      viable = (
        k.grow b.trees,
        b.more,
        subst (λ z. Spells g ask e (k.grow b.trees) z)
            (sym (append_assoc front (t ∷ []) b.more)) (spelled (k.sound b.trees (t ∷ b.more) b.reads)),
      );
    }

state_call : (g : List Production) (P : Plan) → IsPlanned g P →
    (ask : List Symbol) (e : ℕ) (ts front at : List Token) (m l : Place) (c b p : ℕ) (s : Symbol) (ss : List Symbol)
    (S : List Frame) (out : List Step) → IsNoWord s →
    select P s m c at ≡ Some (choice p l b) → (i : Selected g s m c p l b) →
    State g P ask e ts front at (frame (s ∷ ss) c m ∷ S) out →
    State g P ask e ts front at (frame i.right b l ∷ aside (frame ss c inside) S) (out ++ Take p ∷ [])
state_call g P C ask e ts front at m l c b p s ss S out w q i r = record {
  place = r.place;
  keeps = called at q r.keeps;
  if_ended = elim r.if_ended [
    | inl k ↦ elim (selects_how P s m c at p l b q) [
      | inl v ↦ inl (called [] v k)
      | inr v ↦ inr
          (ahead g P C ask e front at v.0 v.1 m c s ss S out v.2 v.3 r.keeps)
    ]
    | inr a ↦ inr a
  ];
}
  where
    called : (us : List Token) → select P s m c us ≡ Some (choice p l b) →
        Keeps g P (start ask e) front us (frame (s ∷ ss) c m ∷ S) out →
        Keeps g P (start ask e) front us (frame i.right b l ∷ aside (frame ss c inside) S) (out ++ Take p ∷ [])
    called us v k =
        keeps_aside g P (start ask e) front us i.right ss b c l inside S (out ++ Take p ∷ [])
        (keeps_call g P C (start ask e) front us m l c b p s ss S out w v i k)

-- the stack after a call
stack_call : (rules : List Rule) (d : Rule) (s : Symbol) (ss : List Symbol) (m l : Place) (c p b : ℕ)
    (x : Selected (grammar_of rules) s m c p l b) (under : declared.Frame) (below more : List declared.Frame) →
    frame_of under ≡ frame ss c inside → more ≡ set_aside under below →
    frame (get_or rules p d).right.now b l ∷ tower more [] ≡ frame x.right b l ∷ aside (frame ss c inside)
    (tower below [])
stack_call rules d s ss m l c p b x under below more u w =
    let q : (get_or rules p d).right.now ≡ x.right = right_is rules d p x.asked x.right x.is in
    let tail : tower more [] ≡ aside (frame ss c inside) (tower below []) =
    ap (λ z. tower z []) w ∙ (tower_aside under below ∙ ap (λ z. aside z (tower below [])) u) in
    ap (λ z. frame z b l ∷ tower more []) q ∙ ap (λ z. frame x.right b l ∷ z) tail

pub running_call : {rules : List Rule} {rows : List Row} {ask : List Symbol} {e : ℕ} {tokens : List Token}
    {below : List declared.Frame} {steps : List Step} {sure : ℕ} {top : declared.Frame} {at : List Token} →
    Running rules rows ask e tokens below steps sure top at → IsPlanned (grammar_of rules) (plan_of rows) →
    (s : Symbol) (ss : List Symbol) → top.rest.now ≡ s ∷ ss → IsNoWord s → (p b : ℕ) (l : Place) →
    Some (choice p l b) ≡ select (plan_of rows) s (place top.leading) top.column at →
    (d : Rule) (f under : declared.Frame) (more : List declared.Frame) (further : List Step) →
    frame_of under ≡ frame ss top.column inside → frame_of f ≡ frame (get_or rules p d).right.now b l →
    more ≡ set_aside under below → further ≡ steps ++ Take p ∷ [] →
    Running rules rows ask e tokens more further sure f at
running_call {rules = rules} {rows = rows} {ask = ask} {e = e} {tokens = tokens} {below = below} {steps =
    steps} {sure = sure} {top = top} {at = at} r C s ss o w p b l q d f under more further u same v z =
    let x = choice_stands rules rows top at C s p b l q in
    let g = grammar_of rules in
    let P = plan_of rows in
    let a : State g P ask e tokens r.front at (frame (s ∷ ss) top.column (place top.leading) ∷ tower below []) steps =
    over_stack r _ (stack_open top below (s ∷ ss) o) in
    let k = state_call g P C ask e tokens r.front at (place top.leading) l top.column b p s ss
    (tower below []) steps w (sym q) x a in
    let st : stack_of f more ≡ frame x.right b l ∷ aside (frame ss top.column inside) (tower below []) =
    ap (λ z. z ∷ tower more []) same ∙ stack_call rules d s ss
    (place top.leading) l top.column p b x under below more u v in
    record {
      front = r.front;
      state = subst (λ y. State g P ask e tokens r.front at (stack_of f more) y) (sym z)
          (subst (λ y. State g P ask e tokens r.front at y (steps ++ Take p ∷ [])) (sym st) k);
      known = subst (λ y. Known g ask e r.front y sure) (sym z) (known_take g ask e r.front steps sure p r.known);
    }

less_by : (a b c d e : ℕ) → a ≡ b → b ≤ c → c < d → e ≡ d → a < e
less_by a b c d e p q r s = omega arith

pub less_call : {rules : List Rule} {rows : List Row} {ask : List Symbol} {e : ℕ} {tokens : List Token}
    {below : List declared.Frame} {steps : List Step} {sure : ℕ} {top : declared.Frame} {at : List Token} →
    Running rules rows ask e tokens below steps sure top at → IsPlanned (grammar_of rules) (plan_of rows) →
    (s : Symbol) (ss : List Symbol) → top.rest.now ≡ s ∷ ss → (p b : ℕ) (l : Place) →
    Some (choice p l b) ≡ select (plan_of rows) s (place top.leading) top.column at →
    (d : Rule) (under : declared.Frame) (more : List declared.Frame) →
    frame_of under ≡ frame ss top.column inside → more ≡ set_aside under below →
    measure (plan_of rows) (frame (get_or rules p d).right.now b l ∷ tower more []) < measure (plan_of rows)
    (stack_of top below)
less_call {rules = rules} {rows = rows} {ask = ask} {e = e} {tokens = tokens} {below = below} {steps = steps} {top =
    top} {at = at} r C s ss o p b l q d under more u v =
    let x = choice_stands rules rows top at C s p b l q in
    let a : State (grammar_of rules) (plan_of rows) ask e tokens r.front at
    (frame (s ∷ ss) top.column (place top.leading) ∷ tower below []) steps = over_stack r _
    (stack_open top below (s ∷ ss) o) in
    let h = measure_call (grammar_of rules) (plan_of rows) C p x.right ss
    (tower below []) a.keeps.good.1.0 x.calls x.is in
    let t = measure_aside (plan_of rows) x.right ss b top.column l inside (tower below []) in
    let one =
    ap (measure (plan_of rows))
    (stack_call rules d s ss (place top.leading) l top.column p b x under below more u v) in
    let two = ap (measure (plan_of rows)) (stack_open top below (s ∷ ss) o) in
    less_by _ _ _ _ _ one t h two

-- ---- the end

-- the machine stops where the stack refuses the next token; it refuses also that nothing is left
stop_refused : (g : List Production) (P : Plan) → IsPlanned g P →
    (ask : List Symbol) (e : ℕ) (ts front at : List Token) (S : List Frame) (steps : List Step) (sure : ℕ) →
    State g P ask e ts front at S steps → Known g ask e front steps sure →
    RefusesMore g S at → Refuses g S [] → IsStop g ask e ts steps sure at false
stop_refused g P C ask e ts front at S steps sure r k more none =
    let longest = longest_at g P C ask e ts front at S steps r.place r.keeps more in
    record {
      front = front;
      longest = longest;
      common = known_common g ask e front steps sure k;
      ended = elim r.if_ended [
        | inl z ↦ read_none g P ask e front S steps z none
        | inr a ↦ absurd
            (longest.no_further a.token a.more a.is a.viable)
      ];
    }

stop_whole : (g : List Production) (P : Plan) → IsPlanned g P →
    (ask : List Symbol) (e : ℕ) (ts front at : List Token) (steps : List Step) (sure : ℕ) →
    State g P ask e ts front at [] steps → Known g ask e front steps sure →
    IsStop g ask e ts steps sure at true
stop_whole g P C ask e ts front at steps sure r k =
    let more : RefusesMore g [] at = λ t us q. subst (λ z. Refuses g [] z) (sym q) (refuses_more g t us) in
    let longest = longest_at g P C ask e ts front at [] steps r.place r.keeps more in
    record {
      front = front;
      longest = longest;
      common = known_common g ask e front steps sure k;
      ended = elim r.if_ended [
        | inl z ↦ read_whole g P ask e front steps z
        | inr a ↦ absurd
            (longest.no_further a.token a.more a.is a.viable)
      ];
    }

pub whole_stop : {rules : List Rule} {rows : List Row} {ask : List Symbol} {e : ℕ} {tokens : List Token}
    {below : List declared.Frame} {steps : List Step} {sure : ℕ} {top : declared.Frame} {at : List Token} →
    Running rules rows ask e tokens below steps sure top at → IsPlanned (grammar_of rules) (plan_of rows) →
    top.rest.now ≡ [] → below ≡ [] → IsStop (grammar_of rules) ask e tokens steps sure at true
whole_stop {rules = rules} {rows = rows} {ask = ask} {e = e} {tokens = tokens} {below = below} {steps = steps} {sure =
    sure} {top = top} {at = at} r C q b =
    let g = grammar_of rules in
    let P = plan_of rows in
    let k = state_closed g P ask e tokens r.front at top.column (place top.leading) [] steps
    (over_stack r _
    (stack_open top below [] q ∙ ap (λ z. frame [] top.column (place top.leading) ∷ tower z []) b)) in
    stop_whole g P C ask e tokens r.front at steps sure k r.known

pub word_stop : {rules : List Rule} {rows : List Row} {ask : List Symbol} {e : ℕ} {tokens : List Token}
    {below : List declared.Frame} {steps : List Step} {sure : ℕ} {top : declared.Frame} {at : List Token} →
    Running rules rows ask e tokens below steps sure top at → IsPlanned (grammar_of rules) (plan_of rows) →
    (s : Symbol) (ss : List Symbol) (k : ℕ) → top.rest.now ≡ s ∷ ss → s ≡ Word k →
    ((t : Token) (rest : List Token) → WordAt (place top.leading) top.column k at t rest → ⊥) →
    IsStop (grammar_of rules) ask e tokens steps sure at false
word_stop {rules = rules} {rows = rows} {ask = ask} {e = e} {tokens = tokens} {below = below} {steps = steps} {sure =
    sure} {top = top} {at = at} r C s ss k q w h =
    let g = grammar_of rules in
    let m = place top.leading in
    let S = tower below [] in
    let here = refuses_word g m top.column k ss S at (λ t ts v i st. h t ts (v, i, st)) in
    stop_refused g (plan_of rows) C ask e tokens r.front at (frame (Word k ∷ ss) top.column m ∷ S) steps sure
    (over_stack r (frame (Word k ∷ ss) top.column m ∷ S) (stack_open top below (Word k ∷ ss) (q ∙ ap (λ z. z ∷ ss) w)))
    r.known
    (λ t more v. here)
    (refuses_word g m top.column k ss S [] (λ t ts v i st. cc))

pub call_stop : {rules : List Rule} {rows : List Row} {ask : List Symbol} {e : ℕ} {tokens : List Token}
    {below : List declared.Frame} {steps : List Step} {sure : ℕ} {top : declared.Frame} {at : List Token} →
    Running rules rows ask e tokens below steps sure top at → IsPlanned (grammar_of rules) (plan_of rows) →
    (s : Symbol) (ss : List Symbol) → top.rest.now ≡ s ∷ ss → IsNoWord s →
    None ≡ select (plan_of rows) s (place top.leading) top.column at →
    IsStop (grammar_of rules) ask e tokens steps sure at false
call_stop {rules = rules} {rows = rows} {ask = ask} {e = e} {tokens = tokens} {below = below} {steps = steps} {sure =
    sure} {top = top} {at = at} r C s ss q w n =
    let g = grammar_of rules in
    let P = plan_of rows in
    let m = place top.leading in
    let S = tower below [] in
    let k : State g P ask e tokens r.front at (frame (s ∷ ss) top.column m ∷ S) steps =
    over_stack r _ (stack_open top below (s ∷ ss) q) in
    let here = refuses_call g P C at m top.column s ss S w k.keeps.good (sym n) in
    stop_refused g P C ask e tokens r.front at (frame (s ∷ ss) top.column m ∷ S) steps sure k r.known
    (λ t more v. here)
    (refuses_call g P C [] m top.column s ss S w k.keeps.good (selects_none P s m top.column at (sym n)))

pub none_of : {A : Type 0} (xs : List A) → length xs ≡ 0 → xs ≡ []
none_of [] e = refl
none_of (x ∷ xs) e = absurd (omega arith)

pub shorter : (k : ℕ) (m : Place) (c : ℕ) (at : List Token) (t : Token) (rest : List Token) → WordAt m c k at t rest →
    length rest < length at
shorter k m c at t rest w = let e : length at ≡ length (t ∷ rest) = ap length w.0 in omega arith
