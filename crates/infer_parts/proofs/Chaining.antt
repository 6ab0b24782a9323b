-- Things that are done with an expression one after the other: each is closed when the expression inside it was walked.
use Rattle.std.proofs.Common.{◌≡◌, ℕ, suc, List, [], ◌∷◌, ◌++◌, length, get_or, refl}
use Rattle.std.proofs.Common.{subst, arith}
use Rattle.std.proofs.lemmas.List.{length_push}
use Rattle.elm_base.specs.declared.position.Pos.{Pos}
use Rattle.elm_canon.specs.Tree.{Op, Expr, Strict, Apply, exprs_of}
use Rattle.elm_canon.specs.View.{LinkView, Given, Composed, After, Before, Decided, done, linked}
use Rattle.type_items.specs.Items.{Wanted}
use Rattle.type_items.specs.Scopes.{Scope}
use Rattle.type_items.specs.Expressions.{items}
use Rattle.type_constructs.specs.Failing.{Bad}
use Rattle.type_walks.specs.Regions.{below}
use Rattle.type_walks.specs.Links.{Links}
use Rattle.type_walks.specs.Walks.{Around}
use Rattle.infer_steps.specs.Codes.{Code, State}
use Rattle.infer_steps.specs.Means.{Setting}
use Rattle.infer_steps.specs.Ready.{IsReady, Follows}
use Rattle.infer_parts.specs.Formed.{FormedOp}
use Rattle.infer_parts.specs.Steps.{one, Went, Stuck}
use Rattle.infer_parts.specs.Parts.{IsStrict, listed, operand_of, operand_place, GoesOnAt}
use Rattle.infer_parts.specs.Parts.{StopsOnAt, known_count, OpOpens, CallOpens}
use Rattle.infer_parts.specs.Chains.{inner, IsInside, Waits}
use Rattle.infer_parts.proofs.Placing.{moved, follows_back, went_back, stuck_back, sets_child, sets_both}
use Rattle.infer_parts.proofs.Operating.{op_closes}
use Rattle.infer_parts.proofs.Turning.{op_step, op_step_stuck, op_go_stuck}
use Rattle.infer_parts.proofs.Calling.{call_next, call_closes, call_next_stuck}
use Rattle.infer_parts.proofs.Choosing.{right_stuck}

-- ---- inside

pub sets_inner : (code : Code) (l : LinkView) (a : Around) (links : Links) (scope : Scope) (s : State)
    → Setting a links code scope s
    → Setting a links code scope (moved s (inner l s.place))
sets_inner code (Given f es) a links scope s set = sets_both code 1 (length es) a links scope s set
sets_inner code (Composed f x) a links scope s set = sets_both code 1 0 a links scope s set
sets_inner code (After op es) a links scope s set = sets_both code 0 (length es) a links scope s set
sets_inner code (Before op x) a links scope s set = sets_both code 0 0 a links scope s set
sets_inner code (Decided pos c x) a links scope s set = sets_child code 1 a links scope s set

-- the expression inside was walked, seen from outside
module _ (code : Code) (v : ℕ) (e : Expr) (here : Pos) (l : LinkView) (outside inside walked : State)
    (at : inside ≡ moved outside (inner l outside.place)) where
  pub inner_went : Went Wanted code (one v) below (listed e here) inside walked
      → Went Wanted code (one v) (λ q. below (inner l q)) (λ scope q w. items e scope here (inner l q) w) outside
      (moved walked outside.place)
  inner_went w =
      went_back Wanted code (one v) below (listed e here) (inner l) (sets_inner code l) outside walked
      (subst (λ s. Went Wanted code (one v) below (listed e here) s walked) at w)

  pub inner_stuck : (bad : Bad) → Stuck Wanted code (one v) below (listed e here) inside walked bad
      → Stuck Wanted code (one v) (λ q. below (inner l q)) (λ scope q w. items e scope here (inner l q) w) outside
      walked bad
  inner_stuck bad s =
      stuck_back Wanted code (one v) below (listed e here) (inner l) (sets_inner code l) outside walked bad
      (subst (λ s. Stuck Wanted code (one v) below (listed e here) s walked bad) at s)

  pub inner_follows : Follows inside walked → Follows outside (moved walked outside.place)
  inner_follows f = follows_back outside walked (inner l outside.place) (subst (λ s. Follows s walked) at f)

-- ---- each of them is closed; the expression inside was walked from `mid` to `new`

module _ (code : Code) (w : ℕ) (here : Pos) (old : State) (ready : IsReady code old.depth old.store) (e : Expr) where
  pub given_closes : (f : Expr) (es : List Expr) (kept : List ℕ) (v : ℕ) (mid new : State)
      → length kept ≡ suc (suc (length es))
      → CallOpens code w f (suc (length es)) here es kept old mid → v ≡ get_or kept (suc (length es)) 0
      → Went Wanted code (one v) (operand_place 1 (length es)) (operand_of e here 1 (length es)) mid new
      → Went Wanted code (one w) below (listed (Apply f (exprs_of (es ++ e ∷ []))) here) old new
  given_closes f es kept v mid new count o is walked =
      call_closes code w f (suc (length es)) here (es ++ e ∷ []) kept old new
      (let l = length_push es e in omega (arith, l))
      (call_next code w f (suc (length es)) here es e kept v old mid new ready (omega arith) (omega (arith, count)) is o
      walked)

  pub given_stuck : (f : Expr) (es : List Expr) (kept : List ℕ) (v : ℕ) (mid new : State) (bad : Bad)
      → length kept ≡ suc (suc (length es))
      → CallOpens code w f (suc (length es)) here es kept old mid → v ≡ get_or kept (suc (length es)) 0
      → Stuck Wanted code (one v) (operand_place 1 (length es)) (operand_of e here 1 (length es)) mid new bad
      → Stuck Wanted code (one w) below (listed (Apply f (exprs_of (es ++ e ∷ []))) here) old new bad
  given_stuck f es kept v mid new bad count o is s =
      call_next_stuck code w f (suc (length es)) here es e [] kept v old mid new bad ready
      (let l = length_push es e in omega (arith, l))
      (omega (arith, count)) is o s

  module _ (f : Expr) (kept : List ℕ) (v : ℕ) (mid : State) (count : length kept ≡ 3)
      (o : CallOpens code w f 2 here [] kept old mid) (is : v ≡ get_or kept 1 0) where
    pub composed_closes : (a : Expr) (u : ℕ) (walked new : State) → Went Wanted code (one v) (operand_place 1 0)
        (operand_of e here 1 0) mid walked
        → u ≡ get_or kept 2 0 → Went Wanted code (one u) (operand_place 1 1) (operand_of a here 1 1) walked new
        → Went Wanted code (one w) below (listed (Apply f (exprs_of (e ∷ a ∷ []))) here) old new
    composed_closes a u walked new one_ at two_ =
        call_closes code w f 2 here (e ∷ a ∷ []) kept old new refl
        (call_next code w f 2 here (e ∷ []) a kept u old walked new ready (omega arith) (omega (arith, count)) at
        (call_next code w f 2 here [] e kept v old mid walked ready (omega arith) (omega (arith, count)) is o one_)
        two_)

    pub composed_inner_stuck : (a : Expr) (new : State) (bad : Bad) → Stuck Wanted code (one v) (operand_place 1 0)
        (operand_of e here 1 0) mid new bad
        → Stuck Wanted code (one w) below (listed (Apply f (exprs_of (e ∷ a ∷ []))) here) old new bad
    composed_inner_stuck a new bad s =
        call_next_stuck code w f 2 here [] e (a ∷ []) kept v old mid new bad ready refl (omega (arith, count)) is o s

    pub composed_stuck : (a : Expr) (u : ℕ) (walked new : State) (bad : Bad) → Went Wanted code (one v)
        (operand_place 1 0) (operand_of e here 1 0) mid walked
        → u ≡ get_or kept 2 0 → Stuck Wanted code (one u) (operand_place 1 1) (operand_of a here 1 1) walked new bad
        → Stuck Wanted code (one w) below (listed (Apply f (exprs_of (e ∷ a ∷ []))) here) old new bad
    composed_stuck a u walked new bad one_ at s =
        call_next_stuck code w f 2 here (e ∷ []) a [] kept u old walked new bad ready refl (omega (arith, count)) at
        (call_next code w f 2 here [] e kept v old mid walked ready (omega arith) (omega (arith, count)) is o one_) s

  module _ (op : Op) (strict : IsStrict op) (es : List Expr) (formed : FormedOp op (suc (length es))) (kept : List ℕ)
      (v : ℕ) (mid : State)
      (count : length kept ≡ known_count op (suc (length es)) (length es))
      (o : OpOpens code w op (suc (length es)) here es kept old mid)
      (is : v ≡ get_or kept (length es) 0) where
    pub after_closes : (us : List ℕ) (walked new : State) → Went Wanted code (one v) (operand_place 0 (length es))
        (operand_of e here 0 (length es)) mid walked
        → GoesOnAt (length es) code op (suc (length es)) here kept us walked new
        → Went Wanted code (one w) below (listed (Strict op (exprs_of (es ++ e ∷ []))) here) old new
    after_closes us walked new one_ g =
        op_closes code w op here strict (es ++ e ∷ []) (suc (length es)) us old new
        (let l = length_push es e in omega (arith, l)) formed
        (op_step code w op here strict (length es) formed es e kept us v old mid walked new ready (omega arith) count is
        o one_ g)

    pub after_inner_stuck : (new : State) (bad : Bad) → Stuck Wanted code (one v) (operand_place 0 (length es))
        (operand_of e here 0 (length es)) mid new bad
        → Stuck Wanted code (one w) below (listed (Strict op (exprs_of (es ++ e ∷ []))) here) old new bad
    after_inner_stuck new bad s =
        op_step_stuck code w op here strict (length es) formed es e [] kept v old mid new bad ready
        (let l = length_push es e in omega (arith, l)) (omega arith)
        count is o s

    pub after_stuck : (walked new : State) (bad : Bad) → Went Wanted code (one v) (operand_place 0 (length es))
        (operand_of e here 0 (length es)) mid walked
        → StopsOnAt (length es) code op (suc (length es)) here kept walked new bad
        → Stuck Wanted code (one w) below (listed (Strict op (exprs_of (es ++ e ∷ []))) here) old new bad
    after_stuck walked new bad one_ s =
        op_go_stuck code w op here strict (length es) formed es e [] kept v old mid walked new bad ready
        (let l = length_push es e in omega (arith, l)) (omega arith)
        count is o one_ s

  module _ (op : Op) (strict : IsStrict op) (formed : FormedOp op 2) (kept : List ℕ) (v : ℕ) (mid : State)
      (count : length kept ≡ known_count op 2 0)
      (o : OpOpens code w op 2 here [] kept old mid) (is : v ≡ get_or kept 0 0) where
    pub before_closes : (a : Expr) (us : List ℕ) (u : ℕ) (walked went new : State) → Went Wanted code (one v)
        (operand_place 0 0) (operand_of e here 0 0) mid walked
        → GoesOnAt 0 code op 2 here kept us walked went → length us ≡ 2 → u ≡ get_or us 1 0
        → Went Wanted code (one u) (operand_place 0 1) (operand_of a here 0 1) went new
        → Went Wanted code (one w) below (listed (Strict op (exprs_of (e ∷ a ∷ []))) here) old new
    before_closes a us u walked went new one_ g two_ at last =
        op_closes code w op here strict (e ∷ a ∷ []) 2 us old new refl formed
        (op_step code w op here strict 1 formed (e ∷ []) a us us u old went new new ready (omega arith) two_ at
        (op_step code w op here strict 1 formed [] e kept us v old mid walked went ready (omega arith) count is o one_
        g) last (refl, refl))

    pub before_inner_stuck : (a : Expr) (new : State) (bad : Bad) → Stuck Wanted code (one v) (operand_place 0 0)
        (operand_of e here 0 0) mid new bad
        → Stuck Wanted code (one w) below (listed (Strict op (exprs_of (e ∷ a ∷ []))) here) old new bad
    before_inner_stuck a new bad s =
        op_step_stuck code w op here strict 1 formed [] e (a ∷ []) kept v old mid new bad ready refl (omega arith) count
        is o s

    pub before_go_stuck : (a : Expr) (walked new : State) (bad : Bad) → Went Wanted code (one v) (operand_place 0 0)
        (operand_of e here 0 0) mid walked
        → StopsOnAt 0 code op 2 here kept walked new bad
        → Stuck Wanted code (one w) below (listed (Strict op (exprs_of (e ∷ a ∷ []))) here) old new bad
    before_go_stuck a walked new bad one_ s =
        op_go_stuck code w op here strict 1 formed [] e (a ∷ []) kept v old mid walked new bad ready refl (omega arith)
        count is o one_ s

    pub before_stuck : (a : Expr) (us : List ℕ) (u : ℕ) (walked went new : State) (bad : Bad)
        → Went Wanted code (one v) (operand_place 0 0) (operand_of e here 0 0) mid walked
        → GoesOnAt 0 code op 2 here kept us walked went → length us ≡ 2 → u ≡ get_or us 1 0
        → Stuck Wanted code (one u) (operand_place 0 1) (operand_of a here 0 1) went new bad
        → Stuck Wanted code (one w) below (listed (Strict op (exprs_of (e ∷ a ∷ []))) here) old new bad
    before_stuck a us u walked went new bad one_ g two_ at s =
        op_step_stuck code w op here strict 1 formed (e ∷ []) a [] us u old went new bad ready refl (omega arith) two_
        at
        (op_step code w op here strict 1 formed [] e kept us v old mid walked went ready (omega arith) count is o one_
        g) s

-- ---- where the expression inside stops

module _ (code : Code) (here : Pos) (e : Expr) where
  pub link_stuck : (l : LinkView) (kept : List ℕ) (old : State) (w : ℕ) (inside : State) (v : ℕ) (new : State)
      (bad : Bad)
      → IsInside code here l kept old w inside v → Stuck Wanted code (one v) below (listed e here) inside new bad
      → Stuck Wanted code (one w) below (listed (done l e) here) old new bad
  link_stuck (Given f es) kept old w inside v new bad i s =
      given_stuck code w here old i.can.ready e f es kept v i.outside new bad i.count i.opens.0 i.opens.1
      (inner_stuck code v e here (Given f es) i.outside inside new i.at bad s)
  link_stuck (Composed f a) kept old w inside v new bad i s =
      composed_inner_stuck code w here old i.can.ready e f kept v i.outside i.count i.opens.0 i.opens.1 a new bad
      (inner_stuck code v e here (Composed f a) i.outside inside new i.at bad s)
  link_stuck (After op es) kept old w inside v new bad i s =
      after_inner_stuck code w here old i.can.ready e op i.strict.0 es i.strict.1 kept v i.outside i.count i.opens.0
      i.opens.1 new bad
      (inner_stuck code v e here (After op es) i.outside inside new i.at bad s)
  link_stuck (Before op a) kept old w inside v new bad i s =
      before_inner_stuck code w here old i.can.ready e op i.strict.0 i.strict.1 kept v i.outside i.count i.opens.0
      i.opens.1 a new bad
      (inner_stuck code v e here (Before op a) i.outside inside new i.at bad s)
  link_stuck (Decided pos c a) kept old w inside v new bad i s =
      right_stuck code w pos here c a e v old i.outside new bad i.can.ready i.opens
      (inner_stuck code v e here (Decided pos c a) i.outside inside new i.at bad s)

-- all of them
pub waits_stuck : (code : Code) (here : Pos) (old : State) (w : ℕ) (ls : List LinkView) (kept : List (List ℕ))
    (inside : State) (v : ℕ) (e : Expr)
    (new : State) (bad : Bad) → Waits code here old w ls kept inside v → Stuck Wanted code (one v) below (listed e here)
    inside new bad
    → Stuck Wanted code (one w) below (listed (linked e ls) here) old new bad
waits_stuck code here old w [] kept inside v e new bad h s =
    subst (λ x. Stuck Wanted code (one x) below (listed e here) old new bad) h.1.1
    (subst (λ x. Stuck Wanted code (one v) below (listed e here) x new bad) h.1.0 s)
waits_stuck code here old w (l ∷ ls) kept inside v e new bad h s =
    waits_stuck code here old w ls h.others h.before h.wanted (done l e) new bad h.waits
    (link_stuck code here e l h.own h.before h.wanted inside v new bad h.opens s)

pub linked_append : (ls ms : List LinkView) (e : Expr) → linked e (ls ++ ms) ≡ linked (linked e ls) ms
linked_append [] ms e = refl
linked_append (l ∷ ls) ms e = linked_append ls ms (done l e)
