-- What is known of the variables that a cell names, or is still asked of them.
use Rattle.std.proofs.Common.{◌≡◌, ℕ, List, [], ◌∷◌, ◌++◌, length, Bool, true, false, Some, None, inl, inr, ⊎_elim, refl, sym, ap, ◌∙◌, subst, arith}
use Rattle.std.specs.List.{All}
use Rattle.std.specs.Prelude.{if◌then◌else◌}
use Rattle.std.proofs.lemmas.List.Elements.{All-weaker, Contains-append_left, Contains-push_cases}
use Rattle.elm_type.specs.Types.{Name, Kind, variable}
use Rattle.elm_type.specs.Classes.{is_below, asks}
use Rattle.elm_type.specs.declared.class.Class.{Class}
use Rattle.elm_type.specs.declared.class.Class.TheVariants.{Any, Number, Comparable, Appendable, CompAppend}
use Rattle.elm_type.specs.declared.demands.Demand.{Demand}
use Rattle.elm_type.specs.declared.demands.Demand.TheVariants.{Never, Always, OfParts}
use Rattle.elm_type.specs.Ground.{contains}
use Rattle.type_store.specs.Store.{Cell, Open, Bound, Built, Row, Constant, Store, slot_at, field_names}
use Rattle.type_store.specs.Solutions.{Ask, Same, InClass, Lacks}
use Rattle.type_store.specs.Shape.{Demanded, Spread}
use Rattle.type_store.proofs.Classes.{no, below_itself, below_meets}
use Rattle.elm_type.proofs.Meeting.{meets_both}
use Rattle.elm_type.specs.Classes.{meets_some, is_any}
use Rattle.std.proofs.lemmas.List.Elements.{All-cons, All-nil, All-head, All-tail, Contains-append_right}
use Rattle.type_store.specs.Steps.{class_asks, part_asks, demand_asks}
use Rattle.type_store.proofs.Demanding.{Holds, demands_meet}
use Rattle.type_store.proofs.RowsMeet.{and_both}
use Rattle.type_store.specs.Spreading.{HasClass, HasLack, DemandedBut, SpreadBut}
use Rattle.elm_type.specs.Classes.{meet}
use Rattle.std.specs.List.{Contains}
use Rattle.std.specs.Prelude.{◌||◌}
use Rattle.std.specs.Str.{bytes_eq}
use Rattle.type_store.specs.Shape.{NoneIn}
use Rattle.type_store.specs.Steps.{lack_asks}
use Rattle.type_store.proofs.Names.{not_equal_swap}
use Rattle.type_store.proofs.Lacking.{not_or}
use Rattle.std.proofs.lemmas.List.Elements.{All-push, All-append}
use Rattle.type_store.proofs.Parts.{all_first, all_second}

-- ---- nothing is asked any more

module _ (s : Store) where
  class_known : (w : ℕ) (c : Class) → HasClass s [] w c → is_below (slot_at s w).kind.class c ≡ true
  class_known w c h = h (slot_at s w).kind.class (below_itself (slot_at s w).kind.class) (λ d q. absurd (omega (arith, q.1)))

  lack_known : (w : ℕ) (x : Name) → HasLack s [] w x → contains x (slot_at s w).kind.lacks ≡ true
  lack_known w x (inl h) = h
  lack_known w x (inr h) = absurd (omega (arith, h.1))

  lacks_known : (w : ℕ) (xs : List Name) → All (HasLack s [] w) xs → All (λ x. contains x (slot_at s w).kind.lacks ≡ true) xs
  lacks_known w xs h = All-weaker (HasLack s [] w) (λ x. contains x (slot_at s w).kind.lacks ≡ true) (lack_known w) xs h

  all_demanded : (d : Demand) (ws : List ℕ) → DemandedBut s [] d ws → Demanded s d ws
  all_demanded Never ws h = h
  all_demanded Always ws h = h
  all_demanded (OfParts c) ws h =
      All-weaker (λ w. HasClass s [] w c) (λ w. is_below (slot_at s w).kind.class c ≡ true) (λ w. class_known w c) ws h

  pub all_spread : (k : Kind) (c : Cell) → SpreadBut s [] k c → Spread s k c
  all_spread k Open h = h
  all_spread k (Bound w) h = (class_known w k.class h.0, lacks_known w k.lacks h.1)
  all_spread k (Built f ws) h = (h.0, all_demanded (asks k.class f (length ws)) ws h.1)
  all_spread k (Row fs None) h = h
  all_spread k (Row fs (Some w)) h = (h.0, h.1, lacks_known w (k.lacks ++ field_names fs) h.2)
  all_spread k (Constant r) h = h

-- ---- what is known stays known

module _ (s t : Store) (before after : List Ask) (classes : (w : ℕ) (c : Class) → HasClass s before w c → HasClass t after w c)
    (fields : (w : ℕ) (x : Name) → HasLack s before w x → HasLack t after w x) where
  demanded_on : (d : Demand) (ws : List ℕ) → DemandedBut s before d ws → DemandedBut t after d ws
  demanded_on Never ws h = h
  demanded_on Always ws h = h
  demanded_on (OfParts c) ws h = All-weaker (λ w. HasClass s before w c) (λ w. HasClass t after w c) (λ w. classes w c) ws h

  pub spread_on : (k : Kind) (c : Cell) → SpreadBut s before k c → SpreadBut t after k c
  spread_on k Open h = h
  spread_on k (Bound w) h =
      (classes w k.class h.0, All-weaker (HasLack s before w) (HasLack t after w) (fields w) k.lacks h.1)
  spread_on k (Built f ws) h = (h.0, demanded_on (asks k.class f (length ws)) ws h.1)
  spread_on k (Row fs None) h = h
  spread_on k (Row fs (Some w)) h =
      (h.0, h.1, All-weaker (HasLack s before w) (HasLack t after w) (fields w) (k.lacks ++ field_names fs) h.2)
  spread_on k (Constant r) h = h

-- ---- one ask is met

below_again : (b c d : Class) → is_below b c ≡ true → is_below c d ≡ true → is_below b d ≡ true
below_again b c d g h = below_meets c d (variable (record { place = []; name = []; class = b; lacks = [] })) h g

-- the kinds of the variables say what was asked
abbrev pub Met : Store → Ask → Type 0
Met t (Same v w) = Unit {0}
Met t (InClass v c) = is_below (slot_at t v).kind.class c ≡ true
Met t (Lacks v x) = contains x (slot_at t v).kind.lacks ≡ true

module _ (s t : Store) (rest left : List Ask) (a : Ask) (met : Met t a)
    (lower : (w : ℕ) → is_below (slot_at t w).kind.class (slot_at s w).kind.class ≡ true)
    (more : (w : ℕ) (x : Name) → contains x (slot_at s w).kind.lacks ≡ true → contains x (slot_at t w).kind.lacks ≡ true) where
  pub class_met : (w : ℕ) (d : Class) → HasClass s (rest ++ a ∷ []) w d → HasClass t (rest ++ left) w d
  class_met w d h b p q =
      h b (below_again b (slot_at t w).kind.class (slot_at s w).kind.class p (lower w))
      (λ e r. ⊎_elim (λ k. q e (Contains-append_left rest left (InClass w e) k))
      (λ k. below_again b (slot_at t w).kind.class e p (subst (Met t) k met)) (Contains-push_cases rest a (InClass w e) r))

  pub lack_met : (w : ℕ) (x : Name) → HasLack s (rest ++ a ∷ []) w x → HasLack t (rest ++ left) w x
  lack_met w x (inl h) = inl (more w x h)
  lack_met w x (inr h) =
      ⊎_elim (λ q. inr (Contains-append_left rest left (Lacks w x) q)) (λ e. inl (subst (Met t) e met)) (Contains-push_cases rest a (Lacks w x) h)

  -- each other slot stays as it is to be
  pub spread_met : (k : Kind) (c : Cell) → SpreadBut s (rest ++ a ∷ []) k c → SpreadBut t (rest ++ left) k c
  spread_met = spread_on s t (rest ++ a ∷ []) (rest ++ left) class_met lack_met

-- ---- the class of a slot

below_both : (b c d e : Class) → meet c d ≡ Some e → is_below b c ≡ true → is_below b d ≡ true → is_below b e ≡ true
below_both b c d e m p q =
    sym (ap (λ o. meets_some o (variable (record { place = []; name = []; class = b; lacks = [] }))) m)
    ∙ (sym (meets_both c d (variable (record { place = []; name = []; class = b; lacks = [] }))) ∙ and_both (is_below b c) (is_below b d) p q)

module _ (t : Store) (work : List Ask) where
  class_both : (w : ℕ) (c d e : Class) → meet c d ≡ Some e → HasClass t work w c → HasClass t work w d → HasClass t work w e
  class_both w c d e m h k b p q = below_both b c d e m (h b p q) (k b p q)

  class_asked : (w : ℕ) (c : Class) → Contains work (InClass w c) → HasClass t work w c
  class_asked w c q b p r = r c q

  holds : (ws : List ℕ) (d : Demand) → DemandedBut t work d ws → Holds (λ c. All (λ w. HasClass t work w c) ws) d
  holds ws Never h = h
  holds ws Always h = h
  holds ws (OfParts c) h = h

  held : (ws : List ℕ) (d : Demand) → Holds (λ c. All (λ w. HasClass t work w c) ws) d → DemandedBut t work d ws
  held ws Never h = h
  held ws Always h = h
  held ws (OfParts c) h = h

no_asks : {X : Type 0} {left : List Ask} → None ≡ Some left → X
no_asks e = absurd (cc)

passed : (b : Bool) (left : List Ask) → (if b then Some [] else None) ≡ Some left → b ≡ true
passed true left e = refl
passed false left e = no_asks e

any_both : (a c d : Class) → meet a c ≡ Some d → is_any a ≡ true → is_any c ≡ true → is_any d ≡ true
any_both Any c d m p q = let w : c ≡ d = cc in subst (λ x. is_any x ≡ true) w q
any_both Number c d m p q = no p
any_both Comparable c d m p q = no p
any_both Appendable c d m p q = no p
any_both CompAppend c d m p q = no p

parts_asked : (t : Store) (work : List Ask) (c : Class) (ws : List ℕ) → ((a : Ask) → Contains (part_asks c ws) a → Contains work a) → All (λ w. HasClass t work w c) ws
parts_asked t work c [] h = All-nil (λ w. HasClass t work w c)
parts_asked t work c (w ∷ ws) h =
    All-cons (λ w. HasClass t work w c) w ws (class_asked t work w c (h (InClass w c) (0, omega arith, refl)))
    (parts_asked t work c ws (λ a q. h a (Contains-append_right (InClass w c ∷ []) (part_asks c ws) a q)))

module _ (t : Store) (rest left : List Ask) (k : Kind) (c d : Class) (m : meet k.class c ≡ Some d) where
  abbrev after : List Ask
  after = rest ++ left

  abbrev new_kind : Kind
  new_kind = record { class = d; lacks = k.lacks }

  asked_parts : (e : Demand) (ws : List ℕ) → demand_asks e ws ≡ Some left → Holds (λ c. All (λ w. HasClass t after w c) ws) e
  asked_parts Never ws q = no_asks q
  asked_parts Always ws q = tt
  asked_parts (OfParts e) ws q =
      let w : part_asks e ws ≡ left = cc in
      parts_asked t after e ws (λ a p. Contains-append_right rest left a (subst (λ as_. Contains as_ a) w p))

  -- the slot itself, with its new class
  pub class_cell : (x : Cell) → class_asks c x ≡ Some left → SpreadBut t after k x → SpreadBut t after new_kind x
  class_cell Open q h = h
  class_cell (Bound w) q h =
      let e : InClass w c ∷ [] ≡ left = cc in
      let p = Contains-append_right rest left (InClass w c) (subst (λ as_. Contains as_ (InClass w c)) e (0, omega arith, refl)) in
      (class_both t after w k.class c d m h.0 (class_asked t after w c p), h.1)
  class_cell (Built f ws) q h = (
    h.0,
    held t after ws (asks d f (length ws))
        (demands_meet (λ c. All (λ w. HasClass t after w c) ws) f (length ws) k.class c d m (holds t after ws (asks k.class f (length ws)) h.1)
        (asked_parts (asks c f (length ws)) ws q)),
  )
  class_cell (Row fs None) q h = (any_both k.class c d m h.0 (passed (is_any c) left q), h.1)
  class_cell (Row fs (Some w)) q h = (any_both k.class c d m h.0 (passed (is_any c) left q), h.1, h.2)
  class_cell (Constant r) q h = (below_both r.class k.class c d m h.0 (passed (is_below r.class c) left q), h.1)

-- ---- the fields that a slot lacks

either_false : (a b : Bool) → a ≡ false → b ≡ false → (a || b) ≡ false
either_false true b p q = p
either_false false b p q = q

not_pushed : (z x : Name) (ys : List Name) → bytes_eq z x ≡ false → contains z ys ≡ false → contains z (ys ++ x ∷ []) ≡ false
not_pushed z x [] n e = either_false (bytes_eq z x) false n refl
not_pushed z x (y ∷ ys) n e =
    let p = not_or (bytes_eq z y) (contains z ys) e in
    either_false (bytes_eq z y) (contains z (ys ++ x ∷ [])) p.0 (not_pushed z x ys n p.1)

none_pushed : (x : Name) (fs ys : List Name) → contains x fs ≡ false → NoneIn fs ys → NoneIn fs (ys ++ x ∷ [])
none_pushed x [] ys n h = All-nil (λ z. contains z (ys ++ x ∷ []) ≡ false)
none_pushed x (f ∷ fs) ys n h =
    let p = not_or (bytes_eq x f) (contains x fs) n in
    All-cons (λ z. contains z (ys ++ x ∷ []) ≡ false) f fs
    (not_pushed f x ys (not_equal_swap x f p.0) (All-head (λ z. contains z ys ≡ false) f fs h))
    (none_pushed x fs ys p.1 (All-tail (λ z. contains z ys ≡ false) f fs h))

not_field : (b : Bool) (o : List Ask) (left : List Ask) → (if b then None else Some o) ≡ Some left → (b ≡ false) × (o ≡ left)
not_field true o left e = no_asks e
not_field false o left e = (refl, cc)

module _ (t : Store) (rest left : List Ask) (k : Kind) (x : Name) where
  abbrev all_asks : List Ask
  all_asks = rest ++ left

  abbrev more_lacks : Kind
  more_lacks = record { class = k.class; lacks = k.lacks ++ x ∷ [] }

  lack_asked : (w : ℕ) → Lacks w x ∷ [] ≡ left → HasLack t all_asks w x
  lack_asked w e = inr (Contains-append_right rest left (Lacks w x) (subst (λ as_. Contains as_ (Lacks w x)) e (0, omega arith, refl)))

  -- the slot itself, which lacks one field more
  pub lack_cell : (c : Cell) → lack_asks x c ≡ Some left → SpreadBut t all_asks k c → SpreadBut t all_asks more_lacks c
  lack_cell Open q h = h
  lack_cell (Bound w) q h = (h.0, All-push (HasLack t all_asks w) k.lacks x h.1 (lack_asked w cc))
  lack_cell (Built f ws) q h = no_asks q
  lack_cell (Row fs None) q h =
      let p = not_field (contains x (field_names fs)) [] left q in
      (h.0, none_pushed x (field_names fs) k.lacks p.0 h.1)
  lack_cell (Row fs (Some w)) q h =
      let p = not_field (contains x (field_names fs)) (Lacks w x ∷ []) left q in (
        h.0,
        none_pushed x (field_names fs) k.lacks p.0 h.1,
        All-append (HasLack t all_asks w) (k.lacks ++ x ∷ []) (field_names fs)
            (All-push (HasLack t all_asks w) k.lacks x (all_first (HasLack t all_asks w) k.lacks (field_names fs) h.2) (lack_asked w p.1))
            (all_second (HasLack t all_asks w) k.lacks (field_names fs) h.2),
      )
  lack_cell (Constant r) q h =
      (h.0, All-push (λ z. contains z r.lacks ≡ true) k.lacks x h.1 (passed (contains x r.lacks) left q))
