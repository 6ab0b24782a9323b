-- What a step of the store is for a state.
use Rattle.std.proofs.Common.{◌≡◌, ℕ, zero, suc, ◌+◌, ◌-◌, ◌<◌, ◌≤◌, List, [], ◌∷◌, ◌++◌, length, map, drop, get_or, drop-cons, refl, sym, ap, ◌∙◌, subst, arith, add-one}
use Rattle.std.specs.List.{AllByRecursion, AllZip, range_with_len}
use Rattle.std.proofs.lemmas.List.{length_push}
use Rattle.std.specs.Prelude.{All, Option}
use Rattle.std.proofs.lemmas.List.Elements.{All-nil, All-head}
use Rattle.elm_base.specs.declared.position.Pos.{Pos}
use Rattle.elm_type.specs.Types.{Name, Made, NoType, MoreType, functions, list_type}
use Rattle.elm_type.specs.declared.class.Class.{Class}
use Rattle.elm_type.specs.declared.head.Head.{Head}
use Rattle.elm_type.specs.declared.head.Head.TheVariants as head
use Rattle.type_items.specs.Items.{Place, child, Wanted, at, children}
use Rattle.type_store.specs.Store.{FieldSlot, Store, Open, Built, Row, Cell}
use Rattle.type_store.specs.Shape.{IsStore, IsCell, parts_of}
use Rattle.type_store.specs.Steps.{put}
use Rattle.type_store.specs.Levels.{IsLowered}
use Rattle.type_store.specs.Reaching.{GoesOn, GoesOnAt}
use Rattle.type_store.specs.Solutions.{Ask, MeetsAsk, Added, Becomes}
use Rattle.type_store.specs.Solutions as store
use Rattle.type_walks.specs.Links.{Links, Live, AreLive, Has, Agree}
use Rattle.type_walks.specs.Regions.{none, only, either}
use Rattle.type_walks.specs.Walks.{Around, Walk}
use Rattle.type_walks.proofs.Linking.{agree_itself, later_itself, later_on, live_later, all_live_later}
use Rattle.type_walks.proofs.Regions.{none_inside, none_apart, either_inside}
use Rattle.type_walks.proofs.Walking.{rests, goes_on, widens}
use Rattle.type_constructs.specs.Regions.{tops}
use Rattle.type_constructs.specs.Binding.{Typed}
use Rattle.type_constructs.proofs.Parts.{tops_in_tops, only_in_tops, tops_apart_only, zip_both}
use Rattle.type_walks.proofs.Steps.{Makes}
use Rattle.type_walks.proofs.Reaching.{took}
use Rattle.type_walks.proofs.Making.{makes_open, makes_cell, makes_on}
use Rattle.type_walks.specs.TypeStepsLaws.{EndLacks}
use Rattle.type_walks.proofs.RowTypes.{builds_row}
use Rattle.type_walks.proofs.Stepping.{asks_same, asks_class, asks_lack, opens, builds}
use Rattle.type_constructs.proofs.Chains.{tells_more, tells_same, tells_on, has_new, has_still, all_still}
use Rattle.infer_steps.specs.Codes.{State}
use Rattle.infer_steps.specs.Ready.{Follows}
use Rattle.infer_steps.specs.Made.{IsOpened, AreOpened, IsMade, Just, OfHead, OfList, OfFunctions, OfRow}
use Rattle.infer_steps.specs.Asked.{AsksSame, AsksClass, AsksLack}

-- ---- what is asked

follows_added : (old new : State) (asked : Ask) → new.place ≡ old.place → new.depth ≡ old.depth → IsStore new.store → Added old.store asked new.store
    → GoesOn old.store new.store → Follows old new
follows_added old new asked p d whole added goes = record {
  place = p;
  depth = d;
  whole = whole;
  later = (took old.store new.store asked added goes).later;
  back = λ σ f. record { values = σ; fit = (added.back σ f (All-nil (MeetsAsk σ))).0; agree = agree_itself old.depth old.store σ };
}

pub same_asked : (old new : State) (pos : Pos) (v w : ℕ) → new.place ≡ old.place → new.depth ≡ old.depth → IsStore new.store
    → Added old.store (store.Same v w) new.store → GoesOn old.store new.store → AsksSame old new pos v w
same_asked old new pos v w p d whole added goes = record {
  follows = follows_added old new (store.Same v w) p d whole added goes;
  walk = λ a links t u e live h k. asks_same a old.store new.store links v w pos t u live h k added goes;
}

pub class_asked : (old new : State) (pos : Pos) (v : ℕ) (c : Class) → new.place ≡ old.place → new.depth ≡ old.depth → IsStore new.store
    → Added old.store (store.InClass v c) new.store → GoesOn old.store new.store → AsksClass old new pos v c
class_asked old new pos v c p d whole added goes = record {
  follows = follows_added old new (store.InClass v c) p d whole added goes;
  walk = λ a links t e live h. asks_class a old.store new.store links v pos t c live h added goes;
}

pub lack_asked : (old new : State) (pos : Pos) (v : ℕ) (x : Name) → new.place ≡ old.place → new.depth ≡ old.depth → IsStore new.store
    → Added old.store (store.Lacks v x) new.store → GoesOn old.store new.store → AsksLack old new pos v x
lack_asked old new pos v x p d whole added goes = record {
  follows = follows_added old new (store.Lacks v x) p d whole added goes;
  back = λ σ f. (
      let b = added.back σ f (All-nil (MeetsAsk σ)) in
      (b.0, All-head (MeetsAsk σ) (store.Lacks v x) [] b.1));
  walk = λ a links t e live h. asks_lack a old.store new.store links v pos t x live h added goes;
}

-- ---- what is made

follows_made : (old new : State) (v : ℕ) (cell : Cell) → new.place ≡ old.place → new.depth ≡ old.depth → IsStore new.store
    → Makes old.depth old.store v new.store cell → Follows old new
follows_made old new v cell p d whole makes = record {
  place = p;
  depth = d;
  whole = whole;
  later = makes.later;
  back = λ σ f. record { values = σ; fit = (makes.back σ f).0; agree = agree_itself old.depth old.store σ };
}

pub opened : (old new : State) (v : ℕ) → new.place ≡ old.place → new.depth ≡ old.depth → IsStore old.store → IsStore new.store
    → v ≡ length old.store → new.store ≡ old.store ++ put Open old.depth ∷ [] → IsOpened old new v
opened old new v p d shape whole number made =
    let makes = subst (λ n. Makes old.depth old.store n new.store Open) (sym number)
    (subst (λ z. Makes old.depth old.store (length old.store) z Open) (sym made) (makes_open old.store old.depth shape)) in
    record {
      follows = follows_made old new v Open p d whole makes;
      live = subst (λ n. Live n new.store v) (sym d) makes.live;
      walk = λ a links q e live.
          opens a old.store new.store links v q shape live number (made ∙ ap (λ n. old.store ++ put Open n ∷ []) (sym e));
    }

pub built : (old new : State) (v : ℕ) (h : Head) (ws : List ℕ) → new.place ≡ old.place → new.depth ≡ old.depth → IsStore old.store → IsStore new.store
    → All (λ w. w < length old.store) ws → v ≡ length old.store → IsLowered (old.store ++ put (Built h ws) old.depth ∷ []) new.store
    → IsMade old new v (OfHead h ws)
built old new v h ws p d shape whole inside number low =
    let makes = subst (λ n. Makes old.depth old.store n new.store (Built h ws)) (sym number)
    (makes_cell old.store new.store old.depth (Built h ws) shape inside refl low) in
    record {
      follows = follows_made old new v (Built h ws) p d whole makes;
      live = subst (λ n. Live n new.store v) (sym d) makes.live;
      typed = λ a links t e live of. record {
        after = (v, t) ∷ links;
        walk =
            subst (λ x. Walk a none [] old.store links new.store ((v, x) ∷ links)) (sym of.is)
            (builds a old.store new.store links v h ws of.parts shape live inside of.has number
            (subst (λ n. IsLowered (old.store ++ put (Built h ws) n ∷ []) new.store) (sym e) low));
        tells = tells_more v t (tells_same links);
        has = has_new v t links;
      };
    }

-- ---- several steps

pub follows_itself : (s : State) → IsStore s.store → Follows s s
follows_itself s whole = record {
  place = refl;
  depth = refl;
  whole = whole;
  later = later_itself s.store;
  back = λ σ f. record { values = σ; fit = f; agree = agree_itself s.depth s.store σ };
}

pub follows_on : (r s t : State) → Follows r s → Follows s t → Follows r t
follows_on r s t a b = record {
  place = b.place ∙ a.place;
  depth = b.depth ∙ a.depth;
  whole = b.whole;
  later = later_on r.store s.store t.store a.later b.later;
  back = λ σ f. (
      let x = b.back σ f in
      let y = a.back x.values x.fit in
      let ag = subst (λ n. Agree n s.store σ x.values) a.depth x.agree in
      record {
        values = y.values;
        fit = y.fit;
        agree = record {
          types = λ v l. ag.types v (live_later r.depth r.depth r.store s.store v a.later (omega arith) l) ∙ y.agree.types v l;
          constants = λ c. ag.constants c ∙ y.agree.constants c;
        };
      });
}

pub still_live : (s t : State) (v : ℕ) → Follows s t → Live s.depth s.store v → Live t.depth t.store v
still_live s t v f l = subst (λ n. Live n t.store v) (sym f.depth) (live_later s.depth s.depth s.store t.store v f.later (omega arith) l)

pub all_still_live : (s t : State) (vs : List ℕ) → Follows s t → AllByRecursion (Live s.depth s.store) vs → AllByRecursion (Live t.depth t.store) vs
all_still_live s t [] f l = tt
all_still_live s t (v ∷ vs) f l = (still_live s t v f l.0, all_still_live s t vs f l.1)

pub links_still_live : (s t : State) (n : ℕ) (links : Links) → Follows s t → AreLive n s.store links → AreLive n t.store links
links_still_live s t n links f l = all_live_later n s.store t.store links f.later l

-- ---- variables for children

children_last : (p : Place) (i n : ℕ) → map (λ j. at (child p j)) (range_with_len i (n + 1)) ≡ map (λ j. at (child p j)) (range_with_len i n) ++ at (child p (i + n)) ∷ []
children_last p i n =
    ap (λ k. map (λ j. at (child p j)) (range_with_len i k)) (add-one n) ∙ go n i
  where
    go : (m i : ℕ) → map (λ j. at (child p j)) (range_with_len i (suc m)) ≡ map (λ j. at (child p j)) (range_with_len i m) ++ at (child p (i + m)) ∷ []
    go zero i = let e : i ≡ i + 0 = omega arith in ap (λ k. at (child p k) ∷ []) e
    go (suc m) i =
        let e : (i + 1) + m ≡ i + suc m = omega arith in
        ap (λ l. at (child p i) ∷ l) (go m (i + 1) ∙ ap (λ k. map (λ j. at (child p j)) (range_with_len (i + 1) m) ++ at (child p k) ∷ []) e)

pub opened_none : (s : State) → IsStore s.store → AreOpened s s []
opened_none s whole = record {
  follows = follows_itself s whole;
  live = tt;
  children = λ a links p e live. record {
    after = links;
    walk = widens a none (tops p 0 0) [] s.store s.store links links (none_inside (tops p 0 0)) (rests a s.store links);
    tells = tells_same links;
    each = tt;
  };
}

live_last : (s : State) (vs : List ℕ) (v : ℕ) → AllByRecursion (Live s.depth s.store) vs → Live s.depth s.store v → AllByRecursion (Live s.depth s.store) (vs ++ v ∷ [])
live_last s [] v l h = (h, tt)
live_last s (w ∷ vs) v l h = (l.0, live_last s vs v l.1 h)

pub opened_more : (old u new : State) (vs : List ℕ) (v : ℕ) → AreOpened old u vs → IsOpened u new v → AreOpened old new (vs ++ v ∷ [])
opened_more old u new vs v first second = record {
  follows = follows_on old u new first.follows second.follows;
  live = live_last new vs v (all_still_live u new vs second.follows first.live) second.live;
  children = λ a links p e live. (
      let one = first.children a links p e live in
      let two = second.walk a one.after (child p (length vs)) (e ∙ sym first.follows.depth) (one.walk.live live) in
      let n : length (vs ++ v ∷ []) ≡ length vs + 1 = length_push vs v in
      record {
        after = (v, at (child p (length vs))) ∷ one.after;
        walk =
            widens a (either (tops p 0 (length vs)) (only (child p (length vs)))) (tops p 0 (length (vs ++ v ∷ []))) [] old.store new.store links _
            (either_inside (tops p 0 (length vs)) (only (child p (length vs))) (tops p 0 (length (vs ++ v ∷ [])))
            (tops_in_tops p 0 (length (vs ++ v ∷ [])) 0 (length vs) (omega arith) (omega (arith, n)))
            (only_in_tops p 0 (length (vs ++ v ∷ [])) (length vs) (omega arith) (omega (arith, n))))
            (goes_on a (tops p 0 (length vs)) (only (child p (length vs))) [] [] old.store u.store new.store links one.after _
            (tops_apart_only p 0 (length vs) (length vs) (omega arith)) live one.walk two);
        tells = tells_more v (at (child p (length vs))) one.tells;
        each =
            subst (λ ts. AllZip (Has ((v, at (child p (length vs))) ∷ one.after)) (vs ++ v ∷ []) ts)
            (sym (ap (children p) n ∙ (children_last p 0 (length vs) ∙ ap (λ k. children p (length vs) ++ at (child p k) ∷ []) zero_more)))
            (zip_both (Has ((v, at (child p (length vs))) ∷ one.after)) vs (v ∷ []) (children p (length vs)) (at (child p (length vs)) ∷ [])
            (all_still vs (children p (length vs)) (tells_more v (at (child p (length vs))) (tells_same one.after)) one.each)
            (has_new v (at (child p (length vs))) one.after, tt));
      });
}
  where
    zero_more : 0 + length vs ≡ length vs
    zero_more = omega arith

-- ---- types

pub of_type : (old new : State) (v : ℕ) (h : Head) (u : Wanted) → Made h NoType ≡ u → IsMade old new v (OfHead h []) → IsMade old new v (Just u)
of_type old new v h u is m = record {
  follows = m.follows;
  live = m.live;
  typed = λ a links t e live same. m.typed a links t e live (record { parts = []; has = tt; is = same ∙ sym is });
}

pub of_list : (old new : State) (v w : ℕ) (h : Head) → ((t : Wanted) → Made h (MoreType t NoType) ≡ list_type t) → IsMade old new v (OfHead h (w ∷ []))
    → IsMade old new v (OfList w)
of_list old new v w h is m = record {
  follows = m.follows;
  live = m.live;
  typed = λ a links t e live of. m.typed a links t e live (record { parts = of.item ∷ []; has = (of.has, tt); is = of.is ∙ sym (is of.item) });
}

function_parts : (links : Links) (p w : ℕ) (t u : Wanted) (ts : List Wanted) → t ≡ functions ts u → AllZip (Has links) (p ∷ []) ts → Has links w u
    → OfHead head.Function (p ∷ w ∷ []) links t
function_parts links p w t u [] is has h = absurd has
function_parts links p w t u (x ∷ []) is has h = record { parts = x ∷ u ∷ []; has = (has.0, (h, tt)); is = is }
function_parts links p w t u (x ∷ y ∷ ts) is has h = absurd has.1

pub of_function : (old new : State) (v p w : ℕ) → IsMade old new v (OfHead head.Function (p ∷ w ∷ [])) → IsMade old new v (OfFunctions (p ∷ []) w)
of_function old new v p w m = record {
  follows = m.follows;
  live = m.live;
  typed = λ a links t e live of. m.typed a links t e live (function_parts links p w t of.result of.parameters of.is of.has of.result_has);
}

no_parameters : (links : Links) (v : ℕ) (t u : Wanted) (ts : List Wanted) → t ≡ functions ts u → AllZip (Has links) [] ts → Has links v u → Has links v t
no_parameters links v t u [] is has h = subst (Has links v) (sym is) h
no_parameters links v t u (x ∷ ts) is has h = absurd has

pub functions_none : (s : State) (v : ℕ) → IsStore s.store → Live s.depth s.store v → IsMade s s v (OfFunctions [] v)
functions_none s v whole live = record {
  follows = follows_itself s whole;
  live = live;
  typed = λ a links t e l of. record {
    after = links;
    walk = rests a s.store links;
    tells = tells_same links;
    has = no_parameters links v t of.result of.parameters of.is of.has of.result_has;
  };
}

first_parameter : (a : Around) (old u new : State) (p m v : ℕ) (vs : List ℕ) (w : ℕ) (links : Links) (t : Wanted) (ts : List Wanted) (r : Wanted)
    → a.depth ≡ old.depth → AreLive a.depth old.store links → IsMade old u m (OfFunctions vs w) → IsMade u new v (OfFunctions (p ∷ []) m)
    → AllZip (Has links) (p ∷ vs) ts → Has links w r → t ≡ functions ts r → Typed a t old.store links new.store v
first_parameter a old u new p m v vs w links t [] r e live one two has h is = absurd has
first_parameter a old u new p m v vs w links t (x ∷ ts) r e live one two has h is =
    let first = one.typed a links (functions ts r) e live (record { parameters = ts; result = r; has = has.1; result_has = h; is = refl }) in
    let second = two.typed a first.after t (e ∙ sym one.follows.depth) (first.walk.live live)
    (record { parameters = x ∷ []; result = functions ts r; has = (has_still first.tells has.0, tt); result_has = first.has; is = is }) in
    record {
      after = second.after;
      walk =
          widens a (either none none) none [] old.store new.store links second.after (either_inside none none none (none_inside none) (none_inside none))
          (goes_on a none none [] [] old.store u.store new.store links first.after second.after (none_apart none) live first.walk second.walk);
      tells = tells_on second.tells first.tells;
      has = second.has;
    }

pub functions_more : (old u new : State) (p m v : ℕ) (vs : List ℕ) (w : ℕ) → IsMade old u m (OfFunctions vs w) → IsMade u new v (OfFunctions (p ∷ []) m)
    → IsMade old new v (OfFunctions (p ∷ vs) w)
functions_more old u new p m v vs w one two = record {
  follows = follows_on old u new one.follows two.follows;
  live = two.live;
  typed = λ a links t e live of.
      first_parameter a old u new p m v vs w links t of.parameters of.result e live one two of.has of.result_has of.is;
}

drop_all : (ps : List ℕ) (n : ℕ) → length ps ≤ n → drop n ps ≡ []
drop_all [] zero h = refl
drop_all [] (suc n) h = refl
drop_all (p ∷ ps) zero h = absurd (omega (arith, h))
drop_all (p ∷ ps) (suc n) h = drop_all ps n (omega (arith, h))

-- a loop over the parameters, from the last to the first
pub functions_begin : (s : State) (ps : List ℕ) (v : ℕ) → IsStore s.store → Live s.depth s.store v → IsMade s s v (OfFunctions (drop (length ps - 0) ps) v)
functions_begin s ps v whole live =
    subst (λ vs. IsMade s s v (OfFunctions vs v)) (sym (drop_all ps (length ps - 0) (omega arith))) (functions_none s v whole live)

pub functions_next : (old u new : State) (ps : List ℕ) (i m v w : ℕ) → i < length ps → IsMade old u m (OfFunctions (drop (length ps - i) ps) w)
    → IsMade u new v (OfFunctions (get_or ps (length ps - 1 - i) 0 ∷ []) m) → IsMade old new v (OfFunctions (drop (length ps - (i + 1)) ps) w)
functions_next old u new ps i m v w l one two =
    let e : length ps - (i + 1) ≡ length ps - 1 - i = omega arith in
    let f : suc (length ps - 1 - i) ≡ length ps - i = omega arith in
    let split : drop (length ps - (i + 1)) ps ≡ get_or ps (length ps - 1 - i) 0 ∷ drop (length ps - i) ps =
    ap (λ k. drop k ps) e ∙ (drop-cons ps (length ps - 1 - i) 0 (omega arith) ∙ ap (λ k. get_or ps (length ps - 1 - i) 0 ∷ drop k ps) f) in
    subst (λ vs. IsMade old new v (OfFunctions vs w)) (sym split)
    (functions_more old u new (get_or ps (length ps - 1 - i) 0) m v (drop (length ps - i) ps) w one two)

pub live_at : (d : ℕ) (s : Store) (ps : List ℕ) (i : ℕ) → AllByRecursion (Live d s) ps → i < length ps → get_or ps i 0 < length s
live_at d s [] i h l = absurd (omega (arith, l))
live_at d s (p ∷ ps) zero h l = h.0.inside
live_at d s (p ∷ ps) (suc i) h l = live_at d s ps i h.1 (omega (arith, l))

-- ---- records

pub rowed : (old new : State) (v : ℕ) (fs : List FieldSlot) (end : Option ℕ) → new.place ≡ old.place → new.depth ≡ old.depth → IsStore old.store → IsStore new.store
    → All (λ w. w < length old.store) (parts_of (Row fs end)) → IsCell 0 (Row fs end) → EndLacks old.store fs end → v ≡ length old.store
    → Becomes (old.store ++ put (Row fs end) old.depth ∷ []) [] new.store [] → GoesOnAt old.depth old.store new.store
    → IsMade old new v (OfRow fs end)
rowed old new v fs end p d shape whole inside cell lacking number becomes goes =
    let makes = subst (λ n. Makes old.depth old.store n new.store (Row fs end)) (sym number)
    (makes_on old.store new.store old.depth (Row fs end) shape inside refl becomes goes) in
    record {
      follows = follows_made old new v (Row fs end) p d whole makes;
      live = subst (λ n. Live n new.store v) (sym d) makes.live;
      typed = λ a links t e live of. record {
        after = (v, t) ∷ links;
        walk =
            subst (λ x. Walk a none [] old.store links new.store ((v, x) ∷ links)) (sym of.is)
            (builds_row a old.store new.store links v fs end of.types of.rest shape live inside cell of.has of.rest_has lacking number
            (subst (λ n. Becomes (old.store ++ put (Row fs end) n ∷ []) [] new.store []) (sym e) becomes)
            (subst (λ n. GoesOnAt n old.store new.store) (sym e) goes));
        tells = tells_more v t (tells_same links);
        has = has_new v t links;
      };
    }
