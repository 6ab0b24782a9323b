-- The parts of types of functions are written in turn.
use Rattle.std.proofs.Common.{◌≡◌, ℕ, zero, suc, ◌+◌, ◌<◌, ◌≤◌, List, [], ◌∷◌, ◌++◌, length, map, take, drop}
use Rattle.std.proofs.Common.{get_or, true, refl, sym, ap, ◌∙◌, subst, arith, append-nil}
use Rattle.std.proofs.Common.{length-append, length-drop}
use Rattle.std.specs.Prelude.{◌&&◌}
use Rattle.std.specs.List.{AllByRecursion, AllZip}
use Rattle.std.proofs.lemmas.List.{drop-drop, map-append, length-map}
use Rattle.elm_type.specs.Types.{ElmType, Made, Record, NoType, MoreType, functions, variables}
use Rattle.elm_type.specs.Types.{Leaf}
use Rattle.elm_type.specs.Spelling.{spell, type_of, AreSpelled}
use Rattle.elm_type.specs.declared.head.Head.TheVariants as head
use Rattle.elm_type.specs.declared.node.Node.{Node}
use Rattle.elm_type.proofs.Reading.{spelled_by, spelled_type}
use Rattle.type_items.specs.Principal.{is_formed}
use Rattle.type_store.specs.Store.{Store}
use Rattle.type_store.specs.Shape.{IsStore}
use Rattle.type_store.proofs.RowsMeet.{and_left, and_right}
use Rattle.type_walks.specs.Links.{Live, Has}
use Rattle.type_walks.proofs.Cleaning.{all_first, all_second}
use Rattle.type_walks.proofs.Walking.{rests}
use Rattle.type_constructs.proofs.Chains.{tells_same, tells_on, all_still}
use Rattle.type_constructs.proofs.Parts.{zip_both}
use Rattle.infer_steps.specs.Codes.{State}
use Rattle.infer_steps.specs.Ready.{IsBelow}
use Rattle.infer_steps.proofs.Stepping.{follows_itself, follows_on, all_still_live}
use Rattle.infer_steps.proofs.Lacking.{both_walks}
use Rattle.infer_types.specs.Writing.{written, CanWrite, Writes}
use Rattle.infer_types.specs.Functions.{parameters_in, result_in, PartsWritten, FunctionWritten}
use Rattle.infer_types.proofs.Loops.{lacking_later}
use Rattle.infer_types.proofs.Spines.{lengths_of}

-- ---- variables, one after the other

pub no_parts : (leaves : List ℕ) (s : State) → IsStore s.store → PartsWritten leaves [] s s []
no_parts leaves s whole = record {
  follows = follows_itself s whole;
  live = tt;
  typed = λ a links types e live has. record
      { after = links; walk = rests a s.store links; tells = tells_same links; has = tt };
}

live_last : (s : State) (vs : List ℕ) (v : ℕ) → AllByRecursion (Live s.depth s.store) vs → Live s.depth s.store v
    → AllByRecursion (Live s.depth s.store) (vs ++ v ∷ [])
live_last s [] v l h = (h, tt)
live_last s (w ∷ vs) v l h = (l.0, live_last s vs v l.1 h)

module _ (leaves : List ℕ) (ts : List (ElmType (Leaf ℕ))) (t : ElmType (Leaf ℕ)) (old u new : State) (vs : List ℕ)
    (v : ℕ) (one : PartsWritten leaves ts old u vs)
    (two : Writes leaves t u new v) where
  pub one_more_part : PartsWritten leaves (ts ++ t ∷ []) old new (vs ++ v ∷ [])
  one_more_part = record {
    follows = follows_on old u new one.follows two.follows;
    live = live_last new vs v (all_still_live u new vs two.follows one.live) two.live;
    typed = λ a links types e live has. (
        let x = one.typed a links types e live has in
        let y = two.typed a x.after types (e ∙ sym one.follows.depth) (x.walk.live live)
        (all_still leaves types x.tells has) in
        record {
          after = y.after;
          walk = both_walks a [] [] old.store u.store new.store links x.after y.after live x.walk y.walk;
          tells = tells_on y.tells x.tells;
          has =
              subst (λ us. AllZip (Has y.after) (vs ++ v ∷ []) us) (sym (map-append (written types) ts (t ∷ [])))
              (zip_both (Has y.after) vs (v ∷ []) (map (written types) ts) (written types t ∷ [])
              (all_still vs (map (written types) ts) y.tells x.has) (y.has, tt));
        });
  }

  pub and_result : PartsWritten leaves (t ∷ ts) old new (v ∷ vs)
  and_result = record {
    follows = follows_on old u new one.follows two.follows;
    live = (two.live, all_still_live u new vs two.follows one.live);
    typed = λ a links types e live has. (
        let x = one.typed a links types e live has in
        let y = two.typed a x.after types (e ∙ sym one.follows.depth) (x.walk.live live)
        (all_still leaves types x.tells has) in
        record {
          after = y.after;
          walk = both_walks a [] [] old.store u.store new.store links x.after y.after live x.walk y.walk;
          tells = tells_on y.tells x.tells;
          has = (y.has, all_still vs (map (written types) ts) y.tells x.has);
        });
  }

-- ---- the type of a function is that of its parts

pub parted : (n : ℕ) (t : ElmType (Leaf ℕ)) → functions (parameters_in n t) (result_in n t) ≡ t
parted zero t = refl
parted (suc n) (Made head.Function NoType) = refl
parted (suc n) (Made head.Function (MoreType a NoType)) = refl
parted (suc n) (Made head.Function (MoreType a (MoreType b NoType))) =
    ap (λ u. Made head.Function (MoreType a (MoreType u NoType))) (parted n b)
parted (suc n) (Made head.Function (MoreType a (MoreType b (MoreType c ts)))) = refl
parted (suc n) (Made (head.Named m x) ts) = refl
parted (suc n) (Made head.Tuple ts) = refl
parted (suc n) (Record fs end) = refl

-- what can be written in parts
module _ (s : Store) (leaves : List ℕ) (a b : ElmType (Leaf ℕ))
    (can : CanWrite s leaves (Made head.Function (MoreType a (MoreType b NoType)))) where
  pub can_first : CanWrite s leaves a
  can_first = record {
    kinds = can.kinds;
    below = all_first (IsBelow (length can.kinds)) (variables a) (variables b ++ []) can.below;
    formed = and_left (is_formed can.kinds a) (is_formed can.kinds b && true) can.formed;
    lacks = can.lacks;
  }

  pub can_others : CanWrite s leaves b
  can_others = record {
    kinds = can.kinds;
    below = all_first (IsBelow (length can.kinds)) (variables b) []
        (all_second (IsBelow (length can.kinds)) (variables a) (variables b ++ []) can.below);
    formed = and_left (is_formed can.kinds b) true
        (and_right (is_formed can.kinds a) (is_formed can.kinds b && true) can.formed);
    lacks = can.lacks;
  }

can_rest : (s : Store) (leaves : List ℕ) (ts : List (ElmType (Leaf ℕ))) (r : ElmType (Leaf ℕ)) (i : ℕ)
    → CanWrite s leaves (functions ts r) → CanWrite s leaves (functions (drop i ts) r)
can_rest s leaves ts r zero can = can
can_rest s leaves [] r (suc i) can = can
can_rest s leaves (t ∷ ts) r (suc i) can = can_rest s leaves ts r i (can_others s leaves t (functions ts r) can)

pub can_later : (old new : State) (leaves : List ℕ) (t : ElmType (Leaf ℕ)) (ts : List (ElmType (Leaf ℕ))) (vs : List ℕ)
    → AllByRecursion (Live old.depth old.store) leaves
    → PartsWritten leaves ts old new vs → CanWrite old.store leaves t → CanWrite new.store leaves t
can_later old new leaves t ts vs live w can = record {
  kinds = can.kinds;
  below = can.below;
  formed = can.formed;
  lacks = lacking_later old new w.follows leaves can.kinds live can.lacks;
}

-- ---- in a loop over the parameters

-- the first i parameters were written, and the others stand from here on
pub record Written (leaves : List ℕ) (ns : List Node) (arity : ℕ) (old u : State) (i start : ℕ) (vs : List ℕ) : Type 0
  where
    pub parts : PartsWritten leaves (take i (parameters_in arity (type_of ns))) old u vs
    pub nodes : drop start ns ≡ spell (functions (drop i (parameters_in arity (type_of ns)))
        (result_in arity (type_of ns)))
    pub inside : start < length ns

some_nodes : (t : ElmType (Leaf ℕ)) → 0 < length (spell t)
unfolding spell
some_nodes (Made h ts) = omega arith
some_nodes (Record fs end) = omega arith

spelled_inside : (ns : List Node) (start : ℕ) (t : ElmType (Leaf ℕ)) → drop start ns ≡ spell t → start < length ns
spelled_inside ns start t is = omega (arith, length-drop start ns, ap length is, some_nodes t)

pub written_first : (leaves : List ℕ) (ns : List Node) (arity : ℕ) (s : State) → IsStore s.store → AreSpelled ns
    → Written leaves ns arity s s 0 0 []
written_first leaves ns arity s whole spelled =
    let is = sym spelled ∙ ap spell (sym (parted arity (type_of ns))) in
    record {
      parts = no_parts leaves s whole;
      nodes = is;
      inside = spelled_inside ns 0 (functions (parameters_in arity (type_of ns)) (result_in arity (type_of ns))) is;
    }

-- the type of the next parameter
pub record Found (ts : List (ElmType (Leaf ℕ))) (i n : ℕ) : Type 0 where
  pub type : ElmType (Leaf ℕ)
  pub split : drop i ts ≡ type ∷ drop (suc i) ts
  pub size : n ≡ length (spell type)
  pub more : take (suc i) ts ≡ take i ts ++ type ∷ []

found : (ts : List (ElmType (Leaf ℕ))) (i n : ℕ) → i < length ts → n ≡ get_or (lengths_of ts) i 0 → Found ts i n
found [] i n l e = absurd (omega arith)
found (t ∷ ts) zero n l e = record { type = t; split = refl; size = e; more = refl }
found (t ∷ ts) (suc i) n l e =
    let f = found ts i n (omega arith) e in
    record { type = f.type; split = f.split; size = f.size; more = ap (λ us. t ∷ us) f.more }

past_first : {X : Type 0} (n : ℕ) (xs ys : List X) → n ≡ length xs → drop n (xs ++ ys) ≡ ys
past_first n [] ys e = ap (λ k. drop k ys) e
past_first zero (x ∷ xs) ys e = absurd (omega (arith, e))
past_first (suc n) (x ∷ xs) ys e = past_first n xs ys (omega (arith, e))

the_first : {X : Type 0} (n : ℕ) (xs ys : List X) → n ≡ length xs → take n (xs ++ ys) ≡ xs
the_first n [] ys e = ap (λ k. take k ys) e
the_first zero (x ∷ xs) ys e = absurd (omega (arith, e))
the_first (suc n) (x ∷ xs) ys e = ap (λ zs. x ∷ zs) (the_first n xs ys (omega (arith, e)))

module _ (leaves : List ℕ) (ns : List Node) (arity : ℕ) (old u : State) (i start n : ℕ) (vs : List ℕ) (lengths : List ℕ)
    (w : Written leaves ns arity old u i start vs)
    (measured : lengths ≡ lengths_of (parameters_in arity (type_of ns))) (l : i < length lengths)
    (size : n ≡ get_or lengths i 0) where
  abbrev ts : List (ElmType (Leaf ℕ))
  ts = parameters_in arity (type_of ns)

  abbrev r : ElmType (Leaf ℕ)
  r = result_in arity (type_of ns)

  among : i < length ts
  among = omega (arith, l, ap length measured, length-map ts (λ t. length (spell t)))

  pub next : Found ts i n
  next = found ts i n among (size ∙ ap (λ ls. get_or ls i 0) measured)

  abbrev others : ElmType (Leaf ℕ)
  others = functions (drop (suc i) ts) r

  arrow_there : drop start ns ≡ spell (Made head.Function (MoreType next.type (MoreType others NoType)))
  arrow_there = w.nodes ∙ ap (λ us. spell (functions us r)) next.split

  past_arrow : drop (start + 1) ns ≡ spell next.type ++ (spell others ++ [])
  unfolding spell
  past_arrow = sym (drop-drop 1 start ns) ∙ ap (drop 1) arrow_there

  -- there is room for it
  pub next_room : start + 1 + n < length ns
  next_room =
      omega (
        arith,
        length-drop (start + 1) ns,
        ap length past_arrow,
        length-append (spell next.type) (spell others ++ []),
        length-append (spell others) [],
        some_nodes others,
        next.size,
      )

  -- its nodes
  pub next_nodes : take n (drop (start + 1) ns) ≡ spell next.type
  next_nodes = ap (take n) past_arrow ∙ the_first n (spell next.type) (spell others ++ []) next.size

  pub next_can : AllByRecursion (Live old.depth old.store) leaves → CanWrite old.store leaves (type_of ns)
      → CanWrite u.store leaves next.type
  next_can live can =
      let whole = subst (CanWrite old.store leaves) (sym (parted arity (type_of ns))) can in
      let here = subst (λ us. CanWrite old.store leaves (functions us r)) next.split
      (can_rest old.store leaves ts r i whole) in
      can_later old u leaves next.type (take i ts) vs live w.parts (can_first old.store leaves next.type others here)

  pub next_written : (new : State) (v : ℕ) → Writes leaves next.type u new v → Written leaves ns arity old new (i + 1)
      (start + 1 + n) (vs ++ v ∷ [])
  next_written new v made =
      let one : suc i ≡ i + 1 = omega arith in
      let nodes = sym (drop-drop n (start + 1) ns)
      ∙ (ap (drop n) past_arrow ∙ (past_first n (spell next.type) (spell others ++ []) next.size ∙ append-nil
      (spell others))) in
      record {
        parts =
            subst (λ us. PartsWritten leaves us old new (vs ++ v ∷ [])) (sym next.more ∙ ap (λ k. take k ts) one)
            (one_more_part leaves (take i ts) next.type old u new vs v w.parts made);
        nodes = nodes ∙ ap (λ k. spell (functions (drop k ts) r)) one;
        inside = next_room;
      }

past_all : {X : Type 0} (n : ℕ) (xs : List X) → length xs ≤ n → drop n xs ≡ []
past_all zero [] h = refl
past_all zero (x ∷ xs) h = absurd (omega (arith, h))
past_all (suc n) [] h = refl
past_all (suc n) (x ∷ xs) h = past_all n xs (omega (arith, h))

take_all : {X : Type 0} (n : ℕ) (xs : List X) → length xs ≤ n → take n xs ≡ xs
take_all zero [] h = refl
take_all zero (x ∷ xs) h = absurd (omega (arith, h))
take_all (suc n) [] h = refl
take_all (suc n) (x ∷ xs) h = ap (λ ys. x ∷ ys) (take_all n xs (omega (arith, h)))

module _ (leaves : List ℕ) (ns : List Node) (arity : ℕ) (old u : State) (i start : ℕ) (vs : List ℕ) (lengths : List ℕ)
    (w : Written leaves ns arity old u i start vs)
    (measured : lengths ≡ lengths_of (parameters_in arity (type_of ns))) (l : length lengths ≤ i) where
  all_among : length (parameters_in arity (type_of ns)) ≤ i
  all_among = omega (
    arith,
    l,
    ap length measured,
    length-map (parameters_in arity (type_of ns))
        (λ t. length (spell t)),
  )

  pub last_nodes : drop start ns ≡ spell (result_in arity (type_of ns))
  last_nodes = w.nodes ∙ ap (λ us. spell (functions us (result_in arity (type_of ns))))
      (past_all i (parameters_in arity (type_of ns)) all_among)

  pub last_can : AllByRecursion (Live old.depth old.store) leaves → CanWrite old.store leaves (type_of ns)
      → CanWrite u.store leaves (result_in arity (type_of ns))
  last_can live can =
      let ts = parameters_in arity (type_of ns) in
      let r = result_in arity (type_of ns) in
      let whole = subst (CanWrite old.store leaves) (sym (parted arity (type_of ns))) can in
      let here = subst (λ us. CanWrite old.store leaves (functions us r)) (past_all i ts all_among)
      (can_rest old.store leaves ts r i whole) in
      can_later old u leaves r (take i ts) vs live w.parts here

  pub all_written : (new : State) (v : ℕ) → Writes leaves (result_in arity (type_of ns)) u new v
      → FunctionWritten leaves arity (type_of ns) old new v vs
  all_written new v made =
      let ts = parameters_in arity (type_of ns) in
      let parts = subst (λ us. PartsWritten leaves us old u vs) (take_all i ts all_among) w.parts in
      and_result leaves ts (result_in arity (type_of ns)) old u new vs v parts made

-- what the nodes are of
pub spelled : (ns : List Node) (t : ElmType (Leaf ℕ)) → ns ≡ spell t → AreSpelled ns
spelled ns t is = spelled_by ns t (sym is)

pub is_of : (ns : List Node) (t : ElmType (Leaf ℕ)) → ns ≡ spell t → type_of ns ≡ t
is_of ns t is = spelled_type ns t (sym is)
