-- The definitions of a type group, by their numbers.
use Rattle.std.proofs.Common.{◌≡◌, ℕ, zero, suc, ◌+◌, ◌<◌, List, [], ◌∷◌, ◌++◌, length, map, get_or, take, inl}
use Rattle.std.proofs.Common.{inr, true, refl}
use Rattle.std.proofs.Common.{sym, ap, ◌∙◌, subst, arith, Some, Vec, Global}
use Rattle.std.specs.Prelude.{slice_get, Option, option_map}
use Rattle.std.specs.Borrow.{Bor}
use Rattle.std.specs.List.{All, AllByRecursion, AllZip, filter_map, cons_option}
use Rattle.decl_groups.specs.Groups.{plain as plain_lists}
use Rattle.decl_groups.specs.InOrder.{ordered_groups}
use Rattle.elm_canon.specs.Tree.{Group, groups_of}
use Rattle.elm_canon.specs.View.{title_view}
use Rattle.elm_canon.specs.declared.tree.Title.{Title}
use Rattle.type_items.specs.Definitions as plain
use Rattle.type_items.specs.Definitions.{type_groups, all_uses}
use Rattle.infer_order.specs.Spots.{at_spot, has_titles}
use Rattle.infer_order.specs.Order.{ordered, IsTitled, TitleIs, IsDefinition, AreDefinitions, IsOrder, IsSimple}
use Rattle.infer_order.specs.Order.{group_list}
use Rattle.infer_order.specs.Order.{HasTitle as SpotHasTitle, StandsAlone}
use Rattle.infer_order.specs.declared.order.Definition.{Definition}
use Rattle.infer_order.specs.declared.order.Order.{Order}
use Rattle.infer_groups.specs.Members.{IsTitledAs}
use Rattle.std.proofs.lemmas.Option.{slice_get-map}
use Rattle.std.proofs.lemmas.List.{take_more}
use Rattle.infer_order.proofs.Zips.{zip_push, zip_length}
use Rattle.infer_exprs.specs.Members.{HasTitle, StandAlone, IsTypeGroup}

-- ---- those that stand at numbers

abbrev pub StandAt : {X : Type 0} → List X → List X → List ℕ → Type 0
StandAt xs ms ns = AllZip (λ m i. slice_get xs i ≡ Some m) ms ns

pub some_same : {X : Type 0} (x y : X) → Some x ≡ Some y → x ≡ y
some_same x y e = cc

record Found {X Y : Type 0} (R : X → Y → Type 0) (m : X) (ys : List Y) (i : ℕ) : Type 0 where
  pub other : Y
  pub at : slice_get ys i ≡ Some other
  pub related : R m other

found : {X Y : Type 0} (R : X → Y → Type 0) (xs : List X) (ys : List Y) (i : ℕ) (m : X) → AllZip R xs ys
    → slice_get xs i ≡ Some m → Found R m ys i
found R [] ys i m h e = absurd cc
found R (x ∷ xs) [] i m h e = absurd h
found R (x ∷ xs) (y ∷ ys) zero m h e =
    record { other = y; at = refl; related = subst (λ z. R z y) (some_same x m e) h.0 }
found R (x ∷ xs) (y ∷ ys) (suc i) m h e =
    let f = found R xs ys i m h.1 e in record { other = f.other; at = f.at; related = f.related }

kept_one : {Y : Type 0} (f : ℕ → Option Y) (i : ℕ) (y : Y) (ns : List ℕ) → f i ≡ Some y
    → filter_map f (i ∷ ns) ≡ y ∷ filter_map f ns
kept_one f i y ns e = ap (λ o. cons_option o (filter_map f ns)) e

-- of lists side by side, those at the same numbers
pub picked : {X Y : Type 0} (R : X → Y → Type 0) (xs : List X) (ys : List Y) (ms : List X) (ns : List ℕ)
    → AllZip R xs ys
    → StandAt xs ms ns → AllZip R ms (filter_map (slice_get ys) ns)
picked R xs ys [] [] h s = tt
picked R xs ys [] (n ∷ ns) h s = absurd s
picked R xs ys (m ∷ ms) [] h s = absurd s
picked R xs ys (m ∷ ms) (n ∷ ns) h s =
    let f = found R xs ys n m h s.0 in
    subst (λ l. AllZip R (m ∷ ms) l) (sym (kept_one (slice_get ys) n f.other ns f.at))
    (f.related, picked R xs ys ms ns h s.1)

-- ---- which of them have a title

abbrev spot_of : Definition → ℕ × ℕ
spot_of x = (x.group, x.function)

stands : (gs : List Group) (xs : List Definition) (ds : List plain.Definition) → AreDefinitions gs xs ds
    → map (λ s. at_spot gs s.0 s.1) (map spot_of xs) ≡ map (λ d. Some d) ds
stands gs [] [] h = refl
stands gs [] (d ∷ ds) h = absurd h
stands gs (x ∷ xs) [] h = absurd h
stands gs (x ∷ xs) (d ∷ ds) h =
    ap (λ o. o ∷ map (λ s. at_spot gs s.0 s.1) (map spot_of xs)) h.0.at ∙ ap (λ l. Some d ∷ l) (stands gs xs ds h.1)

same_groups : (gs : List Group) → group_list (groups_of gs) ≡ gs
same_groups [] = refl
same_groups (g ∷ gs) = ap (λ l. g ∷ l) (same_groups gs)

spot_at : (xs : List Definition) (i : ℕ) (m : Definition) → slice_get xs i ≡ Some m
    → slice_get (map spot_of xs) i ≡ Some (spot_of m)
spot_at xs i m e = slice_get-map spot_of xs i ∙ ap (option_map spot_of) e

titled_one : (gs : List Group) (xs : List Definition) (ds : List plain.Definition) (i : ℕ) (m : Definition)
    → AreDefinitions gs xs ds → slice_get xs i ≡ Some m → SpotHasTitle gs (slice_get (map spot_of xs) i) → HasTitle m
titled_one gs xs ds i m h e t =
    let there : has_titles (slice_get gs m.group) ≡ true = subst (SpotHasTitle gs) (spot_at xs i m e) t in
    let f = found (IsDefinition gs) xs ds i m h e in
    f.related.kind ∙ there

titled_each : (gs : List Group) (xs : List Definition) (ds : List plain.Definition) (ms : List Definition) (ns : List ℕ)
    → AreDefinitions gs xs ds → StandAt xs ms ns
    → AllByRecursion (λ i. SpotHasTitle gs (slice_get (map spot_of xs) i)) ns → AllByRecursion HasTitle ms
titled_each gs xs ds [] [] h s t = tt
titled_each gs xs ds [] (n ∷ ns) h s t = absurd s
titled_each gs xs ds (m ∷ ms) [] h s t = absurd s
titled_each gs xs ds (m ∷ ms) (n ∷ ns) h s t =
    (titled_one gs xs ds n m h s.0 t.0, titled_each gs xs ds ms ns h s.1 t.1)

alone : (gs : List Group) (xs : List Definition) (ds : List plain.Definition) (ms : List Definition) (ns : List ℕ)
    → AreDefinitions gs xs ds → StandAt xs ms ns → StandsAlone gs (map spot_of xs) ns → StandAlone ms
alone gs xs ds ms ns h s (inl few) =
    inl (let c = zip_length (λ m i. slice_get xs i ≡ Some m) ms ns s in omega (arith, c, few))
alone gs xs ds ms ns h s (inr each) = inr (titled_each gs xs ds ms ns h s each)

pub all_some : {X : Type 0} (P : X → Type 0) (xs : List X) (i : ℕ) (x : X) → AllByRecursion P xs
    → slice_get xs i ≡ Some x
    → P x
all_some P [] i x h e = absurd cc
all_some P (y ∷ ys) zero x h e = subst P (some_same y x e) h.0
all_some P (y ∷ ys) (suc i) x h e = all_some P ys i x h.1 e

pub at_number : {X : Type 0} (xs : List X) (k : ℕ) (x d : X) → k < length xs → x ≡ get_or xs k d
    → slice_get xs k ≡ Some x
at_number [] k x d l e = absurd (omega (arith, l))
at_number (y ∷ ys) zero x d l e = ap (λ z. Some z) (sym e)
at_number (y ∷ ys) (suc k) x d l e = at_number ys k x d (omega (arith, l)) e

-- ---- the type group of a number

pub type_group : (gs : List Group) (order : Order) (k : ℕ) (ns : Vec ℕ Global) (ms : List Definition) → IsOrder gs order
    → IsSimple (groups_of gs) → k < length order.groups.items → ns ≡ get_or order.groups.items k ns
    → StandAt order.definitions.items ms ns.items → IsTypeGroup gs k ms
type_group gs order k ns ms is simple few here stand =
    let xs = order.definitions.items in
    let here_groups : slice_get (plain_lists order.groups.items) k ≡ Some ns.items =
    slice_get-map (λ (v : Vec ℕ Global). v.items) order.groups.items k
    ∙ ap (option_map (λ (v : Vec ℕ Global). v.items)) (at_number order.groups.items k ns ns few here) in
    let here_order : slice_get (ordered_groups (all_uses (ordered gs))) k ≡ Some ns.items =
    subst (λ l. slice_get l k ≡ Some ns.items) is.groups here_groups in
    let same = same_groups gs in
    let spots = subst (λ l. map (λ s. at_spot l s.0 s.1) (map spot_of xs) ≡ map (λ d. Some d) (ordered gs)) (sym same)
    (stands gs xs (ordered gs) is.definitions) in
    let each = simple.each (map spot_of xs) spots in
    let one = subst (λ l. StandsAlone l (map spot_of xs) ns.items) same
    (all_some (StandsAlone (group_list (groups_of gs)) (map spot_of xs)) (ordered_groups (all_uses (ordered gs))) k
    ns.items each here_order) in
    record {
      group = filter_map (slice_get (ordered gs)) ns.items;
      at = slice_get-map (λ g. filter_map (slice_get (ordered gs)) g) (ordered_groups (all_uses (ordered gs))) k
          ∙ ap (option_map (λ g. filter_map (slice_get (ordered gs)) g)) here_order;
      definitions = picked (IsDefinition gs) xs (ordered gs) ms ns.items is.definitions stand;
      alone = alone gs xs (ordered gs) ms ns.items is.definitions stand one;
    }

-- one more of them
pub stand_next : {X : Type 0} (xs ms new : List X) (ns : List ℕ) (k i : ℕ) (x d : X) → StandAt xs ms (take k ns)
    → k < length ns → i ≡ get_or ns k i → i < length xs → x ≡ get_or xs i d → new ≡ ms ++ x ∷ []
    → StandAt xs new (take (k + 1) ns)
stand_next xs ms new ns k i x d h l at few is made =
    subst (λ l. StandAt xs l (take (k + 1) ns)) (sym made)
    (subst (StandAt xs (ms ++ x ∷ [])) (sym (take_more ns k i l))
    (zip_push (λ m j. slice_get xs j ≡ Some m) ms (take k ns) x (get_or ns k i) h
    (subst (λ j. slice_get xs j ≡ Some x) at (at_number xs i x d few is))))

-- ---- their titles

titled_as : (t : Bor Title) (d : plain.Definition) → IsTitled (title_view t.now) d → IsTitledAs t.now.name d
titled_as t d h = record { title = title_view t.now; uses = h.uses; list = h.list; is = h.is; name = refl }

abbrev pub TitleFound : Bor Title → Definition → Type 0
TitleFound t m = m.title ≡ Some t

titles_each : (gs : List Group) (ts : List (Bor Title)) (ms : List Definition) (ds : List plain.Definition)
    → AllZip TitleFound ts ms → AreDefinitions gs ms ds → AllZip (λ (t : Bor Title) d. IsTitledAs t.now.name d) ts ds
titles_each gs [] [] [] t h = tt
titles_each gs [] [] (d ∷ ds) t h = absurd h
titles_each gs [] (m ∷ ms) ds t h = absurd t
titles_each gs (x ∷ xs) [] ds t h = absurd t
titles_each gs (x ∷ xs) (m ∷ ms) [] t h = absurd h
titles_each gs (x ∷ xs) (m ∷ ms) (d ∷ ds) t h =
    (titled_as x d (subst (λ o. TitleIs o d) t.0 h.0.title), titles_each gs xs ms ds t.1 h.1)

pub titles_all : (gs : List Group) (ts : List (Bor Title)) (ms : List Definition) (ds : List plain.Definition)
    → AllZip TitleFound ts ms → AreDefinitions gs ms ds → AllZip (λ (t : Bor Title) d. IsTitledAs t.now.name d) ts ds
titles_all = titles_each

pub title_next : (ts new : List (Bor Title)) (ms : List Definition) (k : ℕ) (t : Bor Title) (m : Definition)
    → AllZip TitleFound ts (take k ms) → k < length ms → m ≡ get_or ms k m → m.title ≡ Some t → new ≡ ts ++ t ∷ []
    → AllZip TitleFound new (take (k + 1) ms)
title_next ts new ms k t m h l here found_ made =
    subst (λ l. AllZip TitleFound l (take (k + 1) ms)) (sym made)
    (subst (AllZip TitleFound (ts ++ t ∷ [])) (sym (take_more ms k m l))
    (zip_push TitleFound ts (take k ms) t (get_or ms k m) h
    (subst (λ (x : Definition). TitleFound t x) here found_)))

-- the numbers are below how many there are
pub inside_at : (n : ℕ) (vs : List (Vec ℕ Global)) (k : ℕ) (v : Vec ℕ Global) (w : List ℕ) (i d : ℕ)
    → AllByRecursion (All (λ j. j < n)) (plain_lists vs) → k < length vs → v ≡ get_or vs k v → w ≡ v.items
    → i < length w → get_or w i d < n
inside_at n vs k v w i d h few here e l =
    let there : slice_get (plain_lists vs) k ≡ Some v.items =
    slice_get-map (λ (u : Vec ℕ Global). u.items) vs k
    ∙ ap (option_map (λ (u : Vec ℕ Global). u.items)) (at_number vs k v v few here) in
    subst (λ u. get_or u i d < n) (sym e)
    (all_some (All (λ j. j < n)) (plain_lists vs) k v.items h there i d (subst (λ u. i < length u) e l))
