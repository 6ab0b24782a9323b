-- One name more.
use Rattle.std.proofs.Common.{◌≡◌, ℕ, ◌+◌, ◌<◌, List, [], ◌∷◌, ◌++◌, length, map, take, get_or, refl, sym, ap, ◌∙◌}
use Rattle.std.proofs.Common.{subst}
use Rattle.std.specs.Prelude.{All}
use Rattle.std.specs.List.{AllByRecursion, AllZip}
use Rattle.std.proofs.lemmas.List.Elements.{All-from_recursion}
use Rattle.type_walks.specs.Links.{Live}
use Rattle.std.proofs.lemmas.List.{take_more, map-append}
use Rattle.std.specs.Borrow.{Bor}
use Rattle.elm_canon.specs.declared.tree.Title.{Title}
use Rattle.type_items.specs.Definitions.{Definition}
use Rattle.type_store.specs.Store.{Store}
use Rattle.type_schemes.specs.Freezing.{IsFrozen}
use Rattle.type_schemes.specs.View.{frozen_view}
use Rattle.infer_steps.specs.Codes.{Code, One, Many, with_meaning}
use Rattle.infer_groups.specs.Members as members
use Rattle.infer_groups.specs.Members.{with_named, IsTitledAs, AreTitled}
use Rattle.infer_groups.specs.General.{Generalised, with_general, AreFrozen}
use Rattle.infer_groups.specs.Names.{named_view, named_views, general_view}
use Rattle.infer_groups.specs.declared.names.Named.{Named}
use Rattle.infer_groups.specs.declared.names.General.{General}

pub named_more : (ns : List members.Named) (n : members.Named) (code : Code)
    → with_named (ns ++ n ∷ []) code ≡ with_named ns (with_meaning n.0 (One n.1) code)
named_more [] n code = refl
named_more (m ∷ ms) n code = ap (with_meaning m.0 (One m.1)) (named_more ms n code)

pub general_more : (gs : List Generalised) (g : Generalised) (code : Code)
    → with_general (gs ++ g ∷ []) code ≡ with_general gs (with_meaning g.0 (Many g.1) code)
general_more [] g code = refl
general_more (h ∷ hs) g code = ap (with_meaning h.0 (Many h.1)) (general_more hs g code)

pub take_next : {X : Type 0} (xs : List X) (i : ℕ) (x : X) → i < length xs → x ≡ get_or xs i x
    → take (i + 1) xs ≡ take i xs ++ x ∷ []
take_next xs i x lt is = take_more xs i x lt ∙ ap (λ y. take i xs ++ y ∷ []) (sym is)

zip_push : {X Y : Type 0} (R : X → Y → Type 0) (xs : List X) (ys : List Y) (x : X) (y : Y) → AllZip R xs ys → R x y
    → AllZip R (xs ++ x ∷ []) (ys ++ y ∷ [])
zip_push R [] [] x y h r = (r, tt)
zip_push R [] (w ∷ ws) x y h r = absurd h
zip_push R (v ∷ vs) [] x y h r = absurd h
zip_push R (v ∷ vs) (w ∷ ws) x y h r = (h.0, zip_push R vs ws x y h.1 r)

pub next_frozen : (d : ℕ) (s : Store) (names : List Named) (i : ℕ) (n : Named) (old new : List General) (g : General)
    → i < length names → n ≡ get_or names i n
    → new ≡ old ++ g ∷ [] → AreFrozen d s (named_views (take i names)) (map general_view old) → g.name ≡ n.name
    → IsFrozen d s n.variable (frozen_view g.frozen) → AreFrozen d s (named_views (take (i + 1) names))
    (map general_view new)
next_frozen d s names i n old new g lt is more h name frozen =
    subst (λ l. AreFrozen d s (named_views l) (map general_view new)) (sym (take_next names i n lt is))
    (subst (λ l. AreFrozen d s (named_views (take i names ++ n ∷ [])) (map general_view l)) (sym more)
    (subst (λ l. AreFrozen d s l (map general_view (old ++ g ∷ [])))
    (sym (map-append named_view (take i names) (n ∷ [])))
    (subst (λ l. AreFrozen d s (named_views (take i names) ++ named_view n ∷ []) l)
    (sym (map-append general_view old (g ∷ [])))
    (zip_push (λ (m : members.Named) (k : Generalised). (k.0 ≡ m.0) × IsFrozen d s m.1 k.1) (named_views (take i names))
    (map general_view old) (named_view n) (general_view g) h
    (name, frozen)))))

-- ---- the names and the variables apart

pub views_variables : (names : List Named) → map (λ n. n.1) (named_views names) ≡ map (λ n. n.variable) names
views_variables [] = refl
views_variables (n ∷ ns) = ap (λ l. n.variable ∷ l) (views_variables ns)

pub views_titled : (names : List Named) (titles : List (Bor Title)) (ds : List Definition)
    → map (λ n. n.name) names ≡ map (λ t. t.now.name) titles
    → AllZip (λ t d. IsTitledAs t.now.name d) titles ds → AreTitled (named_views names) ds
views_titled [] [] [] e h = tt
views_titled [] [] (d ∷ ds) e h = absurd h
views_titled [] (t ∷ ts) ds e h = absurd cc
views_titled (n ∷ ns) [] ds e h = absurd cc
views_titled (n ∷ ns) (t ∷ ts) [] e h = absurd h
views_titled (n ∷ ns) (t ∷ ts) (d ∷ ds) e h =
    let first : t.now.name ≡ n.name = cc in
    let rest : map (λ (n : Named). n.name) ns ≡ map (λ (t : Bor Title). t.now.name) ts = cc in
    (subst (λ x. IsTitledAs x d) first h.0, views_titled ns ts ds rest h.1)

variables_inside : (d : ℕ) (s : Store) (names : List Named) → AllByRecursion (λ (n : members.Named). Live d s n.1)
    (named_views names)
    → AllByRecursion (λ (n : Named). n.variable < length s) names
variables_inside d s [] h = tt
variables_inside d s (n ∷ ns) h = (h.0.inside, variables_inside d s ns h.1)

pub each_inside : (d : ℕ) (s : Store) (names : List Named) → AllByRecursion (λ (n : members.Named). Live d s n.1)
    (named_views names)
    → All (λ (n : Named). n.variable < length s) names
each_inside d s names h = All-from_recursion (λ (n : Named). n.variable < length s) names (variables_inside d s names h)
