-- What serves a name's entry has the type that a use of the name wants.
use Rattle.std.proofs.Common.{◌≡◌, ℕ, zero, suc, ◌+◌, List, [], ◌∷◌, true, Option, Some, None, flat_map, refl, sym, ap, ◌∙◌, subst, arith}
use Rattle.std.specs.List.{enumerate_from}
use Rattle.runs.specs.Ends.{End, Val, Crashed, OutOfFuel, Unsafe, Stuck}
use Rattle.elm_base.specs.declared.position.Pos.{Pos}
use Rattle.elm_type.specs.Types.{Name, Leaf, Free, Fixed, Kind, any_kind, kind_at, Scheme, int_type, tuple}
use Rattle.elm_type.specs.Classes.{Ground, meets}
use Rattle.elm_type.specs.Rows.{substitute}
use Rattle.elm_type.specs.declared.class.Class.{Class}
use Rattle.elm_type.specs.declared.class.Class.TheVariants.{Any, Number, Comparable, Appendable, CompAppend}
use Rattle.elm_type.specs.Ground.{lacks, lacks_all, leaf_value, value, fits}
use Rattle.type_items.specs.Items.{Place, child, Wanted, at, Same, class_items, lack_items, kind_items}
use Rattle.elm_meaning.specs.Envs.{lookup}
use Rattle.type_items.specs.Scopes.{entry_of, Entry, Mono, Instance, General, Scope, leaf_at, instance, instance_items, use_items}
use Rattle.type_items.specs.Solutions.{Solves}
use Rattle.typed_values.specs.Frames.{Frame, of, Stands, Serves, ground_instance, instance_leaf, Chosen}
use Rattle.typed_values.specs.Typed.{EndsWell, Has}
use Rattle.typed_values.specs.Using.{UsesEndWell}
use Rattle.typed_values.proofs.Rows.{extend_none, substitute_twice, after_renamed, substitute_same}
use Rattle.typed_values.proofs.Keeping.{and_both, meets_any, fits_kept}
use Rattle.typed_values.proofs.Names.{solves_left, solves_right}
use Rattle.typed_values.proofs.Envs.{agree_refl, look_good}

any_fits : (g : Ground) → fits any_kind g ≡ true
any_fits g = and_both (meets Any g) true (meets_any g) refl

pub value_at : (f : Frame) (p : Place) → value f.values (at p) ≡ f.values p
value_at f p = extend_none (f.values p)

pub class_holds : (f : Frame) (pos : Pos) (p : Place) (c : Class) → Solves f.values (class_items pos (at p) c) → meets c (f.values p) ≡ true
class_holds f pos p Any h = meets_any (f.values p)
class_holds f pos p Number h = ap (meets Number) (sym (value_at f p)) ∙ h.0
class_holds f pos p Comparable h = ap (meets Comparable) (sym (value_at f p)) ∙ h.0
class_holds f pos p Appendable h = ap (meets Appendable) (sym (value_at f p)) ∙ h.0
class_holds f pos p CompAppend h = ap (meets CompAppend) (sym (value_at f p)) ∙ h.0

pub lacks_hold : (f : Frame) (pos : Pos) (p : Place) (xs : List Name) → Solves f.values (lack_items pos (at p) xs) → lacks_all xs (f.values p) ≡ true
lacks_hold f pos p [] h = refl
lacks_hold f pos p (x ∷ xs) h =
    and_both (lacks x (f.values p)) (lacks_all xs (f.values p)) (ap (lacks x) (sym (value_at f p)) ∙ h.0) (lacks_hold f pos p xs h.1)

kind_holds : (f : Frame) (pos : Pos) (p : Place) (k : Kind) → Solves f.values (kind_items pos (at p) k) → fits k (f.values p) ≡ true
kind_holds f pos p k h =
    and_both (meets k.class (f.values p)) (lacks_all k.lacks (f.values p))
    (class_holds f pos p k.class (solves_left f (class_items pos (at p) k.class) (lack_items pos (at p) k.lacks) h))
    (lacks_hold f pos p k.lacks (solves_right f (class_items pos (at p) k.class) (lack_items pos (at p) k.lacks) h))

kinds_hold : (f : Frame) (ks : List Kind) (pos : Pos) (q : Place) (j : ℕ) → Solves f.values (flat_map (λ k. kind_items pos (at (child q k.0)) k.1) (enumerate_from j ks))
    → (i : ℕ) → fits (kind_at ks i) (f.values (child q (j + i))) ≡ true
kinds_hold f [] pos q j h i = any_fits (f.values (child q (j + i)))
kinds_hold f (k ∷ ks) pos q j h zero =
    let e : j + 0 ≡ j = omega arith in
    ap (λ n. fits k (f.values (child q n))) e
    ∙ kind_holds f pos (child q j) k (solves_left f (kind_items pos (at (child q j)) k) (flat_map (λ k. kind_items pos (at (child q k.0)) k.1) (enumerate_from (j + 1) ks)) h)
kinds_hold f (k ∷ ks) pos q j h (suc i) =
    let e : j + suc i ≡ (j + 1) + i = omega arith in
    ap (λ n. fits (kind_at ks i) (f.values (child q n))) e
    ∙ kinds_hold f ks pos q (j + 1) (solves_right f (kind_items pos (at (child q j)) k) (flat_map (λ k. kind_items pos (at (child q k.0)) k.1) (enumerate_from (j + 1) ks)) h) i

-- the ground types of an instance at the place of a use
abbrev pub choice_at : Frame → Place → ℕ → Ground
choice_at f q i = substitute f.stands (f.values (child q i))

pub leaf_of : (f : Frame) (q : Place) (l : Leaf ℕ) → substitute f.stands (leaf_value f.values (leaf_at q l)) ≡ instance_leaf (choice_at f q) f l
leaf_of f q (Free i) = refl
leaf_of f q (Fixed r) = extend_none (f.stands r)

of_instance : (f : Frame) (s : Scheme) (q : Place) → of f (instance s q) ≡ ground_instance (choice_at f q) f s
of_instance f s q =
    ap (substitute f.stands) (after_renamed (leaf_at q) (leaf_value f.values) s.type)
    ∙ (substitute_twice (λ l. leaf_value f.values (leaf_at q l)) f.stands s.type ∙ substitute_same _ _ s.type (leaf_of f q))

-- a use has its type
pub use_good : (H : Ground → Type 0) (entry : Entry) (pos : Pos) (p : Place) (w : Wanted) (S : Scope) (f : Frame) → Stands f → Serves H entry S f
    → Solves f.values (use_items (Some entry) pos p w) → H (of f w)
use_good H (Mono t) pos p w S f stands serves h = subst H (ap (substitute f.stands) h.0) serves
use_good H (Instance s) pos p w S f stands serves h =
    let q = child p 0 in
    let kinds = instance_items s.kinds pos q in
    let own = solves_right f kinds (Same pos (instance s q) w ∷ []) h in
    let chosen : Chosen s (choice_at f q) = record {
      kinds = λ i. fits_kept f stands (kind_at s.kinds i) (f.values (child q i))
          (let e : 0 + i ≡ i = omega arith in
          subst (λ n. fits (kind_at s.kinds i) (f.values (child q n)) ≡ true) e (kinds_hold f s.kinds pos q 0 (solves_left f kinds (Same pos (instance s q) w ∷ []) h) i));
    } in
    subst H (sym (of_instance f s q) ∙ ap (substitute f.stands) own.0) (serves f (choice_at f q) stands (agree_refl S f) chosen)
use_good H (General list type) pos p w S f stands serves h =
    let copies = list (child p 0) in
    let own = solves_right f copies (Same pos (type (child p 0)) w ∷ []) h in
    subst H (ap (substitute f.stands) own.0) (serves (child p 0) f stands (agree_refl S f) (solves_left f copies (Same pos (type (child p 0)) w ∷ []) h))

map_well : {X : Type 0} (P Q : X → Type 0) (o : End X) → EndsWell P o → ((x : X) → P x → Q x) → EndsWell Q o
map_well P Q (Val x) h k = k x h
map_well P Q (Crashed t) h k = tt
map_well P Q OutOfFuel h k = tt
map_well P Q Unsafe h k = tt
map_well P Q Stuck h k = absurd h

pub uses_end_well : UsesEndWell
uses_end_well w env hidden scope f x pos p t fits stands free sol = go (entry_of scope x) refl sol
  where
    go : (o : Option Entry) → entry_of scope x ≡ o → Solves f.values (use_items o pos p t) → EndsWell (λ v. Has w v (of f t)) (lookup x env)
    go None e solved = absurd (let n : value f.values int_type ≡ value f.values (tuple []) = solved.0 in cc)
    go (Some entry) e solved =
        map_well (λ v. Serves (λ g. Has w v g) entry scope f) (λ v. Has w v (of f t)) (lookup x env) (look_good w env hidden scope x entry f fits free e)
        (λ v serves. use_good (λ g. Has w v g) entry pos p t scope f stands serves solved)
