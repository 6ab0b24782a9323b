-- Steps that write what a variable may stand for.
use Rattle.std.proofs.Common.{◌≡◌, ℕ, suc, ◌<◌, List, [], ◌∷◌, ◌++◌, length, set, map, Bool, true, false, Option, Some, None, inr, refl, sym, ap, ◌∙◌, subst, All}
use Rattle.std.specs.Prelude.{◌&&◌, ◌||◌}
use Rattle.std.specs.Str.{bytes_eq}
use Rattle.std.proofs.lemmas.List.Elements.{All-head, All-cons, All-nil}
use Rattle.elm_type.specs.Types.{Name, Fields, End, Made, Record, NoField, MoreField, count, types_of, variable, Rigid, Kind}
use Rattle.elm_type.specs.Classes.{Ground, meet, meets, all_meet, meets_some, is_below, is_any, asks, demand_met}
use Rattle.elm_type.specs.Rows.{extend, insert_all, has_field}
use Rattle.elm_type.specs.declared.class.Class.{Class}
use Rattle.elm_type.specs.declared.class.Class.TheVariants.{Any, Number, Comparable, Appendable, CompAppend}
use Rattle.elm_type.specs.declared.demands.Demand.{Demand}
use Rattle.elm_type.specs.declared.demands.Demand.TheVariants.{Never, OfParts}
use Rattle.elm_type.specs.declared.head.Head.{Head}
use Rattle.elm_type.proofs.Meeting.{meets_both}
use Rattle.elm_type.specs.Ground.{contains, lacks, lacks_all, fits}
use Rattle.type_store.specs.Store.{FieldSlot, Built, Row, Constant, Store, slot_at, field_names}
use Rattle.type_store.specs.Solutions.{Values, Says, Meets, Fit, Ask, InClass, Lacks, MeetsAsk, Becomes, Clash, row_value, rest_value}
use Rattle.type_store.specs.Steps.{Leads, part_asks, with_kind, with_depth}
use Rattle.type_store.proofs.RowsMeet.{and_left, and_right, and_both, or_right}
use Rattle.type_store.proofs.RowFields.{has_row, lacks_of, lacks_none, lacks_less, not_in_all}
use Rattle.type_store.proofs.Turns.{stays, becomes, exchanged, constants_same, one_ask, met_at, lacks_to_asks}
use Rattle.type_store.proofs.OneSlot.{says_at, leads_same, HasFields}
use Rattle.type_store.proofs.Names.{equal_itself}

-- what follows from a store may be asked
pub implied : (s : Store) (as_ : List Ask) → ((σ : Values) → Fit σ s → All (MeetsAsk σ) as_) → Becomes s [] s as_
implied s as_ h = becomes s s [] as_ (stays s (λ σ f q. All-nil (MeetsAsk σ)) (λ σ f p. h σ f))

-- and what follows from it need not be asked
pub needless : (s : Store) (a : Ask) → ((σ : Values) → Fit σ s → MeetsAsk σ a) → Becomes s (a ∷ []) s []
needless s a h = becomes s s (a ∷ []) [] (stays s (λ σ f q. one_ask σ a (h σ f)) (λ σ f p. All-nil (MeetsAsk σ)))

pub class_root : (s : Store) (v a : ℕ) (c : Class) → Leads s v a → Becomes s (InClass v c ∷ []) s (InClass a c ∷ [])
class_root s v a c l = becomes s s (InClass v c ∷ []) (InClass a c ∷ []) (stays s
    (λ σ f h. one_ask σ (InClass v c) (subst (λ t. meets c t ≡ true) (sym (leads_same σ s v a f l)) (All-head (MeetsAsk σ) (InClass a c) [] h)))
    (λ σ f h. one_ask σ (InClass a c) (subst (λ t. meets c t ≡ true) (leads_same σ s v a f l) (All-head (MeetsAsk σ) (InClass v c) [] h))))

pub lacks_root : (s : Store) (v a : ℕ) (x : Name) → Leads s v a → Becomes s (Lacks v x ∷ []) s (Lacks a x ∷ [])
lacks_root s v a x l = becomes s s (Lacks v x ∷ []) (Lacks a x ∷ []) (stays s
    (λ σ f h. one_ask σ (Lacks v x) (subst (λ t. lacks x t ≡ true) (sym (leads_same σ s v a f l)) (All-head (MeetsAsk σ) (Lacks a x) [] h)))
    (λ σ f h. one_ask σ (Lacks a x) (subst (λ t. lacks x t ≡ true) (leads_same σ s v a f l) (All-head (MeetsAsk σ) (Lacks v x) [] h))))

-- ---- a slot with another kind, or another depth

pub depth_set : (s : Store) (v d : ℕ) (asked : List Ask) → v < length s → Becomes s asked (set s v (with_depth (slot_at s v) d)) asked
depth_set s v d asked l = becomes s (set s v (with_depth (slot_at s v) d)) asked asked (exchanged s v (with_depth (slot_at s v) d) l
    (constants_same s v v (with_depth (slot_at s v) d) l refl (inr refl))
    (λ σ f q. (
    let m : Meets σ (with_depth (slot_at s v) d) (σ.types v) = met_at σ s v (with_depth (slot_at s v) d) l f in
    (record { cell = m.cell; kind = m.kind; ground = m.ground }, q)))
    (λ σ f p. (record { cell = (f.each v).cell; kind = (f.each v).kind; ground = (f.each v).ground }, p)))

-- the kind takes in what is asked
pub kind_set : (s : Store) (v : ℕ) (k : Kind) (a : Ask) → v < length s
    → ((σ : Values) → fits k (σ.types v) ≡ true → (fits (slot_at s v).kind (σ.types v) ≡ true) × MeetsAsk σ a)
    → ((σ : Values) → fits (slot_at s v).kind (σ.types v) ≡ true → MeetsAsk σ a → fits k (σ.types v) ≡ true)
    → Becomes s (a ∷ []) (set s v (with_kind (slot_at s v) k)) []
kind_set s v k a l back on = becomes s (set s v (with_kind (slot_at s v) k)) (a ∷ []) [] (exchanged s v (with_kind (slot_at s v) k) l
    (constants_same s v v (with_kind (slot_at s v) k) l refl (inr refl))
    (λ σ f q. (
    let m : Meets σ (with_kind (slot_at s v) k) (σ.types v) = met_at σ s v (with_kind (slot_at s v) k) l f in
    let b = back σ m.kind in
    (record { cell = m.cell; kind = b.0; ground = m.ground }, one_ask σ a b.1)))
    (λ σ f p. (
      record { cell = (f.each v).cell; kind = on σ (f.each v).kind (All-head (MeetsAsk σ) a [] p); ground = (f.each v).ground },
      All-nil (MeetsAsk σ),
    )))

-- ---- classes

pub both_classes : (b c d : Class) (t : Ground) → meet b c ≡ Some d → meets d t ≡ true → (meets b t ≡ true) × (meets c t ≡ true)
both_classes b c d t e m =
    let h : (meets b t && meets c t) ≡ true = meets_both b c t ∙ (ap (λ o. meets_some o t) e ∙ m) in
    (and_left (meets b t) (meets c t) h, and_right (meets b t) (meets c t) h)

pub class_set : (s : Store) (v : ℕ) (c d : Class) → v < length s → meet (slot_at s v).kind.class c ≡ Some d
    → Becomes s (InClass v c ∷ []) (set s v (with_kind (slot_at s v) (record { class = d; lacks = (slot_at s v).kind.lacks }))) []
class_set s v c d l e = kind_set s v (record { class = d; lacks = (slot_at s v).kind.lacks }) (InClass v c) l
    (λ σ m. (
    let k = (slot_at s v).kind in
    let t = σ.types v in
    let b = both_classes k.class c d t e (and_left (meets d t) (lacks_all k.lacks t) m) in
    (and_both (meets k.class t) (lacks_all k.lacks t) b.0 (and_right (meets d t) (lacks_all k.lacks t) m), b.1)))
    (λ σ m a. (
    let k = (slot_at s v).kind in
    let t = σ.types v in
    let h : (meets k.class t && meets c t) ≡ true = and_both (meets k.class t) (meets c t) (and_left (meets k.class t) (lacks_all k.lacks t) m) a in
    let w : meets d t ≡ true = sym (meets_both k.class c t ∙ ap (λ o. meets_some o t) e) ∙ h in
    and_both (meets d t) (lacks_all k.lacks t) w (and_right (meets k.class t) (lacks_all k.lacks t) m)))

pub no_class : (s : Store) (v : ℕ) (c : Class) → meet (slot_at s v).kind.class c ≡ None → Clash s (InClass v c ∷ [])
no_class s v c e = record {
  never = λ σ f p. (
      let k = (slot_at s v).kind in
      let t = σ.types v in
      let h : (meets k.class t && meets c t) ≡ true = and_both (meets k.class t) (meets c t) (and_left (meets k.class t) (lacks_all k.lacks t) (f.each v).kind) (All-head (MeetsAsk σ) (InClass v c) [] p) in
      let w : (meets k.class t && meets c t) ≡ false = meets_both k.class c t ∙ ap (λ o. meets_some o t) e in cc);
}

below_meet : (c d : Class) → is_below c d ≡ true → meet c d ≡ Some c
below_meet Any Any e = refl
below_meet Any Number e = absurd (let w : false ≡ true = e in cc)
below_meet Any Comparable e = absurd (let w : false ≡ true = e in cc)
below_meet Any Appendable e = absurd (let w : false ≡ true = e in cc)
below_meet Any CompAppend e = absurd (let w : false ≡ true = e in cc)
below_meet Number Any e = refl
below_meet Number Number e = refl
below_meet Number Comparable e = refl
below_meet Number Appendable e = absurd (let w : false ≡ true = e in cc)
below_meet Number CompAppend e = absurd (let w : false ≡ true = e in cc)
below_meet Comparable Any e = refl
below_meet Comparable Number e = absurd (let w : false ≡ true = e in cc)
below_meet Comparable Comparable e = refl
below_meet Comparable Appendable e = absurd (let w : false ≡ true = e in cc)
below_meet Comparable CompAppend e = absurd (let w : false ≡ true = e in cc)
below_meet Appendable Any e = refl
below_meet Appendable Number e = absurd (let w : false ≡ true = e in cc)
below_meet Appendable Comparable e = absurd (let w : false ≡ true = e in cc)
below_meet Appendable Appendable e = refl
below_meet Appendable CompAppend e = absurd (let w : false ≡ true = e in cc)
below_meet CompAppend Any e = refl
below_meet CompAppend Number e = absurd (let w : false ≡ true = e in cc)
below_meet CompAppend Comparable e = refl
below_meet CompAppend Appendable e = refl
below_meet CompAppend CompAppend e = refl

pub below_meets : (c d : Class) (t : Ground) → is_below c d ≡ true → meets c t ≡ true → meets d t ≡ true
below_meets c d t e m = (both_classes c d c t (below_meet c d e) m).1

-- the class is known
pub class_known : (s : Store) (v : ℕ) (c : Class) → is_below (slot_at s v).kind.class c ≡ true → Becomes s (InClass v c ∷ []) s []
class_known s v c e = needless s (InClass v c) (λ σ f. below_meets (slot_at s v).kind.class c (σ.types v) e (and_left (meets (slot_at s v).kind.class (σ.types v)) (lacks_all (slot_at s v).kind.lacks (σ.types v)) (f.each v).kind))

parts_meet : (σ : Values) (c : Class) (ws : List ℕ) → all_meet c (types_of (map σ.types ws)) ≡ true → All (MeetsAsk σ) (part_asks c ws)
parts_meet σ c [] e = All-nil (MeetsAsk σ)
parts_meet σ c (w ∷ ws) e =
    All-cons (MeetsAsk σ) (InClass w c) (part_asks c ws) (and_left (meets c (σ.types w)) (all_meet c (types_of (map σ.types ws))) e) (parts_meet σ c ws (and_right (meets c (σ.types w)) (all_meet c (types_of (map σ.types ws))) e))

count_types : (σ : Values) (ws : List ℕ) → count (types_of (map σ.types ws)) ≡ length ws
count_types σ [] = refl
count_types σ (w ∷ ws) = ap suc (count_types σ ws)

demanded : (σ : Values) (c : Class) (h : Head) (ws : List ℕ) (d : Demand) → asks c h (length ws) ≡ d → meets c (Made h (types_of (map σ.types ws))) ≡ demand_met d (λ x. all_meet x (types_of (map σ.types ws)))
demanded σ c h ws d e = ap (λ n. demand_met (asks c h n) (λ x. all_meet x (types_of (map σ.types ws)))) (count_types σ ws) ∙ ap (λ x. demand_met x (λ y. all_meet y (types_of (map σ.types ws)))) e

-- a class asks something of the parts
pub parts_asked : (s : Store) (v : ℕ) (c d : Class) (h : Head) (ws : List ℕ) → (slot_at s v).cell ≡ Built h ws → is_below (slot_at s v).kind.class c ≡ true → asks c h (length ws) ≡ OfParts d → Becomes s [] s (part_asks d ws)
parts_asked s v c d h ws e b q = implied s (part_asks d ws) (λ σ f. (
    let k = (slot_at s v).kind in
    let m : meets c (σ.types v) ≡ true = below_meets k.class c (σ.types v) b (and_left (meets k.class (σ.types v)) (lacks_all k.lacks (σ.types v)) (f.each v).kind) in
    parts_meet σ d ws (sym (demanded σ c h ws (OfParts d) q) ∙ (ap (meets c) (sym (says_at σ s v (Built h ws) e f)) ∙ m))))

pub never_built : (s : Store) (v : ℕ) (c : Class) (h : Head) (ws : List ℕ) → (slot_at s v).cell ≡ Built h ws → asks c h (length ws) ≡ Never → Clash s (InClass v c ∷ [])
never_built s v c h ws e q = record {
  never = λ σ f p. (
      let m : meets c (σ.types v) ≡ true = All-head (MeetsAsk σ) (InClass v c) [] p in
      let w : meets c (σ.types v) ≡ false = ap (meets c) (says_at σ s v (Built h ws) e f) ∙ demanded σ c h ws Never q in cc);
}

pub constant_class : (s : Store) (v : ℕ) (c : Class) (r : Rigid) → (slot_at s v).cell ≡ Constant r → is_below r.class c ≡ true → Becomes s (InClass v c ∷ []) s []
constant_class s v c r e b = needless s (InClass v c) (λ σ f. ap (meets c) (says_at σ s v (Constant r) e f) ∙ (ap (λ k. is_below k c) (f.renames.class r) ∙ b))

pub constant_no_class : (s : Store) (v : ℕ) (c : Class) (r : Rigid) → (slot_at s v).cell ≡ Constant r → is_below r.class c ≡ false → Clash s (InClass v c ∷ [])
constant_no_class s v c r e b = record {
  never = λ σ f p. (
      let m : meets c (σ.types v) ≡ true = All-head (MeetsAsk σ) (InClass v c) [] p in
      let w : meets c (σ.types v) ≡ false = ap (meets c) (says_at σ s v (Constant r) e f) ∙ (ap (λ k. is_below k c) (f.renames.class r) ∙ b) in cc);
}

fields_class : (c : Class) (x : Name) (fs : Fields Rigid) (e : End Rigid) → has_field x fs ≡ true → meets c (Record fs e) ≡ is_any c
fields_class c x NoField e h = absurd (let w : false ≡ true = h in cc)
fields_class c x (MoreField k t fs) e h = refl

row_class : (σ : Values) (c : Class) (t : Ground) (fs : List FieldSlot) (end : Option ℕ) → HasFields fs end → Says σ t (Row fs end) → meets c t ≡ is_any c
row_class σ c t [] None h p = ap (meets c) p.0
row_class σ c t [] (Some w) h p = absurd h
row_class σ c t (f ∷ fs) end h p = go (rest_value σ.types end) p
  where
    yes : (gs : Fields Rigid) (b : Bool) → has_field f.0 (insert_all (row_value σ.types (f ∷ fs)) gs) ≡ b → b ≡ true
    yes gs true e = refl
    yes gs false e = absurd (
        let n = (not_in_all f.0 (row_value σ.types (f ∷ fs)) gs e).0 in
        let y : has_field f.0 (row_value σ.types (f ∷ fs)) ≡ true = ap (λ b. b || has_field f.0 (row_value σ.types fs)) (equal_itself f.0) in cc)

    go : (u : Ground) → (t ≡ extend (row_value σ.types (f ∷ fs)) u) × (lacks_all (field_names (f ∷ fs)) u ≡ true) → meets c t ≡ is_any c
    go (Made j us) q = absurd (let w : false ≡ true = q.1 in cc)
    go (Record gs e) q =
        ap (meets c) q.0 ∙ fields_class c f.0 (insert_all (row_value σ.types (f ∷ fs)) gs) e (yes gs (has_field f.0 (insert_all (row_value σ.types (f ∷ fs)) gs)) refl)

pub row_any : (s : Store) (v : ℕ) (c : Class) (fs : List FieldSlot) (end : Option ℕ) → HasFields fs end → (slot_at s v).cell ≡ Row fs end → is_any c ≡ true → Becomes s (InClass v c ∷ []) s []
row_any s v c fs end h e b = needless s (InClass v c) (λ σ f. row_class σ c (σ.types v) fs end h (says_at σ s v (Row fs end) e f) ∙ b)

pub row_no_class : (s : Store) (v : ℕ) (c : Class) (fs : List FieldSlot) (end : Option ℕ) → HasFields fs end → (slot_at s v).cell ≡ Row fs end → is_any c ≡ false → Clash s (InClass v c ∷ [])
row_no_class s v c fs end h e b = record {
  never = λ σ f p. (
      let m : meets c (σ.types v) ≡ true = All-head (MeetsAsk σ) (InClass v c) [] p in
      let w : meets c (σ.types v) ≡ false = row_class σ c (σ.types v) fs end h (says_at σ s v (Row fs end) e f) ∙ b in cc);
}

-- ---- fields that a variable lacks

lacks_pushed : (xs : List Name) (x : Name) (t : Ground) → lacks_all xs t ≡ true → lacks x t ≡ true → lacks_all (xs ++ x ∷ []) t ≡ true
lacks_pushed [] x t a b = and_both (lacks x t) true b refl
lacks_pushed (y ∷ ys) x t a b = and_both (lacks y t) (lacks_all (ys ++ x ∷ []) t) (and_left (lacks y t) (lacks_all ys t) a) (lacks_pushed ys x t (and_right (lacks y t) (lacks_all ys t) a) b)

lacks_both : (xs : List Name) (x : Name) (t : Ground) → lacks_all (xs ++ x ∷ []) t ≡ true → (lacks_all xs t ≡ true) × (lacks x t ≡ true)
lacks_both [] x t a = (refl, and_left (lacks x t) true a)
lacks_both (y ∷ ys) x t a =
    let r = lacks_both ys x t (and_right (lacks y t) (lacks_all (ys ++ x ∷ []) t) a) in
    (and_both (lacks y t) (lacks_all ys t) (and_left (lacks y t) (lacks_all (ys ++ x ∷ []) t) a) r.0, r.1)

pub lacks_set : (s : Store) (v : ℕ) (x : Name) → v < length s
    → Becomes s (Lacks v x ∷ []) (set s v (with_kind (slot_at s v) (record { class = (slot_at s v).kind.class; lacks = (slot_at s v).kind.lacks ++ x ∷ [] }))) []
lacks_set s v x l = kind_set s v (record { class = (slot_at s v).kind.class; lacks = (slot_at s v).kind.lacks ++ x ∷ [] }) (Lacks v x) l
    (λ σ m. (
    let k = (slot_at s v).kind in
    let t = σ.types v in
    let b = lacks_both k.lacks x t (and_right (meets k.class t) (lacks_all (k.lacks ++ x ∷ []) t) m) in
    (and_both (meets k.class t) (lacks_all k.lacks t) (and_left (meets k.class t) (lacks_all (k.lacks ++ x ∷ []) t) m) b.0, b.1)))
    (λ σ m a. (
    let k = (slot_at s v).kind in
    let t = σ.types v in
    and_both (meets k.class t) (lacks_all (k.lacks ++ x ∷ []) t) (and_left (meets k.class t) (lacks_all k.lacks t) m) (lacks_pushed k.lacks x t (and_right (meets k.class t) (lacks_all k.lacks t) m) a)))

pub lacks_known : (s : Store) (v : ℕ) (x : Name) → contains x (slot_at s v).kind.lacks ≡ true → Becomes s (Lacks v x ∷ []) s []
lacks_known s v x c = needless s (Lacks v x) (λ σ f. lacks_of x (slot_at s v).kind.lacks (σ.types v) c (and_right (meets (slot_at s v).kind.class (σ.types v)) (lacks_all (slot_at s v).kind.lacks (σ.types v)) (f.each v).kind))

pub built_lacks : (s : Store) (v : ℕ) (x : Name) (h : Head) (ws : List ℕ) → (slot_at s v).cell ≡ Built h ws → Clash s (Lacks v x ∷ [])
built_lacks s v x h ws e = record {
  never = λ σ f p. (
      let m : lacks x (σ.types v) ≡ true = All-head (MeetsAsk σ) (Lacks v x) [] p in
      let w : lacks x (σ.types v) ≡ false = ap (lacks x) (says_at σ s v (Built h ws) e f) in cc);
}

pub row_has : (s : Store) (v : ℕ) (x : Name) (fs : List FieldSlot) (end : Option ℕ) → (slot_at s v).cell ≡ Row fs end → contains x (field_names fs) ≡ true → Clash s (Lacks v x ∷ [])
row_has s v x fs end e c = record {
  never = λ σ f p. (
      let m : lacks x (σ.types v) ≡ true = All-head (MeetsAsk σ) (Lacks v x) [] p in
      let r : Says σ (σ.types v) (Row fs end) = says_at σ s v (Row fs end) e f in
      let n : has_field x (row_value σ.types fs) ≡ false = lacks_none x (row_value σ.types fs) (rest_value σ.types end) (ap (lacks x) (sym r.0) ∙ m) in
      let y : has_field x (row_value σ.types fs) ≡ true = has_row σ.types x fs ∙ c in cc);
}

-- what a row lacks its end lacks
pub end_asked : (s : Store) (v w : ℕ) (x : Name) (fs : List FieldSlot) → (slot_at s v).cell ≡ Row fs (Some w) → contains x (slot_at s v).kind.lacks ≡ true → Becomes s [] s (Lacks w x ∷ [])
end_asked s v w x fs e c = implied s (Lacks w x ∷ []) (λ σ f. (
    let m : lacks x (σ.types v) ≡ true = lacks_of x (slot_at s v).kind.lacks (σ.types v) c (and_right (meets (slot_at s v).kind.class (σ.types v)) (lacks_all (slot_at s v).kind.lacks (σ.types v)) (f.each v).kind) in
    let r : Says σ (σ.types v) (Row fs (Some w)) = says_at σ s v (Row fs (Some w)) e f in
    one_ask σ (Lacks w x) (lacks_less x (row_value σ.types fs) (σ.types w) (ap (lacks x) (sym r.0) ∙ m))))

-- and it lacks the row's own fields
pub own_asked : (s : Store) (v w : ℕ) (fs : List FieldSlot) → (slot_at s v).cell ≡ Row fs (Some w) → Becomes s [] s (map (Lacks w) (field_names fs))
own_asked s v w fs e = implied s (map (Lacks w) (field_names fs)) (λ σ f. lacks_to_asks σ w (field_names fs) (says_at σ s v (Row fs (Some w)) e f).1)

pub constant_lacks : (s : Store) (v : ℕ) (x : Name) (r : Rigid) → (slot_at s v).cell ≡ Constant r → contains x r.lacks ≡ true → Becomes s (Lacks v x ∷ []) s []
constant_lacks s v x r e c = needless s (Lacks v x) (λ σ f. ap (lacks x) (says_at σ s v (Constant r) e f) ∙ (ap (contains x) (f.renames.lacks r) ∙ c))

pub constant_has : (s : Store) (v : ℕ) (x : Name) (r : Rigid) → (slot_at s v).cell ≡ Constant r → contains x r.lacks ≡ false → Clash s (Lacks v x ∷ [])
constant_has s v x r e c = record {
  never = λ σ f p. (
      let m : lacks x (σ.types v) ≡ true = All-head (MeetsAsk σ) (Lacks v x) [] p in
      let w : lacks x (σ.types v) ≡ false = ap (lacks x) (says_at σ s v (Constant r) e f) ∙ (ap (contains x) (f.renames.lacks r) ∙ c) in cc);
}

-- ---- what is noted is known

pub contains_pushed : (xs : List Name) (x : Name) → contains x (xs ++ x ∷ []) ≡ true
contains_pushed [] x = ap (λ b. b || false) (equal_itself x)
contains_pushed (y ∷ ys) x = or_right (bytes_eq x y) (contains x (ys ++ x ∷ [])) (contains_pushed ys x)

pub below_both : (b c d : Class) → meet b c ≡ Some d → is_below d c ≡ true
below_both b c d e = sym (meets_constant d c) ∙ (both_classes b c d (variable (record { place = []; name = []; class = d; lacks = [] })) e (below_itself d)).1
  where
    meets_constant : (d c : Class) → meets c (variable (record { place = []; name = []; class = d; lacks = [] })) ≡ is_below d c
    meets_constant d c = refl

    below_itself : (c : Class) → is_below c c ≡ true
    below_itself Any = refl
    below_itself Number = refl
    below_itself Comparable = refl
    below_itself Appendable = refl
    below_itself CompAppend = refl
