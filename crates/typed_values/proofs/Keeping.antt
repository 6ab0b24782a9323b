-- What constants stand for keeps classes and lacking fields.
use Rattle.std.proofs.Common.{◌≡◌, suc, List, [], ◌∷◌, Bool, true, false, refl, sym, ap, ◌∙◌}
use Rattle.std.specs.Prelude.{◌||◌, not, ◌&&◌}
use Rattle.std.specs.Str.{bytes_eq}
use Rattle.std.proofs.lemmas.Slice.Eq.{bytes_eq-Decides}
use Rattle.elm_type.specs.Types.{Name, End, Closed, Over, ElmTypes, Fields, Made, Record, NoType, MoreType, NoField, MoreField}
use Rattle.elm_type.specs.Types.{count, Rigid, Kind}
use Rattle.elm_type.specs.Classes.{Ground, meets, all_meet, demand_met, asks, is_below, is_any}
use Rattle.elm_type.specs.Rows.{has_field, insert_all, extend, at_end, substitute, substitute_all}
use Rattle.elm_type.specs.Rows.{substitute_fields}
use Rattle.elm_type.specs.declared.class.Class.{Class}
use Rattle.elm_type.specs.declared.class.Class.TheVariants.{Any, Number, Comparable, Appendable, CompAppend}
use Rattle.elm_type.specs.declared.demands.Demand.{Demand}
use Rattle.elm_type.specs.declared.demands.Demand.TheVariants.{Never, Always, OfParts}
use Rattle.elm_type.proofs.Meeting.{meets_both}
use Rattle.elm_type.specs.Ground.{contains, end_lacks, lacks, lacks_all, fits}
use Rattle.typed_values.specs.Frames.{Frame, Stands}
use Rattle.typed_values.proofs.Rows.{extend_none, has_all, has_substituted}

no : {X : Type 0} → false ≡ true → X
no e = absurd (let w : false ≡ true = e in cc)

pub and_left : (a b : Bool) → (a && b) ≡ true → a ≡ true
and_left true b e = refl
and_left false b e = e

pub and_right : (a b : Bool) → (a && b) ≡ true → b ≡ true
and_right true b e = e
and_right false b e = no e

pub and_both : (a b : Bool) → a ≡ true → b ≡ true → (a && b) ≡ true
and_both a b e f = ap (λ c. c && b) e ∙ f

pub meets_any : (g : Ground) → meets Any g ≡ true
meets_any (Made h ts) = refl
meets_any (Record NoField Closed) = refl
meets_any (Record NoField (Over r)) = go r.class
  where
    go : (c : Class) → is_below c Any ≡ true
    go Any = refl
    go Number = refl
    go Comparable = refl
    go Appendable = refl
    go CompAppend = refl
meets_any (Record (MoreField k t fs) end) = refl

-- what meets a class meets those above it
below_meets : (c d : Class) (g : Ground) → is_below c d ≡ true → meets c g ≡ true → meets d g ≡ true
below_meets c Any g b e = meets_any g
below_meets Number Number g b e = e
below_meets Number Comparable g b e = and_right (meets Number g) (meets Comparable g) (meets_both Number Comparable g ∙ e)
below_meets Number Appendable g b e = no b
below_meets Number CompAppend g b e = no b
below_meets Comparable Comparable g b e = e
below_meets Comparable Number g b e = no b
below_meets Comparable Appendable g b e = no b
below_meets Comparable CompAppend g b e = no b
below_meets Appendable Appendable g b e = e
below_meets Appendable Number g b e = no b
below_meets Appendable Comparable g b e = no b
below_meets Appendable CompAppend g b e = no b
below_meets CompAppend Comparable g b e = and_right (meets CompAppend g) (meets Comparable g) (meets_both CompAppend Comparable g ∙ e)
below_meets CompAppend Appendable g b e = and_right (meets CompAppend g) (meets Appendable g) (meets_both CompAppend Appendable g ∙ e)
below_meets CompAppend CompAppend g b e = e
below_meets CompAppend Number g b e = no b
below_meets Any Number g b e = no b
below_meets Any Comparable g b e = no b
below_meets Any Appendable g b e = no b
below_meets Any CompAppend g b e = no b

any_meets : (c : Class) (g : Ground) → is_any c ≡ true → meets c g ≡ true
any_meets Any g e = meets_any g
any_meets Number g e = no e
any_meets Comparable g e = no e
any_meets Appendable g e = no e
any_meets CompAppend g e = no e

demand_kept : (d : Demand) (p q : Class → Bool) → ((c : Class) → p c ≡ true → q c ≡ true) → demand_met d p ≡ true → demand_met d q ≡ true
demand_kept Never p q h e = e
demand_kept Always p q h e = refl
demand_kept (OfParts c) p q h e = h c e

module _ (θ : Rigid → Ground) (class_of : (r : Rigid) → meets r.class (θ r) ≡ true) where
  count_kept : (ts : ElmTypes Rigid) → count (substitute_all θ ts) ≡ count ts
  count_kept NoType = refl
  count_kept (MoreType t ts) = ap (λ n. suc n) (count_kept ts)

  mutual
    pub meets_kept : (g : Ground) (c : Class) → meets c g ≡ true → meets c (substitute θ g) ≡ true
    meets_kept (Made h ts) c e =
        ap (λ n. demand_met (asks c h n) (λ d. all_meet d (substitute_all θ ts))) (count_kept ts)
        ∙ demand_kept (asks c h (count ts)) (λ d. all_meet d ts) (λ d. all_meet d (substitute_all θ ts)) (λ d. all_kept ts d) e
    meets_kept (Record NoField Closed) c e = e
    meets_kept (Record NoField (Over r)) c e = ap (meets c) (extend_none (θ r)) ∙ below_meets r.class c (θ r) e (class_of r)
    meets_kept (Record (MoreField k t fs) end) c e = any_meets c (substitute θ (Record (MoreField k t fs) end)) e

    all_kept : (ts : ElmTypes Rigid) (c : Class) → all_meet c ts ≡ true → all_meet c (substitute_all θ ts) ≡ true
    all_kept NoType c e = refl
    all_kept (MoreType t ts) c e =
        and_both (meets c (substitute θ t)) (all_meet c (substitute_all θ ts)) (meets_kept t c (and_left (meets c t) (all_meet c ts) e))
        (all_kept ts c (and_right (meets c t) (all_meet c ts) e))

module _ (θ : Rigid → Ground) (rests : (r : Rigid) → lacks_all r.lacks (θ r) ≡ true) where
  not_yes : (b : Bool) → not b ≡ true → b ≡ false
  not_yes true e = no e
  not_yes false e = refl

  none_had : (x : Name) (fs gs : Fields Rigid) → has_field x fs ≡ false → has_field x gs ≡ false → has_field x (insert_all fs gs) ≡ false
  none_had x fs gs a b = has_all x fs gs ∙ (ap (λ c. c || has_field x gs) a ∙ b)

  lacks_in : (x : Name) (xs : List Name) (g : Ground) → contains x xs ≡ true → lacks_all xs g ≡ true → lacks x g ≡ true
  lacks_in x [] g c e = no c
  lacks_in x (y ∷ ys) g c e = go (bytes_eq x y) refl (lacks_in x ys g)
    where
      go : (b : Bool) → bytes_eq x y ≡ b → (contains x ys ≡ true → lacks_all ys g ≡ true → lacks x g ≡ true) → lacks x g ≡ true
      go true q again = ap (λ z. lacks z g) ((bytes_eq-Decides x y).0 q) ∙ and_left (lacks y g) (lacks_all ys g) e
      go false q again = again (sym (ap (λ b. b || contains x ys) q) ∙ c) (and_right (lacks y g) (lacks_all ys g) e)

  lacks_more : (x : Name) (fs : Fields Rigid) (g : Ground) → has_field x fs ≡ false → lacks x g ≡ true → lacks x (extend fs g) ≡ true
  lacks_more x fs (Made h ts) n e = e
  lacks_more x fs (Record gs end) n e =
      and_both (not (has_field x (insert_all fs gs))) (end_lacks x end)
      (ap not (none_had x fs gs n (not_yes (has_field x gs) (and_left (not (has_field x gs)) (end_lacks x end) e))))
      (and_right (not (has_field x gs)) (end_lacks x end) e)

  pub lacks_kept : (x : Name) (g : Ground) → lacks x g ≡ true → lacks x (substitute θ g) ≡ true
  lacks_kept x (Made h ts) e = e
  lacks_kept x (Record fs end) e =
      lacks_more x (substitute_fields θ fs) (at_end θ end)
      (has_substituted θ x fs ∙ not_yes (has_field x fs) (and_left (not (has_field x fs)) (end_lacks x end) e))
      (end_kept end (and_right (not (has_field x fs)) (end_lacks x end) e))
    where
      end_kept : (end : End Rigid) → end_lacks x end ≡ true → lacks x (at_end θ end) ≡ true
      end_kept Closed e = refl
      end_kept (Over r) e = lacks_in x r.lacks (θ r) e (rests r)

  pub all_lacks_kept : (xs : List Name) (g : Ground) → lacks_all xs g ≡ true → lacks_all xs (substitute θ g) ≡ true
  all_lacks_kept [] g e = refl
  all_lacks_kept (x ∷ xs) g e =
      and_both (lacks x (substitute θ g)) (lacks_all xs (substitute θ g)) (lacks_kept x g (and_left (lacks x g) (lacks_all xs g) e))
      (all_lacks_kept xs g (and_right (lacks x g) (lacks_all xs g) e))

-- kinds are kept
pub fits_kept : (f : Frame) → Stands f → (k : Kind) (g : Ground) → fits k g ≡ true → fits k (substitute f.stands g) ≡ true
fits_kept f stands k g e =
    and_both (meets k.class (substitute f.stands g)) (lacks_all k.lacks (substitute f.stands g))
    (meets_kept f.stands stands.classes g k.class (and_left (meets k.class g) (lacks_all k.lacks g) e))
    (all_lacks_kept f.stands stands.rests k.lacks g (and_right (meets k.class g) (lacks_all k.lacks g) e))
