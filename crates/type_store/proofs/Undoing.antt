-- What was written is undone.
use Rattle.std.proofs.Common.{◌≡◌, ℕ, zero, suc, ◌+◌, ◌-◌, ◌<◌, false, take, add-one, List, [], ◌∷◌, ◌++◌, length, get_or, set, refl, sym, ap, ◌∙◌, subst, arith}
use Rattle.std.proofs.lemmas.List.{set-set, set-get_or, map-set, map_push, get_or-map, length-map, length-set, length_push, take_at, append_assoc}
use Rattle.std.proofs.lemmas.Option.{unwrap_or-slice_get}
use Rattle.type_store.specs.Store.{Slot, Store, Bound, slot_at, open_slot}
use Rattle.type_store.specs.Steps.{Noted, Was, OfClass, OneMore, undo_one, with_kind, undone, is_bound, IsGraph, Leads, Here, Through, sames}
use Rattle.type_store.specs.Solutions.{Ask, Same}
use Rattle.type_store.specs.Shape.{IsCell}
use Rattle.type_store.specs.declared.slot.Slot as stored
use Rattle.type_store.specs.declared.change.Change.{Change}
use Rattle.type_store.specs.declared.change.Change.TheVariants as change
use Rattle.elm_type.specs.Types.{Name, Kind}
use Rattle.std.specs.declared.vec.Vec.{Vec}
use Rattle.std.specs.declared.alloc.Global.{Global}
use Rattle.elm_type.specs.declared.class.Class.{Class}
use Rattle.type_store.proofs.Turns.{slot_same}
use Rattle.type_store.specs.declared.slot.Cell as stored_cell
use Rattle.type_store.specs.declared.slot.Cell.TheVariants as cells
use Rattle.type_store.specs.View.{cell_view, slot_view, store_view, change_view, trail_view}

set_back : (s : Store) (v : ℕ) (x : Slot) → set (set s v x) v (slot_at s v) ≡ s
set_back s v x = set-set s v x (slot_at s v) ∙ (ap (set s v) (unwrap_or-slice_get s v open_slot) ∙ set-get_or s v open_slot)

-- the last change is undone first
pub undone_pop : (s : Store) (cs : List Noted) (c : Noted) → undone s (cs ++ c ∷ []) ≡ undone (undo_one c s) cs
undone_pop s [] c = refl
undone_pop s (d ∷ cs) c = ap (undo_one d) (undone_pop s cs c)

-- a change that is noted can be undone
pub undone_noted : (s t : Store) (cs : List Noted) (c : Noted) → undo_one c t ≡ s → undone t (cs ++ c ∷ []) ≡ undone s cs
undone_noted s t cs c e = undone_pop t cs c ∙ ap (λ u. undone u cs) e

pub undone_push : (s : Store) (cs : List Noted) (v : ℕ) (x : Slot) → undone (set s v x) (cs ++ Was v (slot_at s v) ∷ []) ≡ undone s cs
undone_push s cs v x = undone_noted s (set s v x) cs (Was v (slot_at s v)) (set_back s v x)

-- a kind that was written is written back
kind_back : (s : Store) (v : ℕ) (k : Kind) (f : Slot → Slot) → v < length s → f (with_kind (slot_at s v) k) ≡ slot_at s v
    → set (set s v (with_kind (slot_at s v) k)) v (f (slot_at (set s v (with_kind (slot_at s v) k)) v)) ≡ s
kind_back s v k f l e =
    ap (set (set s v (with_kind (slot_at s v) k)) v) (ap f (slot_same s v (with_kind (slot_at s v) k) l) ∙ e) ∙ set_back s v (with_kind (slot_at s v) k)

pub class_undone : (s : Store) (cs : List Noted) (v : ℕ) (c : Class) → v < length s
    → undone (set s v (with_kind (slot_at s v) (record { class = c; lacks = (slot_at s v).kind.lacks }))) (cs ++ OfClass v (slot_at s v).kind.class ∷ []) ≡ undone s cs
class_undone s cs v c l =
    undone_noted s (set s v (with_kind (slot_at s v) (record { class = c; lacks = (slot_at s v).kind.lacks }))) cs (OfClass v (slot_at s v).kind.class)
    (kind_back s v (record { class = c; lacks = (slot_at s v).kind.lacks })
    (λ x. with_kind x (record { class = (slot_at s v).kind.class; lacks = x.kind.lacks })) l refl)

pub lack_undone : (s : Store) (cs : List Noted) (v : ℕ) (x : Name) → v < length s
    → undone (set s v (with_kind (slot_at s v) (record { class = (slot_at s v).kind.class; lacks = (slot_at s v).kind.lacks ++ x ∷ [] }))) (cs ++ OneMore v ∷ []) ≡ undone s cs
lack_undone s cs v x l =
    let old = (slot_at s v).kind.lacks in
    undone_noted s (set s v (with_kind (slot_at s v) (record { class = (slot_at s v).kind.class; lacks = old ++ x ∷ [] }))) cs (OneMore v)
    (kind_back s v (record { class = (slot_at s v).kind.class; lacks = old ++ x ∷ [] })
    (λ y. with_kind y (record { class = y.kind.class; lacks = take (length y.kind.lacks - 1) y.kind.lacks })) l
    (ap (λ xs. with_kind (slot_at s v) (record { class = (slot_at s v).kind.class; lacks = xs }))
    (take_at old (x ∷ []) (length (old ++ x ∷ []) - 1) (omega (arith, length_push old x)))))

-- the slots that there were first

take_set : (n : ℕ) (s : Store) (i : ℕ) (x : Slot) → take n (set s i x) ≡ set (take n s) i x
take_set zero [] i x = refl
take_set zero (y ∷ s) zero x = refl
take_set zero (y ∷ s) (suc i) x = refl
take_set (suc n) [] i x = refl
take_set (suc n) (y ∷ s) zero x = refl
take_set (suc n) (y ∷ s) (suc i) x = ap (λ ys. y ∷ ys) (take_set n s i x)

take_set_at : (n : ℕ) (s : Store) (v : ℕ) (f : Slot → Slot) → take n (set s v (f (slot_at s v))) ≡ set (take n s) v (f (slot_at (take n s) v))
take_set_at zero [] v f = refl
take_set_at zero (y ∷ s) zero f = refl
take_set_at zero (y ∷ s) (suc v) f = refl
take_set_at (suc n) [] v f = refl
take_set_at (suc n) (y ∷ s) zero f = refl
take_set_at (suc n) (y ∷ s) (suc v) f = ap (λ ys. y ∷ ys) (take_set_at n s v f)

take_undo : (n : ℕ) (c : Noted) (s : Store) → take n (undo_one c s) ≡ undo_one c (take n s)
take_undo n (Was v x) s = take_set n s v x
take_undo n (OfClass v c) s = take_set_at n s v (λ x. with_kind x (record { class = c; lacks = x.kind.lacks }))
take_undo n (OneMore v) s = take_set_at n s v (λ x. with_kind x (record { class = x.kind.class; lacks = take (length x.kind.lacks - 1) x.kind.lacks }))

pub take_undone : (n : ℕ) (s : Store) (cs : List Noted) → take n (undone s cs) ≡ undone (take n s) cs
take_undone n s [] = refl
take_undone n s (c ∷ cs) = take_undo n c (undone s cs) ∙ ap (undo_one c) (take_undone n s cs)

undo_length : (c : Noted) (s : Store) → length (undo_one c s) ≡ length s
undo_length (Was v x) s = length-set s v x
undo_length (OfClass v c) s = length-set s v (with_kind (slot_at s v) (record { class = c; lacks = (slot_at s v).kind.lacks }))
undo_length (OneMore v) s = length-set s v
    (with_kind (slot_at s v) (record { class = (slot_at s v).kind.class; lacks = take (length (slot_at s v).kind.lacks - 1) (slot_at s v).kind.lacks }))

pub undone_length : (s : Store) (cs : List Noted) → length (undone s cs) ≡ length s
undone_length s [] = refl
undone_length s (c ∷ cs) = undo_length c (undone s cs) ∙ undone_length s cs

-- ---- as the program keeps it

pub length_view : (slots : List stored.Slot) → length (store_view slots) ≡ length slots
length_view slots = length-map slots slot_view

pub view_or : (slots : List stored.Slot) (i : ℕ) (d : stored.Slot) → i < length slots → slot_at (store_view slots) i ≡ slot_view (get_or slots i d)
view_or slots i d l = unwrap_or-slice_get (store_view slots) i open_slot ∙ get_or-map slot_view slots i d open_slot l

pub view_set : (slots : List stored.Slot) (at : ℕ) (x y : stored.Slot) → y ≡ x → store_view (set slots at y) ≡ set (store_view slots) at (slot_view x)
view_set slots at x y e = map-set slot_view slots at y ∙ ap (λ z. set (store_view slots) at (slot_view z)) e

pub view_at : (slots : List stored.Slot) (i : ℕ) (x : stored.Slot) → i < length slots → x ≡ get_or slots i x → slot_at (store_view slots) i ≡ slot_view x
view_at slots i x l e = unwrap_or-slice_get (store_view slots) i open_slot ∙ (get_or-map slot_view slots i x open_slot l ∙ ap slot_view (sym e))

pub write_undone : (slots : List stored.Slot) (cs es : List Change) (at : ℕ) (x old : stored.Slot) → at < length slots → old ≡ get_or slots at old → es ≡ cs ++ change.Was at old ∷ []
    → undone (store_view (set slots at x)) (trail_view es) ≡ undone (store_view slots) (trail_view cs)
write_undone slots cs es at x old l is e =
    ap (λ t. undone t (trail_view es)) (map-set slot_view slots at x) ∙
    (ap (undone (set (store_view slots) at (slot_view x))) (ap trail_view e ∙ (map_push change_view cs (change.Was at old) ∙ ap (λ z. trail_view cs ++ Was at z ∷ []) (sym (view_at slots at old l is)))) ∙
    undone_push (store_view slots) (trail_view cs) at (slot_view x))

-- a class is written
pub class_written : (slots : List stored.Slot) (at : ℕ) (c : Class) (d : stored.Slot) → at < length slots
    → store_view (set slots at (record { cell = (get_or slots at d).cell; class = c; lacks = (get_or slots at d).lacks; depth = (get_or slots at d).depth }))
    ≡ set (store_view slots) at (with_kind (slot_at (store_view slots) at) (record { class = c; lacks = (slot_at (store_view slots) at).kind.lacks }))
class_written slots at c d l =
    map-set slot_view slots at (record { cell = (get_or slots at d).cell; class = c; lacks = (get_or slots at d).lacks; depth = (get_or slots at d).depth }) ∙
    ap (λ (x : Slot). set (store_view slots) at (with_kind x (record { class = c; lacks = x.kind.lacks }))) (sym (view_or slots at d l))

pub class_was : (slots : List stored.Slot) (cs es : List Change) (at : ℕ) (c : Class) (d e : stored.Slot) → at < length slots
    → es ≡ cs ++ change.OfClass at (get_or slots at d).class ∷ []
    → undone (store_view (set slots at (record { cell = (get_or slots at e).cell; class = c; lacks = (get_or slots at e).lacks; depth = (get_or slots at e).depth }))) (trail_view es)
    ≡ undone (store_view slots) (trail_view cs)
class_was slots cs es at c d e l is =
    let s = store_view slots in
    ap (λ t. undone t (trail_view es)) (class_written slots at c e l) ∙
    (ap (undone (set s at (with_kind (slot_at s at) (record { class = c; lacks = (slot_at s at).kind.lacks }))))
    (ap trail_view is ∙ (map_push change_view cs (change.OfClass at (get_or slots at d).class) ∙
    ap (λ (x : Slot). trail_view cs ++ OfClass at x.kind.class ∷ []) (sym (view_or slots at d l)))) ∙
    class_undone s (trail_view cs) at c (omega (arith, l, length_view slots)))

-- the fields that a slot lacks are written
abbrev with_lacks : stored.Slot → Vec Name Global → stored.Slot
with_lacks x v = record { cell = x.cell; class = x.class; lacks = v; depth = x.depth }

abbrev lacking : Slot → List Name → Slot
lacking x xs = with_kind x (record { class = x.kind.class; lacks = xs })

lacks_view : (slots : List stored.Slot) (at : ℕ) (d : stored.Slot) (v : Vec Name Global) (f : List Name → List Name) → at < length slots → v.items ≡ f (get_or slots at d).lacks.items
    → store_view (set slots at (with_lacks (get_or slots at d) v)) ≡ set (store_view slots) at (lacking (slot_at (store_view slots) at) (f (slot_at (store_view slots) at).kind.lacks))
lacks_view slots at d v f l e =
    map-set slot_view slots at (with_lacks (get_or slots at d) v) ∙
    (ap (λ xs. set (store_view slots) at (lacking (slot_view (get_or slots at d)) xs)) e ∙
    ap (λ (x : Slot). set (store_view slots) at (lacking x (f x.kind.lacks))) (sym (view_or slots at d l)))

pub lack_written : (slots : List stored.Slot) (at : ℕ) (d : stored.Slot) (v : Vec Name Global) (x : Name) → at < length slots → v.items ≡ (get_or slots at d).lacks.items ++ x ∷ []
    → store_view (set slots at (with_lacks (get_or slots at d) v)) ≡ set (store_view slots) at (lacking (slot_at (store_view slots) at) ((slot_at (store_view slots) at).kind.lacks ++ x ∷ []))
lack_written slots at d v x = lacks_view slots at d v (λ xs. xs ++ x ∷ [])

pub lack_taken : (slots : List stored.Slot) (at : ℕ) (d : stored.Slot) (v : Vec Name Global) → at < length slots → v.items ≡ take (length (get_or slots at d).lacks.items - 1) (get_or slots at d).lacks.items
    → store_view (set slots at (with_lacks (get_or slots at d) v)) ≡ undo_one (OneMore at) (store_view slots)
lack_taken slots at d v = lacks_view slots at d v (λ xs. take (length xs - 1) xs)

-- the same fields
pub lacks_same : (slots : List stored.Slot) (at : ℕ) (d : stored.Slot) (v : Vec Name Global) → at < length slots → v.items ≡ (get_or slots at d).lacks.items
    → store_view (set slots at (with_lacks (get_or slots at d) v)) ≡ store_view slots
lacks_same slots at d v l e =
    lacks_view slots at d v (λ xs. xs) l e ∙ (ap (set (store_view slots) at) (unwrap_or-slice_get (store_view slots) at open_slot) ∙ set-get_or (store_view slots) at open_slot)

pub lack_was : (slots : List stored.Slot) (cs mid es : List Change) (at : ℕ) (d : stored.Slot) (v : Vec Name Global) (x : Name) → at < length slots
    → v.items ≡ (get_or slots at d).lacks.items ++ x ∷ [] → mid ≡ cs → es ≡ mid ++ change.OneMore at ∷ []
    → undone (store_view (set slots at (with_lacks (get_or slots at d) v))) (trail_view es) ≡ undone (store_view slots) (trail_view cs)
lack_was slots cs mid es at d v x l e f g =
    let s = store_view slots in
    let new = set s at (lacking (slot_at s at) ((slot_at s at).kind.lacks ++ x ∷ [])) in
    ap (λ u. undone u (trail_view es)) (lack_written slots at d v x l e) ∙
    (ap (λ ds. undone new (trail_view ds)) (g ∙ ap (λ ds. ds ++ change.OneMore at ∷ []) f) ∙
    (ap (undone new) (map_push change_view cs (change.OneMore at)) ∙ lack_undone s (trail_view cs) at x (omega (arith, l, length_view slots))))

-- one change is taken from the trail, and undone
pub pop_undone : (now next start : Store) (trail rest old : List Change) (c : Change) → trail ≡ rest ++ c ∷ [] → next ≡ undo_one (change_view c) now
    → undone now (trail_view trail) ≡ undone start (trail_view old) → undone next (trail_view rest) ≡ undone start (trail_view old)
pop_undone now next start trail rest old c e f h =
    ap (λ t. undone t (trail_view rest)) f ∙
    (sym (undone_pop now (trail_view rest) (change_view c)) ∙ (sym (ap (undone now) (ap trail_view e ∙ map_push change_view rest c)) ∙ h))

-- ---- chains

pub leads_on : (s : Store) (v w u : ℕ) → (slot_at s w).cell ≡ Bound u → Leads s v w → Leads s v u
leads_on s v w u e (Here x) = Through x u u e (Here u)
leads_on s v w u e (Through x y z b l) = Through x y u b (leads_on s y z u e l)

pub bound_lower : (s : Store) (v w : ℕ) → IsGraph s → v < length s → (slot_at s v).cell ≡ Bound w → w < v
bound_lower s v w g l e = subst (IsCell v) e (g.cells v l)

pub bound_at : (slots : List stored.Slot) (i w : ℕ) (d : stored.Slot) → i < length slots → (get_or slots i d).cell ≡ cells.Bound w → (slot_at (store_view slots) i).cell ≡ Bound w
bound_at slots i w d l e = ap (λ (x : Slot). x.cell) (view_or slots i d l) ∙ ap cell_view e

not_bound : (c : stored_cell.Cell) → ((w : ℕ) → c ≡ cells.Bound w → ⊥) → is_bound (cell_view c) ≡ false
not_bound cells.Open n = refl
not_bound (cells.Bound w) n = absurd (n w refl)
not_bound (cells.Built h ws) n = refl
not_bound (cells.Row fs end) n = refl
not_bound (cells.Constant r) n = refl

pub not_bound_at : (slots : List stored.Slot) (i : ℕ) (d : stored.Slot) → i < length slots → ((w : ℕ) → (get_or slots i d).cell ≡ cells.Bound w → ⊥) → is_bound (slot_at (store_view slots) i).cell ≡ false
not_bound_at slots i d l n = ap (λ (x : Slot). is_bound x.cell) (view_or slots i d l) ∙ not_bound (get_or slots i d).cell n

-- ---- what is pushed

sames_more : (ks ws : List ℕ) (i d : ℕ) → i < length ks → length ks ≡ length ws → sames (take (suc i) ks) (take (suc i) ws) ≡ sames (take i ks) (take i ws) ++ Same (get_or ks i d) (get_or ws i d) ∷ []
sames_more [] ws i d l e = absurd (omega (arith, l))
sames_more (k ∷ ks) [] i d l e = absurd (omega (arith, e))
sames_more (k ∷ ks) (w ∷ ws) zero d l e = refl
sames_more (k ∷ ks) (w ∷ ws) (suc i) d l e = ap (λ as_. Same k w ∷ as_) (sames_more ks ws i d (omega (arith, l)) (omega (arith, e)))

pub sames_push : (before now after : List Ask) (ks ws : List ℕ) (i d : ℕ) → i < length ks → length ks ≡ length ws → now ≡ before ++ sames (take i ks) (take i ws) → after ≡ now ++ Same (get_or ks i d) (get_or ws i d) ∷ []
    → after ≡ before ++ sames (take (i + 1) ks) (take (i + 1) ws)
sames_push before now after ks ws i d l e a b =
    b ∙ (ap (λ xs. xs ++ Same (get_or ks i d) (get_or ws i d) ∷ []) a ∙ (append_assoc before (sames (take i ks) (take i ws)) (Same (get_or ks i d) (get_or ws i d) ∷ []) ∙
    ap (λ xs. before ++ xs) (sym (rw add-one (sames_more ks ws i d l e)))))
