-- Records.
use Rattle.std.proofs.Common.{◌≡◌, ℕ, List, [], ◌∷◌, Bool, true, false, cond, ◌&&◌, ◌||◌, refl, sym, ap, ◌∙◌, subst}
use Rattle.std.specs.Prelude.{if◌then◌else◌}
use Rattle.std.specs.declared.cmp.Ordering.{Ordering}
use Rattle.std.specs.declared.cmp.Ordering.TheVariants.{Less, Equal, Greater}
use Rattle.std.specs.Ordering.{nat_cmp, is_lt, is_eq, ordering_then, ordering_reverse}
use Rattle.std.specs.Cmp.Lexicographic.{slice_cmp}
use Rattle.std.proofs.lemmas.Cmp.{nat_list_cmp_total}
use Rattle.std.proofs.lemmas.Slice.Eq.{bytes_eq-Decides}
use Rattle.std.specs.Prelude.{nat_lt, ◌==◌}
use Rattle.runs.specs.Ends.{End, Val, Crashed, OutOfFuel, Unsafe, Stuck, then_do}
use Rattle.runs.specs.Texts.{units_lt}
use Rattle.elm_canon.specs.Names.{Name, same_name}
use Rattle.elm_meaning.specs.Values.{Value, Values, NoValue, MoreValue, FieldValues, NoFieldV, MoreFieldV}
use Rattle.elm_meaning.specs.Values.{has_field, insert_field, fields_of, field_in, replace_field}
use Rattle.emit_laws.specs.Records.{named_value, RecordsHold, UpdatesHold, Rises, RecordsRise, UpdatesRise, RecordsAlike}
use Rattle.emit_laws.proofs.Tests.{text_by_order}

-- ---- the order of names

lt_step : (a b : Bool) (r : Ordering) → (a || (b && is_lt r)) ≡ is_lt (ordering_then (cond a Less (cond b Equal Greater)) r)
lt_step true b r = refl
lt_step false true r = refl
lt_step false false r = refl

pub lt_by_order : (s t : List ℕ) → units_lt s t ≡ is_lt (slice_cmp nat_cmp s t)
lt_by_order [] [] = refl
lt_by_order (u ∷ us) [] = refl
lt_by_order [] (v ∷ vs) = refl
lt_by_order (u ∷ us) (v ∷ vs) = ap (λ b. nat_lt u v || (u == v && b)) (lt_by_order us vs) ∙ lt_step (nat_lt u v) (u == v) (slice_cmp nat_cmp us vs)

other_way : (o p : Ordering) → p ≡ ordering_reverse o → is_lt o ≡ false → is_eq o ≡ false → is_lt p ≡ true
other_way Less p e f g = absurd (let w : true ≡ false = f in cc)
other_way Equal p e f g = absurd (let w : true ≡ false = g in cc)
other_way Greater p e f g = ap is_lt e

-- of two different names the one that is not first is after the other
turned_lt : (i j : Name) → units_lt i j ≡ false → same_name i j ≡ false → units_lt j i ≡ true
turned_lt i j e f =
    lt_by_order j i
    ∙ other_way (slice_cmp nat_cmp i j) (slice_cmp nat_cmp j i) (nat_list_cmp_total.antisymm j i) (sym (lt_by_order i j) ∙ e) (sym (text_by_order i j) ∙ f)

no : {X : Type 0} → true ≡ false → X
no e = absurd (let w : true ≡ false = e in cc)

or_left : (a b : Bool) → (a || b) ≡ false → a ≡ false
or_left true b e = e
or_left false b e = refl

or_right : (a b : Bool) → (a || b) ≡ false → b ≡ false
or_right true b e = no e
or_right false b e = e

same_turned : (i j : Name) → same_name i j ≡ false → same_name j i ≡ false
same_turned i j e = go (same_name j i) refl
  where
    go : (b : Bool) → same_name j i ≡ b → b ≡ false
    go false f = refl
    go true f = no (sym ((bytes_eq-Decides i j).1 (sym ((bytes_eq-Decides j i).0 f))) ∙ e)

-- ---- a field more

-- of two tests that do not both hold, either may be made first
swap_tests : {X : Type 0} (a b : Bool) (x y z : X) → (a ≡ true → b ≡ true → ⊥) → (if a then x else (if b then y else z)) ≡ (if b then y else (if a then x else z))
swap_tests true true x y z h = absurd (h refl refl)
swap_tests true false x y z h = refl
swap_tests false b x y z h = refl

pub found_inserted : (k j : Name) (v : Value) (fs : FieldValues) → has_field j fs ≡ false → field_in k (insert_field j v fs) ≡ (if same_name k j then Val v else field_in k fs)
found_inserted k j v NoFieldV e = refl
found_inserted k j v (MoreFieldV i w fs) e = go (units_lt i j) (found_inserted k j v fs (or_right (same_name j i) (has_field j fs) e))
  where
    go : (b : Bool) → field_in k (insert_field j v fs) ≡ (if same_name k j then Val v else field_in k fs)
        → field_in k (if b then MoreFieldV i w (insert_field j v fs) else MoreFieldV j v (MoreFieldV i w fs)) ≡ (if same_name k j then Val v else (if same_name k i then Val w else field_in k fs))
    go true again =
        ap (λ o. if same_name k i then Val w else o) again
        ∙ swap_tests (same_name k i) (same_name k j) (Val w) (Val v) (field_in k fs) (λ a b.
        let p : k ≡ i = (bytes_eq-Decides k i).0 a in
        let q : k ≡ j = (bytes_eq-Decides k j).0 b in
        no (sym ((bytes_eq-Decides j i).1 (sym q ∙ p)) ∙ or_left (same_name j i) (has_field j fs) e))
    go false again = refl

-- before all of these
abbrev pub Under : Name → FieldValues → Type 0
Under i NoFieldV = Unit {0}
Under i (MoreFieldV j v fs) = units_lt i j ≡ true

pub rises_more : (i : Name) (w : Value) (fs : FieldValues) → Under i fs → Rises fs → Rises (MoreFieldV i w fs)
rises_more i w NoFieldV u r = tt
rises_more i w (MoreFieldV j v fs) u r = (u, r)

pub rest_rises : (i : Name) (w : Value) (fs : FieldValues) → Rises (MoreFieldV i w fs) → Under i fs × Rises fs
rest_rises i w NoFieldV r = (tt, tt)
rest_rises i w (MoreFieldV j v fs) r = (r.0, r.1)

under_inserted : (i j : Name) (v : Value) (fs : FieldValues) → units_lt i j ≡ true → Under i fs → Under i (insert_field j v fs)
under_inserted i j v NoFieldV l u = l
under_inserted i j v (MoreFieldV k w fs) l u = go (units_lt k j)
  where
    go : (b : Bool) → Under i (if b then MoreFieldV k w (insert_field j v fs) else MoreFieldV j v (MoreFieldV k w fs))
    go true = u
    go false = l

pub inserted_rises : (j : Name) (v : Value) (fs : FieldValues) → has_field j fs ≡ false → Rises fs → Rises (insert_field j v fs)
inserted_rises j v NoFieldV e r = tt
inserted_rises j v (MoreFieldV i w fs) e r =
    go (units_lt i j) refl (inserted_rises j v fs (or_right (same_name j i) (has_field j fs) e) (rest_rises i w fs r).1)
  where
    go : (b : Bool) → units_lt i j ≡ b → Rises (insert_field j v fs) → Rises (if b then MoreFieldV i w (insert_field j v fs) else MoreFieldV j v (MoreFieldV i w fs))
    go true l again = rises_more i w (insert_field j v fs) (under_inserted i j v fs l (rest_rises i w fs r).0) again
    go false l again = (turned_lt i j l (same_turned j i (or_left (same_name j i) (has_field j fs) e)), r)

-- ---- records as they are made

-- what holds of a value's record, if there is one
abbrev OfValue : (FieldValues → Type 0) → End FieldValues → Type 0
OfValue P (Val fs) = P fs
OfValue P (Crashed t) = Unit {0}
OfValue P OutOfFuel = Unit {0}
OfValue P Unsafe = Unit {0}
OfValue P Stuck = Unit {0}

then_of : (P Q : FieldValues → Type 0) (o : End FieldValues) (go : FieldValues → End FieldValues) → OfValue P o → ((fs : FieldValues) → P fs → OfValue Q (go fs)) → OfValue Q (then_do o go)
then_of P Q (Val fs) go h k = k fs h
then_of P Q (Crashed t) go h k = tt
then_of P Q OutOfFuel go h k = tt
then_of P Q Unsafe go h k = tt
then_of P Q Stuck go h k = tt

if_new : (P : FieldValues → Type 0) (b : Bool) (fs : FieldValues) → (b ≡ false → P fs) → OfValue P (if b then Stuck else Val fs)
if_new P true fs h = tt
if_new P false fs h = h refl

pub record Made (ks : List Name) (vs : Values) (fs : FieldValues) : Type 0 where
  pub holds : (k : Name) → field_in k fs ≡ named_value k ks vs
  pub rises : Rises fs

made : (ks : List Name) (vs : Values) → OfValue (Made ks vs) (fields_of ks vs)
made [] NoValue = record { holds = λ k. refl; rises = tt }
made [] (MoreValue v vs) = tt
made (j ∷ js) NoValue = tt
made (j ∷ js) (MoreValue v vs) =
    then_of (Made js vs) (Made (j ∷ js) (MoreValue v vs)) (fields_of js vs) (λ fs. if has_field j fs then Stuck else Val (insert_field j v fs)) (made js vs)
    (λ fs m. if_new (Made (j ∷ js) (MoreValue v vs)) (has_field j fs) (insert_field j v fs) (λ e. record {
      holds = λ k. found_inserted k j v fs e ∙ ap (λ (o : End Value). if same_name k j then Val v else o) (m.holds k);
      rises = inserted_rises j v fs e m.rises;
    }))

pub records_hold : RecordsHold
records_hold ks vs fs e = (subst (OfValue (Made ks vs)) e (made ks vs)).holds

pub records_rise : RecordsRise
records_rise ks vs fs e = (subst (OfValue (Made ks vs)) e (made ks vs)).rises

-- ---- updates

pub record Replaced (j : Name) (v : Value) (fs gs : FieldValues) : Type 0 where
  pub holds : (k : Name) → field_in k gs ≡ (if same_name k j then Val v else field_in k fs)
  pub under : (i : Name) → Under i fs → Under i gs
  pub rises : Rises fs → Rises gs

-- the same field twice
same_again : {X : Type 0} (a b : Bool) (x y z : X) → a ≡ b → (if a then x else z) ≡ (if b then x else (if a then y else z))
same_again true true x y z e = refl
same_again true false x y z e = no e
same_again false true x y z e = absurd (let w : false ≡ true = e in cc)
same_again false false x y z e = refl

rises_as : (i : Name) (v w : Value) (fs : FieldValues) → Rises (MoreFieldV i w fs) → Rises (MoreFieldV i v fs)
rises_as i v w NoFieldV r = tt
rises_as i v w (MoreFieldV k u fs) r = r

replaced : (j : Name) (v : Value) (fs : FieldValues) → OfValue (Replaced j v fs) (replace_field j v fs)
replaced j v NoFieldV = tt
replaced j v (MoreFieldV i w fs) = go (same_name j i) refl (replaced j v fs)
  where
    go : (b : Bool) → same_name j i ≡ b → OfValue (Replaced j v fs) (replace_field j v fs)
        → OfValue (Replaced j v (MoreFieldV i w fs)) (if b then Val (MoreFieldV i v fs) else then_do (replace_field j v fs) (λ gs. Val (MoreFieldV i w gs)))
    go true e again = record {
      holds = λ k.
          let p : j ≡ i = (bytes_eq-Decides j i).0 e in
          same_again (same_name k i) (same_name k j) (Val v) (Val w) (field_in k fs) (ap (same_name k) (sym p));
      under = λ h u. u;
      rises = λ r. rises_as i v w fs r;
    }
    go false e again =
        then_of (Replaced j v fs) (Replaced j v (MoreFieldV i w fs)) (replace_field j v fs) (λ gs. Val (MoreFieldV i w gs)) again (λ gs m. record {
          holds = λ k.
              ap (λ (o : End Value). if same_name k i then Val w else o) (m.holds k)
              ∙ swap_tests (same_name k i) (same_name k j) (Val w) (Val v) (field_in k fs) (λ a b.
              let p : k ≡ i = (bytes_eq-Decides k i).0 a in
              let q : k ≡ j = (bytes_eq-Decides k j).0 b in
              no (sym ((bytes_eq-Decides j i).1 (sym q ∙ p)) ∙ e));
          under = λ h u. u;
          rises = λ r. rises_more i w gs (m.under i (rest_rises i w fs r).0) (m.rises (rest_rises i w fs r).1);
        })

pub updates_hold : UpdatesHold
updates_hold j v fs gs e = (subst (OfValue (Replaced j v fs)) e (replaced j v fs)).holds

pub updates_rise : UpdatesRise
updates_rise j v fs gs r e = (subst (OfValue (Replaced j v fs)) e (replaced j v fs)).rises r

-- ---- records that hold the same

less : (o : Ordering) → is_lt o ≡ true → o ≡ Less
less Less e = refl
less Equal e = absurd (let w : false ≡ true = e in cc)
less Greater e = absurd (let w : false ≡ true = e in cc)

lt_trans : (i j k : Name) → units_lt i j ≡ true → units_lt j k ≡ true → units_lt i k ≡ true
lt_trans i j k e f =
    lt_by_order i k
    ∙ ap is_lt (nat_list_cmp_total.trans i j k (less (slice_cmp nat_cmp i j) (sym (lt_by_order i j) ∙ e)) (less (slice_cmp nat_cmp j k) (sym (lt_by_order j k) ∙ f)))

not_equal : (o : Ordering) → is_lt o ≡ true → is_eq o ≡ false
not_equal Less e = refl
not_equal Equal e = absurd (let w : false ≡ true = e in cc)
not_equal Greater e = absurd (let w : false ≡ true = e in cc)

lt_apart : (i j : Name) → units_lt i j ≡ true → same_name i j ≡ false
lt_apart i j e = text_by_order i j ∙ not_equal (slice_cmp nat_cmp i j) (sym (lt_by_order i j) ∙ e)

pub under_less : (i j : Name) (fs : FieldValues) → units_lt i j ≡ true → Under j fs → Under i fs
under_less i j NoFieldV e u = tt
under_less i j (MoreFieldV k v fs) e u = lt_trans i j k e u

-- what is before all names is none of them
none_under : (i : Name) (fs : FieldValues) → Under i fs → Rises fs → field_in i fs ≡ Stuck
none_under i NoFieldV u r = refl
none_under i (MoreFieldV j v fs) u r =
    let rest = rest_rises j v fs r in
    ap (λ (b : Bool). if b then Val v else field_in i fs) (lt_apart i j u) ∙ none_under i fs (under_less i j fs u rest.0) rest.1

first_found : (i : Name) (v : Value) (fs : FieldValues) → field_in i (MoreFieldV i v fs) ≡ Val v
first_found i v fs = ap (λ (b : Bool). if b then Val v else field_in i fs) ((bytes_eq-Decides i i).1 refl)

pub same_record : (fs gs : FieldValues) → Rises fs → Rises gs → ((k : Name) → field_in k fs ≡ field_in k gs) → fs ≡ gs
same_record NoFieldV NoFieldV r s h = refl
same_record NoFieldV (MoreFieldV j w gs) r s h = absurd (let e : Stuck ≡ Val w = h j ∙ first_found j w gs in cc)
same_record (MoreFieldV i v fs) NoFieldV r s h = absurd (let e : Val v ≡ Stuck = sym (first_found i v fs) ∙ h i in cc)
same_record (MoreFieldV i v fs) (MoreFieldV j w gs) r s h = go (units_lt i j) refl (same_name i j) refl (same_record fs gs rf.1 rg.1)
  where
    rf : Under i fs × Rises fs
    rf = rest_rises i v fs r

    rg : Under j gs × Rises gs
    rg = rest_rises j w gs s

    go : (b : Bool) → units_lt i j ≡ b → (c : Bool) → same_name i j ≡ c → (((k : Name) → field_in k fs ≡ field_in k gs) → fs ≡ gs) → MoreFieldV i v fs ≡ MoreFieldV j w gs
    go true l c e again =
        absurd (let n : Val v ≡ Stuck = sym (first_found i v fs) ∙ (h i ∙ none_under i (MoreFieldV j w gs) l s) in cc)
    go false l false e again =
        absurd (let n : Stuck ≡ Val w = sym (none_under j (MoreFieldV i v fs) (turned_lt i j l e) r) ∙ (h j ∙ first_found j w gs) in cc)
    go false l true e again =
        let p : i ≡ j = (bytes_eq-Decides i j).0 e in
        let value : Val v ≡ Val w = sym (first_found i v fs) ∙ (h i ∙ (ap (λ k. field_in i (MoreFieldV k w gs)) (sym p) ∙ first_found i w gs)) in
        let q : v ≡ w = cc in
        let rest : fs ≡ gs = again (λ k. at_name k p (same_name k i) refl) in
        cc
      where
        at_name : (k : Name) → i ≡ j → (d : Bool) → same_name k i ≡ d → field_in k fs ≡ field_in k gs
        at_name k p true f =
            let m : k ≡ i = (bytes_eq-Decides k i).0 f in
            ap (λ n. field_in n fs) m ∙ (none_under i fs rf.0 rf.1 ∙ sym (ap (λ n. field_in n gs) (m ∙ p) ∙ none_under j gs rg.0 rg.1))
        at_name k p false f =
            let n : same_name k j ≡ false = ap (same_name k) (sym p) ∙ f in
            sym (ap (λ (b : Bool). if b then Val v else field_in k fs) f) ∙ (h k ∙ ap (λ (b : Bool). if b then Val w else field_in k gs) n)

pub records_alike : RecordsAlike
records_alike ks js vs ws fs gs e f h =
    same_record fs gs (records_rise ks vs fs e) (records_rise js ws gs f) (λ k. records_hold ks vs fs e k ∙ (h k ∙ sym (records_hold js ws gs f k)))
