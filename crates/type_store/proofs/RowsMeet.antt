-- Two open rows meet.
use Rattle.std.proofs.Common.{◌≡◌, Bool, true, false, Option, Some, None, ◌⊎◌, inl, inr, refl, sym, ap, ◌∙◌, subst}
use Rattle.std.specs.Prelude.{if◌then◌else◌, not, ◌&&◌, ◌||◌}
use Rattle.std.specs.Str.{bytes_eq}
use Rattle.elm_type.specs.Types.{Name, End, Closed, ElmType, Fields, Made, Record, NoField, MoreField, Rigid}
use Rattle.elm_type.specs.Classes.{Ground}
use Rattle.elm_type.specs.Rows.{name_lt, insert_field, insert_all, extend, field_type, has_field, is_under, rise}
use Rattle.elm_type.specs.Ground.{lacks, end_lacks, end_lacks_each, is_ground, fields_ground}
use Rattle.type_store.proofs.Names.{lt_trans, lt_back, lt_itself, lt_apart, same_name, equal_itself, Compared, Below, Equals, Above, compared}
use Rattle.type_store.proofs.Rows.{insert_after, insert_before, insert_swap, extend_none}

-- the fields of the first that the second has not
abbrev pub only : {X Y : Type 0} → Fields X → Fields Y → Fields X
only NoField rs = NoField
only (MoreField k t fs) rs = if has_field k rs then only fs rs else MoreField k t (only fs rs)

-- the ground type lacks each of these fields
abbrev pub LacksFields : Fields Rigid → Ground → Type 0
LacksFields NoField g = Unit {0}
LacksFields (MoreField k t fs) g = (lacks k g ≡ true) × LacksFields fs g

-- no name is in both
abbrev pub Apart : Fields Rigid → Fields Rigid → Type 0
Apart NoField gs = Unit {0}
Apart (MoreField k t fs) gs = (has_field k gs ≡ false) × Apart fs gs

-- r with the fields ls is s with the fields rs: then r and s are one row with the fields of the other
pub record Rest (ls rs : Fields Rigid) (r s : Ground) : Type 0 where
  pub rest : Ground
  pub left : r ≡ extend rs rest
  pub right : s ≡ extend ls rest
  pub ground : is_ground rest ≡ true
  pub lacks_left : LacksFields ls rest
  pub lacks_right : LacksFields rs rest

pub and_left : (a b : Bool) → (a && b) ≡ true → a ≡ true
and_left true b e = refl
and_left false b e = e

pub and_right : (a b : Bool) → (a && b) ≡ true → b ≡ true
and_right true b e = e
and_right false b e = absurd (let f : false ≡ true = e in cc)

pub and_both : (a b : Bool) → a ≡ true → b ≡ true → (a && b) ≡ true
and_both a b e f = ap (λ c. c && b) e ∙ f

pub or_right : (a b : Bool) → b ≡ true → (a || b) ≡ true
or_right true b e = refl
or_right false b e = e

-- Looking fields up.

abbrev pub first_or : {A : Type 0} → Option A → Option A → Option A
first_or (Some a) o = Some a
first_or None o = o

swap_tests : {A : Type 0} (a b : Bool) (x y z : A) → (a ≡ true → b ≡ true → ⊥) → (if a then x else (if b then y else z)) ≡ (if b then y else (if a then x else z))
swap_tests true true x y z h = absurd (h refl refl)
swap_tests true false x y z h = refl
swap_tests false b x y z h = refl

or_test : {A : Type 0} (b : Bool) (x : A) (o p : Option A) → (if b then Some x else first_or o p) ≡ first_or (if b then Some x else o) p
or_test true x o p = refl
or_test false x o p = refl

pub some_not_none : {A : Type 0} (x : A) → Some x ≡ None → ⊥
some_not_none x e = cc

module _ {X : Type 0} where
  pub found_first : (k : Name) (t : ElmType X) (fs : Fields X) → field_type k (MoreField k t fs) ≡ Some t
  found_first k t fs = ap (λ b. if b then Some t else field_type k fs) (equal_itself k)

  pub found_after : (j k : Name) (t : ElmType X) (fs : Fields X) → bytes_eq j k ≡ false → field_type j (MoreField k t fs) ≡ field_type j fs
  found_after j k t fs e = ap (λ b. if b then Some t else field_type j fs) e

  pub found_inserted : (j k : Name) (t : ElmType X) (fs : Fields X) → field_type j (insert_field k t fs) ≡ (if bytes_eq j k then Some t else field_type j fs)
  found_inserted j k t NoField = refl
  found_inserted j k t (MoreField m v fs) = go (found_inserted j k t fs) (name_lt m k) refl
    where
      go : field_type j (insert_field k t fs) ≡ (if bytes_eq j k then Some t else field_type j fs) → (b : Bool) → name_lt m k ≡ b → field_type j (insert_field k t (MoreField m v fs)) ≡ (if bytes_eq j k then Some t else field_type j (MoreField m v fs))
      go again true e =
          ap (field_type j) (insert_after k m t v fs e) ∙ (ap (λ o. if bytes_eq j m then Some v else o) again ∙
          swap_tests (bytes_eq j m) (bytes_eq j k) (Some v) (Some t) (field_type j fs) (λ a b.
          let s : m ≡ k = sym (same_name j m a) ∙ same_name j k b in
          let n : name_lt k k ≡ false = lt_itself k in
          let w : name_lt k k ≡ true = subst (λ x. name_lt x k ≡ true) s e in cc))
      go again false e = ap (field_type j) (insert_before k m t v fs e)

  pub found_all : (j : Name) (fs gs : Fields X) → field_type j (insert_all fs gs) ≡ first_or (field_type j fs) (field_type j gs)
  found_all j NoField gs = refl
  found_all j (MoreField k t fs) gs =
      found_inserted j k t (insert_all fs gs) ∙ (ap (λ o. if bytes_eq j k then Some t else o) (found_all j fs gs) ∙ or_test (bytes_eq j k) t (field_type j fs) (field_type j gs))

  -- what is under a name is not that name's
  pub none_under : (j k : Name) (fs : Fields X) → name_lt j k ≡ true → is_under k fs ≡ true → rise fs ≡ true → field_type j fs ≡ None
  none_under j k NoField l u r = refl
  none_under j k (MoreField m v fs) l u r =
      let lm = lt_trans j k m l u in
      found_after j m v fs (lt_apart j m lm) ∙ none_under j m fs lm (and_left (is_under m fs) (rise fs) r) (and_right (is_under m fs) (rise fs) r)

  pub none_at : (k : Name) (fs : Fields X) → is_under k fs ≡ true → rise fs ≡ true → field_type k fs ≡ None
  none_at k NoField u r = refl
  none_at k (MoreField m v fs) u r =
      found_after k m v fs (lt_apart k m u) ∙ none_under k m fs u (and_left (is_under m fs) (rise fs) r) (and_right (is_under m fs) (rise fs) r)

  -- fields that are in order are the same where the same are found in them
  pub same_fields : (fs gs : Fields X) → rise fs ≡ true → rise gs ≡ true → ((j : Name) → field_type j fs ≡ field_type j gs) → fs ≡ gs
  same_fields NoField NoField r s h = refl
  same_fields NoField (MoreField k t gs) r s h = absurd (some_not_none t (sym (found_first k t gs) ∙ sym (h k)))
  same_fields (MoreField k t fs) NoField r s h = absurd (some_not_none t (sym (found_first k t fs) ∙ h k))
  same_fields (MoreField k t fs) (MoreField m v gs) r s h = go (same_fields fs gs (and_right (is_under k fs) (rise fs) r) (and_right (is_under m gs) (rise gs) s)) (compared k m)
    where
      uf : is_under k fs ≡ true
      uf = and_left (is_under k fs) (rise fs) r

      rf : rise fs ≡ true
      rf = and_right (is_under k fs) (rise fs) r

      ug : is_under m gs ≡ true
      ug = and_left (is_under m gs) (rise gs) s

      rg : rise gs ≡ true
      rg = and_right (is_under m gs) (rise gs) s

      at_tail : k ≡ m → (j : Name) (b : Bool) → bytes_eq j k ≡ b → field_type j fs ≡ field_type j gs
      at_tail e j true q = ap (λ x. field_type x fs) (same_name j k q) ∙ (none_at k fs uf rf ∙ (sym (none_at m gs ug rg) ∙ ap (λ x. field_type x gs) (sym (same_name j k q ∙ e))))
      at_tail e j false q =
          let q' : bytes_eq j m ≡ false = ap (bytes_eq j) (sym e) ∙ q in
          sym (found_after j k t fs q) ∙ (h j ∙ found_after j m v gs q')

      go : (((j : Name) → field_type j fs ≡ field_type j gs) → fs ≡ gs) → Compared k m → MoreField k t fs ≡ MoreField m v gs
      go again (Below l) = absurd (some_not_none t (sym (found_first k t fs) ∙ (h k ∙ (found_after k m v gs (lt_apart k m l) ∙ none_under k m gs l ug rg))))
      go again (Above l) = absurd (some_not_none v (sym (found_first m v gs) ∙ (sym (h m) ∙ (found_after m k t fs (lt_apart m k l) ∙ none_under m k fs l uf rf))))
      go again (Equals e) =
          let types : Some t ≡ Some v = sym (found_first k t fs) ∙ (h k ∙ (ap (λ x. field_type x (MoreField m v gs)) e ∙ found_first m v gs)) in
          let tv : t ≡ v = cc in
          let rest : fs ≡ gs = again (λ j. at_tail e j (bytes_eq j k) refl) in
          cc

-- Fields taken away.

no_field : {X : Type 0} (b : Bool) (t : ElmType X) (o : Option (ElmType X)) (c : Bool) → ((c ≡ false → o ≡ None) × (o ≡ None → c ≡ false)) → (((b || c) ≡ false → (if b then Some t else o) ≡ None) × ((if b then Some t else o) ≡ None → (b || c) ≡ false))
no_field true t o c h = ((λ e. absurd (let w : true ≡ false = e in cc)), (λ e. absurd (some_not_none t e)))
no_field false t o c h = h

module _ {X : Type 0} where
  pub no_field_type : (k : Name) (fs : Fields X) → (has_field k fs ≡ false → field_type k fs ≡ None) × (field_type k fs ≡ None → has_field k fs ≡ false)
  no_field_type k NoField = ((λ e. refl), (λ e. refl))
  no_field_type k (MoreField j t fs) = no_field (bytes_eq k j) t (field_type k fs) (has_field k fs) (no_field_type k fs)

pub under_less : {X : Type 0} (k m : Name) (fs : Fields X) → name_lt k m ≡ true → is_under m fs ≡ true → is_under k fs ≡ true
under_less k m NoField l u = refl
under_less k m (MoreField j t fs) l u = lt_trans k m j l u

module _ {X Y : Type 0} (rs : Fields Y) where
  only_has : (k : Name) (t : ElmType X) (fs : Fields X) → has_field k rs ≡ true → only (MoreField k t fs) rs ≡ only fs rs
  only_has k t fs e = ap (λ b. if b then only fs rs else MoreField k t (only fs rs)) e

  only_not : (k : Name) (t : ElmType X) (fs : Fields X) → has_field k rs ≡ false → only (MoreField k t fs) rs ≡ MoreField k t (only fs rs)
  only_not k t fs e = ap (λ b. if b then only fs rs else MoreField k t (only fs rs)) e

  pub found_only : (j : Name) (fs : Fields X) → field_type j (only fs rs) ≡ (if has_field j rs then None else field_type j fs)
  found_only j NoField = go (has_field j rs)
    where
      go : (b : Bool) → None ≡ (if b then None else field_type {X = X} j NoField)
      go true = refl
      go false = refl
  found_only j (MoreField k t fs) = go (found_only j fs) (has_field k rs) (bytes_eq j k) (has_field j rs) refl refl refl
    where
      go : field_type j (only fs rs) ≡ (if has_field j rs then None else field_type j fs) → (a b c : Bool) → has_field k rs ≡ a → bytes_eq j k ≡ b → has_field j rs ≡ c
          → field_type j (only (MoreField k t fs) rs) ≡ (if has_field j rs then None else (if bytes_eq j k then Some t else field_type j fs))
      go again true true c d e f =
          let g : has_field j rs ≡ true = ap (λ x. has_field x rs) (same_name j k e) ∙ d in
          ap (field_type j) (only_has k t fs d) ∙ (again ∙ (ap (λ b. if b then None else field_type j fs) g ∙ sym (ap (λ b. if b then None else (if bytes_eq j k then Some t else field_type j fs)) g)))
      go again true false c d e f =
          ap (field_type j) (only_has k t fs d) ∙ (again ∙ ap (λ o. if has_field j rs then None else o) (sym (found_after j k t fs e)))
      go again false true c d e f =
          let g : has_field j rs ≡ false = ap (λ x. has_field x rs) (same_name j k e) ∙ d in
          ap (field_type j) (only_not k t fs d) ∙ (ap (λ b. if b then Some t else field_type j (only fs rs)) e ∙ sym (ap (λ b. if b then None else (if bytes_eq j k then Some t else field_type j fs)) g ∙ ap (λ b. if b then Some t else field_type j fs) e))
      go again false false c d e f =
          ap (field_type j) (only_not k t fs d) ∙ (found_after j k t (only fs rs) e ∙ (again ∙ ap (λ o. if has_field j rs then None else o) (sym (found_after j k t fs e))))

  under_only : (k : Name) (fs : Fields X) → is_under k fs ≡ true → rise fs ≡ true → is_under k (only fs rs) ≡ true
  under_only k NoField u r = refl
  under_only k (MoreField m v fs) u r =
      go (under_only k fs (under_less k m fs u (and_left (is_under m fs) (rise fs) r)) (and_right (is_under m fs) (rise fs) r)) (has_field m rs) refl
    where
      go : is_under k (only fs rs) ≡ true → (b : Bool) → has_field m rs ≡ b → is_under k (only (MoreField m v fs) rs) ≡ true
      go again true e = ap (is_under k) (only_has m v fs e) ∙ again
      go again false e = ap (is_under k) (only_not m v fs e) ∙ u

  pub rise_only : (fs : Fields X) → rise fs ≡ true → rise (only fs rs) ≡ true
  rise_only NoField r = refl
  rise_only (MoreField k t fs) r = go (rise_only fs (and_right (is_under k fs) (rise fs) r)) (has_field k rs) refl
    where
      go : rise (only fs rs) ≡ true → (b : Bool) → has_field k rs ≡ b → rise (only (MoreField k t fs) rs) ≡ true
      go again true e = ap rise (only_has k t fs e) ∙ again
      go again false e = ap rise (only_not k t fs e) ∙ and_both (is_under k (only fs rs)) (rise (only fs rs)) (under_only k fs (and_left (is_under k fs) (rise fs) r) (and_right (is_under k fs) (rise fs) r)) again

-- Fields put in.

pub not_had : (b c : Bool) → (b || c) ≡ false → (b ≡ false) × (c ≡ false)
not_had true c e = absurd (let w : true ≡ false = e in cc)
not_had false c e = (refl, e)

module _ {X : Type 0} where
  pub under_inserted : (i k : Name) (t : ElmType X) (fs : Fields X) → name_lt i k ≡ true → is_under i fs ≡ true → is_under i (insert_field k t fs) ≡ true
  under_inserted i k t NoField l u = l
  under_inserted i k t (MoreField m v fs) l u = go (name_lt m k) refl
    where
      go : (b : Bool) → name_lt m k ≡ b → is_under i (insert_field k t (MoreField m v fs)) ≡ true
      go true e = ap (is_under i) (insert_after k m t v fs e) ∙ u
      go false e = ap (is_under i) (insert_before k m t v fs e) ∙ l

  pub rise_inserted : (k : Name) (t : ElmType X) (fs : Fields X) → has_field k fs ≡ false → rise fs ≡ true → rise (insert_field k t fs) ≡ true
  rise_inserted k t NoField n r = refl
  rise_inserted k t (MoreField m v fs) n r =
      go (rise_inserted k t fs (not_had (bytes_eq k m) (has_field k fs) n).1 (and_right (is_under m fs) (rise fs) r)) (compared m k)
    where
      go : rise (insert_field k t fs) ≡ true → Compared m k → rise (insert_field k t (MoreField m v fs)) ≡ true
      go again (Below l) =
          ap rise (insert_after k m t v fs l) ∙ and_both (is_under m (insert_field k t fs)) (rise (insert_field k t fs)) (under_inserted m k t fs l (and_left (is_under m fs) (rise fs) r)) again
      go again (Equals e) = absurd (
          let a : bytes_eq k m ≡ false = (not_had (bytes_eq k m) (has_field k fs) n).0 in
          let b : bytes_eq m m ≡ true = equal_itself m in
          let c : bytes_eq m m ≡ false = ap (λ x. bytes_eq x m) e ∙ a in cc)
      go again (Above l) = ap rise (insert_before k m t v fs (lt_back k m l)) ∙ and_both (name_lt k m) (is_under m fs && rise fs) l r

  pub none_inserted : (j : Name) (fs gs : Fields X) → field_type j fs ≡ None → field_type j gs ≡ None → field_type j (insert_all fs gs) ≡ None
  none_inserted j fs gs e f = found_all j fs gs ∙ (ap (λ o. first_or o (field_type j gs)) e ∙ f)

  -- no name of the first is in the second
  pub rise_all : (fs gs : Fields X) → rise fs ≡ true → rise gs ≡ true → ((j : Name) → has_field j fs ≡ true → has_field j gs ≡ false) → rise (insert_all fs gs) ≡ true
  rise_all NoField gs r q h = q
  rise_all (MoreField k t fs) gs r q h =
      let u = and_left (is_under k fs) (rise fs) r in
      let s = and_right (is_under k fs) (rise fs) r in
      let none = none_inserted k fs gs (none_at k fs u s) ((no_field_type k gs).0 (h k (ap (λ b. b || has_field k fs) (equal_itself k)))) in
      rise_inserted k t (insert_all fs gs) ((no_field_type k (insert_all fs gs)).1 none)
      (rise_all fs gs s q (λ j e. h j (or_right (bytes_eq j k) (has_field j fs) e)))

-- The rest of two rows.

pub yes_or_no : (b : Bool) → (b ≡ true) ⊎ (b ≡ false)
yes_or_no true = inl refl
yes_or_no false = inr refl

apart_at : (ls rs : Fields Rigid) (j : Name) → Apart ls rs → has_field j ls ≡ true → has_field j rs ≡ false
apart_at NoField rs j a h = absurd (let w : false ≡ true = h in cc)
apart_at (MoreField k t ls) rs j a h = go (bytes_eq j k) refl (apart_at ls rs j a.1)
  where
    go : (b : Bool) → bytes_eq j k ≡ b → (has_field j ls ≡ true → has_field j rs ≡ false) → has_field j rs ≡ false
    go true e again = ap (λ x. has_field x rs) (same_name j k e) ∙ a.0
    go false e again = again (sym (ap (λ b. b || has_field j ls) e) ∙ h)

pub not_yes : (b : Bool) → not b ≡ true → b ≡ false
not_yes true e = absurd (let w : false ≡ true = e in cc)
not_yes false e = refl

pub lacked : (ks fs : Fields Rigid) (e : End Rigid) (j : Name) → LacksFields ks (Record fs e) → has_field j ks ≡ true → (has_field j fs ≡ false) × (end_lacks j e ≡ true)
lacked NoField fs e j l h = absurd (let w : false ≡ true = h in cc)
lacked (MoreField k t ks) fs e j l h = go (bytes_eq j k) refl (lacked ks fs e j l.1)
  where
    go : (b : Bool) → bytes_eq j k ≡ b → (has_field j ks ≡ true → (has_field j fs ≡ false) × (end_lacks j e ≡ true)) → (has_field j fs ≡ false) × (end_lacks j e ≡ true)
    go true q again =
        let s = sym (same_name j k q) in (
          ap (λ x. has_field x fs) (sym s) ∙ not_yes (has_field k fs) (and_left (not (has_field k fs)) (end_lacks k e) l.0),
          ap (λ x. end_lacks x e) (sym s) ∙ and_right (not (has_field k fs)) (end_lacks k e) l.0,
        )
    go false q again = again (sym (ap (λ b. b || has_field j ks) q) ∙ h)

pub lacks_from : (ks fs : Fields Rigid) (e : End Rigid) → ((j : Name) → has_field j ks ≡ true → (has_field j fs ≡ false) × (end_lacks j e ≡ true)) → LacksFields ks (Record fs e)
lacks_from NoField fs e h = tt
lacks_from (MoreField k t ks) fs e h =
    let here = h k (ap (λ b. b || has_field k ks) (equal_itself k)) in
    (and_both (not (has_field k fs)) (end_lacks k e) (ap not here.0) here.1, lacks_from ks fs e (λ j q. h j (or_right (bytes_eq j k) (has_field j ks) q)))

ends_only : (rs fs : Fields Rigid) (e : End Rigid) → end_lacks_each fs e ≡ true → end_lacks_each (only fs rs) e ≡ true
ends_only rs NoField e h = refl
ends_only rs (MoreField k t fs) e h = go (ends_only rs fs e (and_right (end_lacks k e) (end_lacks_each fs e) h)) (has_field k rs) refl
  where
    go : end_lacks_each (only fs rs) e ≡ true → (b : Bool) → has_field k rs ≡ b → end_lacks_each (only (MoreField k t fs) rs) e ≡ true
    go again true q = ap (λ gs. end_lacks_each gs e) (only_has rs k t fs q) ∙ again
    go again false q = ap (λ gs. end_lacks_each gs e) (only_not rs k t fs q) ∙ and_both (end_lacks k e) (end_lacks_each (only fs rs) e) (and_left (end_lacks k e) (end_lacks_each fs e) h) again

ground_only : (rs fs : Fields Rigid) → fields_ground fs ≡ true → fields_ground (only fs rs) ≡ true
ground_only rs NoField h = refl
ground_only rs (MoreField k t fs) h = go (ground_only rs fs (and_right (is_ground t) (fields_ground fs) h)) (has_field k rs) refl
  where
    go : fields_ground (only fs rs) ≡ true → (b : Bool) → has_field k rs ≡ b → fields_ground (only (MoreField k t fs) rs) ≡ true
    go again true q = ap fields_ground (only_has rs k t fs q) ∙ again
    go again false q = ap fields_ground (only_not rs k t fs q) ∙ and_both (is_ground t) (fields_ground (only fs rs)) (and_left (is_ground t) (fields_ground fs) h) again

abbrev pub fields_in : Ground → Fields Rigid
fields_in (Made h ts) = NoField
fields_in (Record fs e) = fs

abbrev pub end_in : Ground → End Rigid
end_in (Made h ts) = Closed
end_in (Record fs e) = e

module _ (ls rs fs gs : Fields Rigid) (e : End Rigid) (apart : Apart ls rs) (rise_fs : rise fs ≡ true) (rise_gs : rise gs ≡ true) (rise_ls : rise ls ≡ true) (rise_rs : rise rs ≡ true)
    (lacks_ls : LacksFields ls (Record fs e)) (lacks_rs : LacksFields rs (Record gs e)) (same : insert_all ls fs ≡ insert_all rs gs) where
  both_at : (j : Name) → first_or (field_type j ls) (field_type j fs) ≡ first_or (field_type j rs) (field_type j gs)
  both_at j = sym (found_all j ls fs) ∙ (ap (field_type j) same ∙ found_all j rs gs)

  -- each name is in the one, in the other, or in neither
  pub data Where (j : Name) : Type 0 where
    InLeft : has_field j ls ≡ true → has_field j rs ≡ false → Where j
    InRight : has_field j rs ≡ true → has_field j ls ≡ false → Where j
    InNeither : has_field j ls ≡ false → has_field j rs ≡ false → Where j

  find_where : (j : Name) → Where j
  find_where j = elim (yes_or_no (has_field j ls)) [
    | inl a ↦ InLeft a (apart_at ls rs j apart a)
    | inr a ↦ elim (yes_or_no (has_field j rs)) [ inl b ↦ InRight b a | inr b ↦ InNeither a b ]
  ]

  none_of : (j : Name) (xs : Fields Rigid) → has_field j xs ≡ false → field_type j xs ≡ None
  none_of j xs h = (no_field_type j xs).0 h

  left_found : (j : Name) → Where j → field_type j fs ≡ first_or (field_type j rs) (if has_field j rs then None else field_type j fs)
  left_found j (InLeft a b) = sym (ap (λ o. first_or o (if has_field j rs then None else field_type j fs)) (none_of j rs b) ∙ ap (λ c. if c then None else field_type j fs) b)
  left_found j (InRight a b) =
      let f : field_type j fs ≡ first_or (field_type j rs) (field_type j gs) = sym (ap (λ o. first_or o (field_type j fs)) (none_of j ls b)) ∙ both_at j in
      let n : field_type j gs ≡ None = none_of j gs (lacked rs gs e j lacks_rs a).0 in
      f ∙ (ap (first_or (field_type j rs)) n ∙ sym (ap (first_or (field_type j rs)) (ap (λ c. if c then None else field_type j fs) a)))
  left_found j (InNeither a b) = sym (ap (λ o. first_or o (if has_field j rs then None else field_type j fs)) (none_of j rs b) ∙ ap (λ c. if c then None else field_type j fs) b)

  right_found : (j : Name) → Where j → field_type j gs ≡ first_or (field_type j ls) (if has_field j rs then None else field_type j fs)
  right_found j (InLeft a b) =
      let f : field_type j gs ≡ first_or (field_type j ls) (field_type j fs) = sym (ap (λ o. first_or o (field_type j gs)) (none_of j rs b)) ∙ sym (both_at j) in
      f ∙ ap (first_or (field_type j ls)) (sym (ap (λ c. if c then None else field_type j fs) b))
  right_found j (InRight a b) =
      none_of j gs (lacked rs gs e j lacks_rs a).0 ∙ sym (ap (λ o. first_or o (if has_field j rs then None else field_type j fs)) (none_of j ls b) ∙ ap (λ c. if c then None else field_type j fs) a)
  right_found j (InNeither a b) =
      let f : field_type j gs ≡ first_or (field_type j ls) (field_type j fs) = sym (ap (λ o. first_or o (field_type j gs)) (none_of j rs b)) ∙ sym (both_at j) in
      f ∙ ap (first_or (field_type j ls)) (sym (ap (λ c. if c then None else field_type j fs) b))

  not_only : (j : Name) → has_field j rs ≡ true → has_field j (only fs rs) ≡ false
  not_only j h = (no_field_type j (only fs rs)).1 (found_only rs j fs ∙ ap (λ c. if c then None else field_type j fs) h)

  none_test : (b : Bool) (o : Option Ground) → o ≡ None → (if b then None else o) ≡ None
  none_test true o h = refl
  none_test false o h = h

  not_left : (j : Name) → has_field j ls ≡ true → has_field j (only fs rs) ≡ false
  not_left j h = (no_field_type j (only fs rs)).1 (found_only rs j fs ∙ none_test (has_field j rs) (field_type j fs) (none_of j fs (lacked ls fs e j lacks_ls h).0))

  pub rest_left : fs ≡ insert_all rs (only fs rs)
  rest_left = same_fields fs (insert_all rs (only fs rs)) rise_fs (rise_all rs (only fs rs) rise_rs (rise_only rs fs rise_fs) not_only)
      (λ j. left_found j (find_where j) ∙ sym (found_all j rs (only fs rs) ∙ ap (first_or (field_type j rs)) (found_only rs j fs)))

  pub rest_right : gs ≡ insert_all ls (only fs rs)
  rest_right = same_fields gs (insert_all ls (only fs rs)) rise_gs (rise_all ls (only fs rs) rise_ls (rise_only rs fs rise_fs) not_left)
      (λ j. right_found j (find_where j) ∙ sym (found_all j ls (only fs rs) ∙ ap (first_or (field_type j ls)) (found_only rs j fs)))

  pub rest_lacks_left : LacksFields ls (Record (only fs rs) e)
  rest_lacks_left = lacks_from ls (only fs rs) e (λ j h. (not_left j h, (lacked ls fs e j lacks_ls h).1))

  pub rest_lacks_right : LacksFields rs (Record (only fs rs) e)
  rest_lacks_right = lacks_from rs (only fs rs) e (λ j h. (not_only j h, (lacked rs gs e j lacks_rs h).1))

pub rows_meet : (ls rs : Fields Rigid) (r s : Ground) → rise ls ≡ true → rise rs ≡ true → Apart ls rs → is_ground r ≡ true → is_ground s ≡ true
    → LacksFields ls r → LacksFields rs s → extend ls r ≡ extend rs s → Rest ls rs r s
rows_meet NoField rs (Made h ts) s a b apart gr gs l m e =
    record { rest = s; left = e; right = sym (extend_none s); ground = gs; lacks_left = tt; lacks_right = m }
rows_meet (MoreField k t ls) rs (Made h ts) s a b apart gr gs l m e = absurd (let w : false ≡ true = l.0 in cc)
rows_meet ls NoField (Record fs f) (Made h ts) a b apart gr gs l m e =
    record { rest = Record fs f; left = sym (extend_none (Record fs f)); right = sym e; ground = gr; lacks_left = l; lacks_right = tt }
rows_meet ls (MoreField k t rs) (Record fs f) (Made h ts) a b apart gr gs l m e = absurd (let w : false ≡ true = m.0 in cc)
rows_meet ls rs (Record fs f) (Record gs f') a b apart gr hs l m e =
    let same : insert_all ls fs ≡ insert_all rs gs = ap fields_in e in
    let ends : f ≡ f' = ap end_in e in
    let rf = and_left (rise fs) (end_lacks_each fs f && fields_ground fs) gr in
    let more = and_right (rise fs) (end_lacks_each fs f && fields_ground fs) gr in
    let rg = and_left (rise gs) (end_lacks_each gs f' && fields_ground gs) hs in
    let m' : LacksFields rs (Record gs f) = subst (λ (x : End Rigid). LacksFields rs (Record gs x)) (sym ends) m in
    record {
      rest = Record (only fs rs) f;
      left = ap (λ xs. Record xs f) (rest_left ls rs fs gs f apart rf rg a b l m' same);
      right = ap (λ xs. Record xs f') (rest_right ls rs fs gs f apart rf rg a b l m' same) ∙ ap (Record (insert_all ls (only fs rs))) (sym ends);
      ground = and_both (rise (only fs rs)) (end_lacks_each (only fs rs) f && fields_ground (only fs rs)) (rise_only rs fs rf)
          (and_both (end_lacks_each (only fs rs) f) (fields_ground (only fs rs)) (ends_only rs fs f (and_left (end_lacks_each fs f) (fields_ground fs) more)) (ground_only rs fs (and_right (end_lacks_each fs f) (fields_ground fs) more)));
      lacks_left = rest_lacks_left ls rs fs gs f apart rf rg a b l m' same;
      lacks_right = rest_lacks_right ls rs fs gs f apart rf rg a b l m' same;
    }

-- fields of different names may be put in in either order
pub insert_past : {X : Type 0} (k : Name) (t : ElmType X) (rs fs : Fields X) → has_field k rs ≡ false → insert_field k t (insert_all rs fs) ≡ insert_all rs (insert_field k t fs)
insert_past k t NoField fs n = refl
insert_past k t (MoreField m v rs) fs n = go (insert_past k t rs fs (not_had (bytes_eq k m) (has_field k rs) n).1) (compared k m)
  where
    go : insert_field k t (insert_all rs fs) ≡ insert_all rs (insert_field k t fs) → Compared k m → insert_field k t (insert_field m v (insert_all rs fs)) ≡ insert_field m v (insert_all rs (insert_field k t fs))
    go again (Below l) = insert_swap k m t v (insert_all rs fs) l ∙ ap (insert_field m v) again
    go again (Equals e) = absurd (
        let a : bytes_eq k m ≡ false = (not_had (bytes_eq k m) (has_field k rs) n).0 in
        let b : bytes_eq m m ≡ true = equal_itself m in
        let c : bytes_eq m m ≡ false = ap (λ x. bytes_eq x m) (sym e) ∙ a in cc)
    go again (Above l) = sym (insert_swap m k v t (insert_all rs fs) l) ∙ ap (insert_field m v) again

pub insert_all_past : (ls rs fs : Fields Rigid) → Apart ls rs → insert_all ls (insert_all rs fs) ≡ insert_all rs (insert_all ls fs)
insert_all_past NoField rs fs a = refl
insert_all_past (MoreField k t ls) rs fs a = ap (insert_field k t) (insert_all_past ls rs fs a.1) ∙ insert_past k t rs (insert_all ls fs) a.0

pub rows_part : (ls rs : Fields Rigid) (t : Ground) → Apart ls rs → extend ls (extend rs t) ≡ extend rs (extend ls t)
rows_part ls rs (Made h ts) a = refl
rows_part ls rs (Record fs e) a = ap (λ gs. Record gs e) (insert_all_past ls rs fs a)
