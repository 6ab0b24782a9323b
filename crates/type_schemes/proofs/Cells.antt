-- The copy of a frozen type is made of the copies of its parts.
use Rattle.std.proofs.Common.{◌≡◌, ℕ, ◌<◌, List, [], ◌∷◌, ◌++◌, length, map, true, Option, Some, None, refl, sym, ap, ◌∙◌, subst}
use Rattle.std.specs.List.{All, AllByRecursion}
use Rattle.std.proofs.lemmas.List.Elements.{All-nil, All-cons, All-get_or, All-from_recursion}
use Rattle.elm_type.specs.Types.{Name, Made, MoreField, types_of}
use Rattle.elm_type.specs.Classes.{Ground}
use Rattle.elm_type.specs.Rows.{extend}
use Rattle.elm_type.specs.declared.head.Head.{Head}
use Rattle.elm_type.specs.Ground.{is_ground, lacks, lacks_all}
use Rattle.type_store.specs.Store as store
use Rattle.type_store.specs.Store.{FieldSlot, Store, slot_at, field_slots, field_names, end_slots}
use Rattle.type_store.specs.Solutions.{Values, Fit, Says, Lacks, MeetsAsk, Clash, row_value, rest_value}
use Rattle.type_store.specs.Shape.{Ascending, IsCell, IsStore, parts_of}
use Rattle.type_store.specs.Steps.{rest_asks}
use Rattle.type_store.proofs.RowsMeet.{and_left, and_right}
use Rattle.type_store.proofs.Lacking.{ground_extended}
use Rattle.type_store.proofs.RowValues.{lacks_row, rise_row, ground_row}
use Rattle.type_walks.specs.Links.{Live}
use Rattle.type_walks.specs.Frozen.{Part, Inner, Outer, FieldPart, Built, Row, part_value, fields_value, end_value, part_names, IsBefore, EndBefore, CellBefore, PartLive, EndLive, CellLive}
use Rattle.type_schemes.specs.Formed.{AreFields}
use Rattle.type_walks.proofs.Steps.{Makes}
use Rattle.type_walks.proofs.Stepping.{parts_ground}
use Rattle.type_walks.proofs.Making.{makes_cell, makes_on}
use Rattle.type_store.specs.Steps.{put}
use Rattle.type_store.specs.Levels.{IsLowered}
use Rattle.type_store.specs.Solutions.{Becomes}
use Rattle.type_store.specs.Reaching.{GoesOnAt}
use Rattle.type_schemes.specs.Copies.{copy_at, copied, copied_field, copied_end, Grows, IsCopy, CanHave}

module _ (cs : List ℕ) where
  abbrev inner : Values → ℕ → Ground
  inner σ i = σ.types (copy_at cs i)

  value_of : (σ : Values) (p : Part) → part_value σ (inner σ) p ≡ σ.types (copied cs p)
  value_of σ (Inner i) = refl
  value_of σ (Outer v) = refl

  values_of : (σ : Values) (ps : List Part) → map (part_value σ (inner σ)) ps ≡ map σ.types (map (copied cs) ps)
  values_of σ [] = refl
  values_of σ (p ∷ ps) =
      ap (λ t. t ∷ map (part_value σ (inner σ)) ps) (value_of σ p) ∙ ap (λ ts. σ.types (copied cs p) ∷ ts) (values_of σ ps)

  row_of : (σ : Values) (fs : List FieldPart) → fields_value σ (inner σ) fs ≡ row_value σ.types (map (copied_field cs) fs)
  row_of σ [] = refl
  row_of σ (f ∷ fs) =
      ap (λ t. MoreField f.0 t (fields_value σ (inner σ) fs)) (value_of σ f.1) ∙ ap (MoreField f.0 (σ.types (copied cs f.1))) (row_of σ fs)

  last_of : (σ : Values) (e : Option Part) → end_value σ (inner σ) e ≡ rest_value σ.types (copied_end cs e)
  last_of σ None = refl
  last_of σ (Some p) = value_of σ p

  names_of : (fs : List FieldPart) → part_names fs ≡ field_names (map (copied_field cs) fs)
  names_of [] = refl
  names_of (f ∷ fs) = ap (λ xs. f.0 ∷ xs) (names_of fs)

  -- ---- a type of a head

  module _ (d : ℕ) (s : Store) (v : ℕ) (s' : Store) (h : Head) (ps : List Part) where
    pub built_grows : Makes d s v s' (store.Built h (map (copied cs) ps)) → Grows d s v s' (IsCopy cs (Built h ps))
    built_grows m = record {
      later = m.later;
      live = m.live;
      determined = m.determined;
      back = λ σ f. let b = m.back σ f in (b.0, b.1 ∙ ap (λ ts. Made h (types_of ts)) (sym (values_of σ ps)));
      on = λ σ t f k. (
          let e = k ∙ ap (λ ts. Made h (types_of ts)) (values_of σ ps) in
          m.on σ t f e (ap is_ground e ∙ parts_ground s σ (map (copied cs) ps) f));
    }

    pub built_made : (h' : Head) (ws : List ℕ) → IsStore s → h' ≡ h → ws ≡ map (copied cs) ps → All (λ w. w < length s) ws → v ≡ length s
        → IsLowered (s ++ put (store.Built h' ws) d ∷ []) s' → Grows d s v s' (IsCopy cs (Built h ps))
    built_made h' ws whole e k inside n low =
        built_grows
        (subst (λ x. Makes d s v s' (store.Built x (map (copied cs) ps))) e
        (subst (λ ys. Makes d s v s' (store.Built h' ys)) k
        (subst (λ w. Makes d s w s' (store.Built h' ws)) (sym n) (makes_cell s s' d (store.Built h' ws) whole inside refl low))))

  -- ---- a record

  pub as_row : (P : store.Cell → Type 0) (fs gs : List FieldSlot) (e f : Option ℕ) → fs ≡ gs → e ≡ f → P (store.Row gs f) → P (store.Row fs e)
  as_row P fs gs e f a b h = subst (λ x. P (store.Row x e)) (sym a) (subst (λ x. P (store.Row gs x)) (sym b) h)

  each_ground : (s : Store) (σ : Values) → Fit σ s → (ws : List ℕ) → All (λ w. is_ground (σ.types w) ≡ true) ws
  each_ground s σ f [] = All-nil (λ w. is_ground (σ.types w) ≡ true)
  each_ground s σ f (w ∷ ws) = All-cons (λ w. is_ground (σ.types w) ≡ true) w ws (f.each w).ground (each_ground s σ f ws)

  rest_ground : (s : Store) (σ : Values) → Fit σ s → (end : Option ℕ) → is_ground (rest_value σ.types end) ≡ true
  rest_ground s σ f None = refl
  rest_ground s σ f (Some w) = (f.each w).ground

  rises : (fs : List FieldPart) (end : Option Part) → AreFields fs end → Ascending (part_names fs)
  rises [] end h = tt
  rises (f ∷ fs) end h = h

  pub is_cell : (fs : List FieldPart) (end : Option Part) → AreFields fs end → IsCell 0 (store.Row (map (copied_field cs) fs) (copied_end cs end))
  is_cell [] None h = tt
  is_cell [] (Some p) h = h
  is_cell (f ∷ fs) end h = subst Ascending (names_of (f ∷ fs)) h

  module _ (d : ℕ) (s : Store) (v : ℕ) (s' : Store) (fs : List FieldPart) (end : Option Part) (are : AreFields fs end) where
    abbrev slots : List FieldSlot
    slots = map (copied_field cs) fs

    abbrev last : Option ℕ
    last = copied_end cs end

    says_row : (σ : Values) (t : Ground) → IsCopy cs (Row fs end) σ t → Says σ t (store.Row slots last)
    says_row σ t k = (
      k.0 ∙ (ap (λ xs. extend xs (end_value σ (inner σ) end)) (row_of σ fs) ∙ ap (extend (row_value σ.types slots)) (last_of σ end)),
      ap (λ xs. lacks_all xs (rest_value σ.types last)) (sym (names_of fs)) ∙ (ap (lacks_all (part_names fs)) (sym (last_of σ end)) ∙ k.1),
    )

    row_says : (σ : Values) (t : Ground) → Says σ t (store.Row slots last) → IsCopy cs (Row fs end) σ t
    row_says σ t k = (
      k.0 ∙ sym (ap (λ xs. extend xs (end_value σ (inner σ) end)) (row_of σ fs) ∙ ap (extend (row_value σ.types slots)) (last_of σ end)),
      ap (lacks_all (part_names fs)) (last_of σ end) ∙ (ap (λ xs. lacks_all xs (rest_value σ.types last)) (names_of fs) ∙ k.1),
    )

    row_is_ground : (σ : Values) → Fit σ s → lacks_all (field_names slots) (rest_value σ.types last) ≡ true → is_ground (extend (row_value σ.types slots) (rest_value σ.types last)) ≡ true
    row_is_ground σ f l =
        ground_extended (row_value σ.types slots) (rest_value σ.types last) (rise_row σ.types slots (subst Ascending (names_of fs) (rises fs end are)))
        (ground_row σ.types slots (each_ground s σ f (field_slots slots))) (lacks_row σ.types slots (rest_value σ.types last) l) (rest_ground s σ f last)

    pub row_grows : Makes d s v s' (store.Row slots last) → Grows d s v s' (IsCopy cs (Row fs end))
    row_grows m = record {
      later = m.later;
      live = m.live;
      determined = m.determined;
      back = λ σ f. let b = m.back σ f in (b.0, row_says σ (σ.types v) b.1);
      on = λ σ t f k. (let e = says_row σ t k in m.on σ t f e (ap is_ground e.0 ∙ row_is_ground σ f e.1));
    }

    pub row_made : (gs : List FieldSlot) (e : Option ℕ) → IsStore s → gs ≡ slots → e ≡ last → All (λ w. w < length s) (parts_of (store.Row gs e)) → v ≡ length s
        → Becomes (s ++ put (store.Row gs e) d ∷ []) [] s' [] → GoesOnAt d s s' → Grows d s v s' (IsCopy cs (Row fs end))
    row_made gs e whole a b inside n becomes goes =
        row_grows
        (as_row (Makes d s v s') slots gs last e (sym a) (sym b)
        (subst (λ w. Makes d s w s' (store.Row gs e)) (sym n) (makes_on s s' d (store.Row gs e) whole inside refl becomes goes)))

    asks_met : (σ : Values) (w : ℕ) (xs : List Name) → lacks_all xs (σ.types w) ≡ true → All (MeetsAsk σ) (map (Lacks w) xs)
    asks_met σ w [] l = All-nil (MeetsAsk σ)
    asks_met σ w (x ∷ xs) l =
        All-cons (MeetsAsk σ) (Lacks w x) (map (Lacks w) xs) (and_left (lacks x (σ.types w)) (lacks_all xs (σ.types w)) l)
        (asks_met σ w xs (and_right (lacks x (σ.types w)) (lacks_all xs (σ.types w)) l))

    rest_met : (σ : Values) (e : Option ℕ) (xs : List Name) → lacks_all xs (rest_value σ.types e) ≡ true → All (MeetsAsk σ) (rest_asks e xs)
    rest_met σ None xs l = All-nil (MeetsAsk σ)
    rest_met σ (Some w) xs l = asks_met σ w xs l

    pub row_fits : CanHave s (IsCopy cs (Row fs end)) → Clash s (rest_asks last (field_names slots)) → ⊥
    row_fits can clash = clash.never can.values can.fit (rest_met can.values last (field_names slots) (says_row can.values can.type can.has).1)

  -- ---- the copies are there

  module _ (d : ℕ) (s : Store) (live : All (Live d s) cs) where
    pub part_inside : (p : Part) → IsBefore (length cs) p → PartLive d s p → copied cs p < length s
    part_inside (Inner i) b l = (All-get_or (Live d s) cs i 0 b live).inside
    part_inside (Outer v) b l = l.inside

    parts_inside : (ps : List Part) → AllByRecursion (IsBefore (length cs)) ps → AllByRecursion (PartLive d s) ps → AllByRecursion (λ w. w < length s) (map (copied cs) ps)
    parts_inside [] b l = tt
    parts_inside (p ∷ ps) b l = (part_inside p b.0 l.0, parts_inside ps b.1 l.1)

    pub all_inside : (ps : List Part) → AllByRecursion (IsBefore (length cs)) ps → AllByRecursion (PartLive d s) ps → All (λ w. w < length s) (map (copied cs) ps)
    all_inside ps b l = All-from_recursion (λ w. w < length s) (map (copied cs) ps) (parts_inside ps b l)

    end_inside : (e : Option Part) → EndBefore (length cs) e → EndLive d s e → AllByRecursion (λ w. w < length s) (end_slots (copied_end cs e))
    end_inside None b l = tt
    end_inside (Some p) b l = (part_inside p b l, tt)

    fields_inside : (fs : List FieldPart) (ws : List ℕ) → AllByRecursion (λ (f : FieldPart). IsBefore (length cs) f.1) fs → AllByRecursion (λ (f : FieldPart). PartLive d s f.1) fs
        → AllByRecursion (λ w. w < length s) ws → AllByRecursion (λ w. w < length s) (field_slots (map (copied_field cs) fs) ++ ws)
    fields_inside [] ws b l h = h
    fields_inside (f ∷ fs) ws b l h = (part_inside f.1 b.0 l.0, fields_inside fs ws b.1 l.1 h)

    pub row_inside : (fs : List FieldPart) (e : Option Part) → CellBefore (length cs) (Row fs e) → CellLive d s (Row fs e)
        → All (λ w. w < length s) (parts_of (store.Row (map (copied_field cs) fs) (copied_end cs e)))
    row_inside fs e b l =
        All-from_recursion (λ w. w < length s) (parts_of (store.Row (map (copied_field cs) fs) (copied_end cs e)))
        (fields_inside fs (end_slots (copied_end cs e)) b.0 l.0 (end_inside e b.1 l.1))
