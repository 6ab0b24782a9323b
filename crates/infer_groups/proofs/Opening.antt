-- The constants of a definition are in scope inside it.
use Rattle.std.proofs.Common.{◌≡◌, ℕ, zero, suc, ◌+◌, ◌≤◌, ◌<◌, List, [], ◌∷◌, ◌++◌, length, map, filter, Bool, true}
use Rattle.std.proofs.Common.{false, Option, Some, None, inl, inr, refl, sym, ap, ◌∙◌, subst, arith}
use Rattle.std.specs.Prelude.{◌⊎◌, is_none, ◌&&◌, nat_eq}
use Rattle.std.specs.List.{AllByRecursion, AllZip, Contains}
use Rattle.std.specs.Map.{lookup}
use Rattle.std.specs.Str.{bytes_eq}
use Rattle.std.proofs.Math.Path.{fun_ext}
use Rattle.std.proofs.lemmas.Bool.{cases_lt}
use Rattle.std.proofs.lemmas.List.Elements.{Contains-append_left, Contains-append_right, Contains-append_cases}
use Rattle.elm_canon.specs.Names.{same_ref}
use Rattle.elm_canon.specs.Tree.{Annotation}
use Rattle.elm_type.specs.Types.{Name, Rigid, Kind, variable}
use Rattle.type_items.specs.Items.{Place, child, Wanted, Item}
use Rattle.type_items.specs.Scopes.{Entry, Mono, Instance, General, Scope, with_constants}
use Rattle.type_items.specs.Annotations.{variables_of, own_variables, constant}
use Rattle.type_items.specs.Definitions.{outer_types}
use Rattle.type_store.specs.Store.{Constant, Store, Slot, slot_at}
use Rattle.type_store.specs.Shape.{IsStore}
use Rattle.type_store.specs.Solutions.{Values, Fit, Says as Meets, constants_of}
use Rattle.type_store.specs.Laws.{EachChoiceFits}
use Rattle.type_store.proofs.Parts.{slot_past}
use Rattle.type_walks.specs.Regions.{only, below}
use Rattle.type_walks.specs.Links.{Links, Live, AreLive, Tells, Away}
use Rattle.type_walks.specs.Walks.{Around}
use Rattle.type_walks.proofs.Cleaning.{all_both, stored, constant_there}
use Rattle.type_walks.proofs.Regions.{child_in_span, below_in_span, span_in_below}
use Rattle.type_walks.specs.Frozen.{Part, Inner, Outer as There, FieldPart, FrozenCell, Open, Built, Row, Frozen}
use Rattle.type_walks.specs.Frozen.{PartLive, EndLive, CellLive, cell_at}
use Rattle.type_walks.specs.TypeCopiesLaws.{SaysWithMore}
use Rattle.type_walks.specs.Says.{Says}
use Rattle.type_schemes.specs.Constants.{Own, rigids, own_links, within, Opened, Outer}
use Rattle.type_schemes.specs.Freezing.{ConstantsAround}
use Rattle.type_walks.specs.TypeStepsLaws.{Lacking}
use Rattle.type_constructs.specs.TypeDefinitionsAnnotated.{owned, inner_scope}
use Rattle.infer_steps.specs.Codes.{Meaning, One, Many, Each, Code, State}
use Rattle.infer_steps.specs.Ready.{MeaningReady, IsReady}
use Rattle.infer_steps.specs.Means.{MeansEntry, MeansConstant, Means, Setting}
use Rattle.infer_steps.proofs.Entering.{ready_constant, enters_constant}
use Rattle.infer_steps.proofs.Shallow.{shallow}
use Rattle.infer_groups.specs.Annotated.{own_names, its_own, with_owned, inside_of, ConstantsOpen}

-- ---- its own variables

none_same : (links : Links) (o : Option ℕ) (r : Option Rigid) → MeansConstant links o r → is_none o ≡ is_none r
none_same links None None h = refl
none_same links None (Some r) h = absurd h
none_same links (Some v) None h = absurd h
none_same links (Some v) (Some r) h = refl

pub same_own : (a : Around) (links : Links) (code : Code) (scope : Scope) (s : State) (annotation : Annotation)
    → Setting a links code scope s
    → own_names code annotation ≡ own_variables scope.constants annotation
same_own a links code scope s annotation set =
    ap (λ (f : Name → Bool). filter f (variables_of annotation))
    (fun_ext (λ x. none_same set.named (code.constants x) (lookup (bytes_eq x) scope.constants)
    (set.means.constants x)))

-- ---- places

pub below_child : (p : Place) (i : ℕ) (r : Place) → below p r ≡ false → below (child p i) r ≡ false
below_child p i r off = go (below (child p i) r) refl
  where
    go : (b : Bool) → below (child p i) r ≡ b → b ≡ false
    go false e = refl
    go true e =
        absurd (let up : below p r ≡ true = (span_in_below p i 1).each r
        ((below_in_span p i 1 i (omega arith) (omega arith)).each r e) in cc)

pub only_child : (p : Place) (i : ℕ) (r : Place) → below p r ≡ false → only (child p i) r ≡ false
only_child p i r off = go (only (child p i) r) refl
  where
    go : (b : Bool) → only (child p i) r ≡ b → b ≡ false
    go false e = refl
    go true e =
        absurd (let up : below p r ≡ true = (span_in_below p i 1).each r
        ((child_in_span p i 1 i (omega arith) (omega arith)).each r e) in cc)

and_no : (a b : Bool) → b ≡ false → (a && b) ≡ false
and_no true b h = h
and_no false b h = refl

pub not_below_itself : (p : Place) → below p p ≡ false
not_below_itself [] = refl
not_below_itself (k ∷ p) = and_no (nat_eq k k) (below p p) (not_below_itself p)

pub owned_place : (p : Place) (annotation : Annotation) (xs : List Name) (vs : List ℕ) (r : Rigid)
    → Contains (rigids (owned p annotation xs vs)) r → r.place ≡ p
owned_place p annotation [] vs r (k, l, e) = absurd (omega arith)
owned_place p annotation (x ∷ xs) [] r (k, l, e) = absurd (omega arith)
owned_place p annotation (x ∷ xs) (v ∷ vs) r (zero, l, e) =
    let same : constant p annotation x ≡ r = e in sym (ap (λ (t : Rigid). t.place) same)
owned_place p annotation (x ∷ xs) (v ∷ vs) r (suc k, l, e) = owned_place p annotation xs vs r (k, omega arith, e)

-- ---- a store with more constants

module _ (choice_fits : EachChoiceFits) (d : ℕ) (p : Place) (s : Store) (own : List Own) (s' : Store)
    (opens : Opened d p s own s') where
  pub live_in : (v : ℕ) → Live d s v → Live (d + 1) s' v
  live_in v l =
      let x = opens.depth v l.inside in
      record { inside = omega (arith, opens.grows, l.inside); depth = omega (arith, x, l.depth) }

  pub links_in : (links : Links) → AreLive d s links → AreLive (d + 1) s' links
  links_in [] h = tt
  links_in (l ∷ ls) h = (live_in l.0 h.0, links_in ls h.1)

  all_in : (vs : List ℕ) → AllByRecursion (Live d s) vs → AllByRecursion (Live (d + 1) s') vs
  all_in [] h = tt
  all_in (v ∷ vs) h = (live_in v h.0, all_in vs h.1)

  part_in : (t : Part) → PartLive d s t → PartLive (d + 1) s' t
  part_in (Inner i) h = tt
  part_in (There v) h = live_in v h

  parts_in : (ps : List Part) → AllByRecursion (PartLive d s) ps → AllByRecursion (PartLive (d + 1) s') ps
  parts_in [] h = tt
  parts_in (t ∷ ts) h = (part_in t h.0, parts_in ts h.1)

  fields_in : (fs : List FieldPart) → AllByRecursion (λ (f : FieldPart). PartLive d s f.1) fs
      → AllByRecursion (λ (f : FieldPart). PartLive (d + 1) s' f.1) fs
  fields_in [] h = tt
  fields_in (f ∷ fs) h = (part_in f.1 h.0, fields_in fs h.1)

  end_in : (o : Option Part) → EndLive d s o → EndLive (d + 1) s' o
  end_in None h = tt
  end_in (Some t) h = part_in t h

  cell_in : (c : FrozenCell) → CellLive d s c → CellLive (d + 1) s' c
  cell_in (Open k) h = tt
  cell_in (Built b ps) h = parts_in ps h
  cell_in (Row fs end) h = (fields_in fs h.0, end_in end h.1)

  lacking_in : (vs : List ℕ) (ks : List Kind) → AllZip (λ v (k : Kind). Lacking s v k.lacks) vs ks
      → AllZip (λ v (k : Kind). Lacking s' v k.lacks) vs ks
  lacking_in [] [] h = tt
  lacking_in [] (k ∷ ks) h = absurd h
  lacking_in (v ∷ vs) [] h = absurd h
  lacking_in (v ∷ vs) (k ∷ ks) h = (record { each = λ σ g. h.0.each σ (opens.back σ g).0 }, lacking_in vs ks h.1)

  meaning_in : (m : Meaning) → MeaningReady d s m → MeaningReady (d + 1) s' m
  meaning_in (One v) h = live_in v h
  meaning_in (Many frozen) h = record {
    formed = h.formed;
    live = record {
      cells = λ i l. cell_in (cell_at frozen.cells i) (h.live.cells i l);
      root = part_in frozen.root
          h.live.root;
    };
    copies = record { each = λ σ g. h.copies.each σ (opens.back σ g).0 };
  }
  meaning_in (Each t) h = record {
    kinds = h.kinds;
    written = h.written;
    live = all_in t.outer h.live;
    lacks = lacking_in t.outer h.kinds h.lacks;
  }

  stored_inside : (v : ℕ) (r : Rigid) → (slot_at s v).cell ≡ Constant r → v < length s
  stored_inside v r e = elim (cases_lt v (length s)) [
    | inl l ↦ l
    | inr h ↦ absurd (let blank = ap (λ (x : Slot). x.cell) (slot_past s v h) in let both = sym e ∙ blank in cc)
  ]

  -- one of the constants has a variable
  record Mine (r : Rigid) : Type 0 where
    slot : ℕ
    live : Live (d + 1) s' slot
    is : (τ : Values) → Fit τ s' → τ.types slot ≡ variable (τ.constants r)

  mine : (os : List Own) (r : Rigid) → Contains (rigids os) r → AllByRecursion (λ (o : Own). Live (d + 1) s' o.slot) os
      → ((τ : Values) → Fit τ s' → AllByRecursion (λ (o : Own). τ.types o.slot ≡ variable (τ.constants o.rigid)) os) →
      Mine r
  mine [] r (k, l, e) live is = absurd (omega arith)
  mine (o ∷ os) r (zero, l, e) live is =
      let same : o.rigid ≡ r = e in
      record {
        slot = o.slot;
        live = live.0;
        is = λ τ f. (is τ f).0 ∙ ap (λ (t : Rigid). variable (τ.constants t)) same;
      }
  mine (o ∷ os) r (suc k, l, e) live is = mine os r (k, omega arith, e) live.1 (λ τ f. (is τ f).1)

  module _ (code : Code) (ready : IsReady code d s) (whole : IsStore s') where
    around_in : ConstantsAround (d + 1) s'
    around_in = record {
      each = λ w r here. go w r here (opens.known r (constant_there s' w r here));
    }
      where
        go : (w : ℕ) (r : Rigid) → (slot_at s' w).cell ≡ Constant r
            → Contains (constants_of s) r ⊎ Contains (rigids own) r → (slot_at s' w).depth ≤ d + 1
        go w r here (inl was) =
            let old = stored s r was in
            let live : Live d s old.variable = record
            { inside = stored_inside old.variable r old.is; depth = ready.around.each old.variable r old.is } in
            shallow choice_fits s' whole r w (d + 1) here old.variable (live_in old.variable live).depth
            (λ τ g. subst (Meets τ (τ.types old.variable)) old.is ((opens.back τ g).0.each old.variable).cell)
        go w r here (inr new) =
            let m = mine own r new opens.live (λ τ g. (opens.back τ g).1) in
            shallow choice_fits s' whole r w (d + 1) here m.slot m.live.depth m.is

    pub ready_in : IsReady code (d + 1) s'
    ready_in = record {
      whole = whole;
      around = around_in;
      known = ready.known;
      names = λ x m is. meaning_in m (ready.names x m is);
      constants = λ x v is. live_in v (ready.constants x v is);
    }

    pub ready_owned : (os : List Own) → AllByRecursion (λ (o : Own). Live (d + 1) s' o.slot) os
        → IsReady (with_owned os code) (d + 1) s'
    ready_owned [] h = ready_in
    ready_owned (o ∷ os) h = ready_constant (with_owned os code) (d + 1) s' o.rigid.name o.slot (ready_owned os h.1) h.0

-- ---- what is around, inside the definition

module _ (a : Around) (p : Place) (s : Store) (own : List Own) (s' : Store) (opens : Opened a.depth p s own s')
    (choice_fits : EachChoiceFits) where
  less : (q : Place) (σ : Values) → Away (below q) (within a own).constants σ → Away (below q) a.constants σ
  less q σ away = record { each = λ r h. away.each r (Contains-append_right (rigids own) a.constants r h) }

  says_in : (links : Links) (frozen : Frozen) (list : Place → List Item) (type : Place → Wanted)
      → Says a s links frozen list type
      → Says (within a own) s' links frozen list type
  says_in links frozen list type h = record {
    most = λ q σ types fit ground away linked solves. h.most q σ types (opens.back σ fit).0 ground (less q σ away)
        linked solves;
    each = λ q σ inner fit away fits. (
        let x = h.each q σ inner (opens.back σ fit).0 (less q σ away) fits in
        record {
          types = x.types;
          ground = x.ground;
          root = x.root;
          solves = x.solves;
          kept = λ all c l clean ins.
              x.kept all c l (record {
                each = λ v live. clean.each v
                    (live_in choice_fits a.depth p s own s' opens v live);
              }) ins;
        });
  }

  entry_in : (links : Links) (o : Option Meaning) (e : Option Entry) → MeansEntry a links s o e
      → MeansEntry (within a own) links s' o e
  entry_in links None None h = tt
  entry_in links None (Some e) h = absurd h
  entry_in links (Some (One v)) None h = absurd h
  entry_in links (Some (One v)) (Some (Mono t)) h = h
  entry_in links (Some (One v)) (Some (Instance scheme)) h = absurd h
  entry_in links (Some (One v)) (Some (General list type)) h = absurd h
  entry_in links (Some (Many frozen)) None h = absurd h
  entry_in links (Some (Many frozen)) (Some (Mono t)) h = absurd h
  entry_in links (Some (Many frozen)) (Some (Instance scheme)) h = absurd h
  entry_in links (Some (Many frozen)) (Some (General list type)) h = (says_in links frozen list type h.0, h.1)
  entry_in links (Some (Each t)) None h = absurd h
  entry_in links (Some (Each t)) (Some (Mono u)) h = absurd h
  entry_in links (Some (Each t)) (Some (Instance scheme)) h = h
  entry_in links (Some (Each t)) (Some (General list type)) h = absurd h

  outer_in : (links : Links) (ts : List Wanted) → AllByRecursion (Outer a.depth s links) ts
      → AllByRecursion (Outer (a.depth + 1) s' links) ts
  outer_in links [] h = tt
  outer_in links (t ∷ ts) h = (
    record { slot = h.0.slot; has = h.0.has; live = live_in choice_fits a.depth p s own s' opens h.0.slot h.0.live },
    outer_in links ts h.1,
  )

  means_in : (links : Links) (code : Code) (scope : Scope) → Means a links code scope s
      → Means (within a own) links code scope s'
  means_in links code scope m = record {
    live = links_in choice_fits a.depth p s own s' opens links m.live;
    known = m.known;
    names = λ x. entry_in links (code.names x) (lookup (same_ref x) scope.names) (m.names x);
    constants = m.constants;
    types = outer_in links (outer_types scope) m.types;
    only = m.only;
  }

-- its constants come into scope
means_owned : SaysWithMore → (w : Around) (q p : Place) (annotation : Annotation) (links : Links) (code : Code)
    (scope : Scope) (s : Store) (xs : List Name) (vs : List ℕ)
    → length vs ≡ length xs → AllByRecursion (λ (o : Own). Live w.depth s o.slot) (owned p annotation xs vs) → Means w
    links code scope s
    → Means w (own_links q (owned p annotation xs vs) ++ links) (with_owned (owned p annotation xs vs) code)
    (with_constants (map (λ x. (x, constant q annotation x)) xs) scope) s
means_owned more w q p annotation links code scope s [] vs count live m = m
means_owned more w q p annotation links code scope s (x ∷ xs) [] count live m = absurd (omega arith)
means_owned more w q p annotation links code scope s (x ∷ xs) (v ∷ vs) count live m =
    enters_constant more w (own_links q (owned p annotation xs vs) ++ links)
    (with_owned (owned p annotation xs vs) code)
    (with_constants (map (λ x. (x, constant q annotation x)) xs) scope) s x v (constant q annotation x) live.0
    (means_owned more w q p annotation links code scope s xs vs (omega arith) live.1 m)

-- links of constants, before others
tells_owned : (owns links named : Links) → Tells links named → Tells (owns ++ links) (owns ++ named)
tells_owned [] links named h = h
tells_owned (o ∷ os) links named h =
    record { each = λ σ types l. (l.0, (tells_owned os links named h).each σ types l.1) }

own_live : (w : ℕ) (s : Store) (q : Place) (own : List Own) → AllByRecursion (λ (o : Own). Live w s o.slot) own
    → AreLive w s (own_links q own)
own_live w s q [] h = tt
own_live w s q (o ∷ os) h = (h.0, own_live w s q os h.1)

module _ (choice_fits : EachChoiceFits) (code : Code) (annotation : Annotation) (i : ℕ) (vs : List ℕ) (old mid : State)
    (open_ : ConstantsOpen code annotation i vs old mid) where
  abbrev p : Place
  p = child old.place i

  abbrev own : List Own
  own = its_own code annotation p vs

  pub constants_ready : IsReady (inside_of code annotation p vs) mid.depth mid.store
  constants_ready =
      subst (λ d. IsReady (inside_of code annotation p vs) d mid.store) (sym open_.depth)
      (ready_owned choice_fits old.depth p old.store own mid.store open_.opens code open_.before open_.whole own
      open_.opens.live)

  pub constants_mean : SaysWithMore → (a : Around) (links : Links) (scope : Scope) (q : Place)
      → Setting a links code scope old
      → Setting (within a own) (own_links q own ++ links) (inside_of code annotation p vs)
      (inner_scope annotation scope q) mid
  constants_mean more a links scope q set = record {
    around = record {
      depth = ap (λ n. n + 1) set.around.depth ∙ sym open_.depth;
      within = record { each = λ r h. inside_one r (open_.opens.known r h) };
      outside = λ r h. outside_one r (Contains-append_cases (rigids own) a.constants r h);
    };
    live = all_both (λ (l : ℕ × Wanted). Live (a.depth + 1) mid.store l.0) (own_links q own) links
        (own_live (a.depth + 1) mid.store q own opens.live)
        (links_in choice_fits a.depth p old.store own mid.store opens links set.live);
    named = own_links q own ++ set.named;
    tells = tells_owned (own_links q own) links set.named set.tells;
    means =
        subst (λ xs. Means (within a own) (own_links q own ++ set.named) (inside_of code annotation p vs)
        (with_constants (map (λ x. (x, constant q annotation x)) xs) scope) mid.store)
        (same_own a links code scope old annotation set)
        (means_owned more (within a own) q p annotation set.named code scope mid.store (own_names code annotation) vs
        open_.count opens.live
        (means_in a p old.store own mid.store opens choice_fits set.named code scope set.means));
  }
    where
      opens : Opened a.depth p old.store own mid.store
      opens = subst (λ d. Opened d p old.store own mid.store) (sym set.around.depth) open_.opens

      inside_one : (r : Rigid) → Contains (constants_of old.store) r ⊎ Contains (rigids own) r
          → Contains (rigids own ++ a.constants) r
      inside_one r (inl h) = Contains-append_right (rigids own) a.constants r (set.around.within.each r h)
      inside_one r (inr h) = Contains-append_left (rigids own) a.constants r h

      outside_one : (r : Rigid) → Contains (rigids own) r ⊎ Contains a.constants r → below mid.place r.place ≡ false
      outside_one r (inl h) =
          subst (λ z. below z r.place ≡ false) (sym open_.place)
          (subst (λ z. below p z ≡ false) (sym (owned_place p annotation (own_names code annotation) vs r h))
          (not_below_itself p))
      outside_one r (inr h) =
          subst (λ z. below z r.place ≡ false) (sym open_.place)
          (below_child old.place i r.place (set.around.outside r h))
