-- Names with their types, one more.
use Rattle.std.proofs.Common.{◌≡◌, ℕ, zero, suc, ◌≤◌, get_or, List, [], ◌∷◌, ◌++◌, Option, Some, None, map, length, refl, sym, ap}
use Rattle.std.proofs.Common.{◌∙◌, subst, arith, append_assoc, append-nil, is_some, true, false, rules}
use Rattle.std.specs.Prelude.{slice_get}
use Rattle.std.specs.Borrow.{Bor}
use Rattle.std.specs.List.{AllByRecursion, AllZip, filter_map}
use Rattle.std.proofs.lemmas.List.Elements.{filter_map-append}
use Rattle.std.proofs.lemmas.Grind.{flat_map-append}
use Rattle.elm_canon.specs.declared.reference.Ref.{Ref}
use Rattle.elm_canon.specs.Tree.{Annotation, Group}
use Rattle.elm_canon.specs.View.{title_view}
use Rattle.elm_canon.specs.declared.tree.Title.{Title}
use Rattle.elm_type.specs.Types.{Scheme}
use Rattle.type_items.specs.Definitions as plain
use Rattle.type_items.specs.Inferred.{first_annotation}
use Rattle.type_store.specs.Store.{Store}
use Rattle.infer_groups.specs.Members.{Named}
use Rattle.infer_order.specs.Order.{AreDefinitions, IsDefinition, IsTitled, TitleIs}
use Rattle.infer_order.specs.declared.order.Definition.{Definition}
use Rattle.infer.specs.Names.{AllTitled, names_of}
use Rattle.infer.specs.Told.{Typed, HasItsScheme, AddsSchemes}

-- ---- read off a store

zipped : {X Y : Type 0} (R : X → Y → Type 0) (xs us : List X) (ys vs : List Y) → AllZip R xs ys → AllZip R us vs
    → AllZip R (xs ++ us) (ys ++ vs)
zipped R [] us [] vs h k = k
zipped R [] us (y ∷ ys) vs h k = absurd h
zipped R (x ∷ xs) us [] vs h k = absurd h
zipped R (x ∷ xs) us (y ∷ ys) vs h k = (h.0, zipped R xs us ys vs h.1 k)

pub adds_none : (s : Store) (ms : List Typed) → AddsSchemes s [] ms ms
adds_none s ms = record { more = []; added = sym (append-nil ms); each = tt }

pub adds_more : (s : Store) (ns us : List Named) (old mid new : List Typed) → AddsSchemes s ns old mid
    → AddsSchemes s us mid new → AddsSchemes s (ns ++ us) old new
adds_more s ns us old mid new a b = record {
  more = a.more ++ b.more;
  added = b.added ∙ (ap (λ l. l ++ b.more) a.added ∙ append_assoc old a.more b.more);
  each = zipped (HasItsScheme s) ns us a.more b.more a.each b.each;
}

-- ---- definitions

pub record Found (gs : List Group) (ds : List plain.Definition) (i : ℕ) (x : Definition) : Type 0 where
  pub definition : plain.Definition
  pub at : slice_get ds i ≡ Some definition
  pub is : IsDefinition gs x definition

pub found_at : (gs : List Group) (xs : List Definition) (ds : List plain.Definition) (i : ℕ) (x : Definition)
    → AreDefinitions gs xs ds → slice_get xs i ≡ Some x → Found gs ds i x
found_at gs [] ds i x h e = absurd cc
found_at gs (y ∷ xs) [] i x h e = absurd h
found_at gs (y ∷ xs) (d ∷ ds) zero x h e =
    let same : y ≡ x = cc in
    record { definition = d; at = refl; is = subst (λ (z : Definition). IsDefinition gs z d) same h.0 }
found_at gs (y ∷ xs) (d ∷ ds) (suc i) x h e =
    let f = found_at gs xs ds i x h.1 e in record { definition = f.definition; at = f.at; is = f.is }

-- it has a title
pub titled_name : (gs : List Group) (x : Definition) (d : plain.Definition) (t : Bor Title) → IsDefinition gs x d
    → x.title ≡ Some t → d.names ≡ t.now.name ∷ []
titled_name gs x d t h e =
    let is : IsTitled (title_view t.now) d = subst (λ o. TitleIs o d) e h.title in
    ap (λ (y : plain.Definition). y.names) is.is

pub never_untitled : (gs : List Group) (x : Definition) (d : plain.Definition) → AllTitled gs → IsDefinition gs x d
    → x.title ≡ None → ⊥
never_untitled gs x d titled h e =
    let a : is_some x.title ≡ true = h.kind ∙ titled.each x.group in
    let b : false ≡ true = sym (ap is_some e) ∙ a in
    absurd cc

-- the annotation of one that has a title
pub titled_annotation : (d : plain.Definition) (t : Bor Title) → TitleIs (Some t) d
    → d.annotation ≡ (title_view t.now).annotation
titled_annotation d t h = ap (λ (y : plain.Definition). y.annotation) h.is

module _ (ds : List plain.Definition) where
  abbrev picked : List ℕ → List plain.Definition
  picked places = filter_map (slice_get ds) places

  abbrev before : Option plain.Definition → List plain.Definition → List plain.Definition
  before None rest = rest
  before (Some d) rest = d ∷ rest

  picked_more : (i : ℕ) (places : List ℕ) → picked (i ∷ places) ≡ before (slice_get ds i) (picked places)
  picked_more i places = by (slice_get ds i) refl
    where
      by : (o : Option plain.Definition) → slice_get ds i ≡ o → picked (i ∷ places) ≡ before o (picked places)
      by None e = search (rules, e)
      by (Some d) e = search (rules, e)

  pub picked_first : (i : ℕ) (places : List ℕ) (d : plain.Definition) → slice_get ds i ≡ Some d
      → picked (i ∷ places) ≡ d ∷ picked places
  picked_first i places d e = picked_more i places ∙ ap (λ o. before o (picked places)) e

  -- the names of one more
  pub names_next : (places : List ℕ) (i : ℕ) (d : plain.Definition) → slice_get ds i ≡ Some d
      → names_of (picked (places ++ i ∷ [])) ≡ names_of (picked places) ++ d.names
  names_next places i d e =
      ap names_of (filter_map-append (slice_get ds) places (i ∷ []))
      ∙ (flat_map-append (λ (d : plain.Definition). d.names) (picked places) (picked (i ∷ []))
      ∙ ap (λ l. names_of (picked places) ++ l) (ap names_of (picked_first i [] d e) ∙ append-nil d.names))

  -- what holds of all holds of those
  at_all : (P : plain.Definition → Type 0) (es : List plain.Definition) (i : ℕ) (d : plain.Definition)
      → AllByRecursion P es → slice_get es i ≡ Some d → P d
  at_all P [] i d h e = absurd cc
  at_all P (y ∷ es) zero d h e = let same : y ≡ d = cc in subst P same h.0
  at_all P (y ∷ es) (suc i) d h e = at_all P es i d h.1 e

  pub picked_all : (P : plain.Definition → Type 0) (places : List ℕ) → AllByRecursion P ds
      → AllByRecursion P (picked places)
  picked_all P [] h = tt
  picked_all P (i ∷ places) h =
      subst (AllByRecursion P) (sym (picked_more i places)) (by (slice_get ds i) refl (picked_all P places h))
    where
      by : (o : Option plain.Definition) → slice_get ds i ≡ o → AllByRecursion P (picked places)
          → AllByRecursion P (before o (picked places))
      by None e rest = rest
      by (Some d) e rest = (at_all P ds i d h e, rest)

-- the first of them is that of the first place
pub first_is : (ds : List plain.Definition) (group : List ℕ) (d e : plain.Definition) (rest : List plain.Definition)
    → 1 ≤ length group → slice_get ds (get_or group 0 0) ≡ Some e → filter_map (slice_get ds) group ≡ d ∷ rest → e ≡ d
first_is ds [] d e rest l h k = absurd (omega arith)
first_is ds (n ∷ ns) d e rest l h k =
    let p : e ∷ picked ds ns ≡ d ∷ rest = sym (picked_first ds n ns e h) ∙ k in cc

map_append : {X Y : Type 0} (f : X → Y) (xs ys : List X) → map f (xs ++ ys) ≡ map f xs ++ map f ys
map_append f [] ys = refl
map_append f (x ∷ xs) ys = ap (λ l. f x ∷ l) (map_append f xs ys)

-- names with one type, one definition more
pub typed_next : (s : Scheme) (old first now : List Typed) (xs ys zs : List Ref) → first ≡ old ++ map (λ (x : Ref). (x, s)) xs
    → now ≡ first ++ map (λ (x : Ref). (x, s)) ys → zs ≡ xs ++ ys → now ≡ old ++ map (λ (x : Ref). (x, s)) zs
typed_next s old first now xs ys zs a b e =
    b ∙ (ap (λ l. l ++ map (λ (x : Ref). (x, s)) ys) a
    ∙ (append_assoc old (map (λ (x : Ref). (x, s)) xs) (map (λ (x : Ref). (x, s)) ys)
    ∙ ap (λ l. old ++ l) (sym (map_append (λ (x : Ref). (x, s)) xs ys) ∙ ap (map (λ (x : Ref). (x, s))) (sym e))))

-- the annotation of the first of some definitions is that of its title
pub first_written : (ps : List plain.Definition) (t : Bor Title) (a b : Annotation)
    → ((d : plain.Definition) (rest : List plain.Definition) → ps ≡ d ∷ rest → TitleIs (Some t) d)
    → (title_view t.now).annotation ≡ Some b → first_annotation ps ≡ Some a → b ≡ a
first_written [] t a b h k e = absurd cc
first_written (d ∷ ds) t a b h k e =
    let p : Some b ≡ Some a = sym k ∙ (sym (titled_annotation d t (h d ds refl)) ∙ e) in cc
