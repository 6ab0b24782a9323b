-- Annotations that are read, one after the other.
use Rattle.std.proofs.Common.{◌≡◌, ℕ, List, [], ◌∷◌, ◌++◌, map, Option, Some, None, refl, sym, ap, ◌∙◌, subst}
use Rattle.std.proofs.Common.{append-nil, append_assoc}
use Rattle.std.specs.Prelude.{flat_map}
use Rattle.std.specs.List.{AllByRecursion, AllZip}
use Rattle.std.specs.Map.{lookup}
use Rattle.std.specs.Str.{bytes_eq}
use Rattle.elm_base.specs.declared.position.Pos.{Pos}
use Rattle.elm_canon.specs.Tree.{Annotation, Title}
use Rattle.elm_type.specs.Types.{Name, Kind}
use Rattle.elm_type.specs.Ground.{lacks_all}
use Rattle.type_items.specs.Items.{Item}
use Rattle.type_items.specs.Scopes.{Constants}
use Rattle.type_items.specs.Annotations.{variables_of, kind_of, scheme_inside}
use Rattle.type_items.specs.Definitions.{constant_items, asks_around}
use Rattle.type_store.specs.Shape.{IsStore}
use Rattle.type_walks.specs.Regions.{none}
use Rattle.type_walks.specs.Links.{Links, Live}
use Rattle.type_walks.specs.Walks.{Walk}
use Rattle.type_walks.proofs.Walking.{rests}
use Rattle.type_walks.specs.TypeStepsLaws.{Lacking}
use Rattle.type_constructs.specs.Passing.{NoSizes}
use Rattle.type_constructs.specs.Failing.{Bad, Fails}
use Rattle.type_constructs.proofs.Passing.{passes_plain}
use Rattle.type_constructs.proofs.Parts.{zip_both}
use Rattle.type_constructs.proofs.Sizes.{sizes_both}
use Rattle.infer_steps.specs.Codes.{Declared, Code, State}
use Rattle.infer_steps.specs.Ready.{DeclaredReady, Follows}
use Rattle.infer_steps.specs.Means.{IsDeclared}
use Rattle.infer_steps.proofs.Stepping.{follows_itself, follows_on, still_live}
use Rattle.infer_steps.proofs.Lacking.{both_walks, fails_later}
use Rattle.infer_types.specs.Asking.{MeansConstants, items_of, AsksAround, RefusesAround}
use Rattle.infer_types.proofs.Kinding.{items_sizes}
use Rattle.infer_exprs.specs.Titles.{title_items, titles_items, titles_names}
use Rattle.infer_exprs.specs.Reading.{Reading, ReadsEntry, AreRead, NotRead}
use Rattle.infer_exprs.proofs.Titles.{items_more, names_more}

-- ---- what an annotation asks

asks_same : (pos : Pos) (around : Constants) (t : Annotation) (xs : List Name)
    → flat_map (λ x. constant_items pos (lookup (bytes_eq x) around) (kind_of t x)) xs
    ≡ items_of pos around xs (map (kind_of t) xs)
asks_same pos around t [] = refl
asks_same pos around t (x ∷ xs) =
    ap (λ l. constant_items pos (lookup (bytes_eq x) around) (kind_of t x) ++ l) (asks_same pos around t xs)

-- those of an annotation that is there
abbrev pub items_in : Annotation → Pos → Constants → List Item
items_in t pos around = items_of pos around (variables_of t) (map (kind_of t) (variables_of t))

one_title : (around : Constants) (title : Title) (t : Annotation) → title.annotation ≡ Some t
    → titles_items (title ∷ []) around ≡ items_in t title.place around
one_title around title t is =
    append-nil (title_items around title)
    ∙ ap (λ o. asks_around o title.place around) is
    ∙ asks_same title.place around t (variables_of t)

asks_sizes : (around : Constants) (pos : Pos) (o : Option Annotation) → NoSizes (asks_around o pos around)
asks_sizes around pos None = tt
asks_sizes around pos (Some t) =
    subst NoSizes (sym (asks_same pos around t (variables_of t)))
    (items_sizes pos around (variables_of t) (map (kind_of t) (variables_of t)))

pub titles_sizes : (around : Constants) (ts : List Title) → NoSizes (titles_items ts around)
titles_sizes around [] = tt
titles_sizes around (t ∷ ts) =
    sizes_both (title_items around t) (titles_items ts around) (asks_sizes around t.place t.annotation)
    (titles_sizes around ts)

-- ---- types that are written stay so

module _ (old new : State) (f : Follows old new) where
  live_still : (vs : List ℕ) → AllByRecursion (Live old.depth old.store) vs
      → AllByRecursion (Live new.depth new.store) vs
  live_still [] h = tt
  live_still (v ∷ vs) h = (still_live old new v f h.0, live_still vs h.1)

  lacking_still : (vs : List ℕ) (ks : List Kind) → AllByRecursion (Live old.depth old.store) vs
      → AllZip (λ v (k : Kind). Lacking old.store v k.lacks) vs ks
      → AllZip (λ v (k : Kind). Lacking new.store v k.lacks) vs ks
  lacking_still [] [] l h = tt
  lacking_still [] (k ∷ ks) l h = absurd h
  lacking_still (v ∷ vs) [] l h = absurd h
  lacking_still (v ∷ vs) (k ∷ ks) l h = (
    record {
      each = λ σ g. (
          let x = f.back σ g in
          ap (lacks_all k.lacks) (x.agree.types v l.0) ∙ h.0.each x.values x.fit);
    },
    lacking_still vs ks l.1 h.1,
  )

  ready_still : (t : Declared) → DeclaredReady old.depth old.store t → DeclaredReady new.depth new.store t
  ready_still t h = record {
    kinds = h.kinds;
    written = h.written;
    live = live_still t.outer h.live;
    lacks = lacking_still t.outer h.kinds h.live h.lacks;
  }

  all_still : (rs ss : List Reading) → AllByRecursion (λ r. DeclaredReady old.depth old.store r.1) rs
      → AllByRecursion (λ r. DeclaredReady new.depth new.store r.1) ss
      → AllByRecursion (λ r. DeclaredReady new.depth new.store r.1) (rs ++ ss)
  all_still [] ss h k = k
  all_still (r ∷ rs) ss h k = (ready_still r.1 h.0, all_still rs ss h.1 k)

-- ---- in turn

pub none_read : (code : Code) (s : State) → IsStore s.store → AreRead code [] [] s s
none_read code s whole = record {
  follows = follows_itself s whole;
  ready = tt;
  walk = λ a links around e live means. rests a s.store links;
  names = λ links around means. tt;
}

module _ (code : Code) (ts us : List Title) (rs : List Reading) (old mid new : State)
    (one : AreRead code ts rs old mid) where
  pub more_read : (ss : List Reading) → AreRead code us ss mid new → AreRead code (ts ++ us) (rs ++ ss) old new
  more_read ss two = record {
    follows = follows_on old mid new one.follows two.follows;
    ready = all_still mid new two.follows rs ss one.ready two.ready;
    walk = λ a links around e live means. (
        let w = one.walk a links around e live means in
        let z = two.walk a links around (e ∙ sym one.follows.depth) (w.live live) means in
        subst (λ l. Walk a none l old.store links new.store links) (sym (items_more around ts us))
        (both_walks a (titles_items ts around) (titles_items us around) old.store mid.store new.store links links links
        live w z));
    names = λ links around means.
        subst (AllZip (ReadsEntry links) (rs ++ ss)) (sym (names_more around ts us))
        (zip_both (ReadsEntry links) rs ss (titles_names ts around) (titles_names us around)
        (one.names links around means) (two.names links around means));
  }

  pub not_more : (vs : List Title) (bad : Bad) → NotRead code us mid new bad
      → NotRead code (ts ++ (us ++ vs)) old new bad
  not_more vs bad not_ = record {
    fails = λ a links around Q rest e live means. (
        let w = one.walk a links around e live means in
        let first = titles_items ts around in
        let here = titles_items us around in
        let later = titles_items vs around in
        let stops = not_.fails a links around Q (later ++ rest) (e ∙ sym one.follows.depth) (w.live live) means in
        subst (λ l. Fails a old.store links Q l bad new.store)
        (ap (λ l. first ++ l) (sym (append_assoc here later rest))
        ∙ (sym (append_assoc first (here ++ later) rest)
        ∙ ap (λ l. l ++ rest) (sym (items_more around ts (us ++ vs) ∙ ap (λ l. first ++ l) (items_more around us vs)))))
        (fails_later a Q first (here ++ (later ++ rest)) old.store mid.store new.store links links bad w
        (passes_plain a old.store links none first (titles_sizes around ts)) stops));
  }

-- ---- one

module _ (code : Code) (title : Title) where
  pub no_annotation : (s : State) → IsStore s.store → title.annotation ≡ None → AreRead code (title ∷ []) [] s s
  no_annotation s whole none_ = record {
    follows = follows_itself s whole;
    ready = tt;
    walk = λ a links around e live means.
        subst (λ l. Walk a none l s.store links s.store links)
        (sym (ap (λ o. asks_around o title.place around ++ []) none_)) (rests a s.store links);
    names = λ links around means.
        subst (λ o. AllZip (ReadsEntry links) [] (titles_names (record title { annotation = o } ∷ []) around))
        (sym none_) tt;
  }

  module _ (t : Annotation) (old new : State) (is : title.annotation ≡ Some t) where
    pub one_read : (declared : Declared) → DeclaredReady new.depth new.store declared
        → ((links : Links) (around : Constants) → MeansConstants code links around
        → IsDeclared links declared (scheme_inside around t))
        → AsksAround code old new title.place (variables_of t) (map (kind_of t) (variables_of t))
        → AreRead code (title ∷ []) ((title.name, declared) ∷ []) old new
    one_read declared ready types asks = record {
      follows = asks.follows;
      ready = (ready, tt);
      walk = λ a links around e live means.
          subst (λ l. Walk a none l old.store links new.store links) (sym (one_title around title t is))
          (asks.walk a links around e live means);
      names = λ links around means.
          subst (λ o. AllZip (ReadsEntry links) ((title.name, declared) ∷ [])
          (titles_names (record title { annotation = o } ∷ []) around))
          (sym is) ((refl, types links around means), tt);
    }

    pub one_not_read : (bad : Bad)
        → RefusesAround code old new title.place (variables_of t) (map (kind_of t) (variables_of t)) bad
        → NotRead code (title ∷ []) old new bad
    one_not_read bad not_ = record {
      fails = λ a links around Q rest e live means.
          subst (λ l. Fails a old.store links Q (l ++ rest) bad new.store) (sym (one_title around title t is))
          (not_.fails a links around Q rest e live means);
    }
