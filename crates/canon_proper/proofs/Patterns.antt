-- Patterns without faults bind what their words name, and have all fields of their constructors.
use Rattle.std.proofs.Common.{◌≡◌, ℕ, zero, suc, ◌<◌, List, [], ◌∷◌, ◌++◌, map, Bool, true, false, refl, sym, ap, ◌∙◌}
use Rattle.std.proofs.Common.{subst}
use Rattle.std.proofs.Common.{arith, cond}
use Rattle.std.specs.Prelude.{filter, is_some, if◌then◌else◌}
use Rattle.std.proofs.lemmas.Bool.Decides.{nat_tests}
use Rattle.std.proofs.lemmas.List.{append-nil}
use Rattle.elm_tree.specs.Tree as tree
use Rattle.elm_tree.specs.Tree.{Word, Long}
use Rattle.std.specs.List.{list_all}
use Rattle.elm_canon.specs.Names.{Name, same_name}
use Rattle.elm_canon.specs.Tree as canon
use Rattle.elm_canon.specs.Unions.{ListUnion, TupleUnion, tuple_alternative, cons_alternative}
use Rattle.elm_canon.specs.declared.reference.Ref.TheVariants.{Local}
use Rattle.canon_env.specs.Imports.{name_of}
use Rattle.canon_env.specs.Found.{Found, Nothing, One, Several, Row, found_in, find, own_or, is_written, meant}
use Rattle.canon_env.specs.Shown.{MakerMeaning}
use Rattle.canon_env.specs.Naming.{World, maker_found, qualifier_of, own_name}
use Rattle.canon_env.specs.Locals.{Locals}
use Rattle.canon_env.specs.Sites.{MakerMatch, Binding, BoundTogether}
use Rattle.canon_env.specs.Patterns.{words_of, words_of_all, count_of, match_sites, match_sites_all, binding_sites}
use Rattle.canon_env.specs.Patterns.{pattern_of, patterns_of, construct_of, items_of, list_of}
use Rattle.elm_canon.specs.Constructors.{is_constructor}
use Rattle.elm_canon.specs.Proper as proper
use Rattle.elm_canon.specs.Proper.{Scope, among, AreFresh, with_all, ProperPattern, ProperPatterns}
use Rattle.elm_canon.specs.Proper.{bound_by, all_bound_by}
use Rattle.canon_proper.specs.Patterns.{IsSpelledPattern, AreSpelledPatterns}
use Rattle.canon_proper.specs.Worlds.{IsMaker, AreMakers, HasMakers}
use Rattle.canon_proper.proofs.Scopes.{refs, refs-append, refs_locals, fresh_split, fresh_apart, fresh_from, fields_are}
use Rattle.canon_proper.proofs.Scopes.{NoneIn}
use Rattle.canon_proper.proofs.Quiet.{AreSound, sound_split, IsUnionMaker, match_found, binding_new, together_once}

-- ---- constructors

abbrev pub IfMaker : Found MakerMeaning → Type 0
IfMaker Nothing = Unit {0}
IfMaker Several = Unit {0}
IfMaker (One m) = IsMaker m.meaning

makers_kept : (t : Row MakerMeaning → Bool) (rows : List (Row MakerMeaning)) → AreMakers rows → AreMakers (filter t rows)
makers_kept t [] ms = tt
makers_kept t (r ∷ rows) ms = by (t r) (makers_kept t rows ms.1)
  where
    by : (b : Bool) → AreMakers (filter t rows) → AreMakers (cond b (r ∷ filter t rows) (filter t rows))
    by true rest = (ms.0, rest)
    by false rest = rest

first_maker : (rows : List (Row MakerMeaning)) → AreMakers rows → IfMaker (found_in rows)
first_maker [] ms = tt
first_maker (r ∷ rows) ms = by (list_all (λ s. same_name r.home s.home) rows)
  where
    by : (b : Bool) → IfMaker (if b then One (meant r) else Several)
    by true = ms.0
    by false = tt

found_maker : (rows : List (Row MakerMeaning)) (q x : Name) → AreMakers rows → IfMaker (find rows q x)
found_maker rows q x ms = first_maker (filter (is_written q x) rows) (makers_kept (is_written q x) rows ms)

own_first : (a b : Found MakerMeaning) → IfMaker a → IfMaker b → IfMaker (own_or a b)
own_first Nothing b p q = q
own_first (One m) b p q = p
own_first Several b p q = p

pub maker_is : (w : World) (x : Long) → HasMakers w → IfMaker (maker_found w x)
maker_is w x has =
    own_first (find w.own.makers (qualifier_of x) (own_name x)) (find w.imported.makers (qualifier_of x) (own_name x))
    (found_maker w.own.makers (qualifier_of x) (own_name x) has.own)
    (found_maker w.imported.makers (qualifier_of x) (own_name x) has.imported)

pub tuple_is : (n : ℕ) → n < 4294967296 → is_constructor (TupleUnion n) (tuple_alternative n) ≡ true
tuple_is zero l = refl
tuple_is (suc n) l = grind (arith, nat_tests)

arity : (n : ℕ) → n ≡ (tuple_alternative n).arity
arity zero = refl
arity (suc n) = refl

-- ---- lists of patterns

pub counts : (w : World) (ps : tree.Patterns) → proper.count_of (patterns_of w ps) ≡ count_of ps
counts w tree.NoPattern = refl
counts w (tree.MorePattern p ps) = ap suc (counts w ps)

cons_proper : (p q : canon.Pattern) → ProperPattern p → ProperPattern q →
    ProperPattern (canon.Construct ListUnion cons_alternative (canon.MorePattern p (canon.MorePattern q canon.NoPattern)))
cons_proper p q a b = (refl, (refl, (a, (b, tt))))

list_proper : (ps : canon.Patterns) → ProperPatterns ps →
    ProperPattern (list_of ps) × (bound_by (list_of ps) ≡ all_bound_by ps)
list_proper canon.NoPattern a = ((refl, (refl, tt)), refl)
list_proper (canon.MorePattern p ps) a =
    let r = list_proper ps a.1 in
    (cons_proper p (list_of ps) a.0 r.0, ap (λ bs. bound_by p ++ bs) (append-nil (bound_by (list_of ps)) ∙ r.1))

items_proper : (ps : canon.Patterns) → ProperPatterns ps →
    ProperPattern (items_of ps) × (bound_by (items_of ps) ≡ all_bound_by ps)
items_proper canon.NoPattern a = (tt, refl)
items_proper (canon.MorePattern p canon.NoPattern) a = (a.0, sym (append-nil (bound_by p)))
items_proper (canon.MorePattern p (canon.MorePattern q ps)) a =
    let r = items_proper (canon.MorePattern q ps) a.1 in (
      cons_proper p (items_of (canon.MorePattern q ps)) a.0 r.0,
      ap (λ bs. bound_by p ++ bs) (append-nil (bound_by (items_of (canon.MorePattern q ps))) ∙ r.1),
    )

-- ---- patterns

abbrev pub Good : canon.Pattern → List Word → Type 0
Good p ws = ProperPattern p × (bound_by p ≡ refs ws)

abbrev pub GoodAll : canon.Patterns → List Word → Type 0
GoodAll ps ws = ProperPatterns ps × (all_bound_by ps ≡ refs ws)

construct_good : (ps : canon.Patterns) (ws : List Word) (n : ℕ) (found : Found MakerMeaning) → GoodAll ps ws →
    proper.count_of ps ≡ n → IfMaker found → IsUnionMaker found n → Good (construct_of ps found) ws
construct_good ps ws n found g many is m =
    subst (λ f. Good (construct_of ps f) ws) (sym m.is)
    ((subst IfMaker m.is is, (many ∙ m.many, g.0)), g.1)

module _ (w : World) (has : HasMakers w) where
  mutual
    pub pattern_good : (p : tree.Pattern) (scope : Scope) → AreFresh (refs (words_of p)) scope → IsSpelledPattern p →
        AreSound w (match_sites p) → Good (pattern_of w p) (words_of p)
    pattern_good (tree.Anything p) scope f s q = (tt, refl)
    pattern_good (tree.Named x) scope f s q = (s, refl)
    pattern_good (tree.As p a x) scope f s q =
        let e = subst (λ rs. AreFresh rs scope) (refs-append (words_of a) (x ∷ [])) f in
        let r = pattern_good a scope (fresh_split (refs (words_of a)) (refs (x ∷ [])) scope e).0 s.0 q in
        ((r.0, s.1), ap (λ bs. bs ++ Local (name_of x) ∷ []) r.1 ∙ sym (refs-append (words_of a) (x ∷ [])))
    pattern_good (tree.Exactly p l) scope f s q = (s, refl)
    pattern_good (tree.Construct x ps) scope f s q =
        let r = sound_split w (match_sites_all ps) (MakerMatch x (count_of ps) ∷ []) q in
        construct_good (patterns_of w ps) (words_of_all ps) (count_of ps) (maker_found w x)
        (patterns_good ps scope f s r.0) (counts w ps) (maker_is w x has) (match_found w x (count_of ps) r.1.0)
    pattern_good (tree.ConsPattern p ps) scope f s q =
        let r = patterns_good ps scope f s q in
        let i = items_proper (patterns_of w ps) r.0 in (i.0, i.1 ∙ r.1)
    pattern_good (tree.ListPattern p ps) scope f s q =
        let r = patterns_good ps scope f s q in
        let i = list_proper (patterns_of w ps) r.0 in (i.0, i.1 ∙ r.1)
    pattern_good (tree.TuplePattern p ps) scope f s q =
        let r = patterns_good ps scope f s.1 q in
        ((tuple_is (count_of ps) s.0, (counts w ps ∙ arity (count_of ps), r.0)), r.1)
    pattern_good (tree.FieldsPattern p []) scope f s q = (tt, refl)
    pattern_good (tree.FieldsPattern p (x ∷ xs)) scope f s q =
        (fields_are (x ∷ xs) scope f s, refs_locals (x ∷ xs))

    pub patterns_good : (ps : tree.Patterns) (scope : Scope) → AreFresh (refs (words_of_all ps)) scope →
        AreSpelledPatterns ps → AreSound w (match_sites_all ps) → GoodAll (patterns_of w ps) (words_of_all ps)
    patterns_good tree.NoPattern scope f s q = (tt, refl)
    patterns_good (tree.MorePattern p ps) scope f s q =
        let e = subst (λ rs. AreFresh rs scope) (refs-append (words_of p) (words_of_all ps)) f in
        let fs = fresh_split (refs (words_of p)) (refs (words_of_all ps)) scope e in
        let qs = sound_split w (match_sites p) (match_sites_all ps) q in
        let a = pattern_good p scope fs.0 s.0 qs.0 in
        let b = patterns_good ps (with_all (refs (words_of p)) scope) fs.1 s.1 qs.1 in (
          (a.0, b.0),
          ap (λ bs. bs ++ all_bound_by (patterns_of w ps)) a.1 ∙ ap (λ bs. refs (words_of p) ++ bs) b.1
              ∙ sym (refs-append (words_of p) (words_of_all ps)),
        )

-- ---- words that are bound

-- no local name is new in scope
abbrev pub IsFree : Locals → Scope → Type 0
IsFree locals scope = (x : Name) → is_some (locals x) ≡ false → among (Local x) scope ≡ false

none_in : (w : World) (locals : Locals) (scope : Scope) (ws : List Word) → IsFree locals scope →
    AreSound w (map (Binding locals) ws) → NoneIn (refs ws) scope
none_in w locals scope [] free q = tt
none_in w locals scope (x ∷ ws) free q =
    (free (name_of x) (binding_new w locals x q.0), none_in w locals scope ws free q.1)

pub words_fresh : (w : World) (locals : Locals) (scope : Scope) (ws : List Word) → IsFree locals scope →
    AreSound w (binding_sites locals ws) → AreFresh (refs ws) scope × NoneIn (refs ws) scope × AreFresh (refs ws) []
words_fresh w locals scope ws free q =
    let r = sound_split w (map (Binding locals) ws) (BoundTogether ws ∷ []) q in
    let apart = none_in w locals scope ws free r.0 in
    let once = fresh_from [] ws (together_once w ws r.1.0) in
    (fresh_apart (refs ws) [] scope once apart, apart, once)
