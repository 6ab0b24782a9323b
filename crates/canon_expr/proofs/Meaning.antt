-- What a pattern means and where its constructors stand, by what its parts mean and where theirs stand.
use Rattle.std.proofs.Common.{◌≡◌, ℕ, List, [], ◌∷◌, ◌++◌, length, map, ap, sym, refl, ◌∙◌, subst, Result, Ok, Err, OnOk, None}
use Rattle.elm_lexer.specs.declared.token.Kind.{Kind}
use Rattle.elm_lexer.specs.declared.token.Kind.TheVariants as kind
use Rattle.elm_lexer.specs.Tokens.{Token}
use Rattle.elm_canon.specs.Names.{Name}
use Rattle.elm_canon.specs.Tree as canon
use Rattle.elm_canon.specs.Tree.{LocatedPattern}
use Rattle.elm_canon.specs.Unions.{TupleUnion, tuple_alternative}
use Rattle.elm_canon.specs.View.{tuple_pattern, items_before, nil_pattern}
use Rattle.elm_tree.specs.Tree as tree
use Rattle.elm_tree.specs.Tree.{Pos, Long, Word}
use Rattle.elm_tree.specs.Words.{pattern_by}
use Rattle.elm_tree.specs.Words as words
use Rattle.canon_env.specs.Imports.{name_of}
use Rattle.canon_env.specs.Naming.{World, maker_found}
use Rattle.canon_env.specs.Sites.{Site, MakerMatch, faults_at}
use Rattle.canon_env.specs.Patterns.{match_sites, match_sites_all, pattern_of, patterns_of, construct_of, items_of}
use Rattle.canon_env.specs.Patterns.{list_of, fields_of, count_of}
use Rattle.canon_expr.specs.Logs.{Grows, used_place}
use Rattle.canon_expr.specs.declared.log.Log.{Log}
use Rattle.canon_expr.proofs.Growing.{grows_none, grows_more, grows_one}
use Rattle.canon_expr.specs.Matches.{match_faults_at}
use Rattle.canon_expr.proofs.CanonPatternForms.{counts, list_is}

pub on_ok : {T E P : Type 0} → (r : Result T E) → P → OnOk r P
on_ok (Ok x) p = p
on_ok (Err e) p = tt

-- ---- sites

pub word_sites : (k : Kind) (t : Token) → match_sites (pattern_by k t) ≡ []
word_sites kind.Underscore t = refl
word_sites (kind.Int n) t = refl
word_sites kind.Char t = refl
word_sites kind.Text t = refl
word_sites _ t = refl

pub grows_at : {w : World} {a b : Log} (old new : List Site) → new ≡ old → Grows w a b old → Grows w a b new
grows_at {w} {a} {b} old new e g = subst (λ sites. Grows w a b sites) (sym e) g

pub quiet : {w : World} (log : Log) (sites : List Site) → sites ≡ [] → Grows w log log sites
quiet {w} log sites e = grows_at [] sites e (grows_none w log)

match_is : (w : World) (x : Long) (n : ℕ) → faults_at w (MakerMatch x n) ≡ match_faults_at w x n
unfolding faults_at
match_is w x n = refl

match_unused : (w : World) (x : Long) (n : ℕ) → used_place w (MakerMatch x n) ≡ None
unfolding used_place
match_unused w x n = refl

pub construct_grows : {w : World} {a b c : Log} (x : Long) (written : tree.Pattern) (ps : List tree.Pattern) (n : ℕ) →
    written ≡ tree.Construct x (tree.patterns_of ps) → n ≡ length ps →
    Grows w a b (match_sites_all (tree.patterns_of ps)) →
    c.findings.items ≡ b.findings.items ++ match_faults_at w x n → c.uses.items ≡ b.uses.items →
    Grows w a c (match_sites written)
construct_grows {w} x written ps n e many g found used =
    grows_at (match_sites_all (tree.patterns_of ps) ++ MakerMatch x n ∷ []) (match_sites written)
    (ap match_sites e
    ∙ ap (λ m. match_sites_all (tree.patterns_of ps) ++ MakerMatch x m ∷ []) (counts ps ∙ sym many))
    (grows_more g (grows_one (MakerMatch x n) (match_faults_at w x n) (match_is w x n) (match_unused w x n) found used))

-- ---- meaning

pub construct_means : (w : World) (x : Long) (written : tree.Pattern) (ps : List tree.Pattern)
    (got meant : canon.Pattern) (qs : canon.Patterns) → written ≡ tree.Construct x (tree.patterns_of ps) →
    got ≡ LocatedPattern x.place meant → meant ≡ construct_of qs (maker_found w x) →
    qs ≡ patterns_of w (tree.patterns_of ps) → got ≡ pattern_of w written
construct_means w x written ps got meant qs whole e m d =
    e ∙ ap (LocatedPattern x.place) (m ∙ ap (λ rs. construct_of rs (maker_found w x)) d) ∙ ap (pattern_of w) (sym whole)

pub cons_means : (w : World) (place : Pos) (written : tree.Pattern) (ps : List tree.Pattern)
    (got meant : canon.Pattern) (qs : canon.Patterns) → written ≡ tree.ConsPattern place (tree.patterns_of ps) →
    got ≡ LocatedPattern place meant → meant ≡ items_of qs →
    qs ≡ patterns_of w (tree.patterns_of ps) → got ≡ pattern_of w written
cons_means w place written ps got meant qs whole e m d =
    e ∙ ap (LocatedPattern place) (m ∙ ap items_of d) ∙ ap (pattern_of w) (sym whole)

pub list_means : (w : World) (place : Pos) (written : tree.Pattern) (ps : List tree.Pattern)
    (got meant : canon.Pattern) (qs : List canon.Pattern) → written ≡ tree.ListPattern place (tree.patterns_of ps) →
    got ≡ LocatedPattern place meant → meant ≡ items_before nil_pattern qs →
    canon.patterns_of qs ≡ patterns_of w (tree.patterns_of ps) → got ≡ pattern_of w written
list_means w place written ps got meant qs whole e m d =
    e ∙ ap (LocatedPattern place) (m ∙ sym (list_is qs) ∙ ap list_of d) ∙ ap (pattern_of w) (sym whole)

pub tuple_means : (w : World) (place : Pos) (written : tree.Pattern) (ps : List tree.Pattern)
    (got meant : canon.Pattern) (qs : List canon.Pattern) → written ≡ tree.TuplePattern place (tree.patterns_of ps) →
    got ≡ LocatedPattern place meant → meant ≡ tuple_pattern qs → length qs ≡ length ps →
    canon.patterns_of qs ≡ patterns_of w (tree.patterns_of ps) → got ≡ pattern_of w written
tuple_means w place written ps got meant qs whole e m many d =
    e
    ∙ ap (LocatedPattern place)
    (m ∙ ap (λ n. canon.Construct (TupleUnion n) (tuple_alternative n) (canon.patterns_of qs)) (many ∙ sym (counts ps))
    ∙ ap (canon.Construct (TupleUnion (count_of (tree.patterns_of ps))) (tuple_alternative (count_of (tree.patterns_of ps)))) d)
    ∙ ap (pattern_of w) (sym whole)

pub fields_means : (w : World) (place : Pos) (written : tree.Pattern) (xs : List Word) (got meant : canon.Pattern)
    (names : List Name) → written ≡ tree.FieldsPattern place xs → got ≡ LocatedPattern place meant →
    meant ≡ fields_of names → names ≡ map name_of xs → got ≡ pattern_of w written
fields_means w place written xs got meant names whole e m d =
    e ∙ ap (LocatedPattern place) (m ∙ ap fields_of d) ∙ ap (pattern_of w) (sym whole)

pub as_means : (w : World) (place : Pos) (written p : tree.Pattern) (x : Word) (got meant inner : canon.Pattern)
    (name : Name) → written ≡ tree.As place p x → got ≡ LocatedPattern place meant → meant ≡ canon.As inner name →
    inner ≡ pattern_of w p → name ≡ name_of x → got ≡ pattern_of w written
as_means w place written p x got meant inner name whole e m d n =
    e ∙ ap (LocatedPattern place) (m ∙ ap (λ i. canon.As i name) d ∙ ap (canon.As (pattern_of w p)) n)
    ∙ ap (pattern_of w) (sym whole)

-- a pattern of one word, by the kind of its token
pub word_means : (w : World) (t : Token) (k : Kind) (got : canon.Pattern) → t.kind ≡ k →
    got ≡ pattern_of w (pattern_by k t) → got ≡ pattern_of w (words.pattern_of t)
word_means w t k got is e = e ∙ ap (λ j. pattern_of w (pattern_by j t)) (sym is)
