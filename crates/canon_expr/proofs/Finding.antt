-- What the name of a constructor means, and the pattern that it makes.
use Rattle.std.proofs.Common.{◌≡◌, ℕ, List, ap, ◌∙◌}
use Rattle.elm_tree.specs.Tree.{Long}
use Rattle.elm_canon.specs.Names.{Name}
use Rattle.elm_canon.specs.Tree as canon
use Rattle.elm_canon.specs.Unions.{Union}
use Rattle.elm_canon.specs.View.{pattern_view}
use Rattle.elm_canon.specs.declared.unions.Alternative.{Alternative}
use Rattle.elm_canon.specs.declared.tree.Pattern.TheVariants as form
use Rattle.elm_canon.proofs.Views.{anything_pattern}
use Rattle.elm_base.specs.declared.fault.Code.TheVariants.{UnknownConstructor}
use Rattle.canon_env.specs.Found.{Found, Nothing, One, Several, look}
use Rattle.canon_env.specs.Shown.{MakerMeaning, OfUnion, OfRecord}
use Rattle.canon_env.specs.Naming.{World, maker_found, qualifier_of}
use Rattle.canon_env.specs.Sites.{match_faults, unless_one}
use Rattle.canon_env.specs.Patterns.{construct_of}
use Rattle.canon_expr.specs.Longs.{IsLong}
use Rattle.canon_expr.specs.declared.long.LongName.{LongName}
use Rattle.canon_expr.specs.Matches.{match_faults_at}

pub found : (w : World) (x : Long) (f : Found MakerMeaning) (n : LongName) → IsLong n x →
    f ≡ look w.own.makers w.imported.makers n.qualifier n.name → f ≡ maker_found w x
found w x f n long is =
    is ∙ ap (λ q. look w.own.makers w.imported.makers q n.name) long.qualifier
    ∙ ap (λ m. look w.own.makers w.imported.makers (qualifier_of x) m) long.name

pub nothing_means : (w : World) (x : Long) (qs : canon.Patterns) → Nothing ≡ maker_found w x →
    pattern_view form.Anything ≡ construct_of qs (maker_found w x)
nothing_means w x qs is = anything_pattern ∙ ap (construct_of qs) is

pub several_means : (w : World) (x : Long) (qs : canon.Patterns) → Several ≡ maker_found w x →
    pattern_view form.Anything ≡ construct_of qs (maker_found w x)
several_means w x qs is = anything_pattern ∙ ap (construct_of qs) is

pub record_means : (w : World) (x : Long) (qs : canon.Patterns) (home : Name) (fields : List Name) →
    One (record { home = home; meaning = OfRecord fields }) ≡ maker_found w x →
    pattern_view form.Anything ≡ construct_of qs (maker_found w x)
record_means w x qs home fields is = anything_pattern ∙ ap (construct_of qs) is

pub union_means : (w : World) (x : Long) (qs : canon.Patterns) (home : Name) (u : Union) (a : Alternative)
    (got : canon.Pattern) → One (record { home = home; meaning = OfUnion u a }) ≡ maker_found w x →
    got ≡ canon.Construct u a qs → got ≡ construct_of qs (maker_found w x)
union_means w x qs home u a got is e = e ∙ ap (construct_of qs) is

pub union_faults : (w : World) (x : Long) (n : ℕ) (home : Name) (u : Union) (a : Alternative) →
    One (record { home = home; meaning = OfUnion u a }) ≡ maker_found w x →
    match_faults x n (OfUnion u a) ≡ match_faults_at w x n
union_faults w x n home u a is = ap (λ f. unless_one UnknownConstructor x f (match_faults x n)) is
