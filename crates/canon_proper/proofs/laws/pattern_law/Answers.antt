-- A pattern binds its words, which are new: `words_fresh`, `pattern_good`.
use Rattle.std.proofs.Common.{◌≡◌, [], sym, ◌∙◌, subst}
use Rattle.std.specs.List.{flat_map}
use Rattle.elm_tree.specs.Tree.{Pattern}
use Rattle.canon_env.specs.Naming.{World}
use Rattle.canon_env.specs.Sites.{faults_at}
use Rattle.canon_env.specs.Locals.{Locals}
use Rattle.canon_env.specs.Patterns.{pattern_sites, pattern_of, match_sites, binding_sites, words_of}
use Rattle.elm_canon.specs.Proper.{Scope, Binds, AreFresh}
use Rattle.canon_proper.specs.Patterns.{IsSpelledPattern}
use Rattle.canon_proper.specs.Worlds.{HasMakers, IsScopeOf}
use Rattle.canon_proper.proofs.Quiet.{sound_sites, sound_split}
use Rattle.canon_proper.proofs.Patterns.{words_fresh, pattern_good}
use Rattle.canon_proper.proofs.laws.pattern_law.Goals as goal

pub returns : goal.returns
returns c = binds
  where
    binds : (w : World) (locals : Locals) (scope : Scope) (p : Pattern) → HasMakers w → IsScopeOf locals scope →
        IsSpelledPattern p → flat_map (faults_at w) (pattern_sites locals p) ≡ [] → Binds (pattern_of w p) scope
    binds w locals scope p has is spelled none =
        let q = sound_split w (match_sites p) (binding_sites locals (words_of p)) (sound_sites w (pattern_sites locals p) none) in
        let f = words_fresh w locals scope (words_of p) (λ x e. is x ∙ e) q.1 in
        let g = pattern_good w has p scope f.0 spelled q.0 in
        (g.0, subst (λ rs. AreFresh rs scope) (sym g.1) f.0)
