-- The constructors of a union that a module declares, as the law of typed programs asks of them.
use Rattle.std.specs.Prelude.{◌≡◌, pos, List, [], length, true, ◌⊎◌}
use Rattle.elm_tree.specs.Tree as tree
use Rattle.elm_canon.specs.Tree as canon
use Rattle.elm_canon.specs.Tree.{UnionDeclaration}
use Rattle.elm_canon.specs.declared.unions.Tag.TheVariants.{Number}
use Rattle.elm_meaning.specs.Seen.{same_tag, same_kind}
use Rattle.canon_module.specs.Resolve.{Setting, IsModule}
use Rattle.module_proper.specs.Modules.{AreRead}
use Rattle.typed_values.specs.World.{Constructor, Among, is_negative}
use Rattle.build_safety.specs.BuildWorlds.{constructors}

pub record AreTagged (ks : List Constructor) : Type 0 where
  pub counted : (k : Constructor) → Among k ks → length k.fields ≡ k.alternative.arity
  pub told : (k l : Constructor) → Among k ks → Among l ks → same_tag k.alternative.tag l.alternative.tag ≡ true → k ≡ l
  pub alike : (k l : Constructor) → Among k ks → Among l ks → same_kind k.alternative.tag l.alternative.tag ≡ true
  pub bare : (k : Constructor) → Among k ks
      → (same_kind k.alternative.tag (Number (pos 0)) ≡ true) ⊎ (k.fields ≡ [])
  pub signs : (k l : Constructor) → Among k ks → Among l ks
      → is_negative k.alternative.tag ≡ is_negative l.alternative.tag

abbrev pub UnionsAreTagged : Type 0
UnionsAreTagged =
    (s : Setting) (t : tree.Module) (m : canon.Module) → IsModule s t.declarations m → AreRead s.home t.declarations
    → (u : UnionDeclaration) → Among u m.unions → AreTagged (constructors s.home u)
