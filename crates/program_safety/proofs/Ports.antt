-- Declarations that leave commands and subscriptions as ports made them: `ports_kept`.
use Rattle.std.proofs.Common.{◌≡◌, List, [], ◌∷◌, inl, inr, sym, subst}
use Rattle.std.specs.Prelude.{codes}
use Rattle.elm_canon.specs.Names.{Name}
use Rattle.elm_canon.specs.Unions.{Union, TupleUnion, ListUnion, Declared}
use Rattle.elm_canon.specs.Tree.{Pattern, Anything, Named, As, Exactly, Construct, FieldsOf, LocatedPattern, Patterns}
use Rattle.elm_canon.specs.Tree.{Expr, Declaration, Given, Define}
use Rattle.elm_canon.specs.declared.unions.Alternative.{Alternative}
use Rattle.elm_canon.specs.Mentions.{PatternTakes, DeclarationMentions}
use Rattle.elm_canon.specs.Maps.{bare_pattern, Rebuilds, IsSame, IsAfter, IsMapping}
use Rattle.elm_canon.specs.Obeys.{DeclarationObeys}
use Rattle.typed_values.specs.World.{World, Declares, Makes, Holds}
use Rattle.typed_values.specs.Simple.{RebuildsIn, MapsPorts}
use Rattle.program_safety.specs.Ports.{IsUnported, IsUnsent, KeepsPorts, IsOfWorld, PortsAreKept}
use Rattle.program_safety.proofs.Joined.{group}

module _ (w : World) where
  taken : (u : Union) (c : Alternative) → IsOfWorld w u c → IsUnported u c → Declares w u c
  taken (TupleUnion n) c f g = f
  taken ListUnion c f g = f
  taken (Declared m x cs) c f g = (f.0, f.1, f.2, f.3, g)

  built : (u : Union) (c : Alternative) → IsOfWorld w u c → IsUnsent u c → Makes w u c
  built (TupleUnion n) c f g = f
  built ListUnion c f g = f
  built (Declared m x cs) c f g = (f.1, f.2, f.3, g)

  taken_bare : (q : Pattern) → PatternTakes (IsOfWorld w) q → PatternTakes (IsOfWorld w) (bare_pattern q)
  taken_bare (LocatedPattern place q) f = taken_bare q f
  taken_bare Anything f = f
  taken_bare (Named x) f = f
  taken_bare (As q x) f = f
  taken_bare (Exactly l) f = f
  taken_bare (Construct u c qs) f = f
  taken_bare (FieldsOf xs) f = f

  -- the pattern's constructor is of the world
  held : (q : Pattern) (m x : Name) (cs : List Alternative) (c : Alternative) (qs : Patterns) →
      bare_pattern q ≡ Construct (Declared m x cs) c qs → PatternTakes (IsOfWorld w) q → Holds w m x cs c
  held q m x cs c qs is f = (subst (PatternTakes (IsOfWorld w)) is (taken_bare q f)).0

  rebuilt : (m x : Name) (Again : Name → Name → Expr → Type 0) (q : Pattern) (e : Expr) (r : Pattern) →
      PatternTakes (IsOfWorld w) q → PatternTakes (IsOfWorld w) r → Rebuilds m x Again q e r →
      RebuildsIn w m x Again q e r
  rebuilt m x Again q e r f g i =
      (i, held q m x i.constructors i.carrier _ i.takes f, held r m x i.constructors i.batch _ i.takes_all g)

  mapped : (q : Pattern) (e : Expr) (r : Pattern) → PatternTakes (IsOfWorld w) q → PatternTakes (IsOfWorld w) r →
      IsMapping q e r → MapsPorts w q e r
  mapped q e r f g (inl i) = inl (rebuilt (codes "Platform.Cmd") (codes "Cmd") IsSame q e r f g i)
  mapped q e r f g (inr i) = inr (rebuilt (codes "Platform.Sub") (codes "Sub") IsAfter q e r f g i)

  one : (home : Name) (d : Declaration) → DeclarationMentions (IsOfWorld w) (IsOfWorld w) home d → KeepsPorts d →
      DeclarationObeys (Declares w) (Makes w) (MapsPorts w) d
  one home (Given r k) f g = tt
  one home (Define h) f g =
      group (IsOfWorld w) IsUnported (Declares w) (IsOfWorld w) IsUnsent (Makes w) taken built IsMapping (MapsPorts w)
      mapped h f.1 g

pub ports_kept : PortsAreKept
ports_kept w home [] all f s g = tt
ports_kept w home (d ∷ ds) [] f s g = absurd s
ports_kept w home (d ∷ ds) (e ∷ es) f (inl s) g = (
  one w home d (subst (DeclarationMentions (IsOfWorld w) (IsOfWorld w) home) (sym s.0) f.0) g.0,
  ports_kept w home ds es f.1 s.1 g.1,
)
ports_kept w home (d ∷ ds) (e ∷ es) f (inr s) g = ports_kept w home (d ∷ ds) es f.1 s g
