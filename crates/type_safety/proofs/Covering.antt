-- Covered sites make resolved expressions simple.
use Rattle.std.proofs.Common.{◌≡◌, List, [], ◌∷◌, ◌++◌, inl, inr, refl, ap, ◌∙◌}
use Rattle.elm_base.specs.declared.position.Pos.{Pos}
use Rattle.elm_canon.specs.Tree.{Patterns, NoPattern, MorePattern, Expr, Is, NameOf, Accessor, Lambda, Apply}
use Rattle.elm_canon.specs.Tree.{Strict, If, Logical, Let, Case, Located, Exprs, NoExpr, MoreExpr, Branches, NoBranch}
use Rattle.elm_canon.specs.Tree.{MoreBranch, Groups, NoGroup, MoreGroup, Group, Together, Constant, Destructure}
use Rattle.elm_canon.specs.Tree.{Functions, NoFunction, MoreFunction, Declaration, Given, Define}
use Rattle.pattern_check.specs.Missing.{missing}
use Rattle.type_safety.specs.Modules.{groups_in}
use Rattle.typed_values.specs.World.{World}
use Rattle.typed_values.specs.Simple.{TakesAll, Simple, SimpleEach, SimpleBranches, SimpleMap, SimpleGroups, SimpleGroup}
use Rattle.typed_values.specs.Simple.{SimpleFunctions}
use Rattle.typed_values.specs.Simple as simple
use Rattle.pattern_check.specs.Sites as sites
use Rattle.pattern_check.specs.Sites.{Site, Choice, Sole, sole_sites, expr_sites, exprs_sites, branches_sites}
use Rattle.pattern_check.specs.Sites.{groups_sites, group_sites, functions_sites, declarations_sites, module_sites, start}
use Rattle.pattern_check.specs.PatternFaultsLaws.{AreCovered}
use Rattle.pattern_check.proofs.Covered.{covered}
use Rattle.type_safety.specs.Resolved.{Resolved, ResolvedEach, ResolvedBranches, ResolvedMap, ResolvedGroups, ResolvedGroup}
use Rattle.type_safety.specs.Resolved.{ResolvedFunctions, FaultlessIsSimple, SimpleIsResolved}

-- ---- covered sites of two lists

left : (a b : List Site) → AreCovered (a ++ b) → AreCovered a
left [] b h = tt
left (s ∷ a) b h = (h.0, left a b h.1)

right : (a b : List Site) → AreCovered (a ++ b) → AreCovered b
right [] b h = h
right (s ∷ a) b h = right a b h.1

takes : (here : Pos) (qs : Patterns) → AreCovered (sole_sites here qs) → TakesAll qs
takes here NoPattern h = tt
takes here (MorePattern q qs) h = (h.0, takes here qs h.1)

same_patterns : (bs : Branches) → simple.branch_patterns bs ≡ sites.branch_patterns bs
same_patterns NoBranch = refl
same_patterns (MoreBranch q e bs) = ap (λ l. q ∷ l) (same_patterns bs)

-- ---- each form

mutual
  made : (w : World) (here : Pos) (e : Expr) → Resolved w e → AreCovered (expr_sites here e) → Simple w e
  made w here (Is l) r h = tt
  made w here (NameOf x) r h = tt
  made w here (Accessor x) r h = tt
  made w here (Lambda qs e) r h =
      let a = sole_sites here qs in
      let b = expr_sites here e in
      (r.0, record { takes = takes here qs (left a b h); proper = r.1 }, made w here e r.2 (right a b h))
  made w here (Apply f es) r h =
      let a = expr_sites here f in
      let b = exprs_sites here es in
      (made w here f r.0 (left a b h), made_each w here es r.1 (right a b h))
  made w here (Strict op es) r h = (r.0, made_each w here es r.1 h)
  made w here (If c a b) r h =
      let u = expr_sites here c in
      let v = expr_sites here a in
      let x = expr_sites here b in
      (made w here c r.0 (left u v (left (u ++ v) x h)), made w here a r.1 (right u v (left (u ++ v) x h)), made w here b r.2 (right (u ++ v) x h))
  made w here (Logical pos op a b) r h =
      let u = expr_sites here a in
      let v = expr_sites here b in
      (made w here a r.0 (left u v h), made w here b r.1 (right u v h))
  made w here (Let gs e) r h =
      let u = groups_sites here gs in
      let v = expr_sites here e in
      (r.0, r.1, made_groups w here gs r.2 (left u v h), made w here e r.3 (right u v h))
  made w here (Case e bs) r h =
      let u = expr_sites here e in
      let v = Choice here (sites.branch_patterns bs) ∷ branches_sites here bs in
      let k = right u v h in (
        made w here e r.0 (left u v h),
        elim r.1 [
          | inl all ↦ inl (made_branches w here bs all k.1, ap missing (same_patterns bs) ∙ k.0.0)
          | inr maps ↦ inr (made_map w here bs maps k.1)
        ],
      )
  made w here (Located pos e) r h = made w pos e r h

  made_each : (w : World) (here : Pos) (es : Exprs) → ResolvedEach w es → AreCovered (exprs_sites here es) → SimpleEach w es
  made_each w here NoExpr r h = tt
  made_each w here (MoreExpr e es) r h =
      let a = expr_sites here e in
      let b = exprs_sites here es in
      (made w here e r.0 (left a b h), made_each w here es r.1 (right a b h))

  made_branches : (w : World) (here : Pos) (bs : Branches) → ResolvedBranches w bs → AreCovered (branches_sites here bs) → SimpleBranches w bs
  made_branches w here NoBranch r h = tt
  made_branches w here (MoreBranch q e bs) r h =
      let a = expr_sites here e in
      let b = branches_sites here bs in
      (r.0, made w here e r.1 (left a b h), made_branches w here bs r.2 (right a b h))

  made_map : (w : World) (here : Pos) (bs : Branches) → ResolvedMap w bs → AreCovered (branches_sites here bs) → SimpleMap w bs
  made_map w here NoBranch r h = absurd r
  made_map w here (MoreBranch q e NoBranch) r h = absurd r
  made_map w here (MoreBranch q e (MoreBranch s b NoBranch)) r h =
      let sites_ = expr_sites here b in
      (r.0, made w here b r.1 (left sites_ [] (right (expr_sites here e) (sites_ ++ []) h)))
  made_map w here (MoreBranch q e (MoreBranch s b (MoreBranch t c bs))) r h = absurd r

  made_groups : (w : World) (here : Pos) (gs : Groups) → ResolvedGroups w gs → AreCovered (groups_sites here gs) → SimpleGroups w gs
  made_groups w here NoGroup r h = tt
  made_groups w here (MoreGroup g gs) r h =
      let a = group_sites here g in
      let b = groups_sites here gs in
      (made_group w here g r.0 (left a b h), made_groups w here gs r.1 (right a b h))

  made_group : (w : World) (here : Pos) (g : Group) → ResolvedGroup w g → AreCovered (group_sites here g) → SimpleGroup w g
  made_group w here (Together fs) r h = made_functions w fs r h
  made_group w here (Constant title e) r h = made w title.place e r h
  made_group w here (Destructure q e) r h = ((r.0, h.0), made w here e r.1 h.1)

  made_functions : (w : World) (fs : Functions) → ResolvedFunctions w fs → AreCovered (functions_sites fs) → SimpleFunctions w fs
  made_functions w NoFunction r h = tt
  made_functions w (MoreFunction title qs e fs) r h =
      let a = sole_sites title.place qs in
      let b = expr_sites title.place e in
      let k = functions_sites fs in
      let own = left (a ++ b) k h in (
        r.0,
        (record { takes = takes title.place qs (left a b own); proper = r.1.0 }, made w title.place e r.1.1 (right a b own)),
        made_functions w fs r.2 (right (a ++ b) k h),
      )

made_declarations : (w : World) (ds : List Declaration) → ResolvedGroups w (groups_in ds) → AreCovered (declarations_sites ds) → SimpleGroups w (groups_in ds)
made_declarations w [] r h = tt
made_declarations w (Given x k ∷ ds) r h = made_declarations w ds r h
made_declarations w (Define g ∷ ds) r h =
    let a = group_sites start g in
    let b = declarations_sites ds in
    (made_group w start g r.0 (left a b h), made_declarations w ds r.1 (right a b h))

pub faultless_is_simple : FaultlessIsSimple
faultless_is_simple w m none r = made_declarations w m.declarations r (covered (module_sites m) none)

-- ---- the other way

mutual
  kept : (w : World) (e : Expr) → Simple w e → Resolved w e
  kept w (Is l) s = tt
  kept w (NameOf x) s = tt
  kept w (Accessor x) s = tt
  kept w (Lambda qs e) s = (s.0, s.1.proper, kept w e s.2)
  kept w (Apply f es) s = (kept w f s.0, kept_each w es s.1)
  kept w (Strict op es) s = (s.0, kept_each w es s.1)
  kept w (If c a b) s = (kept w c s.0, kept w a s.1, kept w b s.2)
  kept w (Logical pos op a b) s = (kept w a s.0, kept w b s.1)
  kept w (Let gs e) s = (s.0, s.1, kept_groups w gs s.2, kept w e s.3)
  kept w (Case e bs) s = (kept w e s.0, elim s.1 [ inl all ↦ inl (kept_branches w bs all.0) | inr maps ↦ inr (kept_map w bs maps) ])
  kept w (Located pos e) s = kept w e s

  kept_each : (w : World) (es : Exprs) → SimpleEach w es → ResolvedEach w es
  kept_each w NoExpr s = tt
  kept_each w (MoreExpr e es) s = (kept w e s.0, kept_each w es s.1)

  kept_branches : (w : World) (bs : Branches) → SimpleBranches w bs → ResolvedBranches w bs
  kept_branches w NoBranch s = tt
  kept_branches w (MoreBranch q e bs) s = (s.0, kept w e s.1, kept_branches w bs s.2)

  kept_map : (w : World) (bs : Branches) → SimpleMap w bs → ResolvedMap w bs
  kept_map w NoBranch s = absurd s
  kept_map w (MoreBranch q e NoBranch) s = absurd s
  kept_map w (MoreBranch q e (MoreBranch r b NoBranch)) s = (s.0, kept w b s.1)
  kept_map w (MoreBranch q e (MoreBranch r b (MoreBranch t c bs))) s = absurd s

  kept_groups : (w : World) (gs : Groups) → SimpleGroups w gs → ResolvedGroups w gs
  kept_groups w NoGroup s = tt
  kept_groups w (MoreGroup g gs) s = (kept_group w g s.0, kept_groups w gs s.1)

  kept_group : (w : World) (g : Group) → SimpleGroup w g → ResolvedGroup w g
  kept_group w (Together fs) s = kept_functions w fs s
  kept_group w (Constant title e) s = kept w e s
  kept_group w (Destructure q e) s = (s.0.0, kept w e s.1)

  kept_functions : (w : World) (fs : Functions) → SimpleFunctions w fs → ResolvedFunctions w fs
  kept_functions w NoFunction s = tt
  kept_functions w (MoreFunction title qs e fs) s =
      (s.0, (s.1.0.proper, kept w e s.1.1), kept_functions w fs s.2)

pub simple_is_resolved : SimpleIsResolved
simple_is_resolved w gs s = kept_groups w gs s
