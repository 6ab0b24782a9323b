-- What a pattern binds stands before the names that were bound.
use Rattle.std.proofs.Common.{◌≡◌, ℕ, List, [], ◌∷◌, refl, sym, ap, ◌∙◌, subst}
use Rattle.elm_base.specs.declared.position.Pos.{Pos}
use Rattle.elm_canon.specs.declared.unions.Alternative.{Alternative}
use Rattle.elm_canon.specs.Unions.{Union}
use Rattle.elm_canon.specs.Tree.{Pattern, Named, As, Construct, LocatedPattern, patterns_of}
use Rattle.elm_type.specs.Types.{Name}
use Rattle.type_items.specs.Scopes.{Known}
use Rattle.type_store.specs.Shape.{IsStore}
use Rattle.type_walks.specs.Links.{Live}
use Rattle.type_constructs.specs.Failing.{Bad}
use Rattle.infer_steps.specs.Codes.{State, Bound}
use Rattle.infer_patterns.specs.Matches.{MatchesPattern, RefusesPattern, MatchesEach, RefusesEach, AddsNames, Begins}
use Rattle.infer_patterns.proofs.Leaves.{name_matched, as_matched, located_matched}
use Rattle.infer_patterns.proofs.Beginning.{constructor_matched, constructor_refused}

pub adds_none : {P : List Bound → Type 0} (before : List Bound) → P [] → AddsNames P before before
adds_none before so = record { own = []; so = so; is = refl }

module _ (known : Known) (pos : Pos) (v : ℕ) where
  -- the same pattern
  pub adds_as : (p q : Pattern) (before after : List Bound) (old new : State) → p ≡ q
      → AddsNames (λ own. MatchesPattern known pos v q own old new) before after
      → AddsNames (λ own. MatchesPattern known pos v p own old new) before after
  adds_as p q before after old new e h =
      subst (λ r. AddsNames (λ own. MatchesPattern known pos v r own old new) before after) (sym e) h

  pub refuses_as : (p q : Pattern) (bad : Bad) (old new : State) → p ≡ q → RefusesPattern known pos v q bad old new
      → RefusesPattern known pos v p bad old new
  refuses_as p q bad old new e h = subst (λ r. RefusesPattern known pos v r bad old new) (sym e) h

  pub adds_name : (x : Name) (before after : List Bound) (s : State) → IsStore s.store → Live s.depth s.store v
      → after ≡ (x, v) ∷ before
      → AddsNames (λ own. MatchesPattern known pos v (Named x) own s s) before after
  adds_name x before after s whole here is =
      record { own = (x, v) ∷ []; so = name_matched known pos v x s whole here; is = is }

  pub adds_also : (p : Pattern) (x : Name) (before after last : List Bound) (old new : State)
      → Live old.depth old.store v
      → AddsNames (λ own. MatchesPattern known pos v p own old new) before after → last ≡ (x, v) ∷ after
      → AddsNames (λ own. MatchesPattern known pos v (As p x) own old new) before last
  adds_also p x before after last old new here h is = record {
    own = (x, v) ∷ h.own;
    so = as_matched known pos v p x h.own old new here h.so;
    is = is ∙ ap (λ l. (x, v) ∷ l) h.is;
  }

  pub adds_located : (start : Pos) (p : Pattern) (before after : List Bound) (old new : State)
      → AddsNames (λ own. MatchesPattern known start v p own old new) before after
      → AddsNames (λ own. MatchesPattern known pos v (LocatedPattern start p) own old new) before after
  adds_located start p before after old new h = record {
    own = h.own;
    so = located_matched known pos start v p h.own old new h.so;
    is = h.is;
  }

  module _ (u : Union) (c : Alternative) (ps qs : List Pattern) (parts vs : List ℕ) (old mid new : State)
      (begun : Begins known pos v u c parts old mid)
      (same_vs : vs ≡ parts) (same_ps : qs ≡ ps) where
    pub adds_constructor : (before after : List Bound)
        → AddsNames (λ own. MatchesEach known pos vs qs own mid new) before after
        → AddsNames (λ own. MatchesPattern known pos v (Construct u c (patterns_of ps)) own old new) before after
    adds_constructor before after h = record {
      own = h.own;
      so =
          constructor_matched known pos v u c old mid new parts ps begun h.own
          (subst (λ rs. MatchesEach known pos parts rs h.own mid new) same_ps
          (subst (λ ws. MatchesEach known pos ws qs h.own mid new) same_vs h.so));
      is = h.is;
    }

    pub refuses_parts : (bad : Bad) → RefusesEach known pos vs qs bad mid new
        → RefusesPattern known pos v (Construct u c (patterns_of ps)) bad old new
    refuses_parts bad h =
        constructor_refused known pos v u c old mid new parts ps begun bad
        (subst (λ rs. RefusesEach known pos parts rs bad mid new) same_ps
        (subst (λ ws. RefusesEach known pos ws qs bad mid new) same_vs h))
