-- Constructors, and their parts.
use Rattle.std.proofs.Common.{ℕ, List, [], sym, ◌∙◌}
use Rattle.elm_base.specs.declared.position.Pos.{Pos}
use Rattle.elm_canon.specs.declared.unions.Alternative.{Alternative}
use Rattle.elm_canon.specs.Unions.{Union}
use Rattle.elm_canon.specs.Tree.{Pattern, Construct, patterns_of}
use Rattle.type_items.specs.Items.{child}
use Rattle.type_items.specs.Scopes.{Known}
use Rattle.type_items.specs.Patterns.{shape}
use Rattle.type_walks.specs.Regions.{none}
use Rattle.type_constructs.specs.Failing.{Bad}
use Rattle.type_constructs.proofs.Matching.{matches_constructor}
use Rattle.type_constructs.proofs.Missing.{fails_shape, fails_constructor, fails_parts}
use Rattle.type_constructs.proofs.Chains.{has_still}
use Rattle.infer_steps.specs.Codes.{State, Bound}
use Rattle.infer_steps.specs.Asked.{AsksSame, RefusesSame}
use Rattle.infer_steps.proofs.Stepping.{follows_on, all_still_live}
use Rattle.infer_patterns.specs.Shapes.{IsShaped, NoShape}
use Rattle.infer_patterns.specs.Matches.{MatchesPattern, RefusesPattern, MatchesEach, RefusesEach, Begins}
use Rattle.infer_patterns.specs.Matches.{RefusesConstructor}

module _ (known : Known) (pos : Pos) (v : ℕ) (u : Union) (c : Alternative) where
  module _ (old mid new : State) (result : ℕ) (parts : List ℕ) (shaped : IsShaped known pos u c old mid result parts)
    where
      pub begins : AsksSame mid new pos result v → Begins known pos v u c parts old new
      begins same = record {
        follows = follows_on old mid new shaped.follows same.follows;
        live = all_still_live mid new parts same.follows shaped.parts_live;
        begun = λ a links q t e live has. (
            let m = shaped.shaped a links (child q 0) e live in
            record {
              between = mid.store;
              result = result;
              made = m;
              same =
                  same.walk a m.after (shape u c known (child q 0)).result t (e ∙ sym shaped.follows.depth)
                  (m.walk.live live) m.result_has
                  (has_still m.tells has);
            });
      }

      pub begins_refused : (bad : Bad) → RefusesSame mid new pos result v bad
          → RefusesConstructor known pos v u c bad old new
      begins_refused bad refuses ps = record {
        fails = λ a links q t e live has. (
            let m = shaped.shaped a links (child q 0) e live in
            fails_constructor a u c ps known pos q t old.store mid.store new.store links result parts bad m
            (refuses.fails a m.after none (shape u c known (child q 0)).result t [] m.result_has
            (has_still m.tells has)));
      }

  pub shape_refused : (bad : Bad) (old new : State) → NoShape known pos u c old new bad
      → RefusesConstructor known pos v u c bad old new
  shape_refused bad old new refused ps = record {
    fails = λ a links q t e live has.
        fails_shape a u c ps known pos q t old.store new.store links bad (refused.fails a links (child q 0) e live);
  }

  module _ (old mid new : State) (parts : List ℕ) (ps : List Pattern) (begun : Begins known pos v u c parts old mid)
    where
      pub constructor_matched : (bound : List Bound) → MatchesEach known pos parts ps bound mid new
          → MatchesPattern known pos v (Construct u c (patterns_of ps)) bound old new
      constructor_matched bound each = record {
        follows = follows_on old mid new begun.follows each.follows;
        live = each.live;
        matched = λ a links q t e live has. (
            let b = begun.begun a links q t e live has in
            matches_constructor a u c ps known pos q t old.store b.between mid.store new.store links b.result parts
            bound live b.made b.same
            (each.matched a b.made.after (child q 1) (shape u c known (child q 0)).parts (e ∙ sym begun.follows.depth)
            (b.same.live (b.made.walk.live live)) b.made.parts_have));
      }

      pub constructor_refused : (bad : Bad) → RefusesEach known pos parts ps bad mid new
          → RefusesPattern known pos v (Construct u c (patterns_of ps)) bad old new
      constructor_refused bad each = record {
        fails = λ a links q t e live has. (
            let b = begun.begun a links q t e live has in
            fails_parts a u c ps known pos q t old.store b.between mid.store new.store links b.result parts bad b.made
            b.same
            (each.fails a b.made.after (child q 1) (shape u c known (child q 0)).parts (e ∙ sym begun.follows.depth)
            (b.same.live (b.made.walk.live live)) b.made.parts_have));
      }
