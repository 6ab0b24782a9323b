use Rattle.std.proofs.Common.{◌≤◌, length, map, take}
use Rattle.elm_canon.specs.View.{pattern_view}
use Rattle.infer_steps.specs.View.{here, known_view}
use Rattle.infer_patterns.specs.Matches.{MatchesEach, AddsNames, Leads}
use Rattle.infer_patterns.specs.View.{in_scope}
use Rattle.infer_patterns.proofs.pattern.+patterns.Given as goal

-- so many of the patterns were matched
abbrev pub invariant-match_each-loop-i : goal.invariant-match_each-loop-i
invariant-match_each-loop-i l = record {
  far : AddsNames (λ own. MatchesEach (known_view l.known) l.position (take l.i l.wanted)
      (take l.i (map pattern_view l.patterns)) own
      (here l.initial.state) (here l.state)) (in_scope l.initial.bound.items) (in_scope l.bound.items);
  within : l.i ≤ length l.wanted;
  counted : l.i ≤ length l.patterns;
}

-- so many of the items were matched
abbrev pub invariant-match_items-loop-item : goal.invariant-match_items-loop-item
invariant-match_items-loop-item l =
    AddsNames (λ own. Leads (known_view l.known) l.position l.wanted l.list
    (take l.item-index (map pattern_view l.items)) own
    (here l.initial.state) (here l.state)) (in_scope l.initial.bound.items) (in_scope l.bound.items)
