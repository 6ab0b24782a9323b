-- One alias more, which no earlier place is: `not_before`.
use Rattle.std.proofs.Common.{◌+◌, ◌++◌, [], ◌∷◌, ⊎_elim, take, get_or, arith, sym, ap, ◌∙◌, subst, append_assoc}
use Rattle.std.proofs.lemmas.List.{take_more}
use Rattle.elm_tree.specs.Turns.{tokens_view}
use Rattle.decl_groups.proofs.Standing.{member_append}
use Rattle.canon_type.specs.Written.{AliasTree}
use Rattle.canon_type.specs.Kept.{alias_view}
use Rattle.std.proofs.Common.{List}
use Rattle.std.specs.List.{slice_index_or}
use Rattle.canon_type.specs.CanonAliasesKept.{IsExpanding, no_alias}
use Rattle.canon_type.proofs.Steps.{at_map}
use Rattle.canon_type.proofs.Grouping.{at_member, not_before}
use Rattle.std.proofs.lemmas.List.{take_all}
use Rattle.canon_type.proofs.expanding.Expansion.add_blanks.Goals as goal

pub loop-place-preserved : goal.loop-place-preserved
loop-place-preserved c =
    let view = alias_view (tokens_view c.args.tokens.now) in
    let places = c.args.places.now in
    let k = c.loop-place.place-index in
    let i = get_or places k 0 in
    record {
      count = c.in_ok-add_blank.ensures.count ∙ c.loop-place.invariant.count;
      expanding = λ s placed is home keeps same h asc apart loops.
          let m = at_member places k 0 (omega arith) in
          subst (IsExpanding s c.add_blank.new.self.world c.add_blank.new.self.made.items)
          (append_assoc placed (take k places) (i ∷ [])
          ∙ ap (λ ps. placed ++ ps) (sym (take_more places k 0 (omega arith))))
          (c.in_ok-add_blank.ensures.expanding s (placed ++ take k places) is home keeps
          (c.loop-place.invariant.expanding s placed is home keeps same h asc apart loops)
          (ap (λ (l : List AliasTree). slice_index_or l i no_alias) same
          ∙ at_map view c.args.aliases.now i c.index-aliases-place.result no_alias (c.requires.within k 0 (omega arith))
          ∙ ap view (sym c.index-aliases-place.is))
          (λ n. ⊎_elim (apart i m) (not_before places asc k 0 (omega arith)) (member_append placed (take k places) i n))
          (loops i m));
    }

pub returns-clause-expanding : goal.returns-clause-expanding
returns-clause-expanding c = λ s placed is home keeps same h asc apart loops.
    subst (λ l. IsExpanding s c.loop-place.self.world c.loop-place.self.made.items (placed ++ l))
    (take_all c.loop-place.place-index c.args.places.now (omega arith))
    (c.loop-place.invariant.expanding s placed is home keeps same h asc apart loops)
