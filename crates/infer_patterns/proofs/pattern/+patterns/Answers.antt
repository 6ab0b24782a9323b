-- What a pattern asks, by what its parts ask.
use Rattle.std.proofs.Common.{◌≡◌, ◌<◌, length, map, get_or, sym, ap, ◌∙◌, subst, arith, rules}
use Rattle.std.specs.List.{AllByRecursion}
use Rattle.std.proofs.lemmas.Grind.{common_steps}
use Rattle.std.proofs.lemmas.List.{length-map}
use Rattle.elm_canon.specs.declared.tree.Pattern.{the_lemmas}
use Rattle.elm_canon.specs.Unions.{TupleUnion, cons_alternative, tuple_alternative}
use Rattle.elm_canon.specs.Tree.{Anything, Named, As, Exactly, Construct, FieldsOf, LocatedPattern, patterns_of}
use Rattle.elm_canon.specs.View.{pattern_view, patterns_view, tuple_pattern, nil_pattern, items_before}
use Rattle.elm_canon.proofs.Views.{anything_pattern, named_pattern, as_pattern, exact_pattern, construct_pattern}
use Rattle.elm_canon.proofs.Views.{pattern_of_tuple}
use Rattle.elm_canon.proofs.Views.{list_pattern, items_pattern, fields_pattern, located_pattern}
use Rattle.type_walks.specs.Links.{Live}
use Rattle.infer_steps.specs.View.{here, bad_view, known_view}
use Rattle.infer_steps.specs.declared.bad.InferError.TheVariants as error
use Rattle.infer_steps.specs.Records.{AreDistinct}
use Rattle.infer_steps.proofs.Stepping.{all_still_live}
use Rattle.infer_patterns.specs.Matches.{RefusesPattern, Begins}
use Rattle.infer_patterns.specs.Once.{FieldsOnce, EachFieldsOnce}
use Rattle.infer_patterns.specs.View.{in_scope}
use Rattle.infer_patterns.proofs.Once.{once_at, all_once_at, items_once, rest_once}
use Rattle.infer_patterns.proofs.Leaves.{ok_on, same_error, err_again, anything_matched, as_refused, located_refused}
use Rattle.infer_patterns.proofs.Turns.{each_none, view_at, read_again, live_read, next_matched, next_refused}
use Rattle.infer_patterns.proofs.Turns.{more_patterns, fewer_patterns}
use Rattle.infer_patterns.proofs.Listing.{leads_none, next_leads, next_item_refused, next_list_refused, list_matched}
use Rattle.infer_patterns.proofs.Listing.{rest_refused}
use Rattle.infer_patterns.proofs.Adding.{adds_none, adds_as, refuses_as, adds_name, adds_also, adds_located}
use Rattle.infer_patterns.proofs.Adding.{adds_constructor, refuses_parts}
use Rattle.infer_patterns.proofs.pattern.+patterns.Goals as goal

-- ---- patterns in turn

pub match_each-loop-i-init : goal.match_each-loop-i-init
match_each-loop-i-init t c = record {
  far =
      adds_none (in_scope c.args.bound.now.items)
      (each_none (known_view c.args.known.now) c.args.position (here c.args.state.now) c.requires.whole);
  within = omega arith;
  counted = omega arith;
}

pub match_each-returns-then-i-wanted-clause-refuses : goal.match_each-returns-then-i-wanted-clause-refuses
match_each-returns-then-i-wanted-clause-refuses t c = λ b e.
    let vs = c.args.wanted.now in
    let ps = map pattern_view c.args.patterns.now in
    let i = c.loop-i.i in
    let lp : i < length ps = omega (arith, c.loop-i-test.true, length-map c.args.patterns.now pattern_view) in
    let lv : i ≡ length vs = omega (arith, c.loop-i.invariant.within, c.if-i-wanted.true) in
    more_patterns (known_view c.args.known.now) c.args.position vs ps i (in_scope c.args.bound.now.items)
    (in_scope c.loop-i.bound.items)
    (here c.args.state.now) (here c.loop-i.state) c.loop-i.invariant.far (get_or ps i Anything) (bad_view b)
    (here c.nonsense.new.state) lv lp
    (read_again ps i Anything lp) (c.nonsense.ensures b (same_error c.nonsense.result (error.Bad b) e))

pub match_each-match_pattern-requires : goal.match_each-match_pattern-requires
match_each-match_pattern-requires t c =
    let vs = c.args.wanted.now in
    let ps = map pattern_view c.args.patterns.now in
    let i = c.loop-i.i in
    let mid = here c.loop-i.state in
    let far = c.loop-i.invariant.far in
    let one = c.index-patterns-i.result in
    let lv : i < length vs = omega (arith, c.if-i-wanted.false) in
    let lp : i < length ps = omega (arith, c.loop-i-test.true, length-map c.args.patterns.now pattern_view) in
    let is : pattern_view one ≡ get_or ps i (pattern_view one) =
    view_at pattern_view c.args.patterns.now i one c.loop-i-test.true c.index-patterns-i.is in (
      first_of (
        search rules,
        omega (arith, c.decreases),
        search (rules, the_lemmas, c.decreases),
        grind
            (arith, common_steps, c.decreases),
      ),
      (
        far.so.follows.whole,
        (
          c.requires.known,
          (
            live_read mid.depth mid.store vs i (all_still_live (here c.args.state.now) mid vs far.so.follows
                c.requires.wanted) lv,
            subst FieldsOnce (sym is) (once_at ps i (pattern_view one) lp c.requires.once),
          ),
        ),
      ),
    )

pub match_each-returns-in-Err-clause-refuses : goal.match_each-returns-in-Err-clause-refuses
match_each-returns-in-Err-clause-refuses t c = λ b e.
    let vs = c.args.wanted.now in
    let ps = map pattern_view c.args.patterns.now in
    let i = c.loop-i.i in
    let one = c.index-patterns-i.result in
    let lv : i < length vs = omega (arith, c.if-i-wanted.false) in
    let lp : i < length ps = omega (arith, c.loop-i-test.true, length-map c.args.patterns.now pattern_view) in
    next_refused (known_view c.args.known.now) c.args.position vs ps i (in_scope c.args.bound.now.items)
    (in_scope c.loop-i.bound.items)
    (here c.args.state.now) (here c.loop-i.state) c.loop-i.invariant.far (get_or vs i 0) (pattern_view one) (bad_view b)
    (here c.match_pattern.new.state)
    lv lp (read_again vs i 0 lv) (view_at pattern_view c.args.patterns.now i one c.loop-i-test.true
    c.index-patterns-i.is)
    (c.match_pattern.ensures.refuses b (c.in-Err.is ∙ e))

pub match_each-loop-i-preserved : goal.match_each-loop-i-preserved
match_each-loop-i-preserved t c =
    let vs = c.args.wanted.now in
    let ps = map pattern_view c.args.patterns.now in
    let i = c.loop-i.i in
    let one = c.index-patterns-i.result in
    let lv : i < length vs = omega (arith, c.if-i-wanted.false) in
    let lp : i < length ps = omega (arith, c.loop-i-test.true, length-map c.args.patterns.now pattern_view) in
    record {
      far =
          next_matched (known_view c.args.known.now) c.args.position vs ps i (in_scope c.args.bound.now.items)
          (in_scope c.loop-i.bound.items)
          (here c.args.state.now) (here c.loop-i.state) c.loop-i.invariant.far (get_or vs i 0) (pattern_view one)
          (in_scope c.match_pattern.new.bound.items) (here c.match_pattern.new.state) lv lp (read_again vs i 0 lv)
          (view_at pattern_view c.args.patterns.now i one c.loop-i-test.true c.index-patterns-i.is)
          c.in-Ok.ensures.matches;
      within = omega (arith, lv);
      counted = omega (arith, c.loop-i-test.true);
    }

pub match_each-returns-then-count-wanted-clause-refuses : goal.match_each-returns-then-count-wanted-clause-refuses
match_each-returns-then-count-wanted-clause-refuses t c = λ b e.
    let vs = c.args.wanted.now in
    let ps = map pattern_view c.args.patterns.now in
    let i = c.loop-i.i in
    let lp : i ≡ length ps = omega (
      arith,
      c.loop-i.invariant.counted,
      c.loop-i-test.false,
      length-map
          c.args.patterns.now pattern_view,
    ) in
    let lv : i < length vs =
    omega (arith, c.loop-i.invariant.counted, c.loop-i-test.false, c.if-count-wanted.true) in
    fewer_patterns (known_view c.args.known.now) c.args.position vs ps i (in_scope c.args.bound.now.items)
    (in_scope c.loop-i.bound.items)
    (here c.args.state.now) (here c.loop-i.state) c.loop-i.invariant.far (get_or vs i 0) (bad_view b)
    (here c.nonsense-then-count-wanted.new.state) lv lp
    (read_again vs i 0 lv) (c.nonsense-then-count-wanted.ensures b
    (same_error c.nonsense-then-count-wanted.result (error.Bad b) e))

-- ---- the items of a list

pub match_items-loop-item-init : goal.match_items-loop-item-init
match_items-loop-item-init t c =
    adds_none (in_scope c.args.bound.now.items)
    (leads_none (known_view c.args.known.now) c.args.position c.args.wanted (here c.args.state.now) c.requires.whole
    c.requires.wanted)

pub match_items-match_pattern-requires : goal.match_items-match_pattern-requires
match_items-match_pattern-requires t c =
    let ps = map pattern_view c.args.items.now in
    let i = c.loop-item.item-index in
    let one = c.item-item.result in
    let lp : i < length ps = omega (arith, c.loop-item-test.true, length-map c.args.items.now pattern_view) in
    let is : pattern_view one ≡ get_or ps i (pattern_view one) =
    view_at pattern_view c.args.items.now i one c.loop-item-test.true c.item-item.is in
    let begun = c.in-Ok.ensures.begins (known_view c.args.known.now) cons_alternative in (
      first_of (
        search rules,
        omega (arith, c.decreases),
        search (rules, the_lemmas, c.decreases),
        grind
            (arith, common_steps, c.decreases),
      ),
      (
        begun.follows.whole,
        (
          c.requires.known,
          (
            begun.live.0,
            subst FieldsOnce (sym is)
                (all_once_at ps i (pattern_view one) lp c.requires.once),
          ),
        ),
      ),
    )

pub match_items-returns-in-Err-match_pattern-clause-refuses :
    goal.match_items-returns-in-Err-match_pattern-clause-refuses
match_items-returns-in-Err-match_pattern-clause-refuses t c = λ b e rest.
    let ps = map pattern_view c.args.items.now in
    let i = c.loop-item.item-index in
    let one = c.item-item.result in
    let lp : i < length ps = omega (arith, c.loop-item-test.true, length-map c.args.items.now pattern_view) in
    next_item_refused (known_view c.args.known.now) c.args.position c.args.wanted c.loop-item.list ps i
    (in_scope c.args.bound.now.items)
    (in_scope c.loop-item.bound.items) (here c.args.state.now) (here c.loop-item.state) c.loop-item.invariant
    (pattern_view one) lp
    (view_at pattern_view c.args.items.now i one c.loop-item-test.true c.item-item.is) c.in-Ok.made.item
    c.in-Ok.made.list (here c.begin_list.new.state)
    (bad_view b) (here c.match_pattern.new.state)
    (c.in-Ok.ensures.begins (known_view c.args.known.now) cons_alternative)
    (c.match_pattern.ensures.refuses b (c.in-Err-match_pattern.is ∙ err_again c.in-Err-match_pattern.error (error.Bad b)
    e)) rest

pub match_items-returns-in-Err-clause-refuses : goal.match_items-returns-in-Err-clause-refuses
match_items-returns-in-Err-clause-refuses t c = λ b e rest.
    let ps = map pattern_view c.args.items.now in
    let i = c.loop-item.item-index in
    let one = c.item-item.result in
    let lp : i < length ps = omega (arith, c.loop-item-test.true, length-map c.args.items.now pattern_view) in
    next_list_refused (known_view c.args.known.now) c.args.position c.args.wanted c.loop-item.list ps i
    (in_scope c.args.bound.now.items)
    (in_scope c.loop-item.bound.items) (here c.args.state.now) (here c.loop-item.state) c.loop-item.invariant
    (pattern_view one) lp
    (view_at pattern_view c.args.items.now i one c.loop-item-test.true c.item-item.is) (bad_view b)
    (here c.begin_list.new.state)
    (c.begin_list.ensures.refuses b (c.in-Err.is ∙ err_again c.in-Err.error (error.Bad b) e)
    (known_view c.args.known.now) cons_alternative) rest

pub match_items-loop-item-preserved : goal.match_items-loop-item-preserved
match_items-loop-item-preserved t c =
    let ps = map pattern_view c.args.items.now in
    let i = c.loop-item.item-index in
    let one = c.item-item.result in
    let lp : i < length ps = omega (arith, c.loop-item-test.true, length-map c.args.items.now pattern_view) in
    next_leads (known_view c.args.known.now) c.args.position c.args.wanted c.loop-item.list ps i
    (in_scope c.args.bound.now.items)
    (in_scope c.loop-item.bound.items) (here c.args.state.now) (here c.loop-item.state) c.loop-item.invariant
    (pattern_view one) lp
    (view_at pattern_view c.args.items.now i one c.loop-item-test.true c.item-item.is) c.in-Ok.made.item
    c.in-Ok.made.list
    (in_scope c.match_pattern.new.bound.items) (here c.begin_list.new.state) (here c.match_pattern.new.state)
    (c.in-Ok.ensures.begins (known_view c.args.known.now) cons_alternative) c.in-Ok-match_pattern.ensures.matches

-- ---- patterns without parts

pub match_pattern-returns-in-Anything-clause-matches : goal.match_pattern-returns-in-Anything-clause-matches
match_pattern-returns-in-Anything-clause-matches t c =
    adds_as (known_view c.args.known.now) c.args.position c.args.wanted (pattern_view c.args.pattern.now) Anything
    (in_scope c.args.bound.now.items)
    (in_scope c.args.bound.now.items) (here c.args.state.now) (here c.args.state.now)
    (ap pattern_view c.in-Anything.is ∙ anything_pattern)
    (adds_none (in_scope c.args.bound.now.items)
    (anything_matched (known_view c.args.known.now) c.args.position c.args.wanted (here c.args.state.now)
    c.requires.whole))

pub match_pattern-returns-in_ok-bind-in-Named-clause-matches :
    goal.match_pattern-returns-in_ok-bind-in-Named-clause-matches
match_pattern-returns-in_ok-bind-in-Named-clause-matches t c =
    adds_as (known_view c.args.known.now) c.args.position c.args.wanted (pattern_view c.args.pattern.now)
    (Named c.in-Named.name)
    (in_scope c.args.bound.now.items) (in_scope c.bind.new.bound.items) (here c.args.state.now) (here c.args.state.now)
    (ap pattern_view c.in-Named.is ∙ named_pattern c.in-Named.name)
    (adds_name (known_view c.args.known.now) c.args.position c.args.wanted c.in-Named.name
    (in_scope c.args.bound.now.items)
    (in_scope c.bind.new.bound.items) (here c.args.state.now) c.requires.whole c.requires.wanted
    c.in_ok-bind-in-Named.ensures)

pub match_pattern-returns-in-Exactly-clause-matches : goal.match_pattern-returns-in-Exactly-clause-matches
match_pattern-returns-in-Exactly-clause-matches t c =
    let known = known_view c.args.known.now in
    let before = in_scope c.args.bound.now.items in
    ok_on c.match_literal.result c.match_literal.ensures.matches
    (λ matches. adds_as known c.args.position c.args.wanted (pattern_view c.args.pattern.now)
    (Exactly c.in-Exactly.literal) before before
    (here c.args.state.now) (here c.match_literal.new.state)
    (ap pattern_view c.in-Exactly.is ∙ exact_pattern c.in-Exactly.literal)
    (adds_none before (matches known)))

pub match_pattern-returns-in-Exactly-clause-refuses : goal.match_pattern-returns-in-Exactly-clause-refuses
match_pattern-returns-in-Exactly-clause-refuses t c = λ b e.
    let known = known_view c.args.known.now in
    refuses_as known c.args.position c.args.wanted (pattern_view c.args.pattern.now) (Exactly c.in-Exactly.literal)
    (bad_view b) (here c.args.state.now)
    (here c.match_literal.new.state) (ap pattern_view c.in-Exactly.is ∙ exact_pattern c.in-Exactly.literal)
    (c.match_literal.ensures.refuses b e known)

pub match_pattern-match_fields-requires-clause-once : goal.match_pattern-match_fields-requires-clause-once
match_pattern-match_fields-requires-clause-once t c =
    let is : pattern_view c.args.pattern.now ≡ FieldsOf c.in-Fields.names.items =
    ap pattern_view c.in-Fields.is ∙ fields_pattern c.in-Fields.names in
    subst AreDistinct (sym c.deref-in-Fields.ensures.value) (subst FieldsOnce is c.requires.once)

pub match_pattern-returns-in-Fields-clause-matches : goal.match_pattern-returns-in-Fields-clause-matches
match_pattern-returns-in-Fields-clause-matches t c =
    let known = known_view c.args.known.now in
    let is : pattern_view c.args.pattern.now ≡ FieldsOf c.deref-in-Fields.result.now =
    ap pattern_view c.in-Fields.is ∙ (fields_pattern c.in-Fields.names ∙ ap FieldsOf
    (sym c.deref-in-Fields.ensures.value)) in
    ok_on c.match_fields.result c.match_fields.ensures.matches
    (λ matches. adds_as known c.args.position c.args.wanted (pattern_view c.args.pattern.now)
    (FieldsOf c.deref-in-Fields.result.now)
    (in_scope c.args.bound.now.items) (in_scope c.match_fields.new.bound.items) (here c.args.state.now)
    (here c.match_fields.new.state) is (matches known))

pub match_pattern-returns-in-Fields-clause-refuses : goal.match_pattern-returns-in-Fields-clause-refuses
match_pattern-returns-in-Fields-clause-refuses t c = λ b e.
    let known = known_view c.args.known.now in
    let is : pattern_view c.args.pattern.now ≡ FieldsOf c.deref-in-Fields.result.now =
    ap pattern_view c.in-Fields.is ∙ (fields_pattern c.in-Fields.names ∙ ap FieldsOf
    (sym c.deref-in-Fields.ensures.value)) in
    refuses_as known c.args.position c.args.wanted (pattern_view c.args.pattern.now)
    (FieldsOf c.deref-in-Fields.result.now) (bad_view b)
    (here c.args.state.now) (here c.match_fields.new.state) is (c.match_fields.ensures.refuses b e known)

-- ---- `p as x`, and where a pattern begins

pub match_pattern-match_pattern-requires : goal.match_pattern-match_pattern-requires
match_pattern-match_pattern-requires t c =
    let is : pattern_view c.args.pattern.now ≡ As (pattern_view c.in-As.inner.value) c.in-As.name =
    ap pattern_view c.in-As.is ∙ as_pattern c.in-As.inner c.in-As.name in (
      first_of (
        search rules,
        omega (arith, c.decreases),
        search (rules, the_lemmas, c.decreases),
        grind
            (arith, common_steps, c.decreases),
      ),
      (
        c.requires.whole,
        (
          c.requires.known,
          (
            c.requires.wanted,
            subst (λ q. FieldsOnce (pattern_view q)) (sym c.deref.ensures)
                (subst FieldsOnce is c.requires.once),
          ),
        ),
      ),
    )

pub match_pattern-returns-in-Err-clause-refuses : goal.match_pattern-returns-in-Err-clause-refuses
match_pattern-returns-in-Err-clause-refuses t c = λ b e.
    let known = known_view c.args.known.now in
    let inner = pattern_view c.deref.result.now in
    let is : pattern_view c.args.pattern.now ≡ As inner c.in-As.name =
    ap pattern_view c.in-As.is
    ∙ (as_pattern c.in-As.inner c.in-As.name ∙ ap (λ q. As (pattern_view q) c.in-As.name) (sym c.deref.ensures)) in
    refuses_as known c.args.position c.args.wanted (pattern_view c.args.pattern.now) (As inner c.in-As.name)
    (bad_view b) (here c.args.state.now)
    (here c.match_pattern.new.state) is
    (as_refused known c.args.position c.args.wanted inner c.in-As.name (bad_view b) (here c.args.state.now)
    (here c.match_pattern.new.state)
    (c.match_pattern.ensures.refuses b (c.in-Err.is ∙ e)))

pub match_pattern-returns-in_ok-bind-in-As-clause-matches : goal.match_pattern-returns-in_ok-bind-in-As-clause-matches
match_pattern-returns-in_ok-bind-in-As-clause-matches t c =
    let known = known_view c.args.known.now in
    let inner = pattern_view c.deref.result.now in
    let is : pattern_view c.args.pattern.now ≡ As inner c.in-As.name =
    ap pattern_view c.in-As.is
    ∙ (as_pattern c.in-As.inner c.in-As.name ∙ ap (λ q. As (pattern_view q) c.in-As.name) (sym c.deref.ensures)) in
    adds_as known c.args.position c.args.wanted (pattern_view c.args.pattern.now) (As inner c.in-As.name)
    (in_scope c.args.bound.now.items)
    (in_scope c.bind-in-As.new.bound.items) (here c.args.state.now) (here c.match_pattern.new.state) is
    (adds_also known c.args.position c.args.wanted inner c.in-As.name (in_scope c.args.bound.now.items)
    (in_scope c.match_pattern.new.bound.items)
    (in_scope c.bind-in-As.new.bound.items) (here c.args.state.now) (here c.match_pattern.new.state) c.requires.wanted
    c.in-Ok.ensures.matches
    c.in_ok-bind-in-As.ensures)

pub match_pattern-match_pattern-requires-in-Located : goal.match_pattern-match_pattern-requires-in-Located
match_pattern-match_pattern-requires-in-Located t c =
    let is : pattern_view c.args.pattern.now ≡ LocatedPattern c.in-Located.place (pattern_view c.in-Located.inner.value)
    =
    ap pattern_view c.in-Located.is ∙ located_pattern c.in-Located.place c.in-Located.inner in (
      first_of (
        search rules,
        omega (arith, c.decreases),
        search (rules, the_lemmas, c.decreases),
        grind
            (arith, common_steps, c.decreases),
      ),
      (
        c.requires.whole,
        (
          c.requires.known,
          (
            c.requires.wanted,
            subst (λ q. FieldsOnce (pattern_view q)) (sym c.deref-in-Located.ensures)
                (subst FieldsOnce is c.requires.once),
          ),
        ),
      ),
    )

pub match_pattern-returns-in-Located-clause-matches : goal.match_pattern-returns-in-Located-clause-matches
match_pattern-returns-in-Located-clause-matches t c =
    let known = known_view c.args.known.now in
    let inner = pattern_view c.deref-in-Located.result.now in
    let before = in_scope c.args.bound.now.items in
    let after = in_scope c.match_pattern-in-Located.new.bound.items in
    let is : pattern_view c.args.pattern.now ≡ LocatedPattern c.in-Located.place inner =
    ap pattern_view c.in-Located.is
    ∙ (located_pattern c.in-Located.place c.in-Located.inner
    ∙ ap (λ q. LocatedPattern c.in-Located.place (pattern_view q)) (sym c.deref-in-Located.ensures)) in
    ok_on c.match_pattern-in-Located.result c.match_pattern-in-Located.ensures.matches
    (λ matches. adds_as known c.args.position c.args.wanted (pattern_view c.args.pattern.now)
    (LocatedPattern c.in-Located.place inner) before after
    (here c.args.state.now) (here c.match_pattern-in-Located.new.state) is
    (adds_located known c.args.position c.args.wanted c.in-Located.place inner before after (here c.args.state.now)
    (here c.match_pattern-in-Located.new.state) matches))

pub match_pattern-returns-in-Located-clause-refuses : goal.match_pattern-returns-in-Located-clause-refuses
match_pattern-returns-in-Located-clause-refuses t c = λ b e.
    let known = known_view c.args.known.now in
    let inner = pattern_view c.deref-in-Located.result.now in
    let is : pattern_view c.args.pattern.now ≡ LocatedPattern c.in-Located.place inner =
    ap pattern_view c.in-Located.is
    ∙ (located_pattern c.in-Located.place c.in-Located.inner
    ∙ ap (λ q. LocatedPattern c.in-Located.place (pattern_view q)) (sym c.deref-in-Located.ensures)) in
    refuses_as known c.args.position c.args.wanted (pattern_view c.args.pattern.now)
    (LocatedPattern c.in-Located.place inner) (bad_view b)
    (here c.args.state.now) (here c.match_pattern-in-Located.new.state) is
    (located_refused known c.args.position c.in-Located.place c.args.wanted inner (bad_view b) (here c.args.state.now)
    (here c.match_pattern-in-Located.new.state) (c.match_pattern-in-Located.ensures.refuses b e))

-- ---- constructors

pub match_pattern-match_each-requires : goal.match_pattern-match_each-requires
match_pattern-match_each-requires t c =
    let mid = here c.begin_constructor.new.state in
    let begun = c.in-Ok-begin_constructor.ensures.begins in
    let is : pattern_view c.args.pattern.now ≡ Construct c.in-Construct.union c.in-Construct.alternative
    (patterns_view c.in-Construct.parts.items) =
    ap pattern_view c.in-Construct.is ∙ construct_pattern c.in-Construct.union c.in-Construct.alternative
    c.in-Construct.parts in (
      first_of (
        search rules,
        omega (arith, c.decreases),
        search (rules, the_lemmas, c.decreases),
        grind
            (arith, common_steps, c.decreases),
      ),
      (
        begun.follows.whole,
        (
          c.requires.known,
          (
            subst (λ vs. AllByRecursion (Live mid.depth mid.store) vs)
                (sym c.deref-in-Ok-begin_constructor-2.ensures.value) begun.live,
            subst (λ qs. EachFieldsOnce (patterns_view qs)) (sym c.deref-in-Ok-begin_constructor.ensures.value)
                (subst FieldsOnce is c.requires.once),
          ),
        ),
      ),
    )

pub match_pattern-returns-in-Ok-begin_constructor-clause-matches :
    goal.match_pattern-returns-in-Ok-begin_constructor-clause-matches
match_pattern-returns-in-Ok-begin_constructor-clause-matches t c =
    let known = known_view c.args.known.now in
    let before = in_scope c.args.bound.now.items in
    let after = in_scope c.match_each.new.bound.items in
    let ps = map pattern_view c.in-Construct.parts.items in
    let qs = map pattern_view c.deref-in-Ok-begin_constructor.result.now in
    let is : pattern_view c.args.pattern.now ≡ Construct c.in-Construct.union c.in-Construct.alternative
    (patterns_of ps) =
    ap pattern_view c.in-Construct.is ∙ construct_pattern c.in-Construct.union c.in-Construct.alternative
    c.in-Construct.parts in
    ok_on c.match_each.result c.match_each.ensures.matches
    (λ matches. adds_as known c.args.position c.args.wanted (pattern_view c.args.pattern.now)
    (Construct c.in-Construct.union c.in-Construct.alternative (patterns_of ps)) before after (here c.args.state.now)
    (here c.match_each.new.state) is
    (adds_constructor known c.args.position c.args.wanted c.in-Construct.union c.in-Construct.alternative ps qs
    c.in-Ok-begin_constructor.fields.items
    c.deref-in-Ok-begin_constructor-2.result.now (here c.args.state.now) (here c.begin_constructor.new.state)
    (here c.match_each.new.state)
    c.in-Ok-begin_constructor.ensures.begins c.deref-in-Ok-begin_constructor-2.ensures.value
    (ap (map pattern_view) c.deref-in-Ok-begin_constructor.ensures.value) before after matches))

pub match_pattern-returns-in-Ok-begin_constructor-clause-refuses :
    goal.match_pattern-returns-in-Ok-begin_constructor-clause-refuses
match_pattern-returns-in-Ok-begin_constructor-clause-refuses t c = λ b e.
    let known = known_view c.args.known.now in
    let ps = map pattern_view c.in-Construct.parts.items in
    let qs = map pattern_view c.deref-in-Ok-begin_constructor.result.now in
    let is : pattern_view c.args.pattern.now ≡ Construct c.in-Construct.union c.in-Construct.alternative
    (patterns_of ps) =
    ap pattern_view c.in-Construct.is ∙ construct_pattern c.in-Construct.union c.in-Construct.alternative
    c.in-Construct.parts in
    refuses_as known c.args.position c.args.wanted (pattern_view c.args.pattern.now)
    (Construct c.in-Construct.union c.in-Construct.alternative (patterns_of ps)) (bad_view b) (here c.args.state.now)
    (here c.match_each.new.state) is
    (refuses_parts known c.args.position c.args.wanted c.in-Construct.union c.in-Construct.alternative ps qs
    c.in-Ok-begin_constructor.fields.items
    c.deref-in-Ok-begin_constructor-2.result.now (here c.args.state.now) (here c.begin_constructor.new.state)
    (here c.match_each.new.state)
    c.in-Ok-begin_constructor.ensures.begins c.deref-in-Ok-begin_constructor-2.ensures.value
    (ap (map pattern_view) c.deref-in-Ok-begin_constructor.ensures.value) (bad_view b)
    (c.match_each.ensures.refuses b e))

pub match_pattern-returns-in-Err-begin_constructor-clause-refuses :
    goal.match_pattern-returns-in-Err-begin_constructor-clause-refuses
match_pattern-returns-in-Err-begin_constructor-clause-refuses t c = λ b e.
    let known = known_view c.args.known.now in
    let ps = map pattern_view c.in-Construct.parts.items in
    let is : pattern_view c.args.pattern.now ≡ Construct c.in-Construct.union c.in-Construct.alternative
    (patterns_of ps) =
    ap pattern_view c.in-Construct.is ∙ construct_pattern c.in-Construct.union c.in-Construct.alternative
    c.in-Construct.parts in
    refuses_as known c.args.position c.args.wanted (pattern_view c.args.pattern.now)
    (Construct c.in-Construct.union c.in-Construct.alternative (patterns_of ps)) (bad_view b) (here c.args.state.now)
    (here c.begin_constructor.new.state)
    is (c.begin_constructor.ensures.refuses b
    (c.in-Err-begin_constructor.is ∙ err_again c.in-Err-begin_constructor.error (error.Bad b) e) ps)

-- ---- tuples

pub match_pattern-match_each-requires-in-Ok-begin_tuple : goal.match_pattern-match_each-requires-in-Ok-begin_tuple
match_pattern-match_each-requires-in-Ok-begin_tuple t c =
    let mid = here c.begin_tuple.new.state in
    let ps = map pattern_view c.in-Tuple.parts.items in
    let begun = c.in-Ok-begin_tuple.ensures.begins (known_view c.args.known.now) (tuple_alternative (length ps)) in
    let is : pattern_view c.args.pattern.now ≡ tuple_pattern ps = ap pattern_view c.in-Tuple.is ∙ pattern_of_tuple
    c.in-Tuple.parts in (
      first_of (
        search rules,
        omega (arith, c.decreases),
        search (rules, the_lemmas, c.decreases),
        grind
            (arith, common_steps, c.decreases),
      ),
      (
        begun.follows.whole,
        (
          c.requires.known,
          (
            subst (λ vs. AllByRecursion (Live mid.depth mid.store) vs) (sym c.deref-in-Ok-begin_tuple-2.ensures.value)
                begun.live,
            subst (λ qs. EachFieldsOnce (patterns_view qs)) (sym c.deref-in-Ok-begin_tuple.ensures.value)
                (subst FieldsOnce is c.requires.once),
          ),
        ),
      ),
    )

pub match_pattern-returns-in-Ok-begin_tuple-clause-matches : goal.match_pattern-returns-in-Ok-begin_tuple-clause-matches
match_pattern-returns-in-Ok-begin_tuple-clause-matches t c =
    let known = known_view c.args.known.now in
    let before = in_scope c.args.bound.now.items in
    let after = in_scope c.match_each-in-Ok-begin_tuple.new.bound.items in
    let ps = map pattern_view c.in-Tuple.parts.items in
    let qs = map pattern_view c.deref-in-Ok-begin_tuple.result.now in
    let many : length c.in-Tuple.parts.items ≡ length ps = sym (length-map c.in-Tuple.parts.items pattern_view) in
    let count : c.len.result ≡ length ps = omega (arith, c.len.ensures, c.in-Tuple.parts.ok.0, many) in
    let begun = subst (λ n. Begins known c.args.position c.args.wanted (TupleUnion n) (tuple_alternative (length ps))
    c.in-Ok-begin_tuple.fields.items
    (here c.args.state.now) (here c.begin_tuple.new.state))
    count (c.in-Ok-begin_tuple.ensures.begins known (tuple_alternative (length ps))) in
    let is : pattern_view c.args.pattern.now ≡ tuple_pattern ps = ap pattern_view c.in-Tuple.is ∙ pattern_of_tuple
    c.in-Tuple.parts in
    ok_on c.match_each-in-Ok-begin_tuple.result c.match_each-in-Ok-begin_tuple.ensures.matches
    (λ matches. adds_as known c.args.position c.args.wanted (pattern_view c.args.pattern.now) (tuple_pattern ps) before
    after (here c.args.state.now)
    (here c.match_each-in-Ok-begin_tuple.new.state) is
    (adds_constructor known c.args.position c.args.wanted (TupleUnion (length ps)) (tuple_alternative (length ps)) ps qs
    c.in-Ok-begin_tuple.fields.items
    c.deref-in-Ok-begin_tuple-2.result.now (here c.args.state.now) (here c.begin_tuple.new.state)
    (here c.match_each-in-Ok-begin_tuple.new.state) begun
    c.deref-in-Ok-begin_tuple-2.ensures.value (ap (map pattern_view) c.deref-in-Ok-begin_tuple.ensures.value) before
    after matches))

pub match_pattern-returns-in-Ok-begin_tuple-clause-refuses : goal.match_pattern-returns-in-Ok-begin_tuple-clause-refuses
match_pattern-returns-in-Ok-begin_tuple-clause-refuses t c = λ b e.
    let known = known_view c.args.known.now in
    let ps = map pattern_view c.in-Tuple.parts.items in
    let qs = map pattern_view c.deref-in-Ok-begin_tuple.result.now in
    let many : length c.in-Tuple.parts.items ≡ length ps = sym (length-map c.in-Tuple.parts.items pattern_view) in
    let count : c.len.result ≡ length ps = omega (arith, c.len.ensures, c.in-Tuple.parts.ok.0, many) in
    let begun = subst (λ n. Begins known c.args.position c.args.wanted (TupleUnion n) (tuple_alternative (length ps))
    c.in-Ok-begin_tuple.fields.items
    (here c.args.state.now) (here c.begin_tuple.new.state))
    count (c.in-Ok-begin_tuple.ensures.begins known (tuple_alternative (length ps))) in
    let is : pattern_view c.args.pattern.now ≡ tuple_pattern ps = ap pattern_view c.in-Tuple.is ∙ pattern_of_tuple
    c.in-Tuple.parts in
    refuses_as known c.args.position c.args.wanted (pattern_view c.args.pattern.now) (tuple_pattern ps) (bad_view b)
    (here c.args.state.now)
    (here c.match_each-in-Ok-begin_tuple.new.state) is
    (refuses_parts known c.args.position c.args.wanted (TupleUnion (length ps)) (tuple_alternative (length ps)) ps qs
    c.in-Ok-begin_tuple.fields.items
    c.deref-in-Ok-begin_tuple-2.result.now (here c.args.state.now) (here c.begin_tuple.new.state)
    (here c.match_each-in-Ok-begin_tuple.new.state) begun
    c.deref-in-Ok-begin_tuple-2.ensures.value (ap (map pattern_view) c.deref-in-Ok-begin_tuple.ensures.value)
    (bad_view b)
    (c.match_each-in-Ok-begin_tuple.ensures.refuses b e))

pub match_pattern-returns-in-Err-begin_tuple-clause-refuses :
    goal.match_pattern-returns-in-Err-begin_tuple-clause-refuses
match_pattern-returns-in-Err-begin_tuple-clause-refuses t c = λ b e.
    let known = known_view c.args.known.now in
    let ps = map pattern_view c.in-Tuple.parts.items in
    let many : length c.in-Tuple.parts.items ≡ length ps = sym (length-map c.in-Tuple.parts.items pattern_view) in
    let count : c.len.result ≡ length ps = omega (arith, c.len.ensures, c.in-Tuple.parts.ok.0, many) in
    let is : pattern_view c.args.pattern.now ≡ tuple_pattern ps = ap pattern_view c.in-Tuple.is ∙ pattern_of_tuple
    c.in-Tuple.parts in
    refuses_as known c.args.position c.args.wanted (pattern_view c.args.pattern.now) (tuple_pattern ps) (bad_view b)
    (here c.args.state.now)
    (here c.begin_tuple.new.state) is
    (subst (λ n. RefusesPattern known c.args.position c.args.wanted
    (Construct (TupleUnion n) (tuple_alternative (length ps)) (patterns_of ps)) (bad_view b)
    (here c.args.state.now) (here c.begin_tuple.new.state))
    count
    (c.begin_tuple.ensures.refuses b (c.in-Err-begin_tuple.is ∙ err_again c.in-Err-begin_tuple.error (error.Bad b) e)
    known (tuple_alternative (length ps)) ps))

-- ---- lists

pub match_pattern-match_items-requires : goal.match_pattern-match_items-requires
match_pattern-match_items-requires t c =
    let ps = map pattern_view c.in-List.items.items in
    let is : pattern_view c.args.pattern.now ≡ items_before nil_pattern ps = ap pattern_view c.in-List.is ∙ list_pattern
    c.in-List.items in (
      first_of (
        search rules,
        omega (arith, c.decreases),
        search (rules, the_lemmas, c.decreases),
        grind
            (arith, common_steps, c.decreases),
      ),
      (
        c.requires.whole,
        (
          c.requires.known,
          (
            c.requires.wanted,
            subst (λ qs. AllByRecursion FieldsOnce (map pattern_view qs)) (sym c.deref-in-List.ensures.value)
                (items_once nil_pattern ps (subst FieldsOnce is c.requires.once)),
          ),
        ),
      ),
    )

pub match_pattern-returns-in-Ok-match_items-clause-matches : goal.match_pattern-returns-in-Ok-match_items-clause-matches
match_pattern-returns-in-Ok-match_items-clause-matches t c =
    let known = known_view c.args.known.now in
    let before = in_scope c.args.bound.now.items in
    let after = in_scope c.match_items.new.bound.items in
    let qs = map pattern_view c.deref-in-List.result.now in
    let is : pattern_view c.args.pattern.now ≡ items_before nil_pattern qs =
    ap pattern_view c.in-List.is
    ∙ (list_pattern c.in-List.items ∙ ap (λ zs. items_before nil_pattern (map pattern_view zs))
    (sym c.deref-in-List.ensures.value)) in
    ok_on c.match_nil.result c.match_nil.ensures.matches
    (λ matches. adds_as known c.args.position c.args.wanted (pattern_view c.args.pattern.now)
    (items_before nil_pattern qs) before after
    (here c.args.state.now) (here c.match_nil.new.state) is
    (list_matched known c.args.position c.args.wanted c.in-Ok-match_items.list qs before after (here c.args.state.now)
    (here c.match_items.new.state)
    c.in-Ok-match_items.ensures.leads nil_pattern after (here c.match_nil.new.state) (adds_none after (matches known))))

pub match_pattern-returns-in-Ok-match_items-clause-refuses : goal.match_pattern-returns-in-Ok-match_items-clause-refuses
match_pattern-returns-in-Ok-match_items-clause-refuses t c = λ b e.
    let known = known_view c.args.known.now in
    let before = in_scope c.args.bound.now.items in
    let after = in_scope c.match_items.new.bound.items in
    let qs = map pattern_view c.deref-in-List.result.now in
    let is : pattern_view c.args.pattern.now ≡ items_before nil_pattern qs =
    ap pattern_view c.in-List.is
    ∙ (list_pattern c.in-List.items ∙ ap (λ zs. items_before nil_pattern (map pattern_view zs))
    (sym c.deref-in-List.ensures.value)) in
    refuses_as known c.args.position c.args.wanted (pattern_view c.args.pattern.now) (items_before nil_pattern qs)
    (bad_view b) (here c.args.state.now)
    (here c.match_nil.new.state) is
    (rest_refused known c.args.position c.args.wanted c.in-Ok-match_items.list qs before after (here c.args.state.now)
    (here c.match_items.new.state)
    c.in-Ok-match_items.ensures.leads nil_pattern (bad_view b) (here c.match_nil.new.state)
    (c.match_nil.ensures.refuses b e known))

pub match_pattern-returns-in-Err-match_items-clause-refuses :
    goal.match_pattern-returns-in-Err-match_items-clause-refuses
match_pattern-returns-in-Err-match_items-clause-refuses t c = λ b e.
    let known = known_view c.args.known.now in
    let qs = map pattern_view c.deref-in-List.result.now in
    let is : pattern_view c.args.pattern.now ≡ items_before nil_pattern qs =
    ap pattern_view c.in-List.is
    ∙ (list_pattern c.in-List.items ∙ ap (λ zs. items_before nil_pattern (map pattern_view zs))
    (sym c.deref-in-List.ensures.value)) in
    refuses_as known c.args.position c.args.wanted (pattern_view c.args.pattern.now) (items_before nil_pattern qs)
    (bad_view b) (here c.args.state.now)
    (here c.match_items.new.state) is
    (c.match_items.ensures.refuses b (c.in-Err-match_items.is ∙ err_again c.in-Err-match_items.error (error.Bad b) e)
    nil_pattern)

pub match_pattern-match_items-requires-in-Items : goal.match_pattern-match_items-requires-in-Items
match_pattern-match_items-requires-in-Items t c =
    let ps = map pattern_view c.in-Items.items.items in
    let rest = pattern_view c.in-Items.rest.value in
    let is : pattern_view c.args.pattern.now ≡ items_before rest ps = ap pattern_view c.in-Items.is ∙ items_pattern
    c.in-Items.items c.in-Items.rest in (
      first_of (
        search rules,
        omega (arith, c.decreases),
        search (rules, the_lemmas, c.decreases),
        grind
            (arith, common_steps, c.decreases),
      ),
      (
        c.requires.whole,
        (
          c.requires.known,
          (
            c.requires.wanted,
            subst (λ qs. AllByRecursion FieldsOnce (map pattern_view qs)) (sym c.deref-in-Items.ensures.value)
                (items_once rest ps (subst FieldsOnce is c.requires.once)),
          ),
        ),
      ),
    )

pub match_pattern-match_pattern-requires-in-Ok-match_items-2 :
    goal.match_pattern-match_pattern-requires-in-Ok-match_items-2
match_pattern-match_pattern-requires-in-Ok-match_items-2 t c =
    let ps = map pattern_view c.in-Items.items.items in
    let rest = pattern_view c.in-Items.rest.value in
    let lead = c.in-Ok-match_items-2.ensures.leads in
    let is : pattern_view c.args.pattern.now ≡ items_before rest ps = ap pattern_view c.in-Items.is ∙ items_pattern
    c.in-Items.items c.in-Items.rest in (
      first_of (
        search rules,
        omega (arith, c.decreases),
        search (rules, the_lemmas, c.decreases),
        grind
            (arith, common_steps, c.decreases),
      ),
      (
        lead.so.follows.whole,
        (
          c.requires.known,
          (
            lead.so.list_live,
            subst (λ q. FieldsOnce (pattern_view q)) (sym c.deref-in-Ok-match_items-2.ensures)
                (rest_once rest ps (subst FieldsOnce is c.requires.once)),
          ),
        ),
      ),
    )

pub match_pattern-returns-in-Ok-match_items-2-clause-matches :
    goal.match_pattern-returns-in-Ok-match_items-2-clause-matches
match_pattern-returns-in-Ok-match_items-2-clause-matches t c =
    let known = known_view c.args.known.now in
    let before = in_scope c.args.bound.now.items in
    let after = in_scope c.match_items-in-Items.new.bound.items in
    let last = in_scope c.match_pattern-in-Ok-match_items-2.new.bound.items in
    let qs = map pattern_view c.deref-in-Items.result.now in
    let rest = pattern_view c.deref-in-Ok-match_items-2.result.now in
    let is : pattern_view c.args.pattern.now ≡ items_before rest qs =
    ap pattern_view c.in-Items.is
    ∙ (items_pattern c.in-Items.items c.in-Items.rest
    ∙ (ap (λ zs. items_before (pattern_view c.in-Items.rest.value) (map pattern_view zs))
    (sym c.deref-in-Items.ensures.value)
    ∙ ap (λ q. items_before (pattern_view q) qs) (sym c.deref-in-Ok-match_items-2.ensures))) in
    ok_on c.match_pattern-in-Ok-match_items-2.result c.match_pattern-in-Ok-match_items-2.ensures.matches
    (λ matches. adds_as known c.args.position c.args.wanted (pattern_view c.args.pattern.now) (items_before rest qs)
    before last
    (here c.args.state.now) (here c.match_pattern-in-Ok-match_items-2.new.state) is
    (list_matched known c.args.position c.args.wanted c.in-Ok-match_items-2.list qs before after (here c.args.state.now)
    (here c.match_items-in-Items.new.state) c.in-Ok-match_items-2.ensures.leads rest last
    (here c.match_pattern-in-Ok-match_items-2.new.state) matches))

pub match_pattern-returns-in-Ok-match_items-2-clause-refuses :
    goal.match_pattern-returns-in-Ok-match_items-2-clause-refuses
match_pattern-returns-in-Ok-match_items-2-clause-refuses t c = λ b e.
    let known = known_view c.args.known.now in
    let before = in_scope c.args.bound.now.items in
    let after = in_scope c.match_items-in-Items.new.bound.items in
    let qs = map pattern_view c.deref-in-Items.result.now in
    let rest = pattern_view c.deref-in-Ok-match_items-2.result.now in
    let is : pattern_view c.args.pattern.now ≡ items_before rest qs =
    ap pattern_view c.in-Items.is
    ∙ (items_pattern c.in-Items.items c.in-Items.rest
    ∙ (ap (λ zs. items_before (pattern_view c.in-Items.rest.value) (map pattern_view zs))
    (sym c.deref-in-Items.ensures.value)
    ∙ ap (λ q. items_before (pattern_view q) qs) (sym c.deref-in-Ok-match_items-2.ensures))) in
    refuses_as known c.args.position c.args.wanted (pattern_view c.args.pattern.now) (items_before rest qs) (bad_view b)
    (here c.args.state.now)
    (here c.match_pattern-in-Ok-match_items-2.new.state) is
    (rest_refused known c.args.position c.args.wanted c.in-Ok-match_items-2.list qs before after (here c.args.state.now)
    (here c.match_items-in-Items.new.state) c.in-Ok-match_items-2.ensures.leads rest (bad_view b)
    (here c.match_pattern-in-Ok-match_items-2.new.state)
    (c.match_pattern-in-Ok-match_items-2.ensures.refuses b e))

pub match_pattern-returns-in-Err-match_items-2-clause-refuses :
    goal.match_pattern-returns-in-Err-match_items-2-clause-refuses
match_pattern-returns-in-Err-match_items-2-clause-refuses t c = λ b e.
    let known = known_view c.args.known.now in
    let qs = map pattern_view c.deref-in-Items.result.now in
    let rest = pattern_view c.in-Items.rest.value in
    let is : pattern_view c.args.pattern.now ≡ items_before rest qs =
    ap pattern_view c.in-Items.is
    ∙ (items_pattern c.in-Items.items c.in-Items.rest ∙ ap (λ zs. items_before rest (map pattern_view zs))
    (sym c.deref-in-Items.ensures.value)) in
    refuses_as known c.args.position c.args.wanted (pattern_view c.args.pattern.now) (items_before rest qs) (bad_view b)
    (here c.args.state.now)
    (here c.match_items-in-Items.new.state) is
    (c.match_items-in-Items.ensures.refuses b
    (c.in-Err-match_items-2.is ∙ err_again c.in-Err-match_items-2.error (error.Bad b) e) rest)
