-- Inside a definition its annotation is asked, and its body walked.
use Rattle.std.proofs.Common.{◌≡◌, ℕ, ◌++◌, List, Bool, true, refl, sym, ap, ◌∙◌, subst, arith}
use Rattle.elm_canon.specs.Tree.{Annotation}
use Rattle.type_items.specs.Items.{Place, child, Wanted, Item}
use Rattle.type_items.specs.Scopes.{Scope}
use Rattle.type_items.specs.Annotations.{fixed_variable, fixed_type, annotation_items}
use Rattle.type_items.specs.Definitions.{Definition}
use Rattle.type_store.specs.Laws.{EachChoiceFits}
use Rattle.type_walks.specs.Regions.{none, below, either}
use Rattle.type_walks.proofs.Regions.{none_apart, none_inside, either_inside}
use Rattle.type_walks.proofs.Walking.{goes_on, widens}
use Rattle.type_walks.specs.Links.{Links, AreLive}
use Rattle.type_walks.specs.Walks.{Around}
use Rattle.type_walks.specs.TypeCopiesLaws.{SaysLater, SaysWithMore}
use Rattle.type_schemes.specs.Constants.{Own, own_links, within}
use Rattle.type_constructs.specs.Stepping.{Step}
use Rattle.type_constructs.specs.Passing.{Passes}
use Rattle.type_constructs.proofs.Passing.{passes_on}
use Rattle.type_constructs.proofs.Failing.{fails_after}
use Rattle.type_constructs.specs.Failing.{Bad, Fails}
use Rattle.type_constructs.specs.TypeAnnotationsLaws.{DefinitionStops}
use Rattle.type_constructs.specs.TypeDefinitionsAnnotated.{inner_scope, body_items}
use Rattle.infer_steps.specs.Codes.{Code, State}
use Rattle.infer_steps.specs.Ready.{Follows}
use Rattle.infer_steps.specs.Means.{Setting}
use Rattle.infer_steps.specs.Promises.{Walked, Stopped}
use Rattle.infer_steps.proofs.Staying.{follows_on, setting_later, setting_links, setting_child}
use Rattle.infer_groups.specs.Defined.{DefinitionsStop, group_places, at_child, moved}
use Rattle.infer_groups.specs.Members.{at_number}
use Rattle.infer_groups.specs.Annotated.{its_own, inside_of, listed_annotated, ConstantsOpen, AskedAt}
use Rattle.infer_groups.specs.Annotated.{AnnotationAsked, AnnotatedDone}
use Rattle.infer_groups.proofs.Opening.{constants_ready, constants_mean}
use Rattle.infer_groups.proofs.InferAnnotatedClosing.{enters_at}

module _ (choice_fits : EachChoiceFits) (says_later : SaysLater) (says_with_more : SaysWithMore)
    (code : Code) (d : Definition) (annotation : Annotation) (i : ℕ) (vs : List ℕ) (v : ℕ) (old mid u : State)
    (open_ : ConstantsOpen code annotation i vs old mid)
    (asked : AnnotationAsked (inside_of code annotation (child old.place i) vs) d.place annotation v mid u) where
  abbrev p : Place
  p = child old.place i

  abbrev own : List Own
  own = its_own code annotation p vs

  abbrev inner : Code
  inner = inside_of code annotation p vs

  abbrev type : Scope → Place → Wanted
  type scope q = fixed_type (inner_scope annotation scope q).constants q annotation

  abbrev first : Scope → Place → List Item
  first scope q = annotation_items d.place annotation (fixed_variable (inner_scope annotation scope q).constants q)

  -- what is known before the body
  record BeforeBody (real : Bool) (a : Around) (links : Links) (scope : Scope) (q : Place) : Type 0 where
    before : Setting (within a own) (own_links q own ++ links) inner (inner_scope annotation scope q) mid
    at : AskedAt real (within a own) d.place annotation (inner_scope annotation scope q) q v mid.store
        (own_links q own ++ links) u.store
    setting : Setting (within a own) at.after inner (inner_scope annotation scope q) (at_child u 0)

  before_body : (real : Bool) (a : Around) (links : Links) (scope : Scope) (q : Place) → Setting a links code scope old
      → BeforeBody real a links scope q
  before_body real a links scope q set = record { before = set1; at = m; setting = set2 }
    where
      set1 : Setting (within a own) (own_links q own ++ links) inner (inner_scope annotation scope q) mid
      set1 = constants_mean choice_fits code annotation i vs old mid open_ says_with_more a links scope q set

      m : AskedAt real (within a own) d.place annotation (inner_scope annotation scope q) q v mid.store
          (own_links q own ++ links) u.store
      m = asked.each real (within a own) (own_links q own ++ links) (inner_scope annotation scope q) q set1

      set2 : Setting (within a own) m.after inner (inner_scope annotation scope q) (at_child u 0)
      set2 =
          setting_child (within a own) m.after inner (inner_scope annotation scope q) u 0
          (setting_links (within a own) (own_links q own ++ links) m.after inner (inner_scope annotation scope q) u
          m.tells (m.step.walk.live set1.live)
          (setting_later says_later (within a own) none (first scope q) mid u (own_links q own ++ links)
          (own_links q own ++ links) m.after inner
          (inner_scope annotation scope q) (constants_ready choice_fits code annotation i vs old mid open_)
          asked.follows m.step.walk set1))

  there : u.place ≡ p
  there = asked.follows.place ∙ open_.place

  pub body_done : (x : State) → Follows (at_child u 0) x → Walked inner v (λ s q w. d.list s q w) (at_child u 0) x
      → AnnotatedDone code d annotation i vs v old mid (moved x p)
  body_done x f walked = record {
    opening = open_;
    follows = follows_on mid u (moved x p) asked.follows on_from;
    live = record {
      inside = omega (arith, asked.live.inside, f.later.grows);
      depth = omega (arith, f.later.depth v asked.live.inside, asked.live.depth, f.depth);
    };
    each = λ real a links scope q here set. (
        let b = before_body real a links scope q set in
        let scope_in = inner_scope annotation scope q in
        let second : Step real (within a own) (below (child q 0)) (d.list scope_in (child q 0) (type scope q)) u.store
        b.at.after x.store b.at.after = record {
          walk = walked.walk (within a own) b.at.after scope_in (child q 0) (type scope q) b.setting b.at.has;
          passes = λ r.
              subst (λ z. Passes (within a own) u.store b.at.after (below z) (d.list scope_in z (type scope q)))
              (ap (λ z. child z 0) (there ∙ sym (here r)))
              (walked.passes (within a own) b.at.after scope_in (type scope q) b.setting b.at.has);
        } in
        record {
          after = b.at.after;
          step = two real a links scope q b.at.after x b.before.live b.at.step second;
          has = b.at.has;
        });
  }
    where
      on_from : Follows u (moved x p)
      on_from = record { place = sym there; depth = f.depth; whole = f.whole; later = f.later; back = f.back }

      two : (real : Bool) (a : Around) (links : Links) (scope : Scope) (q : Place) (after : Links) (x : State)
          → AreLive (within a own).depth mid.store (own_links q own ++ links)
          → Step real (within a own) none (first scope q) mid.store (own_links q own ++ links) u.store after
          → Step real (within a own) (below (child q 0))
          (d.list (inner_scope annotation scope q) (child q 0) (type scope q)) u.store after x.store after
          → Step real (within a own) (below (child q 0)) (body_items d annotation scope q) mid.store
          (own_links q own ++ links) x.store after
      two real a links scope q after x live one second =
          let R = below (child q 0) in
          let rest = d.list (inner_scope annotation scope q) (child q 0) (type scope q) in
          let before = own_links q own ++ links in
          record {
            walk =
                widens (within a own) (either none R) R (first scope q ++ rest) mid.store x.store before after
                (either_inside none R R (none_inside R) (record { each = λ r h. h }))
                (goes_on (within a own) none R (first scope q) rest mid.store u.store x.store before after after
                (none_apart R) live one.walk second.walk);
            passes = λ r.
                passes_on (within a own) none R R (first scope q) rest mid.store u.store before after (none_apart R)
                (none_inside R)
                (record { each = λ r h. h }) one.walk (one.passes r) (second.passes r);
          }

  -- where the body stops
  pub body_stops : DefinitionStops → (x : State) (bad : Bad) → Stopped inner v (λ s q w. d.list s q w)
      (at_child u 0) x bad
      → DefinitionsStop code (λ q. group_places (child q i)) (at_number i (listed_annotated d annotation)) old x bad
  body_stops law x bad stop = record {
    fails = λ a links scope set. (
        let b = before_body true a links scope p set in
        let scope_in = inner_scope annotation scope p in
        let R = below (child p 0) in
        let rest = d.list scope_in (child p 0) (type scope p) in
        let body : Fails (within a own) u.store b.at.after R rest bad x.store =
        subst (λ z. Fails (within a own) u.store b.at.after (below z) (d.list scope_in z (type scope p)) bad x.store)
        (ap (λ z. child z 0) there)
        (stop.fails (within a own) b.at.after scope_in (type scope p) b.setting b.at.has) in
        law a p d annotation scope own old.store mid.store x.store links bad
        (enters_at code annotation i vs old mid open_ a links scope set)
        (fails_after (within a own) none R R (first scope p) rest mid.store u.store x.store (own_links p own ++ links)
        b.at.after bad (none_apart R) (none_inside R)
        (record { each = λ r h. h }) b.at.step.walk (b.at.step.passes refl) body));
  }
