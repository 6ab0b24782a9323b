-- What clap makes of the words of a subcommand, by `specs/Given.antt`.
use Rattle.std.proofs.Common.{◌≡◌, ◌∙◌, ap₂, ◌&&◌, ◌||◌, ◌+◌, ℕ, Bool, true, false, refl, sym, ap, List, [], ◌∷◌, ◌++◌}
use Rattle.std.proofs.Common.{map, length, Option, Some, None, cond, true≢false}
use Rattle.std.specs.Prelude.{◌==◌, ◌⊎◌, IfSome, ⊤, is_some, option_and_then, option_map, slice_get, fold, find, min}
use Rattle.std.specs.Prelude.{codes, drop, encode_utf8}
use Rattle.std.specs.List.{after_first, before_first, list_any}
use Rattle.std.specs.Option.{option_map_or}
use Rattle.std.specs.Str.{bytes_eq, chars}
use Rattle.clap.specs.Lexer.{long_of, long_of_rest, short_of, short_of_rest, strip_byte, usize_max}
use Rattle.clap.specs.Walk.{Held, Row, Rule, Step, Waiting, Walk, idle, after_step, arg_by_id, arg_by_index}
use Rattle.clap.specs.Walk.{arg_by_long, arg_by_short, has_row, settled, walked, word_met, bundle, bundle_met}
use Rattle.clap.specs.Walk.{long_or_other, trailing, to_positional}
use Rattle.clap.specs.Walk as clap_walk
use Rattle.clap.specs.Simple.{Shape, new_shape}
use Rattle.clap.specs.Kinds.{Kinds, or_else}
use Rattle.clap.specs.Faults.{bundle_step_fault, long_fault, short_fault, positional_fault, stray_fault, use_fault}
use Rattle.clap.specs.Faults.{settle_fault, step_fault, turn_fault, walk_fault, flag_word_fault, flags_fault}
use Rattle.clap.specs.Faults.{bundle_fault}
use Rattle.clap.specs.declared.builder.ArgAction.TheVariants.{Set}
use Rattle.clap.specs.declared.builder.ValueParser.TheVariants as vp
use Rattle.clap.specs.declared.error.ErrorKind.TheVariants as kind
use Rattle.clap.specs.declared.parser.ValueSource.TheVariants.{CommandLine}
use Rattle.command_line.specs.Command.{Text}
use Rattle.command_line.specs.Given.{Form, Given, ending, option, short, plain, after_two_hyphens, form_of, give}
use Rattle.command_line.specs.Given.{given_by, is_given, has_name, place, places_only, read_form, read_value}
use Rattle.command_line.specs.Given.{use_option}

-- ---- the form of a word

abbrev short_or_plain : Option Text → Form
short_or_plain None = plain
short_or_plain (Some letters) = cond (is_some (slice_get (chars letters) 0)) short plain

abbrev option_or_other : Option (Text × Option Text) → Option Text → Form
option_or_other (Some p) letters = option p.0 p.1
option_or_other None letters = short_or_plain letters

-- the form, as clap finds it
abbrev found_form : Text → Form
found_form word = cond (bytes_eq word (45 ∷ 45 ∷ [])) ending (option_or_other (long_of word) (short_of word))

same_form : (word : Text) → form_of word ≡ found_form word
same_form [] = refl
same_form (x ∷ []) = go (x == 45)
  where
    go : (a : Bool) → cond a plain plain ≡ cond (a && false) ending (option_or_other (option_and_then long_of_rest (option_and_then (strip_byte 45) (cond a (Some []) None))) (option_and_then short_of_rest (cond a (Some []) None)))
    go true = refl
    go false = refl
same_form (x ∷ y ∷ rest) = go (x == 45)
  where
    two : (b : Bool) (rest : Text) → cond b (after_two_hyphens rest) (short_or_plain (Some (y ∷ rest)))
        ≡ cond (b && bytes_eq rest []) ending (option_or_other (option_and_then long_of_rest (cond b (Some rest) None)) (cond b None (Some (y ∷ rest))))
    two true [] = refl
    two true (z ∷ zs) = refl
    two false rest = refl

    go : (a : Bool) → cond a (cond (y == 45) (after_two_hyphens rest) (short_or_plain (Some (y ∷ rest)))) plain
        ≡ cond (a && ((y == 45) && bytes_eq rest [])) ending (option_or_other (option_and_then long_of_rest (option_and_then (strip_byte 45) (cond a (Some (y ∷ rest)) None))) (option_and_then short_of_rest (cond a (Some (y ∷ rest)) None)))
    go true = two (y == 45) rest
    go false = refl

-- ---- faults

abbrev pub unless : {X : Type 0} → Kinds → Option X → Option X
unless [] x = x
unless (k ∷ ks) x = None

pub unless_both : {X : Type 0} (a b : Kinds) (x : Option X) → unless (or_else a b) x ≡ unless a (unless b x)
unless_both [] b x = refl
unless_both (k ∷ ks) b x = refl

-- ---- rules

abbrev pub built_rule : Text → Option Text → Option ℕ → Bool → Rule
built_rule id long index required = record {
  id = id;
  long = long;
  aliases = [];
  short = None;
  short_aliases = [];
  index = index;
  action = Some Set;
  range = Some (record { start_inclusive = 1; end_inclusive = 1 });
  value_names = 0;
  defaults = [];
  missing = [];
  trailing_var_arg = false;
  parser = Some vp.String;
  ignore_case = false;
  required = required;
  is_simple = true;
  is_free = true;
}

-- an id of the command's, with its rule
pub record Known (c : List Rule) (id : Text) : Type 0 where
  pub long : Option Text
  pub index : Option ℕ
  pub required : Bool
  pub by_id : arg_by_id c id ≡ Some (built_rule id long index required)

pub record Option_of (c : List Rule) (name : Text) : Type 0 where
  pub required : Bool
  pub by_long : arg_by_long c name ≡ Some (built_rule name (Some name) None required)
  pub by_id : arg_by_id c name ≡ Some (built_rule name (Some name) None required)

-- the places left, from position k on
abbrev pub Places : List Rule → List Text → ℕ → Type 0
Places c [] k = arg_by_index c k ≡ None
Places c (p ∷ ps) k = (arg_by_index c k ≡ Some (built_rule p None (Some k) true))
    × (arg_by_id c p ≡ Some (built_rule p None (Some k) true)) × Places c ps (min (k + 1) usize_max)

pub record Plain (c : List Rule) (options : List Text) : Type 0 where
  pub has : (name : Text) → has_name options name ≡ true → Option_of c name
  pub lacks : (name : Text) → has_name options name ≡ false → arg_by_long c name ≡ None
  pub no_short : (x : ℕ) → arg_by_short c x ≡ None

-- ---- rows

abbrev pub row_for : Text × Text → Row
row_for e = record { id = e.0; values = e.1 ∷ []; count = None; source = Some CommandLine; reading = clap_walk.reading_by (built_rule e.0 None None true) }

pub rows_have : (id : Text) (g : Given) → has_row id (map row_for g) ≡ is_given id g
rows_have id [] = refl
rows_have id (e ∷ g) = ap (λ b. bytes_eq e.0 id || b) (rows_have id g)

-- rows that lack the id stay as they are without it, and a new row joins at the end
lacking : (id : Text) (g : Given) → is_given id g ≡ false → clap_walk.without id (map row_for g) ≡ map row_for g
lacking id [] e = refl
lacking id (x ∷ g) e = go (lacking id g) (bytes_eq x.0 id) e
  where
    go : (is_given id g ≡ false → clap_walk.without id (map row_for g) ≡ map row_for g) → (b : Bool) → (b || is_given id g) ≡ false
        → cond b ([] ++ map row_for g) (row_for x ∷ clap_walk.without id (map row_for g)) ≡ row_for x ∷ map row_for g
    go more true h = absurd (true≢false h)
    go more false h = ap (λ rs. row_for x ∷ rs) (more h)

joins : (id v : Text) (g : Given) → is_given id g ≡ false
    → clap_walk.with_values id (row_for (id, v)).reading CommandLine (v ∷ []) (map row_for g) ≡ map row_for (g ++ (id, v) ∷ [])
joins id v [] e = refl
joins id v (x ∷ g) e = go (joins id v g) (bytes_eq x.0 id) e
  where
    go : (is_given id g ≡ false → clap_walk.with_values id (row_for (id, v)).reading CommandLine (v ∷ []) (map row_for g) ≡ map row_for (g ++ (id, v) ∷ [])) → (b : Bool) → (b || is_given id g) ≡ false
        → cond b (clap_walk.more_values CommandLine (v ∷ []) (row_for x) ++ map row_for g)
        (row_for x ∷ clap_walk.with_values id (row_for (id, v)).reading CommandLine (v ∷ []) (map row_for g)) ≡ row_for x ∷ map row_for (g ++ (id, v) ∷ [])
    go more true h = absurd (true≢false h)
    go more false h = ap (λ rs. row_for x ∷ rs) (more h)

-- ---- a use that waits to be settled

abbrev pub pending_for : Option (Text × Text) → Option (Text × List Text)
pending_for None = None
pending_for (Some q) = Some (q.0, q.1 ∷ [])

abbrev pub held_for : Given → Option (Text × List Text) → Held
held_for g p = record { rows = map row_for g; pending = p; skip = 0 }

-- what is given once the use is settled
abbrev pub given_with : Option (Text × Text) → Given → Option Given
given_with None g = Some g
given_with (Some q) g = give q.0 q.1 g

abbrev pub KnownPending : List Rule → Option (Text × Text) → Type 0
KnownPending c None = ⊤
KnownPending c (Some q) = Known c q.0

-- what comes after a use, by clap and by the definition
pub uses : {X : Type 0} (id : Text) (long : Option Text) (index : Option ℕ) (required : Bool) (v : Text) (g : Given) (next : List Row → Option X)
    → unless (use_fault false (built_rule id long index required) (v ∷ []) (map row_for g)) (next (clap_walk.used (built_rule id long index required) (v ∷ []) (map row_for g)))
    ≡ option_and_then (λ h. next (map row_for h)) (give id v g)
uses id long index required v g next = go (is_given id g) refl
  where
    go : (b : Bool) → is_given id g ≡ b
        → unless (use_fault false (built_rule id long index required) (v ∷ []) (map row_for g)) (next (clap_walk.used (built_rule id long index required) (v ∷ []) (map row_for g)))
        ≡ option_and_then (λ h. next (map row_for h)) (give id v g)
    go true is = rw (rows_have id g, is) refl
    go false is = rw (rows_have id g, is, lacking id g is, joins id v g is) refl

-- what comes after a use that waited is settled
pub settles : {X : Type 0} (c : List Rule) (p : Option (Text × Text)) (g : Given) → KnownPending c p → (next : List Row → Option X)
    → unless (settle_fault c false (held_for g (pending_for p))) (next (settled c (held_for g (pending_for p))).rows)
    ≡ option_and_then (λ h. next (map row_for h)) (given_with p g)
settles c None g known next = refl
settles c (Some q) g known next = rw known.by_id (uses q.0 known.long known.index known.required q.1 g next)

-- ---- the walk

abbrev pub leaf_shape : Text → List Rule → Shape
leaf_shape name c = record (new_shape name) {
  rules = c;
  disable_help_flag = true;
  disable_help_subcommand = true;
  is_built = true;
}

-- the rows at the end of a walk that meets no fault
abbrev pub outcome : Shape → Walk → List Text → Option (List Row)
outcome s w words =
    let end = (fold (walked s.rules []) w words).held in
    unless (walk_fault s [] w words) (unless (settle_fault s.rules false end) (Some (settled s.rules end).rows))

abbrev pub after : Shape → Walk → Text → List Text → Kinds → Held × Step → Option (List Row)
after s w word rest faults met =
    unless (or_else faults (step_fault s w.position met.0 met.1)) (outcome s (after_step s.rules word w met.0 met.1) rest)

abbrev pub at_rows : List Row → Option (Text × List Text) → Waiting → ℕ → Bool → Walk
at_rows rows p waiting k is_trailing = record {
  held = record { rows = rows; pending = p; skip = 0 };
  waiting = waiting;
  position = k;
  is_trailing = is_trailing;
  stopped = None;
}

abbrev pub at : Given → Option (Text × List Text) → Waiting → ℕ → Bool → Walk
at g = at_rows (map row_for g)

pushes : {X Y Z : Type 0} (f : Y → Z) (F : X → Option Z) (G : X → Option Y) (o : Option X) → ((x : X) → F x ≡ option_map f (G x))
    → option_and_then F o ≡ option_map f (option_and_then G o)
pushes f F G None e = refl
pushes f F G (Some x) e = e x

none_after : {X Y : Type 0} (o : Option X) → option_and_then {T = X} {U = Y} (λ x. None) o ≡ None
none_after None = refl
none_after (Some x) = refl

some_is_none : {X : Type 0} (x : X) → Some x ≡ None → ⊥
some_is_none x e = true≢false (ap is_some e)

same_text : (t : Text) → bytes_eq t t ≡ true
same_text [] = refl
same_text (x ∷ xs) = rw (Rattle.std.proofs.lemmas.Bool.eq-eqb x x refl) (same_text xs)

and_false : (b : Bool) → (b && false) ≡ false
and_false true = refl
and_false false = refl

or_false : (b : Bool) → (b || false) ≡ b
or_false true = refl
or_false false = refl

abbrev all_rows : Given → List Row
all_rows = map row_for

module _ (name : Text) (c : List Rule) (options : List Text) (leaf : Plain c options) where
  abbrev s : Shape
  s = leaf_shape name c

  -- a word that goes to a place, where `tail` says what the words after it give
  abbrev value_step : Walk → Text → List Text → Option Rule → Option (List Row)
  value_step w word rest o = unless (option_map_or (λ a. positional_fault c false a w.held) o (stray_fault s)) (outcome s (to_positional c o word w w.held) rest)

  abbrev pending_step : Given → Option (Text × List Text) → Text → ℕ → Text → List Text → Bool → Bool → Option (List Row)
  pending_step g q n k word rest b t =
      unless (cond b [] (settle_fault c false (held_for g q)))
      (outcome s (record {
        held = clap_walk.pushed n word (cond b (held_for g q) (settled c (held_for g q)));
        waiting = idle;
        position = min (k + 1) usize_max;
        is_trailing = t;
        stopped = None;
      }) rest)

  to_place : (is_trailing : Bool) (waiting : Waiting) (word : Text) (rest : List Text) (next : List Text → Given → Option Given)
      → ((places : List Text) (k : ℕ) (g : Given) (p : Option (Text × Text)) → Places c places k → KnownPending c p
      → outcome s (at g (pending_for p) idle k is_trailing) rest ≡ option_map all_rows (option_and_then (next places) (given_with p g)))
      → (places : List Text) (k : ℕ) (g : Given) (p : Option (Text × Text)) → Places c places k → KnownPending c p
      → value_step (at g (pending_for p) waiting k is_trailing) word rest (arg_by_index c k)
      ≡ option_map all_rows (option_and_then (λ h. place word places h next) (given_with p g))
  to_place is_trailing waiting word rest next tail [] k g p none known =
      ap (value_step (at g (pending_for p) waiting k is_trailing) word rest) none ∙ sym (ap (option_map all_rows) (none_after (given_with p g)))
  to_place is_trailing waiting word rest next tail (n ∷ ps) k g p at_place known =
      let a = built_rule n None (Some k) true in
      ap (value_step (at g (pending_for p) waiting k is_trailing) word rest) at_place.0
      ∙ ap₂ (pending_step g (pending_for p) n k word rest) (and_false (clap_walk.is_pending a (pending_for p))) (or_false is_trailing)
      ∙ settles c p g known (λ rows. outcome s (at_rows rows (Some (n, word ∷ [])) idle (min (k + 1) usize_max) is_trailing) rest)
      ∙ pushes all_rows _ _ (given_with p g) (λ h. tail ps (min (k + 1) usize_max) h (Some (n, word)) at_place.2
      (record { long = None; index = Some k; required = true; by_id = at_place.1 }))

  outcome_step : (w : Walk) (word : Text) (rest : List Text) → outcome s w (word ∷ rest) ≡ unless (turn_fault s [] w word) (outcome s (walked c [] w word) rest)
  unfolding walk_fault
  outcome_step w word rest = unless_both (turn_fault s [] w word) _ _

  trailing_words : (words : List Text) (waiting : Waiting) (places : List Text) (k : ℕ) (g : Given) (p : Option (Text × Text)) → Places c places k → KnownPending c p
      → outcome s (at g (pending_for p) waiting k true) words ≡ option_map all_rows (option_and_then (places_only words places) (given_with p g))
  unfolding walk_fault walked
  trailing_words [] waiting places k g p at_place known =
      settles c p g known (λ rows. Some rows) ∙ pushes all_rows (λ h. Some (all_rows h)) (λ h. Some h) (given_with p g) (λ h. refl)
  trailing_words (word ∷ rest) waiting places k g p at_place known =
      outcome_step (at g (pending_for p) waiting k true) word rest
      ∙ to_place true waiting word rest (places_only rest) (trailing_words rest idle) places k g p at_place known

  -- an option that waits for its value when `--` comes gets none
  abbrev unfilled : Given → Text → Waiting → ℕ → Walk
  unfilled g n waiting k = at g (Some (n, [])) waiting k true

  no_value : (g : Given) (n : Text) → Option_of c n → settle_fault c false (held_for g (Some (n, []))) ≡ kind.InvalidValue ∷ []
  no_value g n of = rw of.by_id refl

  never_filled : (words : List Text) (waiting : Waiting) (places : List Text) (k : ℕ) (g : Given) (n : Text) → Places c places k → Option_of c n
      → outcome s (unfilled g n waiting k) words ≡ None
  unfolding walk_fault walked
  never_filled [] waiting places k g n at_place of = ap (λ f. unless f (Some (settled c (held_for g (Some (n, [])))).rows)) (no_value g n of)
  never_filled (word ∷ rest) waiting [] k g n none of =
      outcome_step (unfilled g n waiting k) word rest ∙ ap (value_step (unfilled g n waiting k) word rest) none
  never_filled (word ∷ rest) waiting (q ∷ ps) k g n at_place of =
      let a = built_rule q None (Some k) true in
      outcome_step (unfilled g n waiting k) word rest ∙ ap (value_step (unfilled g n waiting k) word rest) at_place.0
      ∙ ap (λ b. pending_step g (Some (n, [])) q k word rest b true) (and_false (clap_walk.is_pending a (Some (n, []))))
      ∙ ap (λ f. unless f (outcome s (record {
        held = clap_walk.pushed q word (settled c (held_for g (Some (n, []))));
        waiting = idle;
        position = min (k + 1) usize_max;
        is_trailing = true;
        stopped = None;
      }) rest)) (no_value g n of)

  -- ---- words before `--`

  abbrev Reads : List Text → Type 0
  Reads words = (places : List Text) (k : ℕ) (g : Given) (p : Option (Text × Text)) → Places c places k → KnownPending c p
      → outcome s (at g (pending_for p) idle k false) words ≡ option_map all_rows (option_and_then (given_by options words None places) (given_with p g))

  abbrev Waits : List Text → Type 0
  Waits words = (places : List Text) (k : ℕ) (g : Given) (n : Text) → Places c places k → Option_of c n
      → outcome s (at g (Some (n, [])) (clap_walk.option n) k false) words ≡ option_map all_rows (given_by options words (Some n) places g)

  abbrev step : Walk → Text → List Text → Kinds → Held × Step → Option (List Row)
  step w word rest faults met =
      unless (or_else faults (step_fault s w.position met.0 met.1)) (outcome s (after_step c word w met.0 met.1) rest)

  abbrev word_step : Walk → Text → List Text → Bool → Option (Text × Option Text) → Option (List Row)
  word_step w word rest b l = step w word rest (cond b [] (flag_word_fault c false l word w.held)) (cond b (w.held, trailing w.position) (long_or_other c w.waiting word l w.held))

  abbrev long_step : Walk → Text → List Text → Option Text → Option Rule → Option (List Row)
  long_step w word rest v o = step w word rest (long_fault c false o v w.held)
      (clap_walk.after_flag c w.waiting word (clap_walk.long_met c o v w.held).0 (clap_walk.long_met c o v w.held).1)

  abbrev short_step : Walk → Text → List Text → Option Text → Option (List Row)
  short_step w word rest sh = step w word rest (option_map_or (λ flags. bundle_fault c false flags w.held) sh [])
      (clap_walk.short_or_plain c w.waiting word sh w.held)

  abbrev flags_step : Walk → Text → List Text → Kinds → Held × clap_walk.Outcome → Option (List Row)
  flags_step w word rest faults met = step w word rest faults (clap_walk.after_flag c w.waiting word met.0 met.1)

  three : (a b : Kinds) (x : Option (List Row)) → unless (or_else (or_else a b) []) x ≡ unless a (unless b x)
  three [] [] x = refl
  three [] (f ∷ fs) x = refl
  three (f ∷ fs) b x = refl

  two : (a : Kinds) (x : Option (List Row)) → unless (or_else a []) x ≡ unless a x
  two [] x = refl
  two (f ∷ fs) x = refl

  pub no_letters : (flags : Text) (g : Given) (q : Option (Text × List Text)) → slice_get (chars flags) 0 ≡ None
      → (bundle_fault c false flags (held_for g q) ≡ []) × (bundle c flags (held_for g q) ≡ (held_for g q, clap_walk.plain))
  unfolding flags_fault bundle_met
  no_letters [] g q e = (refl, refl)
  no_letters (x ∷ xs) g q e = (rw e refl, rw e refl)

  pub letters : (flags : Text) (g : Given) (q : Option (Text × List Text)) (x : ℕ) → slice_get (chars flags) 0 ≡ Some x
      → bundle_fault c false flags (held_for g q) ≡ kind.UnknownArgument ∷ []
  unfolding flags_fault chars
  letters [] g q x e = absurd (some_is_none x (sym e))
  letters (y ∷ ys) g q x e = ap (λ o. bundle_step_fault c false o (y ∷ ys) 0 (held_for g q) (flags_fault c false (length ys))) e
      ∙ ap (λ o. short_fault c false o (drop (length (encode_utf8 x)) (y ∷ ys)) (held_for g q) (flags_fault c false (length ys) (drop (length (encode_utf8 x)) (y ∷ ys)) 0)) (leaf.no_short x)

  named : (word : Text) (rest : List Text) → Reads rest → Waits rest → (name : Text) (v : Option Text)
      → (places : List Text) (k : ℕ) (g : Given) (p : Option (Text × Text)) → Places c places k → KnownPending c p
      → long_step (at g (pending_for p) idle k false) word rest v (arg_by_long c name)
      ≡ option_map all_rows (option_and_then (λ h. read_form options (option name v) word places h (places_only rest) (given_by options rest)) (given_with p g))
  named word rest reads waits name v places k g p at_place known = go v (has_name options name) refl
    where
      go : (v : Option Text) (b : Bool) → has_name options name ≡ b → long_step (at g (pending_for p) idle k false) word rest v (arg_by_long c name)
          ≡ option_map all_rows (option_and_then (λ h. cond b (use_option name v places h (given_by options rest)) None) (given_with p g))
      go v false e = ap (long_step (at g (pending_for p) idle k false) word rest v) (leaf.lacks name e) ∙ sym (ap (option_map all_rows) (none_after (given_with p g)))
      go (Some t) true e =
          let of = leaf.has name e in
          let a = built_rule name (Some name) None of.required in
          ap (long_step (at g (pending_for p) idle k false) word rest (Some t)) of.by_long
          ∙ three (settle_fault c false (held_for g (pending_for p))) (use_fault false a (t ∷ []) (settled c (held_for g (pending_for p))).rows) _
          ∙ settles c p g known (λ rows. unless (use_fault false a (t ∷ []) rows) (outcome s (at_rows (clap_walk.used a (t ∷ []) rows) None idle k false) rest))
          ∙ pushes all_rows _ _ (given_with p g) (λ h. uses name (Some name) None of.required t h (λ rows. outcome s (at_rows rows None idle k false) rest)
          ∙ pushes all_rows _ _ (give name t h) (λ j. reads places k j None at_place tt))
      go None true e =
          let of = leaf.has name e in
          ap (long_step (at g (pending_for p) idle k false) word rest None) of.by_long
          ∙ two (settle_fault c false (held_for g (pending_for p))) _
          ∙ settles c p g known (λ rows. outcome s (at_rows rows (Some (name, [])) (clap_walk.option name) k false) rest)
          ∙ pushes all_rows _ _ (given_with p g) (λ h. waits places k h name at_place of)

  unnamed : (word : Text) (rest : List Text) → Reads rest → (sh : Option Text)
      → (places : List Text) (k : ℕ) (g : Given) (p : Option (Text × Text)) → Places c places k → KnownPending c p
      → short_step (at g (pending_for p) idle k false) word rest sh
      ≡ option_map all_rows (option_and_then (λ h. read_form options (short_or_plain sh) word places h (places_only rest) (given_by options rest)) (given_with p g))
  unnamed word rest reads None places k g p at_place known = to_place false idle word rest (given_by options rest None) reads places k g p at_place known
  unnamed word rest reads (Some flags) places k g p at_place known = go (slice_get (chars flags) 0) refl
    where
      w : Walk
      w = at g (pending_for p) idle k false

      go : (o : Option ℕ) → slice_get (chars flags) 0 ≡ o → flags_step w word rest (bundle_fault c false flags w.held) (bundle c flags w.held)
          ≡ option_map all_rows (option_and_then (λ h. read_form options (cond (is_some o) short plain) word places h (places_only rest) (given_by options rest)) (given_with p g))
      go None e =
          let no = no_letters flags g (pending_for p) e in
          ap₂ (flags_step w word rest) no.0 no.1 ∙ to_place false idle word rest (given_by options rest None) reads places k g p at_place known
      go (Some x) e = ap (λ f. flags_step w word rest f (bundle c flags w.held)) (letters flags g (pending_for p) x e)
          ∙ sym (ap (option_map all_rows) (none_after (given_with p g)))

  -- the words after one that is not a value of a waiting option never matter
  waited : (word : Text) (rest : List Text) (name : Text) (v : Option Text) (k : ℕ) (g : Given) (n : Text) → Option_of c n
      → long_step (at g (Some (n, [])) (clap_walk.option n) k false) word rest v (arg_by_long c name) ≡ None
  waited word rest name v k g n of = go v (has_name options name) refl
    where
      w : Walk
      w = at g (Some (n, [])) (clap_walk.option n) k false

      go : (v : Option Text) (b : Bool) → has_name options name ≡ b → long_step w word rest v (arg_by_long c name) ≡ None
      go v false e = ap (long_step w word rest v) (leaf.lacks name e)
      go (Some t) true e =
          let a = leaf.has name e in
          ap (long_step w word rest (Some t)) a.by_long
          ∙ three (settle_fault c false w.held) (use_fault false (built_rule name (Some name) None a.required) (t ∷ []) (settled c w.held).rows) _
          ∙ ap (λ f. unless f (unless (use_fault false (built_rule name (Some name) None a.required) (t ∷ []) (settled c w.held).rows)
          (outcome s (at_rows (clap_walk.used (built_rule name (Some name) None a.required) (t ∷ []) (settled c w.held).rows) None idle k false) rest))) (no_value g n of)
      go None true e =
          let a = leaf.has name e in
          ap (long_step w word rest None) a.by_long ∙ two (settle_fault c false w.held) _
          ∙ ap (λ f. unless f (outcome s (at_rows (settled c w.held).rows (Some (name, [])) (clap_walk.option name) k false) rest)) (no_value g n of)

  abbrev filled : Text → List Text → ℕ → Given → Text → Bool → Option (List Row)
  filled word rest k g n b = outcome s (record {
    held = held_for g (Some (n, word ∷ []));
    waiting = cond (Rattle.std.specs.Prelude.nat_lt (cond b 1 0) 1) (clap_walk.option n) idle;
    position = k;
    is_trailing = false;
    stopped = None;
  }) rest

  abbrev option_step : Text → List Text → ℕ → Given → Text → Option Rule → Option (List Row)
  option_step word rest k g n o = outcome s (record {
    held = (clap_walk.option_word o n word (held_for g (Some (n, [])))).0;
    waiting = (clap_walk.option_word o n word (held_for g (Some (n, [])))).1;
    position = k;
    is_trailing = false;
    stopped = None;
  }) rest

  fills : (word : Text) (rest : List Text) → Reads rest → (places : List Text) (k : ℕ) (g : Given) (n : Text) → Places c places k → Option_of c n
      → option_step word rest k g n (arg_by_id c n) ≡ option_map all_rows (option_and_then (given_by options rest None places) (give n word g))
  fills word rest reads places k g n at_place of =
      ap (option_step word rest k g n) of.by_id ∙ ap (filled word rest k g n) (same_text n)
      ∙ reads places k g (Some (n, word)) at_place (record { long = Some n; index = None; required = of.required; by_id = of.by_id })

  value_of : (word : Text) (rest : List Text) → Reads rest → (sh : Option Text) (places : List Text) (k : ℕ) (g : Given) (n : Text) → Places c places k → Option_of c n
      → short_step (at g (Some (n, [])) (clap_walk.option n) k false) word rest sh
      ≡ option_map all_rows (read_value (short_or_plain sh) n word places g (given_by options rest))
  value_of word rest reads None places k g n at_place of = fills word rest reads places k g n at_place of
  value_of word rest reads (Some flags) places k g n at_place of = go (slice_get (chars flags) 0) refl
    where
      w : Walk
      w = at g (Some (n, [])) (clap_walk.option n) k false

      go : (o : Option ℕ) → slice_get (chars flags) 0 ≡ o → flags_step w word rest (bundle_fault c false flags w.held) (bundle c flags w.held)
          ≡ option_map all_rows (read_value (cond (is_some o) short plain) n word places g (given_by options rest))
      go None e =
          let no = no_letters flags g (Some (n, [])) e in
          ap₂ (flags_step w word rest) no.0 no.1 ∙ fills word rest reads places k g n at_place of
      go (Some x) e = ap (λ f. flags_step w word rest f (bundle c flags w.held)) (letters flags g (Some (n, [])) x e)

  reads_word : (word : Text) (rest : List Text) → Reads rest → Waits rest → Reads (word ∷ rest)
  unfolding walked
  reads_word word rest reads waits places k g p at_place known =
      outcome_step (at g (pending_for p) idle k false) word rest ∙ go (bytes_eq word (45 ∷ 45 ∷ [])) (long_of word)
      ∙ ap (λ form. option_map all_rows (option_and_then (λ h. read_form options form word places h (places_only rest) (given_by options rest)) (given_with p g))) (sym (same_form word))
    where
      go : (b : Bool) (l : Option (Text × Option Text)) → word_step (at g (pending_for p) idle k false) word rest b l
          ≡ option_map all_rows (option_and_then (λ h. read_form options (cond b ending (option_or_other l (short_of word))) word places h (places_only rest) (given_by options rest)) (given_with p g))
      go true l = trailing_words rest idle places k g p at_place known
      go false (Some q) = named word rest reads waits q.0 q.1 places k g p at_place known
      go false None = unnamed word rest reads (short_of word) places k g p at_place known

  waits_word : (word : Text) (rest : List Text) → Reads rest → Waits (word ∷ rest)
  unfolding walked
  waits_word word rest reads places k g n at_place of =
      outcome_step (at g (Some (n, [])) (clap_walk.option n) k false) word rest ∙ go (bytes_eq word (45 ∷ 45 ∷ [])) (long_of word)
      ∙ ap (λ form. option_map all_rows (read_value form n word places g (given_by options rest))) (sym (same_form word))
    where
      go : (b : Bool) (l : Option (Text × Option Text)) → word_step (at g (Some (n, [])) (clap_walk.option n) k false) word rest b l
          ≡ option_map all_rows (read_value (cond b ending (option_or_other l (short_of word))) n word places g (given_by options rest))
      go true l = never_filled rest (clap_walk.option n) places k g n at_place of
      go false (Some q) = waited word rest q.0 q.1 k g n of
      go false None = value_of word rest reads (short_of word) places k g n at_place of

  -- the walk over a subcommand's words gives the rows that the definition says, or meets a fault
  pub reads_all : (words : List Text) → Reads words × Waits words
  unfolding walk_fault
  reads_all [] = (
    λ places k g p at_place known. settles c p g known (λ rows. Some rows) ∙ pushes all_rows (λ h. Some (all_rows h)) (λ h. Some h) (given_with p g) (λ h. refl),
    λ places k g n at_place of. ap (λ f. unless f (Some (settled c (held_for g (Some (n, [])))).rows)) (no_value g n of),
  )
  reads_all (word ∷ rest) =
      (reads_word word rest (reads_all rest).0 (reads_all rest).1, waits_word word rest (reads_all rest).0)
