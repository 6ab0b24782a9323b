-- What clap makes of the words of a process, by `specs/Given.antt`.
use Rattle.std.proofs.Common.{arith, suc, ◌≡◌, ◌∙◌, ap₂, ◌&&◌, ◌||◌, ℕ, Bool, true, false, not, refl, sym, ap, List, []}
use Rattle.std.proofs.Common.{◌∷◌, map, length, Option, Some, None, cond, subst, true≢false}
use Rattle.std.specs.Prelude.{is_some, option_and_then, option_map, slice_get, fold, find, codes}
use Rattle.std.specs.List.{list_all, list_any}
use Rattle.std.specs.Option.{option_map_or}
use Rattle.clap.specs.Facts.{explicit_source}
use Rattle.std.specs.Str.{bytes_eq, chars}
use Rattle.std.proofs.lemmas.Slice.Eq.{bytes_eq-Decides}
use Rattle.std.proofs.lemmas.Bool.{ne_eqb}
use Rattle.clap.specs.Lexer.{long_of, short_of}
use Rattle.clap.specs.Words.{App, Row, Rule, fault_of, built, subcommand_of}
use Rattle.clap.specs.Walk.{Held, Step, Walk, finished, has_row, is_empty, nothing_held, rows_after, settled, walk}
use Rattle.clap.specs.Walk.{walk_from, walked, with_default}
use Rattle.clap.specs.Walk as clap_walk
use Rattle.clap.specs.Simple.{entered, names_of}
use Rattle.clap.specs.Kinds.{Kinds, check_kinds, or_else}
use Rattle.clap.specs.Faults.{bundle_fault, flag_word_fault, check_fault, default_fault, defaults_fault, entered_fault}
use Rattle.clap.specs.Faults.{given_default_fault, level_fault, other_fault, settle_fault, step_fault, walk_fault}
use Rattle.clap.proofs.WalkLemmas.{both, find-map, walk_stopped}
use Rattle.clap.proofs.OnLiterals.{clap_on_literals}
use Rattle.clap.proofs.SimpleLemmas.{is_nil}
use Rattle.clap.proofs.FaultLemmas.{stopped_fault}
use Rattle.command_line.specs.Command.{Command, Text, make, number_or, run}
use Rattle.command_line.specs.Clap.{command_of, elmc_app, make_of, read, run_of}
use Rattle.command_line.specs.Given.{Given, command_line, gives, has_name, make_given, run_given}
use Rattle.command_line.proofs.Leaf.{letters, no_letters, Option_of, Places, Plain, built_rule, leaf_shape, reads_all}
use Rattle.command_line.proofs.Leaf.{row_for, unless}

-- ---- a subcommand

same_either : {X : Type 0} (b : Bool) (x : X) → cond b x x ≡ x
same_either true x = refl
same_either false x = refl

-- no argument has a default of clap's
abbrev has_no_default : Rule → Bool
has_no_default a = is_empty a.defaults

pub unless_two : {X : Type 0} (a : Kinds) (x : Option X) → unless (or_else a []) x ≡ unless a x
unless_two [] x = refl
unless_two (k ∷ ks) x = refl

three : {X : Type 0} (a b d : Kinds) (x : Option X) → unless (or_else a (or_else b d)) x ≡ unless a (unless b (unless d x))
three [] [] d x = refl
three [] (k ∷ ks) d x = refl
three (k ∷ ks) b d x = refl

pulls : {X Y : Type 0} (a b : Kinds) (f : X → Option Y) (x : X) → unless a (unless b (f x)) ≡ option_and_then f (unless a (unless b (Some x)))
pulls [] [] f x = refl
pulls [] (k ∷ ks) f x = refl
pulls (k ∷ ks) b f x = refl

pushes : {X Y Z : Type 0} (f : X → Y) (F : Y → Option Z) (G : X → Option Z) (o : Option X) → ((x : X) → F (f x) ≡ G x) → option_and_then F (option_map f o) ≡ option_and_then G o
pushes f F G None e = refl
pushes f F G (Some x) e = e x

-- the checks at the end of the words, and what is read where they pass
abbrev ends : Text → List Rule → (List Row → Option Command) → List Row → Option Command
ends name c of rows = unless (or_else (defaults_fault rows c) (check_fault (leaf_shape name c) (fold with_default rows c) false)) (of (fold with_default rows c))

leaf_command : (name : Text) (c : List Rule) (options places : List Text) → Plain c options → Places c places 1
    → (of : List Row → Option Command) (given : Given → Option Command) → ((g : Given) → ends name c of (map row_for g) ≡ given g)
    → (words : List Text) → unless (level_fault (leaf_shape name c) [] nothing_held words false []) (of (rows_after c [] words)) ≡ option_and_then given (gives places options words)
leaf_command name c options places leaf at_place of given same words =
    let end = (walk c [] nothing_held words).held in
    let faults = walk_fault (leaf_shape name c) [] (walk_from nothing_held) words in
    let settle = settle_fault c false end in
    three faults settle _ _ ∙ pulls faults settle (ends name c of) (settled c end).rows
    ∙ ap (option_and_then (ends name c of)) ((reads_all name c options leaf words).0 places 1 [] None at_place tt)
    ∙ pushes (map row_for) (ends name c of) given (gives places options words) same

no_default : (a : Rule) (rows : List Row) → a.defaults ≡ [] → (default_fault rows a ≡ []) × (with_default rows a ≡ rows)
no_default a rows none =
    (ap (λ ds. fault ds (has_row a.id rows)) none ∙ go (has_row a.id rows), ap (λ ds. with (has_row a.id rows) ds) none ∙ same_either (has_row a.id rows) rows)
  where
    fault : List Text → Bool → Kinds
    fault ds b = cond (b || is_empty ds) [] (given_default_fault a ds)

    with : Bool → List Text → List Row
    with b ds = cond b rows (clap_walk.default_rows a.id (clap_walk.reading_by a) ds rows)

    go : (b : Bool) → fault [] b ≡ []
    go true = refl
    go false = refl

no_defaults : (c : List Rule) (rows : List Row) → list_all has_no_default c ≡ true → (defaults_fault rows c ≡ []) × (fold with_default rows c ≡ rows)
unfolding defaults_fault
no_defaults [] rows e = (refl, refl)
no_defaults (a ∷ rest) rows e =
    let parts = both _ _ e in
    let none = no_default a rows (is_nil a.defaults parts.0) in
    let more = no_defaults rest rows parts.1 in
    (ap₂ (λ f rs. or_else f (defaults_fault rs rest)) none.0 none.1 ∙ more.0, ap (λ rs. fold with_default rs rest) none.1 ∙ more.1)

among : (P : Text → Type 0) (o : Text) (rest : List Text) (name : Text) → P o → (has_name rest name ≡ true → P name) → has_name (o ∷ rest) name ≡ true → P name
among P o rest name p f e = go (bytes_eq o name) refl e
  where
    go : (b : Bool) → bytes_eq o name ≡ b → (b || has_name rest name) ≡ true → P name
    go true is e = subst P ((bytes_eq-Decides o name).0 is) p
    go false is e = f e

no_more : (P : Text → Type 0) (name : Text) → has_name [] name ≡ true → P name
no_more P name e = absurd (true≢false (sym e))

lacks_two : {X : Type 0} (a b : Bool) (x y : X) → (a || (b || false)) ≡ false → cond (a || false) (Some x) (cond (b || false) (Some y) None) ≡ None
lacks_two true b x y e = absurd (true≢false e)
lacks_two false true x y e = absurd (true≢false e)
lacks_two false false x y e = refl

lacks_one : {X : Type 0} (a : Bool) (x : X) → (a || false) ≡ false → cond (a || false) (Some x) None ≡ None
lacks_one true x e = absurd (true≢false e)
lacks_one false x e = refl

abbrev place_rule : Text → ℕ → Rule
place_rule name k = built_rule name None (Some k) true

abbrev option_rule : Text → Bool → Rule
option_rule name required = built_rule name (Some name) None required

abbrev make_rules : List Rule
make_rules = place_rule (codes "entry") 1 ∷ option_rule (codes "output") true ∷ option_rule (codes "jobs") false ∷ []

make_plain : Plain make_rules (codes "output" ∷ codes "jobs" ∷ [])
make_plain = record {
  has = λ name. among (Option_of make_rules) (codes "output") (codes "jobs" ∷ []) name (record { required = true; by_long = refl; by_id = refl })
      (among (Option_of make_rules) (codes "jobs") [] name (record { required = false; by_long = refl; by_id = refl }) (no_more (Option_of make_rules) name));
  lacks = λ name e. lacks_two (bytes_eq (codes "output") name) (bytes_eq (codes "jobs") name) _ _ e;
  no_short = λ x. refl;
}

abbrev run_rules : List Rule
run_rules = place_rule (codes "program") 1 ∷ place_rule (codes "inputs") 2 ∷ option_rule (codes "fuel") false ∷ []

run_plain : Plain run_rules (codes "fuel" ∷ [])
run_plain = record {
  has = λ name. among (Option_of run_rules) (codes "fuel") [] name (record { required = false; by_long = refl; by_id = refl }) (no_more (Option_of run_rules) name);
  lacks = λ name e. lacks_one (bytes_eq (codes "fuel") name) _ e;
  no_short = λ x. refl;
}

-- ---- what is read at the end of a subcommand's words

-- the checks at the end, where no argument has a default of clap's
abbrev checked : Text → List Rule → (List Row → Option Command) → List Row → Option Command
checked name c of rows = unless (check_fault (leaf_shape name c) rows false) (of rows)

ends_checked : (name : Text) (c : List Rule) (of : List Row → Option Command) (rows : List Row) → list_all has_no_default c ≡ true → ends name c of rows ≡ checked name c of rows
ends_checked name c of rows e =
    let no = no_defaults c rows e in
    ap₂ (λ f rs. unless (or_else f (check_fault (leaf_shape name c) rs false)) (of rs)) no.0 no.1

abbrev row_of_id : Text → List Row → Option Row
row_of_id id rows = find (λ r. bytes_eq r.id id) rows

abbrev entry_of : Text → Given → Option (Text × Text)
entry_of id g = find (λ e. bytes_eq e.0 id) g

found : (id : Text) (g : Given) → row_of_id id (map row_for g) ≡ option_map row_for (entry_of id g)
found id g = sym (find-map (λ r. bytes_eq r.id id) row_for g)

abbrev is_used : Option Row → Bool
is_used o = option_map_or (λ r. explicit_source r.source) o false

abbrev text_in : Option Row → Option Text
text_in o = option_and_then (λ r. slice_get r.values 0) o

abbrev text_at : Option (Text × Text) → Option Text
text_at o = option_map (λ e. e.1) o

abbrev make_by : Option Text → Option Text → Option Text → Option Command
make_by a b d = option_and_then (λ entry. option_and_then (λ output. option_map (λ jobs. make entry output jobs) (number_or 1 64 1 d)) b) a

abbrev run_by : Option Text → Option Text → Option Text → Option Command
run_by a b d = option_and_then (λ program. option_and_then (λ inputs. option_map (λ fuel. run program inputs fuel) (number_or 1 4294967295 1000000 d)) b) a

-- two arguments that are required, and a third that is not
abbrev checks_two : (Option Text → Option Text → Option Text → Option Command) → Option Row → Option Row → Option Row → Option Command
checks_two by a b d = unless (check_kinds false false ((true && not (is_used a)) || ((true && not (is_used b)) || ((false && not (is_used d)) || false)))) (by (text_in a) (text_in b) (text_in d))

by_rows : (by : Option Text → Option Text → Option Text → Option Command) → ((b d : Option Text) → by None b d ≡ None) → ((a d : Option Text) → by a None d ≡ None)
    → (a b d : Option (Text × Text)) → checks_two by (option_map row_for a) (option_map row_for b) (option_map row_for d) ≡ by (text_at a) (text_at b) (text_at d)
by_rows by first second None b d = sym (first (text_at b) (text_at d))
by_rows by first second (Some x) None d = sym (second (Some x.1) (text_at d))
by_rows by first second (Some x) (Some y) None = refl
by_rows by first second (Some x) (Some y) (Some z) = refl

by_given : (by : Option Text → Option Text → Option Text → Option Command) → ((b d : Option Text) → by None b d ≡ None) → ((a d : Option Text) → by a None d ≡ None)
    → (x y z : Text) (g : Given) → checks_two by (row_of_id x (map row_for g)) (row_of_id y (map row_for g)) (row_of_id z (map row_for g)) ≡ by (text_at (entry_of x g)) (text_at (entry_of y g)) (text_at (entry_of z g))
by_given by first second x y z g =
    ap (λ o. checks_two by o (row_of_id y (map row_for g)) (row_of_id z (map row_for g))) (found x g)
    ∙ ap₂ (λ o u. checks_two by (option_map row_for (entry_of x g)) o u) (found y g) (found z g)
    ∙ by_rows by first second (entry_of x g) (entry_of y g) (entry_of z g)

none_by : {X Y : Type 0} (o : Option X) → option_and_then {T = X} {U = Y} (λ x. None) o ≡ None
none_by None = refl
none_by (Some x) = refl

make_ends : (g : Given) → ends (codes "make") make_rules make_of (map row_for g) ≡ make_given g
make_ends g = ends_checked (codes "make") make_rules make_of (map row_for g) refl
    ∙ by_given make_by (λ b d. refl) (λ a d. none_by a) (codes "entry") (codes "output") (codes "jobs") g

run_ends : (g : Given) → ends (codes "run") run_rules run_of (map row_for g) ≡ run_given g
run_ends g = ends_checked (codes "run") run_rules run_of (map row_for g) refl
    ∙ by_given run_by (λ b d. refl) (λ a d. none_by a) (codes "program") (codes "inputs") (codes "fuel") g

-- ---- the program

abbrev app : App
app = built elmc_app

-- what follows from the faults of the walk over the program's words, and of where it ends
abbrev finish : Kinds → Walk → Option Command
finish faults end = unless (or_else faults
    (or_else (entered_fault app end.stopped) (or_else (settle_fault app.top.rules app.top.args_override_self end.held)
    (or_else (defaults_fault (settled app.top.rules end.held).rows app.top.rules)
    (check_fault app.top (finished app.top.rules end.held) (is_some (entered app end.stopped)))))))
    (option_and_then read (entered app end.stopped))

as_unless : {X : Type 0} (ks : Kinds) (x : Option X) → cond (Rattle.std.specs.Bool.◌==◌ (length ks) 0) x None ≡ unless ks x
as_unless [] x = refl
as_unless (k ∷ ks) x = rw (ne_eqb (suc (length ks)) 0 (λ e. omega arith)) refl

finishes : (program : Text) (words : List Text)
    → command_of (program ∷ words) ≡ finish (walk_fault app.top (names_of app) (walk_from nothing_held) words) (walk [] (names_of app) nothing_held words)
finishes program words = as_unless (fault_of elmc_app (program ∷ words)) (option_and_then read (subcommand_of elmc_app (program ∷ words)))

abbrev start : Walk
start = walk_from nothing_held

-- the words after the one that named a subcommand
enters : (name : Text) (rest : List Text) → finish (walk_fault app.top (names_of app) (record start { stopped = Some (name, []) }) rest) (fold (walked [] (names_of app)) (record start { stopped = Some (name, []) }) rest)
    ≡ finish [] (record start { stopped = Some (name, rest) })
enters name rest = ap₂ finish (stopped_fault app.top (names_of app) start (name, []) rest) (sym (walk_stopped [] (names_of app) start name [] rest))

make_line : (rest : List Text) → finish [] (record start { stopped = Some (codes "make", rest) }) ≡ option_and_then make_given (gives (codes "entry" ∷ []) (codes "output" ∷ codes "jobs" ∷ []) rest)
unfolding defaults_fault
make_line rest = unless_two (level_fault (leaf_shape (codes "make") make_rules) [] nothing_held rest false []) _
    ∙ leaf_command (codes "make") make_rules (codes "output" ∷ codes "jobs" ∷ []) (codes "entry" ∷ []) make_plain (refl, refl, refl) make_of make_given make_ends rest

run_line : (rest : List Text) → finish [] (record start { stopped = Some (codes "run", rest) }) ≡ option_and_then run_given (gives (codes "program" ∷ codes "inputs" ∷ []) (codes "fuel" ∷ []) rest)
unfolding defaults_fault
run_line rest = unless_two (level_fault (leaf_shape (codes "run") run_rules) [] nothing_held rest false []) _
    ∙ leaf_command (codes "run") run_rules (codes "fuel" ∷ []) (codes "program" ∷ codes "inputs" ∷ []) run_plain (refl, refl, (refl, refl, refl)) run_of run_given run_ends rest

-- the first word, which names one of the subcommands or none
abbrev first_step : Text → List Text → Option Text → Option Command
first_step word rest o =
    let met = clap_walk.subcommand_or_other [] o clap_walk.idle 1 word nothing_held in
    let next = clap_walk.after_step [] word start met.0 met.1 in
    finish (or_else (or_else (other_fault app.top o word nothing_held) (step_fault app.top 1 met.0 met.1)) (walk_fault app.top (names_of app) next rest)) (fold (walked [] (names_of app)) next rest)

none_unless : {X : Type 0} (ks : Kinds) → unless {X = X} ks None ≡ None
none_unless [] = refl
none_unless (k ∷ ks) = refl

abbrev top_step : Text → List Text → Kinds → Held × Step → Option Command
top_step word rest faults met =
    let next = clap_walk.after_step [] word start met.0 met.1 in
    finish (or_else (or_else faults (step_fault app.top 1 met.0 met.1)) (walk_fault app.top (names_of app) next rest)) (fold (walked [] (names_of app)) next rest)

-- after `--` there is no place for a word
ended : (rest : List Text) → finish (walk_fault app.top (names_of app) (record start { is_trailing = true }) rest) (fold (walked [] (names_of app)) (record start { is_trailing = true }) rest) ≡ None
unfolding walk_fault walked
ended [] = none_unless _
ended (x ∷ xs) = refl

nothing_plain : Plain [] []
nothing_plain = record { has = no_more (Option_of []); lacks = λ name e. refl; no_short = λ x. refl }

stray_word : (word : Text) (rest : List Text) (sh : Option Text)
    → top_step word rest (option_map_or (λ flags. bundle_fault [] false flags nothing_held) sh []) (clap_walk.short_or_plain [] clap_walk.idle word sh nothing_held) ≡ None
stray_word word rest None = refl
stray_word word rest (Some flags) = go (slice_get (chars flags) 0) refl
  where
    flags_step : Kinds → Held × clap_walk.Outcome → Option Command
    flags_step faults m = top_step word rest faults (clap_walk.after_flag [] clap_walk.idle word m.0 m.1)

    go : (o : Option ℕ) → slice_get (chars flags) 0 ≡ o → flags_step (bundle_fault [] false flags nothing_held) (clap_walk.bundle [] flags nothing_held) ≡ None
    go None e =
        let no = no_letters (codes "elmc") [] [] nothing_plain flags [] None e in
        ap₂ flags_step no.0 no.1
    go (Some x) e = ap (λ f. flags_step f (clap_walk.bundle [] flags nothing_held)) (letters (codes "elmc") [] [] nothing_plain flags [] None x e)

no_command : (word : Text) (rest : List Text) → first_step word rest None ≡ None
no_command word rest = go (bytes_eq word (45 ∷ 45 ∷ [])) (long_of word)
  where
    go : (b : Bool) (l : Option (Text × Option Text))
        → top_step word rest (cond b [] (flag_word_fault [] false l word nothing_held)) (cond b (nothing_held, clap_walk.trailing 1) (clap_walk.long_or_other [] clap_walk.idle word l nothing_held)) ≡ None
    go true l = ended rest
    go false (Some p) = refl
    go false None = stray_word word rest (short_of word)

first_word : (word : Text) (rest : List Text) (a b : Bool)
    → first_step word rest (option_map (λ (s : Text × List Text). s.0) (cond (a || false) (Some (codes "make", [])) (cond (b || false) (Some (codes "run", [])) None)))
    ≡ cond a (option_and_then make_given (gives (codes "entry" ∷ []) (codes "output" ∷ codes "jobs" ∷ []) rest))
    (cond b (option_and_then run_given (gives (codes "program" ∷ codes "inputs" ∷ []) (codes "fuel" ∷ []) rest)) None)
first_word word rest true b = enters (codes "make") rest ∙ make_line rest
first_word word rest false true = enters (codes "run") rest ∙ run_line rest
first_word word rest false false = no_command word rest

-- clap's words say what the definition says
pub command_is : (words : List Text) → command_of words ≡ command_line words
unfolding clap_on_literals
command_is [] = refl
command_is (program ∷ []) = refl
command_is (program ∷ name ∷ rest) = finishes program (name ∷ rest)
    ∙ first_word name rest (bytes_eq (codes "make") name) (bytes_eq (codes "run") name)
