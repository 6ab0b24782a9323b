-- The name of an entry, directory by directory: `one_passed`, `one_entry`, `an_entry`, `no_entry`.
use Rattle.std.proofs.Common.{◌≡◌, ℕ, ◌+◌, ◌<◌, length, get_or, ◌∷◌, List, map, drop, String, Global, string_bytes}
use Rattle.std.proofs.Common.{Option, sym, ap, subst, ◌∙◌, arith}
use Rattle.std.specs.Prelude.{IfSome, IfNone}
use Rattle.std.proofs.lemmas.List.{at_drop_more, at_drop_all}
use Rattle.import_graph.specs.Entries.{NamesBelow}
use Rattle.import_graph.proofs.Naming.{IsLeft, one_passed, one_entry, an_entry, no_entry}
use Rattle.import_graph.proofs.entries.entry_name.Goals as goal

-- the directories that are left, by the first of them
first_left : (path : List ℕ) (ds : List (String Global)) (i : ℕ) (d : String Global) (text : List ℕ) → i < length ds → d ≡ get_or ds i d → text ≡ string_bytes d →
    IsLeft path (map string_bytes (drop i ds)) (map string_bytes ds) → IsLeft path (text ∷ map string_bytes (drop (i + 1) ds)) (map string_bytes ds)
first_left path ds i d text l e t is =
    subst (λ left. IsLeft path left (map string_bytes ds))
    (at_drop_more (map string_bytes) ds i d l ∙ ap (λ x. x ∷ map string_bytes (drop (i + 1) ds)) (ap string_bytes (sym e) ∙ sym t)) is

pub returns-in-Some-clause-found : goal.returns-in-Some-clause-found
returns-in-Some-clause-found c =
    let path = c.args.path.now in
    let ds = c.args.directories.now in
    let i = c.loop-directory.directory-index in
    let left = first_left path ds i c.directory-item.result c.deref.result.now c.loop-directory-test.true c.directory-item.is c.deref.ensures c.loop-directory.invariant in
    an_entry path c.deref.result.now (map string_bytes (drop (i + 1) ds)) (map string_bytes ds) left c.in-Some.name
    (subst (λ (o : Option (List ℕ)). IfSome o (NamesBelow c.deref.result.now path)) c.in-Some.is c.in_ok-name.ensures.found)

pub returns-in-Some-clause-only : goal.returns-in-Some-clause-only
returns-in-Some-clause-only c =
    let path = c.args.path.now in
    let ds = c.args.directories.now in
    let i = c.loop-directory.directory-index in
    let left = first_left path ds i c.directory-item.result c.deref.result.now c.loop-directory-test.true c.directory-item.is c.deref.ensures c.loop-directory.invariant in
    one_entry path c.deref.result.now (map string_bytes (drop (i + 1) ds)) (map string_bytes ds) left c.in-Some.name
    (subst (λ (o : Option (List ℕ)). IfSome o (NamesBelow c.deref.result.now path)) c.in-Some.is c.in_ok-name.ensures.found)
    (subst (λ (o : Option (List ℕ)). IfSome o (λ name. (other : List ℕ) → NamesBelow c.deref.result.now path other → other ≡ name)) c.in-Some.is c.in_ok-name.ensures.only)

pub loop-directory-preserved : goal.loop-directory-preserved
loop-directory-preserved c =
    let path = c.args.path.now in
    let ds = c.args.directories.now in
    let i = c.loop-directory.directory-index in
    let left = first_left path ds i c.directory-item.result c.deref.result.now c.loop-directory-test.true c.directory-item.is c.deref.ensures c.loop-directory.invariant in
    one_passed path c.deref.result.now (map string_bytes (drop (i + 1) ds)) (map string_bytes ds) left
    (subst (λ (o : Option (List ℕ)). IfNone o ((name : List ℕ) → NamesBelow c.deref.result.now path name → ⊥)) c.in_default.is c.in_ok-name.ensures.none)

pub returns-clause-none : goal.returns-clause-none
returns-clause-none c =
    let path = c.args.path.now in
    let ds = c.args.directories.now in
    let i = c.loop-directory.directory-index in
    no_entry path (map string_bytes (drop i ds)) (map string_bytes ds) (at_drop_all (map string_bytes) ds i (omega arith)) c.loop-directory.invariant
