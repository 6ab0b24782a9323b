-- Logs that grow.
use Rattle.std.proofs.Common.{◌≡◌, List, [], ◌∷◌, ◌++◌, Bool, if◌then◌else◌, Some, None, map, sym, ap, ◌∙◌}
use Rattle.std.proofs.Common.{append_assoc, append-nil, refl}
use Rattle.std.specs.List.{flat_map, filter_map, cons_option}
use Rattle.std.proofs.lemmas.Grind.{flat_map-append}
use Rattle.std.proofs.lemmas.List.Elements.{filter_map-append}
use Rattle.elm_base.specs.declared.fault.Code.TheVariants.{Shadowing, DuplicateBinding}
use Rattle.elm_tree.specs.Tree.{Pos, Word, Long}
use Rattle.canon_env.specs.Imports.{name_of}
use Rattle.canon_env.specs.declared.finding.Finding.{Finding}
use Rattle.canon_env.specs.Naming.{World, value_found}
use Rattle.canon_env.specs.Locals.{Locals}
use Rattle.canon_env.specs.Sites.{Site, ValueUse, Binding, BoundTogether, faults_at, value_faults, Elsewhere, local_or}
use Rattle.canon_env.specs.Sites.{at_word, is_in_scope, repeats}
use Rattle.canon_expr.specs.Logs.{Grows, used_place, local_place}
use Rattle.canon_expr.specs.Longs.{bound_at}
use Rattle.canon_expr.specs.declared.log.Log.{Log}

-- a log in which nothing is noted
pub grows_none : (w : World) (log : Log) → Grows w log log []
grows_none w log = record {
  findings = sym (append-nil log.findings.items);
  uses = sym (append-nil log.uses.items);
}

-- more sites
pub grows_more : {w : World} {a b c : Log} {first more : List Site} → Grows w a b first → Grows w b c more →
    Grows w a c (first ++ more)
grows_more {w} {a} {b} {c} {first} {more} g h = record {
  findings =
      h.findings ∙ ap (λ fs. fs ++ flat_map (faults_at w) more) g.findings
      ∙ append_assoc a.findings.items (flat_map (faults_at w) first) (flat_map (faults_at w) more)
      ∙ ap (λ fs. a.findings.items ++ fs) (sym (flat_map-append (faults_at w) first more));
  uses =
      h.uses ∙ ap (λ us. us ++ filter_map (used_place w) more) g.uses
      ∙ append_assoc a.uses.items (filter_map (used_place w) first) (filter_map (used_place w) more)
      ∙ ap (λ us. a.uses.items ++ us) (sym (filter_map-append (used_place w) first more));
}

-- one site with these faults, which uses no local name
pub grows_one : {w : World} {old new : Log} (s : Site) (fs : List Finding) → faults_at w s ≡ fs →
    used_place w s ≡ None → new.findings.items ≡ old.findings.items ++ fs → new.uses.items ≡ old.uses.items →
    Grows w old new (s ∷ [])
grows_one {w} {old} {new} s fs is none more same = record {
  findings = more ∙ ap (λ l. old.findings.items ++ l) (sym (append-nil (faults_at w s) ∙ is));
  uses = same ∙ sym (append-nil old.uses.items) ∙ ap (λ o. old.uses.items ++ cons_option o []) (sym none);
}

-- one site without faults, which uses the local name that is bound there
pub grows_use : {w : World} {old new : Log} (s : Site) (place : Pos) → faults_at w s ≡ [] →
    used_place w s ≡ Some place → new.findings.items ≡ old.findings.items →
    new.uses.items ≡ old.uses.items ++ place ∷ [] → Grows w old new (s ∷ [])
grows_use {w} {old} {new} s place none used same more = record {
  findings =
      same ∙ sym (append-nil old.findings.items)
      ∙ ap (λ l. old.findings.items ++ l) (sym (append-nil (faults_at w s) ∙ none));
  uses = more ∙ ap (λ o. old.uses.items ++ cons_option o []) (sym used);
}

-- ---- sites

pub shadow : (w : World) (locals : Locals) (x : Word) (b : Bool) → is_in_scope w locals (name_of x) ≡ b →
    faults_at w (Binding locals x) ≡ (if b then at_word Shadowing x ∷ [] else [])
unfolding faults_at
shadow w locals x b is = ap (λ t. if t then at_word Shadowing x ∷ [] else []) is

pub binding_unused : (w : World) (locals : Locals) (x : Word) → used_place w (Binding locals x) ≡ None
unfolding used_place
binding_unused w locals x = refl

pub bound_faults : (w : World) (xs : List Word) →
    faults_at w (BoundTogether xs) ≡ map (at_word DuplicateBinding) (repeats xs)
unfolding faults_at
bound_faults w xs = refl

pub bound_unused : (w : World) (xs : List Word) → used_place w (BoundTogether xs) ≡ None
unfolding used_place
bound_unused w xs = refl

-- a use of a local name has no faults
pub local_faults : (w : World) (locals : Locals) (x : Long) (place : Pos) → bound_at locals x ≡ Some place →
    faults_at w (ValueUse locals x) ≡ []
unfolding faults_at
local_faults w locals x place is = ap (λ o. value_faults x (local_or o (value_found w x))) is

pub local_used : (w : World) (locals : Locals) (x : Long) (place : Pos) → bound_at locals x ≡ Some place →
    used_place w (ValueUse locals x) ≡ Some place
unfolding used_place
local_used w locals x place is = ap (λ o. local_place (local_or o (value_found w x))) is

pub elsewhere_faults : (w : World) (locals : Locals) (x : Long) → bound_at locals x ≡ None →
    faults_at w (ValueUse locals x) ≡ value_faults x (Elsewhere (value_found w x))
unfolding faults_at
elsewhere_faults w locals x is = ap (λ o. value_faults x (local_or o (value_found w x))) is

pub elsewhere_unused : (w : World) (locals : Locals) (x : Long) → bound_at locals x ≡ None →
    used_place w (ValueUse locals x) ≡ None
unfolding used_place
elsewhere_unused w locals x is = ap (λ o. local_place (local_or o (value_found w x))) is
