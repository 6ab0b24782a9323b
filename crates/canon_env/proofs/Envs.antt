-- Environments to which names are added.
use Rattle.std.proofs.Common.{◌≡◌, List, [], ◌∷◌, ◌++◌, map, sym, ap, ◌∙◌, subst, if◌then◌else◌, append_assoc}
use Rattle.std.proofs.Common.{append-nil}
use Rattle.std.proofs.Math.Path.{fun_ext}
use Rattle.elm_canon.specs.Names.{Name, same_name}
use Rattle.canon_env.specs.Found.{Nothing, rows_of, found_by, named_by}
use Rattle.canon_env.specs.Space.{found_at, added_all, Tells}
use Rattle.canon_env.specs.Shown.{Shown, type_meaning_view, maker_meaning_view}
use Rattle.canon_env.specs.Imports.{Exposing, exposes_makers}
use Rattle.canon_env.specs.Filter.{Filters, filter_value, filter_type, filter_makers}
use Rattle.canon_env.specs.Env.{values_by, types_by, makers_by, Rows, no_rows, join, shown_rows, Known, import_rows}
use Rattle.canon_env.specs.Env.{imported_rows, value_view, IsEnvOf}
use Rattle.canon_env.specs.declared.found.Named.{Named}
use Rattle.canon_env.specs.declared.filter.Filter.{Filter}
use Rattle.canon_env.specs.declared.shown.TypeMeaning.{TypeMeaning}
use Rattle.canon_env.specs.declared.shown.MakerMeaning.{MakerMeaning}
use Rattle.canon_env.specs.declared.space.Space.{Space}
use Rattle.canon_env.specs.declared.env.Env.{Env}
use Rattle.canon_env.proofs.Rows.{tells_all}

-- a space in which nothing means anything
pub tells_none : {M N : Type 0} → (f : M → N) (space : Space M) → ((q x : Name) → found_at space q x ≡ Nothing) →
    Tells f space []
unfolding Tells
tells_none f space h q x = ap (found_by f) (h q x)

-- the space new has what old has, and these names of a module
abbrev pub Adds : {M : Type 0} → Space M → Space M → Name → Name → List (Named M) → Type 0
Adds old new q' home ns =
    (q x : Name) → found_at new q x ≡ (if same_name q q' then added_all (found_at old q x) x home ns else found_at old q x)

pub env_more : (old new : Env) (q home : Name) (e : Exposing) (filter : Filter) (s : Shown) (rows : Rows)
    (vs : List (Named (Unit {0}))) (ts : List (Named TypeMeaning)) (ms : List (Named MakerMeaning)) → Filters filter e →
    map (named_by value_view) vs ≡ values_by (filter_value filter) s →
    map (named_by type_meaning_view) ts ≡ types_by (filter_type filter) s →
    map (named_by maker_meaning_view) ms ≡ makers_by (filter_makers filter) (filter_type filter) s →
    Adds old.values new.values q home vs → Adds old.types new.types q home ts → Adds old.makers new.makers q home ms →
    IsEnvOf old rows → IsEnvOf new (join rows (shown_rows q home e s))
env_more old new q home e filter s rows vs ts ms passes ve te me va ta ma h = record {
  values =
      subst (λ ns. Tells value_view new.values (rows.values ++ rows_of q home ns))
      (ve ∙ ap (λ p. values_by p s) (fun_ext passes.values))
      (tells_all value_view old.values new.values rows.values q home vs va h.values);
  types =
      subst (λ ns. Tells type_meaning_view new.types (rows.types ++ rows_of q home ns))
      (te ∙ ap (λ p. types_by p s) (fun_ext passes.types))
      (tells_all type_meaning_view old.types new.types rows.types q home ts ta h.types);
  makers =
      subst (λ ns. Tells maker_meaning_view new.makers (rows.makers ++ rows_of q home ns))
      (me ∙ ap (λ p. makers_by p (filter_type filter) s) (fun_ext passes.makers)
      ∙ ap (λ p. makers_by (exposes_makers e) p s) (fun_ext passes.types))
      (tells_all maker_meaning_view old.makers new.makers rows.makers q home ms ma h.makers);
}

pub join_assoc : (a b c : Rows) → join (join a b) c ≡ join a (join b c)
join_assoc a b c =
    λ i. record {
      values = append_assoc a.values b.values c.values i;
      types = append_assoc a.types b.types c.types i;
      makers = append_assoc a.makers b.makers c.makers i;
    }

join_none : (a : Rows) → join a no_rows ≡ a
join_none a =
    λ i. record { values = append-nil a.values i; types = append-nil a.types i; makers = append-nil a.makers i }

-- one import more
pub imported_rows-append : (ks : List Known) (k : Known) →
    join (imported_rows ks) (import_rows k) ≡ imported_rows (ks ++ k ∷ [])
imported_rows-append [] k = sym (join_none (import_rows k))
imported_rows-append (k' ∷ ks) k =
    join_assoc (import_rows k') (imported_rows ks) (import_rows k)
    ∙ ap (join (import_rows k')) (imported_rows-append ks k)
