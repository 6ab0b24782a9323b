-- What a filter lets through is what is exposed.
use Rattle.std.proofs.Common.{◌≡◌, List, ◌++◌, Bool, map, sym, ap, ◌∙◌}
use Rattle.std.proofs.Math.Path.{fun_ext}
use Rattle.std.proofs.lemmas.List.{map-append}
use Rattle.std.proofs.lemmas.List.Elements.{filter-append}
use Rattle.std.specs.List.{filter}
use Rattle.elm_canon.specs.Names.{Name}
use Rattle.elm_canon.specs.Tree.{UnionDeclaration, AliasDeclaration}
use Rattle.canon_env.specs.Imports.{Exposing, exposes_type}
use Rattle.canon_env.specs.Filter.{Filters, filter_value, filter_type, filter_makers}
use Rattle.canon_env.specs.Shown.{Shown}
use Rattle.canon_env.specs.declared.filter.Filter.{Filter}
use Rattle.canon_module.specs.Offers.{offered_by, unions_by, aliases_by, shown_by}

unions_by-append : (shows opens : Name → Bool) (us more : List UnionDeclaration) →
    unions_by shows opens us ++ unions_by shows opens more ≡ unions_by shows opens (us ++ more)
unions_by-append shows opens us more =
    let named : UnionDeclaration → Bool = λ u. shows u.name in
    sym (ap (map (offered_by opens)) (filter-append named us more)
    ∙ map-append (offered_by opens) (filter named us) (filter named more))

pub shown_through : (f : Filter) (e : Exposing) (given : List UnionDeclaration) (s : Shown) (values : List Name)
    (unions : List UnionDeclaration) (aliases : List AliasDeclaration) → Filters f e →
    values ≡ filter (filter_value f) s.values →
    unions ≡ unions_by (filter_type f) (filter_makers f) given ++ unions_by (filter_type f) (filter_makers f) s.unions →
    aliases ≡ aliases_by (filter_type f) s.aliases →
    record { values = values; unions = unions; aliases = aliases } ≡ shown_by e given s
shown_through f e given s values unions aliases h vs us ds =
    let all = given ++ s.unions in
    λ i. record {
      values = (vs ∙ ap (λ p. filter p s.values) (fun_ext h.values)) i;
      unions =
          (us ∙ unions_by-append (filter_type f) (filter_makers f) given s.unions
          ∙ ap (λ p. unions_by p (filter_makers f) all) (fun_ext h.types)
          ∙ ap (λ q. unions_by (exposes_type e) q all) (fun_ext h.makers)) i;
      aliases = (ds ∙ ap (λ p. aliases_by p s.aliases) (fun_ext h.types)) i;
    }
