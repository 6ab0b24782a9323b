-- A name that has a place keeps it, and another gets the next one: `place_kept`, `place_new`.
use Rattle.std.proofs.Common.{Some, cond, if◌then◌else◌, sym, ap, ◌∙◌}
use Rattle.std.specs.Prelude.{is_some}
use Rattle.elm_canon.specs.Names.{same_name}
use Rattle.canon_type.specs.Recursion.{place_among}
use Rattle.canon_type.proofs.Naming.{place_kept, place_new}
use Rattle.canon_type.proofs.uses.OwnNames.add_alias.Goals as goal

pub returns-then-contains_key : goal.returns-then-contains_key
returns-then-contains_key c = λ unions aliases many h. record {
  of_unions = h.of_unions;
  of_aliases = λ x.
      h.of_aliases x
      ∙ sym (place_kept x c.args.name aliases
      (ap is_some (sym (h.of_aliases c.args.name)) ∙ sym c.contains_key.ensures ∙ c.if-contains_key.true));
}

pub returns : goal.returns
returns c = λ unions aliases many h. record {
  of_unions = h.of_unions;
  of_aliases = λ x.
      c.in_ok-insert.ensures.updates.0 x
      ∙ ap (λ o. cond (same_name c.args.name x) (Some c.args.place) o) (h.of_aliases x)
      ∙ ap (λ n. if same_name c.args.name x then Some n else place_among x aliases) (sym many)
      ∙ sym (place_new x c.args.name aliases
      (ap is_some (sym (h.of_aliases c.args.name)) ∙ sym c.contains_key.ensures ∙ c.if-contains_key.false));
}
