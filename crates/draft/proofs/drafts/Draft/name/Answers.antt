use Rattle.std.proofs.Common.{◌≡◌, Some, None, Option, ap, ◌∙◌}
use Rattle.std.proofs.lemmas.Option.{unwrap_or-slice_get}
use Rattle.std.specs.Option.{UnwrapsOrElse, unwrap_or}
use Rattle.draft.specs.declared.names.Name.{Name}
use Rattle.draft.specs.Names.{blank_name}
use Rattle.draft.proofs.drafts.Draft.name.Goals as goal

-- a name, or else the blank one
or_blank : (o : Option Name) (n : Name) → UnwrapsOrElse o (λ x. x ≡ blank_name) n → n ≡ unwrap_or o blank_name
or_blank None n is = is
or_blank (Some x) n is = is

pub returns-clause-value : goal.returns-clause-value
returns-clause-value c =
    or_blank c.copied.result c.unwrap_or_default.result c.unwrap_or_default.ensures
    ∙ ap (λ o. unwrap_or o blank_name) (c.copied.ensures ∙ c.find_name.ensures.value)
    ∙ unwrap_or-slice_get c.args.self.now.names c.args.gate blank_name
