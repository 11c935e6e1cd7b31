use Rattle.std.proofs.Common.{◌∙◌, sym, ap, ◌-◌, arith}
use Rattle.std.specs.Option.{option_map}
use Rattle.std.proofs.lemmas.Iterator.Consumers.{YieldsList-from_first, nth_from_yields_List}
use Rattle.cb_tags.specs.TagLines.{tag_of}
use Rattle.cb_index.specs.Shelved.{files}
use Rattle.cb_index.specs.steps.Left.{tags_left}
use Rattle.cb_desk.proofs.DefinitionPlaces.{nth-place, place_of_tag}
use Rattle.cb_desk.proofs.answers.definitions.nth_definition.Goals as goal

pub returns-in-Some : goal.returns-in-Some
returns-in-Some c =
    let found = nth_from_yields_List c.nth.result c.nth.new.self (c.args.n - 1) c.nth.ensures.ran
    (YieldsList-from_first tag_of tags_left _ c.defs.ensures) in
    ap (λ t. option_map place_of_tag (option_map tag_of t)) (sym c.in-Some.is)
    ∙ nth-place c.args.shelf.now.archive.profile c.args.name.now (files c.args.shelf.now) c.args.n _
    (omega arith) found

pub returns-in-None : goal.returns-in-None
returns-in-None c =
    let found = nth_from_yields_List c.nth.result c.nth.new.self (c.args.n - 1) c.nth.ensures.ran
    (YieldsList-from_first tag_of tags_left _ c.defs.ensures) in
    ap (λ t. option_map place_of_tag (option_map tag_of t)) (sym c.in-None.is)
    ∙ nth-place c.args.shelf.now.archive.profile c.args.name.now (files c.args.shelf.now) c.args.n _
    (omega arith) found
