use Rattle.std.proofs.Common.{◌≡◌, ◌∙◌, ap, refl, Option, Some, None, codes}
use Rattle.std.specs.Option.{is_some, option_map}
use Rattle.clap.specs.Words.{found_of}
use Rattle.clap.proofs.WalkLemmas.{raw_values-rows}
use Rattle.cb_words.proofs.job.matched.has_files.Goals as goal

-- whether there is a value does not depend on how it is seen
seen : {X Y : Type 0} (view : X → Y) (o : Option X) → is_some o ≡ is_some (option_map view o)
seen view None = refl
seen view (Some x) = refl

pub returns : goal.returns
returns c =
    c.is_some.ensures ∙ seen _ c.get_raw.result
    ∙ ap is_some (c.get_raw.ensures ∙ raw_values-rows (found_of c.args.found.now) (codes "files"))
