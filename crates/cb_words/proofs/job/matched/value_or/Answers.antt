use Rattle.std.proofs.Common.{◌≡◌, ◌∙◌, ap, refl, Option, Some, None}
use Rattle.std.specs.Option.{option_map, unwrap_or}
use Rattle.clap.specs.Words.{found_of}
use Rattle.clap.proofs.WalkLemmas.{first_value-rows}
use Rattle.cb_words.proofs.job.matched.value_or.Goals as goal

-- what is seen of a value or else of a default
seen_or : {X Y : Type 0} (view : X → Y) (o : Option X) (d : X)
    → view (unwrap_or o d) ≡ unwrap_or (option_map view o) (view d)
seen_or view None d = refl
seen_or view (Some x) d = refl

pub returns : goal.returns
returns c =
    ap (λ s. s.now) c.unwrap_or.ensures
    ∙ seen_or (λ s. s.now) c.get_str.result c.args.text
    ∙ ap (λ o. unwrap_or o c.args.text.now)
    (c.get_str.ensures ∙ first_value-rows (found_of c.args.found.now) c.args.id.now)
