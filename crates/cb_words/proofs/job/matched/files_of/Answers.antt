use Rattle.std.proofs.Common.{◌∙◌, ap, [], map, string_bytes}
use Rattle.std.proofs.lemmas.Result.{IfOk-weaker}
use Rattle.std.specs.Option.{unwrap_or}
use Rattle.clap.specs.Words.{found_of}
use Rattle.clap.proofs.WalkLemmas.{raw_values-rows}
use Rattle.cb_words.proofs.job.matched.files_of.Goals as goal

pub returns-in-Some : goal.returns-in-Some
returns-in-Some c = IfOk-weaker c.copies_of.result _ _
    (λ files h. h ∙ ap (λ o. unwrap_or o [])
    (c.in-Some.ensures ∙ raw_values-rows (found_of c.args.found.now) _)) c.copies_of.ensures

pub returns-in-None : goal.returns-in-None
returns-in-None c =
    ap (map string_bytes) c.new.ensures.items
    ∙ ap (λ o. unwrap_or o []) (c.in-None.ensures ∙ raw_values-rows (found_of c.args.found.now) _)
