use Rattle.std.proofs.Common.{◌∙◌, false, ap, map, subst, sym}
use Rattle.std.specs.Option.{option_copied}
use Rattle.cb_scan.specs.Profiles.{ranges_in}
use Rattle.cb_scan.specs.declared.profile.Profile.{Profile}
use Rattle.cb_tags.specs.Writing.{Puts}
use Rattle.cb_wire.specs.Messages.{id_json}
use Rattle.cb_wire.specs.Texts.{frame}
use Rattle.cb_wire.specs.Values.{value_text}
use Rattle.cb_lsp.specs.Folds.{folded, folds_in}
use Rattle.cb_lsp.specs.Messages.{result_unless}
use Rattle.cb_lsp.proofs.Folding.{folds-missing, folds-there}
use Rattle.cb_lsp.proofs.folds.put_folds.Goals as goal

pub returns-in_default : goal.returns-in_default
returns-in_default g c =
    let w = c.args.desk.now.timeline.present in (
      false,
      subst (λ j. Puts c.args.out.now c.put_null.new.out c.put_null.result
          (frame (value_text (result_unless false (id_json c.args.id) j))))
          (folds-missing w c.args.file.now (ap option_copied (sym c.in_default.is) ∙ c.source.ensures))
          c.put_null.ensures,
    )

pub returns-in-Ok : goal.returns-in-Ok
returns-in-Ok g c =
    let w = c.args.desk.now.timeline.present in
    let text = c.in-Some.source.now in
    let all = c.as_slice.ensures.value ∙ c.in-Ok.ensures.ranges
    ∙ ap (λ (p : Profile). ranges_in p.rules text) c.profile.ensures in (
      false,
      subst (λ j. Puts c.args.out.now c.put_list.new.out c.put_list.result
          (frame (value_text (result_unless false (id_json c.args.id) j))))
          (folds-there w c.args.file.now _ (ap option_copied (sym c.in-Some.is) ∙ c.source.ensures))
          (c.put_list.ensures (folds_in w.profile.rules text)
          (λ i. map value_text (folded text (all i)))),
    )
