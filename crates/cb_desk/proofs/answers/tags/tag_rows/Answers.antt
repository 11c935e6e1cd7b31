use Rattle.std.proofs.Common.{◌≡◌, ◌∙◌, sym, ap, refl, List}
use Rattle.std.specs.List.{flat_map}
use Rattle.cb_scan.specs.declared.profile.Profile.{Profile}
use Rattle.cb_scan.specs.Order.{in_order}
use Rattle.cb_index.specs.Rows.{tags_by_name, tags_by_tag_name}
use Rattle.cb_index.specs.Shelved.{files}
use Rattle.cb_desk.specs.declared.rows.Format.TheVariants.{Plain, Extended}
use Rattle.cb_desk.specs.Tags.{file_tags, tag_key}
use Rattle.cb_desk.specs.World.{File}
use Rattle.cb_desk.proofs.answers.tags.tag_rows.Goals as goal

plain : (by : Profile) (fs : List File)
    → tags_by_tag_name by fs ≡ in_order (tag_key Plain) (flat_map (file_tags by) fs)
unfolding tags_by_tag_name
plain by fs = refl

extended : (by : Profile) (fs : List File)
    → tags_by_name by fs ≡ in_order (tag_key Extended) (flat_map (file_tags by) fs)
unfolding tags_by_name
extended by fs = refl

pub returns-in-Plain : goal.returns-in-Plain
returns-in-Plain c =
    let by = c.args.shelf.now.archive.profile in
    let fs = files c.args.shelf.now in
    c.tags.ensures ∙ plain by fs
    ∙ ap (λ f. in_order (tag_key f) (flat_map (file_tags by) fs)) (sym c.in-Plain.is)

pub returns-in-Extended : goal.returns-in-Extended
returns-in-Extended c =
    let by = c.args.shelf.now.archive.profile in
    let fs = files c.args.shelf.now in
    c.all_defs.ensures ∙ extended by fs
    ∙ ap (λ f. in_order (tag_key f) (flat_map (file_tags by) fs)) (sym c.in-Extended.is)
