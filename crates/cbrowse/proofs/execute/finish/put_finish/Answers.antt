use Rattle.std.proofs.Common.{◌∙◌, [], ap, sym}
use Rattle.std.specs.List.{slice_index_or}
use Rattle.cbrowse.proofs.execute.finish.put_finish.Goals as goal

pub returns-in-Unreadable : goal.returns-in-Unreadable
returns-in-Unreadable g c =
    let named =
    c.name_at.ensures ∙ ap (λ names. slice_index_or names c.in-Unreadable.place [])
    c.files_of-in-Unreadable.ensures in
    rw (c.in-Unreadable.is, sym named) c.put_file_error.ensures

pub returns-in-Unwritable : goal.returns-in-Unwritable
returns-in-Unwritable g c =
    rw (c.in-Unwritable.is, ← c.tagsfile_of.ensures) c.put_file_error-in-Unwritable.ensures
