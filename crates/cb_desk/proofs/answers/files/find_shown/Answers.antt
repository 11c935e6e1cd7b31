use Rattle.std.proofs.Common.{rules, ◌≡◌, ◌∙◌, sym, ap, subst, None}
use Rattle.std.proofs.Math.Seq.{drop-cons}
use Rattle.std.specs.Option.{option_map}
use Rattle.cb_index.specs.Files.{file_of, files_of}
use Rattle.cb_index.specs.declared.entry.Shown.{Shown}
use Rattle.cb_index.specs.steps.ShownIn.{shown_in}
use Rattle.cb_desk.specs.steps.Named.{IsNotFirst}
use Rattle.cb_desk.proofs.NamedFile.{found-at, none-at}
use Rattle.cb_desk.proofs.ShownFiles.{files-ascend, none-named}
use Rattle.cb_desk.proofs.answers.files.find_shown.Goals as goal

pub returns-in_err-file-clause-value : goal.returns-in_err-file-clause-value
returns-in_err-file-clause-value c =
    let a = c.args.archive.now in
    let shown = shown_in c.args.shown in
    let name = c.args.name.now in
    let from = c.from_name-here.ensures in
    let any : Shown = record { name = 0; version = 0 } in
    let none : c.from_residual.result ≡ None = search rules in
    ap (option_map (file_of a)) none
    ∙ none-named (files_of a shown) name
    (none-at (file_of a) name shown from.0 any (files-ascend a shown c.requires.ascending)
    from.1.0 from.1.1
    (λ within. subst (IsNotFirst a name) (from.2 ∙ drop-cons shown from.0 any within)
    c.in_err-file.ensures))

pub returns-clause-value : goal.returns-clause-value
returns-clause-value c =
    let from = c.from_name-here.ensures in
    let first = c.in_ok-file.ensures in
    found-at (file_of c.args.archive.now) c.args.name.now (shown_in c.args.shown) from.0 _ _
    from.1.0 (sym from.2 ∙ first.0) first.1
