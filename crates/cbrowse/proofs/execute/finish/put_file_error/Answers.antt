use Rattle.std.specs.Prelude.{◌++◌, codes}
use Rattle.cb_tags.proofs.Prefixes.{Puts-after, Puts-fault, PutsPrefix-after, PutsPrefix-more}
use Rattle.cbrowse.specs.Messages.{told_name}
use Rattle.cbrowse.proofs.execute.finish.put_file_error.Goals as goal

pub returns-in_err-put_text : goal.returns-in_err-put_text
returns-in_err-put_text g c =
    let rest = told_name c.args.name.now ++ (codes ": " ++ c.args.text.now ++ codes "\n") in
    Puts-fault c.args.errors.now c.put_text.new.out _ _ (codes "cbrowse: " ++ rest)
    c.from_residual.ensures.1
    (PutsPrefix-more c.args.errors.now c.put_text.new.out (codes "cbrowse: ") rest
    c.in_err-put_text.ensures)

pub returns-in_err-put_name : goal.returns-in_err-put_name
returns-in_err-put_name g c =
    let end = codes ": " ++ c.args.text.now ++ codes "\n" in
    let rest = told_name c.args.name.now ++ end in
    Puts-fault c.args.errors.now c.put_name.new.errors _ _ (codes "cbrowse: " ++ rest)
    c.from_residual-in_err-put_name.ensures.1
    (PutsPrefix-after c.args.errors.now c.put_text.new.out c.put_name.new.errors
    (codes "cbrowse: ") rest c.in_ok-put_text.ensures
    (PutsPrefix-more c.put_text.new.out c.put_name.new.errors (told_name c.args.name.now) end
    c.in_err-put_name.ensures))

pub returns : goal.returns
returns g c =
    let end = codes ": " ++ c.args.text.now ++ codes "\n" in
    let rest = told_name c.args.name.now ++ end in
    Puts-after c.args.errors.now c.put_text.new.out c.put_texts.new.out c.put_texts.result
    (codes "cbrowse: ") rest c.in_ok-put_text.ensures
    (Puts-after c.put_text.new.out c.put_name.new.errors c.put_texts.new.out c.put_texts.result
    (told_name c.args.name.now) end c.in_ok-put_name.ensures c.put_texts.ensures)
